use Rattle.tile_join.proofs.Common.{all_told, ArchivePlaces, arith, Err, header_of, map, rules, subst, sym, WriteCauses, WritesPieces}
use Rattle.tile_join.proofs.FinishLemmas.{finish_causes, finish_refused, finish_shows, finished}
use Rattle.tile_join.proofs.writing.write_pieces.Goals as goal

pub returns-in-Err-finalize-clause-causes : goal.returns-in-Err-finalize-clause-causes
returns-in-Err-finalize-clause-causes g c =
    let o = c.args.options.now in
    let a = c.in-Ok-add_pieces.ensures.added o c.in-Ok.ensures.begun in
    subst (λ x. WriteCauses {A = ArchivePlaces} (map g.B.Backend.faults c.args.sources.now.items) (map g.B.Backend.faults c.add_pieces.new.sources.items) (g.M.Backend.faults c.args.medium.now) (g.M.Backend.faults c.finalize.new.medium) (Err x)) (sym c.of_writer-in-Err-finalize.ensures)
    (finish_causes o (map header_of c.args.readers.now) (all_told (map g.B.Backend.told c.args.sources.now.items)) c.args.pieces.now (g.M.Backend.told c.add_pieces.new.medium) c.add_pieces.new.writer _ (map g.B.Backend.faults c.args.sources.now.items) (map g.B.Backend.faults c.add_pieces.new.sources.items) (g.M.Backend.faults c.args.medium.now) (g.M.Backend.faults c.add_pieces.new.medium) (g.M.Backend.faults c.finalize.new.medium) c.in-Err-finalize.error a
    c.in-Ok-add_pieces.ensures.alive (omega (arith, c.start.ensures.faults, c.add_pieces.ensures.medium_kept.faults)) (c.in-Err-finalize.ensures.causes o a.more a.writes))

pub returns-in-Err-finalize-clause-written : goal.returns-in-Err-finalize-clause-written
returns-in-Err-finalize-clause-written g c =
    let o = c.args.options.now in
    let h = map header_of c.args.readers.now in
    let source = all_told (map g.B.Backend.told c.args.sources.now.items) in
    let told = g.M.Backend.told c.finalize.new.medium in
    let a = c.in-Ok-add_pieces.ensures.added o c.in-Ok.ensures.begun in
    subst (λ x. WritesPieces o h source c.args.pieces.now told (Err x)) (sym c.of_writer-in-Err-finalize.ensures)
    (finish_refused o h source c.args.pieces.now (g.M.Backend.told c.add_pieces.new.medium) told c.add_pieces.new.writer _ (g.M.Backend.faults c.add_pieces.new.medium) (g.M.Backend.faults c.finalize.new.medium) c.in-Err-finalize.error a (search rules)
    c.in-Ok-add_pieces.ensures.alive (c.in-Err-finalize.ensures.causes o a.more a.writes))

pub returns-in-Ok-finalize-clause-written : goal.returns-in-Ok-finalize-clause-written
returns-in-Ok-finalize-clause-written g c =
    let o = c.args.options.now in
    let a = c.in-Ok-add_pieces.ensures.added o c.in-Ok.ensures.begun in
    let e = c.in-Ok-finalize.ensures in
    finished o (map header_of c.args.readers.now) (all_told (map g.B.Backend.told c.args.sources.now.items)) c.args.pieces.now (g.M.Backend.told c.add_pieces.new.medium) (g.M.Backend.told c.finalize.new.medium) c.add_pieces.new.writer _ (g.M.Backend.faults c.add_pieces.new.medium) (g.M.Backend.faults c.finalize.new.medium) c.in-Ok-finalize.places a
    e.kept.tells (e.bytes o a.more a.writes) (e.places o a.more a.writes) (e.causes o a.more a.writes)

pub returns-in-Ok-finalize-clause-shown : goal.returns-in-Ok-finalize-clause-shown
returns-in-Ok-finalize-clause-shown g c =
    let o = c.args.options.now in
    let a = c.in-Ok-add_pieces.ensures.added o c.in-Ok.ensures.begun in
    finish_shows o (map header_of c.args.readers.now) (all_told (map g.B.Backend.told c.args.sources.now.items)) c.args.pieces.now (g.M.Backend.told c.add_pieces.new.medium) (g.M.Backend.told c.finalize.new.medium) c.add_pieces.new.writer a c.finalize.ensures.kept.tells (c.finalize.ensures.shown o a.more a.writes)

pub returns-in-Err-finalize-clause-shown : goal.returns-in-Err-finalize-clause-shown
returns-in-Err-finalize-clause-shown g c =
    let o = c.args.options.now in
    let a = c.in-Ok-add_pieces.ensures.added o c.in-Ok.ensures.begun in
    finish_shows o (map header_of c.args.readers.now) (all_told (map g.B.Backend.told c.args.sources.now.items)) c.args.pieces.now (g.M.Backend.told c.add_pieces.new.medium) (g.M.Backend.told c.finalize.new.medium) c.add_pieces.new.writer a c.finalize.ensures.kept.tells (c.finalize.ensures.shown o a.more a.writes)
