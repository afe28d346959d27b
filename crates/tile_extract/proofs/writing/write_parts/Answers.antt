use Rattle.tile_extract.proofs.Common.{ArchivePlaces, arith, Err, header_of, rules, subst, sym, WriteCauses, WritesParts}
use Rattle.tile_extract.proofs.FinishLemmas.{finish_causes, finish_refused, finish_shows, finished}
use Rattle.tile_extract.proofs.writing.write_parts.Goals as goal

pub returns-in-Err-finalize-clause-causes : goal.returns-in-Err-finalize-clause-causes
returns-in-Err-finalize-clause-causes g c =
    let o = c.args.options.now in
    let a = c.in-Ok-add_parts.ensures.added o c.in-Ok.ensures.begun in
    subst (λ x. WriteCauses {A = ArchivePlaces} (g.B.Backend.faults c.args.source.now) (g.B.Backend.faults c.add_parts.new.source) (g.M.Backend.faults c.args.medium.now) (g.M.Backend.faults c.finalize.new.medium) (Err x)) (sym c.of_writer-in-Err-finalize.ensures)
    (finish_causes o (header_of c.args.reader.now) (g.B.Backend.told c.args.source.now) c.args.parts.now (g.M.Backend.told c.add_parts.new.medium) c.add_parts.new.writer _ (g.B.Backend.faults c.args.source.now) (g.B.Backend.faults c.add_parts.new.source) (g.M.Backend.faults c.args.medium.now) (g.M.Backend.faults c.add_parts.new.medium) (g.M.Backend.faults c.finalize.new.medium) c.in-Err-finalize.error a
    c.in-Ok-add_parts.ensures.alive (omega (arith, c.start.ensures.faults, c.add_parts.ensures.medium_kept.faults)) (c.in-Err-finalize.ensures.causes o a.more a.writes))

pub returns-in-Err-finalize-clause-written : goal.returns-in-Err-finalize-clause-written
returns-in-Err-finalize-clause-written g c =
    let o = c.args.options.now in
    let h = header_of c.args.reader.now in
    let source = g.B.Backend.told c.args.source.now in
    let told = g.M.Backend.told c.finalize.new.medium in
    let a = c.in-Ok-add_parts.ensures.added o c.in-Ok.ensures.begun in
    subst (λ x. WritesParts o h source c.args.parts.now told (Err x)) (sym c.of_writer-in-Err-finalize.ensures)
    (finish_refused o h source c.args.parts.now (g.M.Backend.told c.add_parts.new.medium) told c.add_parts.new.writer _ (g.M.Backend.faults c.add_parts.new.medium) (g.M.Backend.faults c.finalize.new.medium) c.in-Err-finalize.error a (search rules)
    c.in-Ok-add_parts.ensures.alive (c.in-Err-finalize.ensures.causes o a.more a.writes))

pub returns-in-Ok-finalize-clause-written : goal.returns-in-Ok-finalize-clause-written
returns-in-Ok-finalize-clause-written g c =
    let o = c.args.options.now in
    let a = c.in-Ok-add_parts.ensures.added o c.in-Ok.ensures.begun in
    let e = c.in-Ok-finalize.ensures in
    finished o (header_of c.args.reader.now) (g.B.Backend.told c.args.source.now) c.args.parts.now (g.M.Backend.told c.add_parts.new.medium) (g.M.Backend.told c.finalize.new.medium) c.add_parts.new.writer _ (g.M.Backend.faults c.add_parts.new.medium) (g.M.Backend.faults c.finalize.new.medium) c.in-Ok-finalize.places a
    e.kept.tells (e.bytes o a.more a.writes) (e.places o a.more a.writes) (e.causes o a.more a.writes)

pub returns-in-Ok-finalize-clause-shown : goal.returns-in-Ok-finalize-clause-shown
returns-in-Ok-finalize-clause-shown g c =
    let o = c.args.options.now in
    let a = c.in-Ok-add_parts.ensures.added o c.in-Ok.ensures.begun in
    finish_shows o (header_of c.args.reader.now) (g.B.Backend.told c.args.source.now) c.args.parts.now (g.M.Backend.told c.add_parts.new.medium) (g.M.Backend.told c.finalize.new.medium) c.add_parts.new.writer a c.finalize.ensures.kept.tells (c.finalize.ensures.shown o a.more a.writes)

pub returns-in-Err-finalize-clause-shown : goal.returns-in-Err-finalize-clause-shown
returns-in-Err-finalize-clause-shown g c =
    let o = c.args.options.now in
    let a = c.in-Ok-add_parts.ensures.added o c.in-Ok.ensures.begun in
    finish_shows o (header_of c.args.reader.now) (g.B.Backend.told c.args.source.now) c.args.parts.now (g.M.Backend.told c.add_parts.new.medium) (g.M.Backend.told c.finalize.new.medium) c.add_parts.new.writer a c.finalize.ensures.kept.tells (c.finalize.ensures.shown o a.more a.writes)
