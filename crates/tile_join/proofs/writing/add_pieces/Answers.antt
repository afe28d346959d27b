use Rattle.tile_join.proofs.Common.{all_told, ap, arith, header_of, length, map, medium_same, medium_then, refl, sym, [], ◌+◌, ◌∙◌, ◌∷◌, ◌≡◌}
use Rattle.pm_walk.proofs.ClippingLemmas.{no_items}
use Rattle.tile_join.proofs.PieceLemmas.{first_below, put_all_pieces, put_more, put_none, put_refused, read_as, read_refused, read_told, rest_ordered}
use Rattle.tile_join.proofs.SourceLemmas.{all_then, as_many, none_read}
use Rattle.tile_join.proofs.writing.add_pieces.Goals as goal

pub loop-piece-init : goal.loop-piece-init
loop-piece-init g c = (
  λ o w. put_none (length c.args.sources.now.items) o (map header_of c.args.readers.now) (all_told (map g.B.Backend.told c.args.sources.now.items)) c.args.pieces.now (g.M.Backend.told c.args.medium.now) c.args.writer.now c.requires.ordered w,
  (c.requires.writes.0, [], c.requires.writes.1),
  c.requires.alive,
  (0, c.requires.ordered),
  none_read _ _ _ _ _,
  medium_same _ _ _ _ _ _,
  omega arith,
  omega arith,
  refl,
  refl,
)

pub read_piece-requires : goal.read_piece-requires
read_piece-requires g c =
    let many = as_many g.B.Backend.told c.args.sources.now.items c.loop-piece.sources.items c.loop-piece.invariant.4.told in record {
      readers = c.requires.readers ∙ sym many;
      number = let low = first_below (length c.args.sources.now.items) c.loop-piece.invariant.3.0 c.loop-piece.rest.now c.in-Some.piece.now c.in-Some.others.now c.in-Some.ensures.cases.0 c.loop-piece.invariant.3.1 in omega (arith, low, many);
    }

pub loop-piece-preserved-in-Ok-add_run : goal.loop-piece-preserved-in-Ok-add_run
loop-piece-preserved-in-Ok-add_run g c =
    let i = c.loop-piece.invariant in
    let k = c.read_piece.ensures.kept in
    let a = c.in-Ok-add_run.ensures in (
      λ o w.
          let s = i.0 o w in
          put_more (length c.args.sources.now.items) o (map header_of c.args.readers.now) (all_told (map g.B.Backend.told c.args.sources.now.items)) c.args.pieces.now c.loop-piece.rest.now c.in-Some.piece.now c.in-Some.others.now (g.M.Backend.told c.loop-piece.medium) (g.M.Backend.told c.add_run.new.medium) c.loop-piece.writer c.add_run.new.writer c.as_slice.result.now s
          a.kept.tells c.in-Some.ensures.cases.0
          (read_as (map header_of c.args.readers.now) (all_told (map g.B.Backend.told c.args.sources.now.items)) (all_told (map g.B.Backend.told c.loop-piece.sources.items)) c.in-Some.piece.now c.in-Ok.bytes c.as_slice.result.now (ap all_told i.4.told) c.as_slice.ensures c.in-Ok.ensures.read)
          (a.added o s.mid s.writes),
      a.writes,
      a.alive,
      (c.in-Some.piece.now.entry.tile_id + c.in-Some.piece.now.entry.run_length, rest_ordered (length c.args.sources.now.items) i.3.0 c.loop-piece.rest.now c.in-Some.piece.now c.in-Some.others.now c.in-Some.ensures.cases.0 i.3.1),
      all_then _ _ _ _ _ _ _ i.4 k,
      medium_then _ _ _ _ _ _ _ _ i.5 a.kept,
      let n : length c.loop-piece.rest.now ≡ length (c.in-Some.piece.now ∷ c.in-Some.others.now) = ap length c.in-Some.ensures.cases.0 in omega (arith, i.6, a.compared, n),
      let n : length c.loop-piece.rest.now ≡ length (c.in-Some.piece.now ∷ c.in-Some.others.now) = ap length c.in-Some.ensures.cases.0 in omega (arith, i.7, c.read_piece.ensures.reads, n),
      c.in-Ok.ensures.still ∙ i.8,
      a.still ∙ i.9,
    )

pub loop-piece-preserved : goal.loop-piece-preserved
loop-piece-preserved g c =
    let i = c.loop-piece.invariant in
    let k = c.read_piece.ensures.kept in
    let a = c.in-Ok-add_run.ensures in (
      λ o w.
          let s = i.0 o w in
          put_more (length c.args.sources.now.items) o (map header_of c.args.readers.now) (all_told (map g.B.Backend.told c.args.sources.now.items)) c.args.pieces.now c.loop-piece.rest.now c.in-Some.piece.now c.in-Some.others.now (g.M.Backend.told c.loop-piece.medium) (g.M.Backend.told c.add_run.new.medium) c.loop-piece.writer c.add_run.new.writer c.as_slice.result.now s
          a.kept.tells c.in-Some.ensures.cases.0
          (read_as (map header_of c.args.readers.now) (all_told (map g.B.Backend.told c.args.sources.now.items)) (all_told (map g.B.Backend.told c.loop-piece.sources.items)) c.in-Some.piece.now c.in-Ok.bytes c.as_slice.result.now (ap all_told i.4.told) c.as_slice.ensures c.in-Ok.ensures.read)
          (a.added o s.mid s.writes),
      a.writes,
      a.alive,
      (c.in-Some.piece.now.entry.tile_id + c.in-Some.piece.now.entry.run_length, rest_ordered (length c.args.sources.now.items) i.3.0 c.loop-piece.rest.now c.in-Some.piece.now c.in-Some.others.now c.in-Some.ensures.cases.0 i.3.1),
      all_then _ _ _ _ _ _ _ i.4 k,
      medium_then _ _ _ _ _ _ _ _ i.5 a.kept,
      let n : length c.loop-piece.rest.now ≡ length (c.in-Some.piece.now ∷ c.in-Some.others.now) = ap length c.in-Some.ensures.cases.0 in omega (arith, i.6, a.compared, n),
      let n : length c.loop-piece.rest.now ≡ length (c.in-Some.piece.now ∷ c.in-Some.others.now) = ap length c.in-Some.ensures.cases.0 in omega (arith, i.7, c.read_piece.ensures.reads, n),
      c.in-Ok.ensures.still ∙ i.8,
      a.still ∙ i.9,
    )

pub returns-clause-added : goal.returns-clause-added
returns-clause-added g c = λ o w.
    put_all_pieces (length c.args.sources.now.items) o (map header_of c.args.readers.now) (all_told (map g.B.Backend.told c.args.sources.now.items)) c.args.pieces.now c.loop-piece.rest.now (g.M.Backend.told c.loop-piece.medium) c.loop-piece.writer (no_items c.loop-piece.rest.now c.in_default.ensures.cases) (c.loop-piece.invariant.0 o w)

pub returns-in-Err-clause-added : goal.returns-in-Err-clause-added
returns-in-Err-clause-added g c = λ o w.
    let i = c.loop-piece.invariant in
    read_refused (length c.args.sources.now.items) o (map header_of c.args.readers.now) (all_told (map g.B.Backend.told c.args.sources.now.items)) c.args.pieces.now c.loop-piece.rest.now c.in-Some.piece.now c.in-Some.others.now (g.M.Backend.told c.loop-piece.medium) c.loop-piece.writer c.loop-piece.writer c.in-Err.error (i.0 o w)
    c.in-Some.ensures.cases.0 (read_told (map header_of c.args.readers.now) (all_told (map g.B.Backend.told c.args.sources.now.items)) (all_told (map g.B.Backend.told c.loop-piece.sources.items)) c.in-Some.piece.now c.in-Err.error (ap all_told i.4.told) c.in-Err.ensures.read)

pub returns-in-Err-add_run-clause-added : goal.returns-in-Err-add_run-clause-added
returns-in-Err-add_run-clause-added g c = λ o w.
    let i = c.loop-piece.invariant in
    let s = i.0 o w in
    put_refused (length c.args.sources.now.items) o (map header_of c.args.readers.now) (all_told (map g.B.Backend.told c.args.sources.now.items)) c.args.pieces.now c.loop-piece.rest.now c.in-Some.piece.now c.in-Some.others.now (g.M.Backend.told c.loop-piece.medium) (g.M.Backend.told c.add_run.new.medium) c.loop-piece.writer c.add_run.new.writer c.as_slice.result.now c.in-Err-add_run.error c.of_adding.result s
    c.in-Err-add_run.ensures.kept.tells c.in-Some.ensures.cases.0 c.of_adding.ensures
    (read_as (map header_of c.args.readers.now) (all_told (map g.B.Backend.told c.args.sources.now.items)) (all_told (map g.B.Backend.told c.loop-piece.sources.items)) c.in-Some.piece.now c.in-Ok.bytes c.as_slice.result.now (ap all_told i.4.told) c.as_slice.ensures c.in-Ok.ensures.read)
    (c.in-Err-add_run.ensures.added o s.mid s.writes)
