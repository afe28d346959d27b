use Rattle.tile_streaming.proofs.Common.{ap, arith, Cell, entries, len-entries, List, suc, sym, Tables, take, take_all, ◌+◌, ◌≤◌, ◌∙◌, ◌≡◌}
use Rattle.std.specs.Prelude.{length, slice_get}
use Rattle.tile_streaming.proofs.PutContentLemmas.{Entry, put_of}
use Rattle.tile_streaming.proofs.StoredLemmas.{digest_named}
use Rattle.tile_streaming.proofs.TakenLemmas.{read_then, suspects_more}
use Rattle.tile_streaming.specs.Suspects.{suspect_of, suspects}
use Rattle.tile_streaming.proofs.collisions.suspects.Goals as goal

pub at-requires : goal.at-requires
at-requires g c = omega (arith, c.requires.counted, c.loop-index-test.true, c.tile_count-index-end.ensures, len-entries c.args.patch.now.state.tiles)

pub loop-index-preserved : goal.loop-index-preserved
loop-index-preserved g c =
    let q = c.args.patch.now.state.tiles in
    let i = c.loop-index.invariant in
    let told = g.S.TileStore.told c.args.base.now in
    let next : c.loop-index.index + 1 ≡ suc c.loop-index.index = omega arith in
    record {
      kept = read_then g.S.TileStore.told g.S.TileStore.tells g.S.TileStore.faults g.S.TileStore.steady c.args.base.now c.loop-index.base c.suspect_at.new.base i.kept c.in_ok-found.ensures.kept;
      still = c.in_ok-found.ensures.fault.still ∙ i.still;
      shown = λ k a digests ids u.
          c.in_ok-push_some.ensures
          ∙ (suspects_more a told c.args.known.now q c.loop-index.index c.loop-index.digests.items (i.shown k a digests ids u) k (digest_named k digests)
          (omega (arith, c.loop-index-test.true, c.tile_count-index-end.ensures, len-entries q)) _ c.tile_at.result.1.now c.at.result.now c.in_ok-found.found c.tile_at.ensures (ap (λ (xs : List Cell). slice_get xs c.loop-index.index) (sym ids) ∙ c.at.ensures)
          (λ bytes own id. c.in_ok-found.ensures.answer a bytes own id (i.kept.tells ∙ u) ∙ ap (λ (t : Tables). suspect_of t a c.args.known.now bytes) i.kept.told)
          ∙ ap (λ n. suspects told a c.args.known.now (put_of (take n (entries q)))) (sym next));
    }

pub returns-clause-answer : goal.returns-clause-answer
returns-clause-answer g c = λ k a digests ids u.
    let q = c.args.patch.now.state.tiles in
    let told = g.S.TileStore.told c.args.base.now in
    let far : length (entries q) ≤ c.loop-index.index = omega (arith, c.loop-index-test.false, c.tile_count-index-end.ensures, len-entries q) in
    c.loop-index.invariant.shown k a digests ids u ∙ ap (λ (l : List Entry). suspects told a c.args.known.now (put_of l)) (take_all c.loop-index.index (entries q) far)
