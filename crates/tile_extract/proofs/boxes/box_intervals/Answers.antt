use Rattle.tile_extract.proofs.Common.{ap, AreParted, arith, boxes_hold, Gathered, in_intervals, pyramid, subst, sym, ◌+◌, ◌∙◌, ◌≡◌}
use Rattle.tile_extract.proofs.Common.{MAX_TILE_ID}
use Rattle.tile_extract.proofs.GatheringLemmas.{are_apart, are_parted}
use Rattle.tile_extract.proofs.QuadrantLemmas.{all_gathered}
use Rattle.tile_extract.proofs.boxes.box_intervals.Goals as goal

pub of_apart-requires : goal.of_apart-requires
of_apart-requires c = are_apart 0 0 c.loop-zoom.found.items (pyramid c.loop-zoom.zoom) (omega arith) c.loop-zoom.invariant.parted

pub returns-clause-are : goal.returns-clause-are
returns-clause-are c = λ id.
    let last : c.loop-zoom.zoom ≡ 32 = omega (arith, c.loop-zoom-test.false, c.loop-zoom.auto.zoom-end) in
    let end : pyramid c.loop-zoom.zoom ≡ MAX_TILE_ID + 1 = ap pyramid last in
    ap (in_intervals id) c.of_apart.ensures ∙ all_gathered c.args.boxes.now c.loop-zoom.found.items (subst (λ n. Gathered (boxes_hold c.args.boxes.now) n c.loop-zoom.found.items) end c.loop-zoom.invariant) id

pub returns-clause-parted : goal.returns-clause-parted
returns-clause-parted c = subst (AreParted 0) (sym c.of_apart.ensures) (are_parted 0 c.loop-zoom.found.items (pyramid c.loop-zoom.zoom) c.loop-zoom.invariant.parted)
