use Rattle.tile_extract.proofs.Common.{ap, AreApart, arith, intervals_from, subst, sym, [], ◌++◌, ◌+◌, ◌-◌, ◌∙◌, ◌∷◌}
use Rattle.tile_extract.proofs.IntervalLemmas.{all_found, apart, more_intervals, none_yet}
use Rattle.tile_extract.proofs.subtree.subtree_intervals.Goals as goal

pub loop-zoom-init : goal.loop-zoom-init
loop-zoom-init c = (
  omega (arith, c.z-zoom.ensures.value),
  ap (λ l. l ++ intervals_from c.args.root c.z-zoom.result (c.args.max_zoom + 1 - c.z-zoom.result)) c.new-found.ensures.items ∙ none_yet c.args.root c.args.max_zoom c.z-zoom.result c.z-zoom.ensures.value,
)

pub loop-zoom-preserved : goal.loop-zoom-preserved
loop-zoom-preserved c = (
  omega (arith, c.loop-zoom.invariant.0),
  ap (λ l. l ++ intervals_from c.args.root (c.loop-zoom.zoom + 1) (c.args.max_zoom + 1 - (c.loop-zoom.zoom + 1))) c.in_ok-push.ensures.items
      ∙ ap (λ p. (c.loop-zoom.found.items ++ p ∷ []) ++ intervals_from c.args.root (c.loop-zoom.zoom + 1) (c.args.max_zoom + 1 - (c.loop-zoom.zoom + 1))) c.interval_of.ensures
      ∙ more_intervals c.args.root c.args.max_zoom c.loop-zoom.zoom c.loop-zoom.found.items (omega (arith, c.loop-zoom-test.true)) c.loop-zoom.invariant.1,
)

pub of_apart-requires : goal.of_apart-requires
of_apart-requires c =
    subst (AreApart 0) (sym (all_found c.args.root c.args.max_zoom c.loop-zoom.zoom c.loop-zoom.found.items (omega (arith, c.loop-zoom-test.false)) c.loop-zoom.invariant.1)) (apart c.args.root c.args.max_zoom)

pub returns : goal.returns
returns c = c.of_apart.ensures ∙ all_found c.args.root c.args.max_zoom c.loop-zoom.zoom c.loop-zoom.found.items (omega (arith, c.loop-zoom-test.false)) c.loop-zoom.invariant.1
