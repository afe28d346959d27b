use Rattle.mb_metadata.proofs.Common.{entries, map, span, take, ◌≡◌}
use Rattle.mb_metadata.proofs.zooms.zooms_in.Given as goal

abbrev pub invariant-loop-index : goal.invariant-loop-index
invariant-loop-index l = l.span ≡ span (map (λ e. e.0.zoom) (take l.index (entries l.set.state.tiles)))
