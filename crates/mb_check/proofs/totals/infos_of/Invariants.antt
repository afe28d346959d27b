use Rattle.mb_check.proofs.Common.{below, filter_map, get_or, info_by, no_sizes, ◌≡◌}
use Rattle.mb_check.proofs.totals.infos_of.Given as goal

abbrev pub invariant-loop-zoom : goal.invariant-loop-zoom
invariant-loop-zoom l = l.infos.items ≡ filter_map (λ zoom. info_by zoom (get_or l.sizes zoom no_sizes)) (below l.zoom)
