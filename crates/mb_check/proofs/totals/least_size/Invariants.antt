use Rattle.mb_check.proofs.Common.{drop, map, None, ◌≡◌}
use Rattle.mb_check.proofs.SizesLemmas.{least_all}
use Rattle.mb_check.proofs.totals.least_size.Given as goal

abbrev pub invariant-loop-info : goal.invariant-loop-info
invariant-loop-info l = least_all l.least (map (λ i. i.min_tile_size) (drop l.info-index l.infos)) ≡ least_all None (map (λ i. i.min_tile_size) l.infos)
