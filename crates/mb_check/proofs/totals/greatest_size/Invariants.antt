use Rattle.mb_check.proofs.Common.{drop, map, None, ◌≡◌}
use Rattle.mb_check.proofs.SizesLemmas.{greatest_all}
use Rattle.mb_check.proofs.totals.greatest_size.Given as goal

abbrev pub invariant-loop-info : goal.invariant-loop-info
invariant-loop-info l = greatest_all l.greatest (map (λ i. i.max_tile_size) (drop l.info-index l.infos)) ≡ greatest_all None (map (λ i. i.max_tile_size) l.infos)
