use Rattle.tile_bridge.proofs.Common.{IsNonDecreasingBy-from_sort_by_key, rules}
use Rattle.tile_bridge.proofs.adds.sort_by_id.Goals as goal

pub returns-clause-rising : goal.returns-clause-rising
returns-clause-rising c = IsNonDecreasingBy-from_sort_by_key (λ a. a.id) _ c.sort_unstable_by_key.ensures.sorted (λ a r q k. search rules)
