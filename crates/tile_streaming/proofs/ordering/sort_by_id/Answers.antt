use Rattle.tile_streaming.proofs.Common.{IsNonDecreasingBy-from_sort_by_key, rules}
use Rattle.tile_streaming.proofs.ordering.sort_by_id.Goals as goal

pub returns-clause-rising : goal.returns-clause-rising
returns-clause-rising c = IsNonDecreasingBy-from_sort_by_key (λ m. m.id) _ c.sort_unstable_by_key.ensures.sorted (λ a r q k. search rules)
