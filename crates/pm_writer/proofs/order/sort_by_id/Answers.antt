use Rattle.pm_writer.proofs.Common.{IsNonDecreasingBy-from_sort_by_key, rules}
use Rattle.pm_writer.proofs.order.sort_by_id.Goals as goal

pub returns-clause-rising : goal.returns-clause-rising
returns-clause-rising c = IsNonDecreasingBy-from_sort_by_key (λ e. e.tile_id) _ c.sort_unstable_by_key.ensures.sorted (λ a r q k. search rules)
