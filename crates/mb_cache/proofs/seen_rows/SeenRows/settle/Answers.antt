use Rattle.mb_cache.proofs.Common.{MbtError, Option, subst, Tests}
use Rattle.mb_cache.proofs.RowOrder.{tiles_left}
use Rattle.mb_cache.proofs.seen_rows.SeenRows.settle.Goals as goal

pub returns-clause-tests : goal.returns-clause-tests
returns-clause-tests c rows sees = subst (λ (due : Option MbtError). Tests due c.into_entries.result) (tiles_left c.args.metadata.items rows sees.kinds c.in_ok-test_names.ensures) (c.into_entries.ensures.tests rows sees)
