use Rattle.mb_store.proofs.Common.{ap, no_rows, ◌∙◌}
use Rattle.mb_store.proofs.mem_store.MemStore.with_layout.Goals as goal

pub returns-clause-told : goal.returns-clause-told
returns-clause-told c = c.of_tables.ensures.told ∙ ap no_rows c.in_ok-set_tables.ensures
