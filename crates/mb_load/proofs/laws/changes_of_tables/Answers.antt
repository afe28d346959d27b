use Rattle.mb_load.proofs.FrameLemmas.{of_tables}
use Rattle.mb_load.proofs.laws.changes_of_tables.Goals as goal

pub returns : goal.returns
returns c = of_tables
