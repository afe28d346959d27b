use Rattle.mb_load.proofs.EmptyLemmas.{from_empty}
use Rattle.mb_load.proofs.laws.empty_from_tables.Goals as goal

pub returns : goal.returns
returns c = from_empty
