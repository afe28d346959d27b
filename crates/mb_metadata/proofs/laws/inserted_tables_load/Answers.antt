use Rattle.mb_metadata.proofs.ReadBackLemmas.{insert_loads}
use Rattle.mb_metadata.proofs.laws.inserted_tables_load.Goals as goal

pub returns : goal.returns
returns c = insert_loads
