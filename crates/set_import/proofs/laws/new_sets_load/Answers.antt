use Rattle.set_import.proofs.NewSetLemmas.{new_set}
use Rattle.set_import.proofs.laws.new_sets_load.Goals as goal

pub returns : goal.returns
returns c = new_set
