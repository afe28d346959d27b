use Rattle.set_options.proofs.DegreesLemmas.{read_back}
use Rattle.set_options.proofs.laws.degrees_are_read_back.Goals as goal

pub returns : goal.returns
returns c = read_back
