use Rattle.pm_writer.proofs.Times.{times_adds}
use Rattle.pm_writer.proofs.laws.times_of_adds.Goals as goal

pub returns : goal.returns
returns c = times_adds
