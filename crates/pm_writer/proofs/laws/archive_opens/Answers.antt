use Rattle.pm_writer.proofs.Whole.{opens}
use Rattle.pm_writer.proofs.laws.archive_opens.Goals as goal

pub returns : goal.returns
returns c = opens
