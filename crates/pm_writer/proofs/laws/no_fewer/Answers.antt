use Rattle.pm_writer.proofs.EntriesRead.{no_less_read}
use Rattle.pm_writer.proofs.laws.no_fewer.Goals as goal

pub returns : goal.returns
returns c = no_less_read
