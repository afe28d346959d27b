use Rattle.pm_writer.proofs.EntriesRead.{one_each_read}
use Rattle.pm_writer.proofs.laws.least_entries.Goals as goal

pub returns : goal.returns
returns c = one_each_read
