use Rattle.pm_format.proofs.DirectoryAgain.{directory_again}
use Rattle.pm_format.proofs.laws.directory_read_again.Goals as goal

pub returns : goal.returns
returns c = directory_again
