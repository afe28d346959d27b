use Rattle.pm_format.proofs.HeaderLemmas.{head_again}
use Rattle.pm_format.proofs.header_laws.header_read_again.Goals as goal

pub returns : goal.returns
returns c = head_again
