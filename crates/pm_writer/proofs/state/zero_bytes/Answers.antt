use Rattle.pm_writer.proofs.Common.{rules, zeros}
use Rattle.pm_writer.proofs.state.zero_bytes.Goals as goal

pub returns : goal.returns
unfolding zeros
returns c = search rules
