use Rattle.pm_writer.proofs.Common.{sym}
use Rattle.pm_writer.proofs.Formed.{addressed}
use Rattle.pm_writer.proofs.laws.runs_count_adds.Goals as goal

pub returns : goal.returns
returns c = λ adds. sym (addressed adds)
