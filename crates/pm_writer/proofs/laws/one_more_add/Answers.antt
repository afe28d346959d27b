use Rattle.pm_writer.proofs.Blocks.{one_more}
use Rattle.pm_writer.proofs.laws.one_more_add.Goals as goal

pub returns : goal.returns
returns c = one_more
