use Rattle.pm_writer.proofs.Walking.{answer_as_one}
use Rattle.pm_writer.proofs.laws.leaves_answer_as_one.Goals as goal

pub returns : goal.returns
returns c = answer_as_one
