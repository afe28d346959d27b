use Rattle.pm_writer.proofs.Formed.{bounded_are}
use Rattle.pm_writer.proofs.Whole.{root_short}
use Rattle.pm_writer.proofs.laws.directories_are_bounded.Goals as goal

pub returns-clause-bytes : goal.returns-clause-bytes
returns-clause-bytes c = λ o adds a. (root_short o adds a, a.short)

pub returns-clause-entries : goal.returns-clause-entries
returns-clause-entries c = λ o adds a. bounded_are o adds a.options
