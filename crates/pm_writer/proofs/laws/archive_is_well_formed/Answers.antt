use Rattle.pm_writer.proofs.Common.{parts_of}
use Rattle.pm_writer.proofs.Bounds.{whole_formed}
use Rattle.pm_writer.proofs.laws.archive_is_well_formed.Goals as goal

pub returns-clause-parts : goal.returns-clause-parts
returns-clause-parts c = whole_formed

pub returns-clause-formed : goal.returns-clause-formed
returns-clause-formed c = λ o adds a. (parts_of o adds, whole_formed o adds a)
