use Rattle.pm_writer.proofs.Whole.{flat_is, hops_few}
use Rattle.pm_writer.proofs.laws.two_leaves_at_most.Goals as goal

pub returns-clause-flat : goal.returns-clause-flat
returns-clause-flat c = flat_is

pub returns-clause-hops : goal.returns-clause-hops
returns-clause-hops c = hops_few
