use Rattle.pm_writer.proofs.Common.{AddFits, length}
use Rattle.pm_writer.proofs.Complete.{add_refused, finish_refused, start_refused}
use Rattle.pm_writer.proofs.laws.only_faults_refuse_what_fits.Goals as goal

pub returns-clause-start : goal.returns-clause-start
returns-clause-start c = start_refused (Unit {0})

pub returns-clause-add : goal.returns-clause-add
returns-clause-add c = λ o adds id bytes label before now e. add_refused label (length bytes) (AddFits o adds id bytes) before now e

pub returns-clause-finish : goal.returns-clause-finish
returns-clause-finish c = finish_refused (Unit {0})
