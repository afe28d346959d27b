use Rattle.pm_writer.proofs.Few.{add_fits, archive_fits}
use Rattle.pm_writer.proofs.InTurn.{add_fits_at}
use Rattle.pm_writer.proofs.laws.few_adds_fit.Goals as goal

pub returns-clause-archive : goal.returns-clause-archive
returns-clause-archive c = archive_fits

pub returns-clause-adds : goal.returns-clause-adds
returns-clause-adds c = add_fits

pub returns-clause-turns : goal.returns-clause-turns
returns-clause-turns c = add_fits_at
