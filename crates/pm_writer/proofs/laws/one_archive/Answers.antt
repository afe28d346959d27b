use Rattle.pm_writer.proofs.Canonical.{one_archive}
use Rattle.pm_writer.proofs.laws.one_archive.Goals as goal

pub returns : goal.returns
returns c = one_archive
