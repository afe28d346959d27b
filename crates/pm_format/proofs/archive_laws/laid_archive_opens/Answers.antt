use Rattle.pm_format.proofs.ArchiveOpens.{archive_opens}
use Rattle.pm_format.proofs.archive_laws.laid_archive_opens.Goals as goal

pub returns : goal.returns
returns c = archive_opens
