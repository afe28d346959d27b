use Rattle.archive_rows.proofs.Common.{[]}
use Rattle.archive_rows.proofs.writing.start.Goals as goal

pub all_stated-requires : goal.all_stated-requires
all_stated-requires c = record { writes = (_, [], c.reserve.ensures.same _ _ [] c.in-Ok.ensures.begun) }
