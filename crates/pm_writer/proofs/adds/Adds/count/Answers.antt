use Rattle.pm_writer.proofs.Common.{contents_from, xxh3_64, []}
use Rattle.pm_writer.proofs.adds.Adds.count.Goals as goal

pub returns : goal.returns
returns c = λ adds m. c.count.ensures xxh3_64 (contents_from [] adds) m.contents
