use Rattle.pm_writer.proofs.Common.{refl, xxh3_64}
use Rattle.pm_writer.proofs.adds.Adds.new.Goals as goal

pub returns-clause-means : goal.returns-clause-means
returns-clause-means c = record { contents = c.new.ensures.holds xxh3_64; rest = record { entries = c.new-2.ensures.items; last = refl; rises = refl; filled = tt; low = tt; sized = tt } }
