-- the rest is shorter
use Rattle.set_conversion.proofs.Common.{length}
use Rattle.set_conversion.proofs.words.+with_files.Given as goal

abbrev pub decreases-with_files : goal.decreases-with_files
decreases-with_files l = length l.words.now
