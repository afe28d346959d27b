-- the rest is shorter
use Rattle.set_options.proofs.Common.{length}
use Rattle.set_options.proofs.degrees.+whole.Given as goal

abbrev pub decreases-whole : goal.decreases-whole
decreases-whole l = length l.word.now
