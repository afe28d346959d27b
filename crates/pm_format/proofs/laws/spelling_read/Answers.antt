use Rattle.pm_format.proofs.SpellingLemmas.{u64_read}
use Rattle.pm_format.proofs.laws.spelling_read.Goals as goal

pub returns : goal.returns
returns c = u64_read
