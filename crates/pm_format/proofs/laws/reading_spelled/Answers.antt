use Rattle.pm_format.proofs.SpellingLemmas.{u64_spelling}
use Rattle.pm_format.proofs.laws.reading_spelled.Goals as goal

pub returns : goal.returns
returns c = u64_spelling
