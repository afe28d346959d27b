use Rattle.pm_format.proofs.SpellingLemmas.{short_written, one_short}
use Rattle.pm_format.proofs.laws.one_short_spelling.Goals as goal

pub returns-clause-written : goal.returns-clause-written
returns-clause-written c = short_written

pub returns-clause-alone : goal.returns-clause-alone
returns-clause-alone c = one_short
