use Rattle.mb_insert.proofs.PlacedLemmas.{under_it}
use Rattle.mb_insert.proofs.laws.under_the_set.Goals as goal

pub returns-clause-ignore : goal.returns-clause-ignore
returns-clause-ignore c = under_it

pub returns-clause-abort : goal.returns-clause-abort
returns-clause-abort c = under_it
