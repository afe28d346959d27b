use Rattle.mb_file.proofs.HeldLemmas.{tables_held}
use Rattle.mb_file.proofs.store.FileSet.of_parts.Goals as goal

pub returns-clause-holds : goal.returns-clause-holds
returns-clause-holds g c = λ bytes trusted are parts may. tables_held _ bytes c.requires.stand trusted are parts may
