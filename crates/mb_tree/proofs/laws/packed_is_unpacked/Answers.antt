use Rattle.mb_tree.proofs.LawLemmas.{answered, gives, gives_under}
use Rattle.mb_tree.proofs.laws.packed_is_unpacked.Goals as goal

pub returns-clause-answer : goal.returns-clause-answer
returns-clause-answer c = λ scheme tree old new format p is. answered scheme tree old new p format is

pub returns-clause-files : goal.returns-clause-files
returns-clause-files c = λ scheme tree into old new base format p e is. gives scheme tree old new p into base format e is

pub returns-clause-under : goal.returns-clause-under
returns-clause-under c = λ scheme other tree into old new base format p e is. gives_under scheme tree old new p other into base format e is
