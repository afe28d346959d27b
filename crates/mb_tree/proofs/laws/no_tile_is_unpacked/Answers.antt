use Rattle.mb_tree.proofs.LawLemmas.{answered_before, gives_before}
use Rattle.mb_tree.proofs.laws.no_tile_is_unpacked.Goals as goal

pub returns-clause-answer : goal.returns-clause-answer
returns-clause-answer c = λ scheme tree old new base p e is. answered_before scheme tree old new p base e is

pub returns-clause-files : goal.returns-clause-files
returns-clause-files c = λ scheme other tree old new base p e is. gives_before scheme tree old new p other base e is
