use Rattle.mb_tree.proofs.Common.{ap, option_and_then, plain_of}
use Rattle.mb_tree.proofs.PlainLemmas.{read_back, read_behind}
use Rattle.mb_tree.proofs.laws.paths_are_plain.Goals as goal

pub returns-clause-read : goal.returns-clause-read
returns-clause-read c = read_back

pub returns-clause-plain : goal.returns-clause-plain
returns-clause-plain c = λ format z x y a b d. ap (option_and_then plain_of) (read_back format z x y a b d)

pub returns-clause-behind : goal.returns-clause-behind
returns-clause-behind c = λ folder format z x y a b d. ap (option_and_then plain_of) (read_behind format z x y a b d folder)
