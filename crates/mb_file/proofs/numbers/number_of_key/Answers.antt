use Rattle.std.proofs.Common.{rules, ◌∙◌}
use Rattle.mb_file.proofs.NumberLemmas.{same_number}
use Rattle.mb_file.proofs.numbers.number_of_key.Goals as goal

pub returns-in-Tile-clause-same : goal.returns-in-Tile-clause-same
returns-in-Tile-clause-same c = λ table row wide has. same_number c.args.secret table c.args.key.now row wide has ∙ search rules

pub returns-in-TextId-clause-same : goal.returns-in-TextId-clause-same
returns-in-TextId-clause-same c = λ table row wide has. same_number c.args.secret table c.args.key.now row wide has ∙ search rules
