use Rattle.tile_ids.proofs.ChildLemmas.{child_number, child_of_number, one_child}
use Rattle.tile_ids.proofs.laws.children_have_four_numbers.Goals as goal

pub returns-clause-within : goal.returns-clause-within
returns-clause-within c = child_number

pub returns-clause-each : goal.returns-clause-each
returns-clause-each c = child_of_number

pub returns-clause-once : goal.returns-clause-once
returns-clause-once c = one_child
