use Rattle.mb_load.proofs.EditedFrom.{named_stay, stay_named}
use Rattle.mb_load.proofs.laws.dropped_have_no_tile.Goals as goal

pub returns-clause-kept : goal.returns-clause-kept
returns-clause-kept c = named_stay

pub returns-clause-left : goal.returns-clause-left
returns-clause-left c = stay_named
