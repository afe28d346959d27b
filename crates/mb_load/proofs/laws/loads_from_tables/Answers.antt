use Rattle.mb_load.proofs.LoadsFrom.{loads, state_whole}
use Rattle.mb_load.proofs.laws.loads_from_tables.Goals as goal

pub returns-clause-loaded : goal.returns-clause-loaded
returns-clause-loaded c = loads

pub returns-clause-whole : goal.returns-clause-whole
returns-clause-whole c = state_whole
