use Rattle.mb_reading.proofs.Common.{state}
use Rattle.mb_reading.proofs.AskLemmas.{commits_nothing}
use Rattle.mb_reading.proofs.asking.ask.Goals as goal

pub returns-clause-survives : goal.returns-clause-survives
returns-clause-survives g c = commits_nothing c.args.text.now c.requires (state g.S.Store c.args.connection.now) (state g.S.Store c.query_all.new.self) c.query_all.ensures.survives
