use Rattle.tile_verify.proofs.CheckingLemmas.{told_met}
use Rattle.tile_verify.proofs.Common.{Err, header_of, Ok}
use Rattle.tile_verify.proofs.checking.walk_all.Goals as goal

pub returns-in-Ok-clause-answer : goal.returns-in-Ok-clause-answer
returns-in-Ok-clause-answer g c =
    told_met (g.B.Backend.told c.args.source.now) (header_of c.args.state.now) c.root.result.now _ c.new-met.result c.walk.new.met (Ok tt) c.root.ensures c.new-met.ensures c.in-Ok.ensures.answer

pub returns-in-Err-clause-answer : goal.returns-in-Err-clause-answer
returns-in-Err-clause-answer g c =
    told_met (g.B.Backend.told c.args.source.now) (header_of c.args.state.now) c.root.result.now _ c.new-met.result c.walk.new.met (Err c.in-Err.error) c.root.ensures c.new-met.ensures c.in-Err.ensures.answer
