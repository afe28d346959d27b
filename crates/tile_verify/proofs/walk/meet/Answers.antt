use Rattle.tile_verify.proofs.MeetingLemmas.{refused_leaf}
use Rattle.tile_verify.proofs.walk.meet.Goals as goal

pub returns-in-Err-clause-answer : goal.returns-in-Err-clause-answer
returns-in-Err-clause-answer g c =
    refused_leaf _ _ c.args.at c.args.index c.args.left c.args.entry _ _ c.is_leaf.result c.read_leaf.result c.in-Err.error c.is_leaf.ensures c.if-not-is_leaf.false c.if-left-eq0.false c.in-Err.is c.read_leaf.ensures.answer
