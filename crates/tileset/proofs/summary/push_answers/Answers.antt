use Rattle.tileset.proofs.Common.{rules}
use Rattle.tileset.proofs.ReportLemmas.{answers_done}
use Rattle.tileset.proofs.summary.push_answers.Goals as goal

pub returns : goal.returns
returns c = answers_done _ _ c.loop-i.i c.min-i-end.result c.args.queries.now c.args.tiles.now c.min-i-end.ensures (search rules) c.loop-i.invariant
