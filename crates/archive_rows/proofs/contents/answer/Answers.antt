use Rattle.archive_rows.proofs.Common.{[]}
use Rattle.archive_rows.proofs.contents.answer.Goals as goal

pub loop-turn-init : goal.loop-turn-init
loop-turn-init c = ([], c.new-contents.ensures.holds _)
