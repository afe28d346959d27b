use Rattle.mb_copy.proofs.Common.{◌∙◌}
use Rattle.mb_copy.proofs.WantedLemmas.{held, not_empty}
use Rattle.mb_copy.proofs.wanted.place_passes.Goals as goal

pub returns : goal.returns
returns c = c.is_held.ensures ∙ held c.args.boxes.now (record { zoom = c.args.zoom; column = c.args.column; row = c.args.row }) (not_empty c.args.boxes.now c.is_empty.result c.is_empty.ensures c.if-is_empty.false)
