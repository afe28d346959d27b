use Rattle.mb_copy.proofs.Common.{◌∙◌}
use Rattle.mb_copy.proofs.WantedLemmas.{listed, not_empty}
use Rattle.mb_copy.proofs.wanted.zoom_passes.Goals as goal

pub returns : goal.returns
returns c = c.is_listed.ensures ∙ listed c.args.levels.now c.args.least c.args.greatest c.args.zoom (not_empty c.args.levels.now c.is_empty.result c.is_empty.ensures c.if-is_empty.false)
