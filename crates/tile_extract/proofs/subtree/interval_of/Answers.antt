use Rattle.tile_extract.proofs.Common.{sym, ◌∙◌}
use Rattle.tile_extract.proofs.IntervalLemmas.{is_interval, pair_is}
use Rattle.tile_extract.proofs.subtree.interval_of.Goals as goal

pub returns : goal.returns
returns c = pair_is _ _ _ _ c.value.ensures.value c.value-2.ensures.value ∙ sym (is_interval c.args.root c.args.zoom _ _ c.requires.coord c.requires.least c.requires.most c.in-Some.ensures.ends)
