use Rattle.mb_metadata.proofs.Common.{drop_all, layer_within, rules, take_all}
use Rattle.std.proofs.lemmas.List.Edits.{map_over_more}
use Rattle.mb_metadata.proofs.clamping.each_within.Goals as goal

pub loop-index-preserved : goal.loop-index-preserved
loop-index-preserved c = search (rules, map_over_more (layer_within c.args.tiles))

pub returns : goal.returns
returns c = search (rules, take_all, drop_all)
