use Rattle.mb_tree.proofs.Common.{number_read, ◌∙◌}
use Rattle.mb_tree.proofs.tile_path.number_of.Goals as goal

pub returns : goal.returns
returns c = c.ok.ensures.value ∙ number_read 32 c.args.text.now c.parse.result c.parse.ensures.value.0
