use Rattle.mb_metadata.proofs.Common.{◌∙◌}
use Rattle.mb_metadata.proofs.NumberLemmas.{number_read}
use Rattle.mb_metadata.proofs.zoom_text.zoom_of.Goals as goal

pub returns : goal.returns
returns c = c.ok.ensures.value ∙ number_read 8 c.args.text.now c.parse.result c.parse.ensures.value.0
