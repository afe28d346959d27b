use Rattle.mb_metadata.proofs.Common.{ap, compact_text, has_float, ◌∙◌}
use Rattle.mb_metadata.proofs.JsonLemmas.{no_float_layers}
use Rattle.mb_metadata.proofs.document_text.layers_text.Goals as goal

pub returns : goal.returns
returns c = c.new.ensures ∙ (c.in_ok-to_string.ensures.text (ap has_float c.in_ok-value.ensures ∙ no_float_layers c.args.layers.now c.requires) ∙ ap compact_text c.in_ok-value.ensures)
