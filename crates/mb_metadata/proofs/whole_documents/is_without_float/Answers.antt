use Rattle.mb_metadata.proofs.Common.{refl}
use Rattle.mb_metadata.proofs.whole_documents.is_without_float.Goals as goal

pub returns : goal.returns
returns c = (λ t. record { other = c.if-not-has_no_float.ensures.0 refl; layers = c.any_have_no_float.ensures.0 t }, λ whole. c.any_have_no_float.ensures.1 whole.layers)
