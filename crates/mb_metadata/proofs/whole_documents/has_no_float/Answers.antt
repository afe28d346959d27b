use Rattle.mb_metadata.proofs.Common.{arith, len-entries, refl}
use Rattle.mb_metadata.proofs.whole_documents.has_no_float.Goals as goal

pub returns : goal.returns
returns c = (λ t k d within. c.loop-index.invariant k d (omega (arith, within, len-entries c.args.fields.now)), λ _. refl)
