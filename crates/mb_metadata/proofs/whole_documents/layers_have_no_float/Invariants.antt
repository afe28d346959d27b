-- the layers so far have no float
use Rattle.mb_metadata.proofs.Common.{get_or, HasNoFloat, VectorLayer, ℕ, ◌<◌}
use Rattle.mb_metadata.proofs.whole_documents.layers_have_no_float.Given as goal

abbrev pub invariant-loop-layer : goal.invariant-loop-layer
invariant-loop-layer l = (k : ℕ) (d : VectorLayer) → k < l.layer-index → HasNoFloat (get_or l.layers k d).other
