-- the values so far have no float
use Rattle.mb_metadata.proofs.Common.{Data, entries, false, get_or, has_float, List, ℕ, ◌<◌, ◌≡◌}
use Rattle.mb_metadata.proofs.whole_documents.has_no_float.Given as goal

abbrev pub invariant-loop-index : goal.invariant-loop-index
invariant-loop-index l = (k : ℕ) (e : List ℕ × Data) → k < l.index → has_float (get_or (entries l.fields) k e).1 ≡ false
