-- The edits of the entries so far.
use Rattle.mb_metadata.proofs.Common.{data_text, entries, map, put_of, take, ◌≡◌}
use Rattle.mb_metadata.proofs.inserting.other_edits.Given as goal

abbrev pub invariant-loop-index : goal.invariant-loop-index
invariant-loop-index l = l.edits.items ≡ map (λ e. put_of e.0 (data_text e.1)) (take l.index (entries l.other))
