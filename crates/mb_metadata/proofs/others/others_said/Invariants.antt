-- The names so far.
use Rattle.mb_metadata.proofs.Common.{entries, others_of, take, ◌≡◌}
use Rattle.mb_metadata.proofs.others.others_said.Given as goal

abbrev pub invariant-loop-index : goal.invariant-loop-index
invariant-loop-index l = l.fields ≡ others_of (take l.index (entries l.set.state.metadata))
