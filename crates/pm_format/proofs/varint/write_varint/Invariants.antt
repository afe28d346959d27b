use Rattle.pm_format.proofs.Common.{take, varint, ℕ, ◌++◌, ◌≡◌}
use Rattle.pm_format.proofs.VarintLemmas.{Completes}
use Rattle.pm_format.proofs.varint.write_varint.Given as goal

abbrev pub invariant-loop-rest : goal.invariant-loop-rest
invariant-loop-rest l = ((k : ℕ) × Completes (l.fn.out.items ++ varint l.value) l.out.items l.rest k) × (take l.before l.out.items ≡ l.fn.out.items)

abbrev pub decreases-loop-rest : goal.decreases-loop-rest
decreases-loop-rest l = l.rest
