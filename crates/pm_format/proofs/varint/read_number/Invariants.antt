use Rattle.pm_format.proofs.VarintReadingLemmas.{Reading}
use Rattle.pm_format.proofs.varint.read_number.Given as goal

abbrev pub invariant-loop-i : goal.invariant-loop-i
invariant-loop-i l = Reading l.bytes l.at l.full l.i l.value l.place
