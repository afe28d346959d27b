-- what is left, with as many zeros as may still go
use Rattle.tileset.proofs.Common.{trimmed, ◌-◌, ◌≡◌}
use Rattle.tileset.proofs.hex_dump.without_zeros.Given as goal

abbrev pub invariant-loop-i : goal.invariant-loop-i
invariant-loop-i l = trimmed (8 - l._i) l.rest ≡ trimmed 8 l.fn.digits
