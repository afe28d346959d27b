use Rattle.hex_pairs.proofs.Common.{decode_pairs, drop, prepend, take, ◌*◌, ◌≡◌}
use Rattle.hex_pairs.proofs.decoding.decode_into.Given as goal

abbrev pub invariant-loop-i : goal.invariant-loop-i
invariant-loop-i l = decode_pairs 0 l.fn.digits ≡ prepend (take l.i l.bytes) (decode_pairs (2 * l.i) (drop (2 * l.i) l.fn.digits))
