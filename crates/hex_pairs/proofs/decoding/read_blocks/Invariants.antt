-- the digits so far are digits, and their bytes are written
use Rattle.hex_pairs.proofs.Common.{AreDigits, length, paired, take, ◌*◌, ◌-◌, ◌≡◌, ◌≤◌}
use Rattle.hex_pairs.proofs.decoding.read_blocks.Given as goal

abbrev pub invariant-loop-bytes : goal.invariant-loop-bytes
invariant-loop-bytes l = record {
  digits : AreDigits (take (2 * l.at) l.fn.digits);
  read : take l.at l.bytes ≡ paired (take (2 * l.at) l.fn.digits);
  within : l.at ≤ length l.bytes;
  len : length l.fn.digits ≡ 2 * length l.bytes;
}

abbrev pub decreases-loop-bytes : goal.decreases-loop-bytes
decreases-loop-bytes l = length l.bytes - l.at
