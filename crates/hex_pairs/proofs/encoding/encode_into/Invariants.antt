-- the digits of the bytes so far are written
use Rattle.hex_pairs.proofs.Common.{encode_lower, length, take, ◌*◌, ◌-◌, ◌≡◌, ◌≤◌}
use Rattle.hex_pairs.proofs.encoding.encode_into.Given as goal

abbrev pub invariant-loop-at : goal.invariant-loop-at
invariant-loop-at l = record {
  written : take (2 * l.at) l.digits ≡ encode_lower (take l.at l.bytes);
  len : length l.digits ≡ 2 * length l.bytes;
  within : l.at ≤ length l.bytes;
}

abbrev pub decreases-loop-at : goal.decreases-loop-at
decreases-loop-at l = length l.bytes - l.at
