use Rattle.tile_hash.proofs.Common.{HasTaken, lanes_after, length, List, ℕ, ◌%◌, ◌++◌, ◌+◌, ◌/◌, ◌≡◌}
use Rattle.tile_hash.proofs.xxh_64.stream.Xxh64Stream.take_stripes.Given as goal

abbrev pub invariant-loop-i : goal.invariant-loop-i
invariant-loop-i l = (m : List ℕ) → HasTaken l.fn.self m → length m % 32 ≡ 0 → l.v ≡ lanes_after (m ++ l.piece) (length m / 32 + l.i)
