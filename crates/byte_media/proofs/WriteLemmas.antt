-- Pieces that are written over bytes.
use Rattle.byte_media.proofs.Common.{arith, length, List, sym, take, ℕ, [], ◌+◌, ◌≡◌, ◌≤◌}
use Rattle.std.proofs.lemmas.List.{take-append-drop}
use Rattle.byte_media.specs.Media.{written}

pub written_nothing : (b : List ℕ) (at : ℕ) → written b at [] ≡ b
written_nothing b at = let e : at + 0 ≡ at = omega arith in rw e (take-append-drop at b)

-- a fault that writes nothing leaves a front of the piece written
pub no_front : (b : List ℕ) (at : ℕ) (piece : List ℕ) → (n : ℕ) × (n ≤ length piece) × (b ≡ written b at (take n piece))
no_front b at piece = (0, omega arith, sym (written_nothing b at))
