-- Pieces that are written to a medium.
use Rattle.std.specs.Prelude.{◌≡◌, ℕ, ◌≤◌, List, length, take, Option, Some, None, Result, Ok, Err}
use Rattle.pm_contents.specs.Common.{WriteFault, written}
use Rattle.byte_media.specs.declared.medium.WriteFault.TheVariants as writes

-- a relation of the bytes before and after, where they are told; whether they are doesn't change
abbrev pub BothTold : (List ℕ → List ℕ → Type 0) → Option (List ℕ) → Option (List ℕ) → Type 0
BothTold R None None = Unit {0}
BothTold R None (Some c) = ⊥
BothTold R (Some b) None = ⊥
BothTold R (Some b) (Some c) = R b c

-- a front of the piece was written, which may be none or all of it
abbrev pub WroteFront : ℕ → List ℕ → List ℕ → List ℕ → Type 0
WroteFront at piece b c = (n : ℕ) × (n ≤ length piece) × (c ≡ written b at (take n piece))

-- what is left by a piece at a place: all of it after Ok, a front of it after a fault, and none
-- of it when out of memory
abbrev pub LeavesPiece : {A : Type 0} → ℕ → List ℕ → Result A WriteFault → Option (List ℕ) → Option (List ℕ) → Type 0
LeavesPiece at piece (Ok _) old new = BothTold (λ b c. c ≡ written b at piece) old new
LeavesPiece at piece (Err writes.Fault) old new = BothTold (WroteFront at piece) old new
LeavesPiece at piece (Err writes.OutOfMemory) old new = BothTold (λ b c. c ≡ b) old new
