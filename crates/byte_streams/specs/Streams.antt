-- what reads take of what is left, and what writes append
use Rattle.std.specs.Prelude.{ℕ, ◌≡◌, ◌≤◌, ◌<◌, List, [], ◌++◌, length, take, Some, None, Ok, Err, IfSome}
use Rattle.byte_streams.specs.Common.{Grew, Option, Result}
use Rattle.byte_streams.specs.declared.source.SourceFault.{SourceFault}
use Rattle.byte_streams.specs.declared.sink.SinkFault.{SinkFault}

-- what is left loses these bytes at its front, where it is told; whether it is doesn't change
abbrev pub Loses : Option (List ℕ) → Option (List ℕ) → List ℕ → Type 0
Loses None None bytes = Unit {0}
Loses None (Some new) bytes = ⊥
Loses (Some old) None bytes = ⊥
Loses (Some old) (Some new) bytes = old ≡ bytes ++ new

-- what is held gains these bytes at its end, where it is told; whether it is doesn't change
abbrev pub Gains : Option (List ℕ) → Option (List ℕ) → List ℕ → Type 0
Gains None None bytes = Unit {0}
Gains None (Some new) bytes = ⊥
Gains (Some old) None bytes = ⊥
Gains (Some old) (Some new) bytes = new ≡ old ++ bytes

-- what is held gains a front of these bytes
abbrev pub GainsFront : Option (List ℕ) → Option (List ℕ) → List ℕ → Type 0
GainsFront old new bytes = (n : ℕ) × (n ≤ length bytes) × Gains old new (take n bytes)

-- no byte is left, where that is told
abbrev pub IsAtEnd : Option (List ℕ) → Type 0
IsAtEnd left = IfSome left (λ bytes. bytes ≡ [])

-- Ok n took the first n bytes of the buffer, and none only at the end or with no room. A refusal took nothing.
abbrev pub ReadTakes : Option (List ℕ) → Option (List ℕ) → Result ℕ SourceFault → List ℕ → Type 0
ReadTakes old new (Ok n) buffer = (n ≤ length buffer) × Loses old new (take n buffer) × (n ≡ 0 → 0 < length buffer → IsAtEnd old)
ReadTakes old new (Err e) buffer = new ≡ old

-- the count of bytes taken grows by the number that is answered
abbrev pub CountsRead : ℕ → ℕ → Result ℕ SourceFault → Type 0
CountsRead old new (Ok n) = Grew old new n
CountsRead old new (Err e) = new ≡ old

-- Ok n appended the first n bytes of the piece, at least one where there is one. A refusal appended nothing.
abbrev pub WriteAppends : Option (List ℕ) → Option (List ℕ) → Result ℕ SinkFault → List ℕ → Type 0
WriteAppends old new (Ok n) piece = (n ≤ length piece) × (0 < length piece → 0 < n) × Gains old new (take n piece)
WriteAppends old new (Err e) piece = new ≡ old
