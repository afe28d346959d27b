-- what calls of a backend and a medium answer and leave
use Rattle.std.specs.Prelude.{ℕ, ◌≡◌, ◌≢◌, ◌+◌, ◌-◌, ◌≤◌, ◌<◌, List, ◌++◌, length, take, drop, Some, None, Ok, Err, IfOk}
use Rattle.byte_media.specs.Common.{Option, Rose}
use Rattle.std.specs.declared.result.Result.{Result}
use Rattle.byte_media.specs.declared.backend.BackendResponse.{BackendResponse}
use Rattle.byte_media.specs.declared.backend.ReadFault.{ReadFault}
use Rattle.byte_media.specs.declared.backend.ReadFault.TheVariants.{Fault, PastEnd, Short, OutOfMemory}
use Rattle.byte_media.specs.declared.medium.WriteFault.{WriteFault}
use Rattle.byte_media.specs.declared.medium.WriteFault.TheVariants as writes
use Rattle.byte_media.specs.declared.medium.MediumFault.{MediumFault}

-- Over told bytes: the bytes from the offset, as many as asked and there; PastEnd only where the offset is
-- above their length; Short never. So where the offset is above their length only PastEnd is left, but for
-- running out of memory and a fault.
abbrev pub ReadAnswers : List ℕ → ℕ → ℕ → Result BackendResponse ReadFault → Type 0
ReadAnswers bytes offset n (Ok r) = (offset ≤ length bytes) × (r.bytes ≡ take n (drop offset bytes))
ReadAnswers bytes offset n (Err PastEnd) = length bytes < offset
ReadAnswers bytes offset n (Err (Short asked got)) = ⊥
ReadAnswers bytes offset n (Err Fault) = Unit {0}
ReadAnswers bytes offset n (Err OutOfMemory) = Unit {0}

-- Over told bytes: exactly the range, or PastEnd only where it passes their end.
abbrev pub ReadExactAnswers : List ℕ → ℕ → ℕ → Result BackendResponse ReadFault → Type 0
ReadExactAnswers bytes offset n (Ok r) = (offset + n ≤ length bytes) × (r.bytes ≡ take n (drop offset bytes))
ReadExactAnswers bytes offset n (Err PastEnd) = length bytes < offset + n
ReadExactAnswers bytes offset n (Err (Short asked got)) = ⊥
ReadExactAnswers bytes offset n (Err Fault) = Unit {0}
ReadExactAnswers bytes offset n (Err OutOfMemory) = Unit {0}

-- Told or not: at most n bytes, no PastEnd at offset 0, never Short, Fault only where the count of faults rose.
abbrev pub ReadCauses : ℕ → ℕ → ℕ → ℕ → Result BackendResponse ReadFault → Type 0
ReadCauses before now offset n (Ok r) = length r.bytes ≤ n
ReadCauses before now offset n (Err PastEnd) = 0 < offset
ReadCauses before now offset n (Err (Short asked got)) = ⊥
ReadCauses before now offset n (Err Fault) = Rose before now
ReadCauses before now offset n (Err OutOfMemory) = Unit {0}

-- Told or not: exactly n bytes, the numbers of Short differ, Fault only where the count of faults rose.
abbrev pub ReadExactCauses : ℕ → ℕ → ℕ → Result BackendResponse ReadFault → Type 0
ReadExactCauses before now n (Ok r) = length r.bytes ≡ n
ReadExactCauses before now n (Err PastEnd) = Unit {0}
ReadExactCauses before now n (Err (Short asked got)) = asked ≢ got
ReadExactCauses before now n (Err Fault) = Rose before now
ReadExactCauses before now n (Err OutOfMemory) = Unit {0}

-- an error leaves the count of faults as it is, but for a fault and running out of memory
abbrev pub StandsAtError : ℕ → ℕ → ReadFault → Type 0
StandsAtError before now Fault = Unit {0}
StandsAtError before now PastEnd = now ≡ before
StandsAtError before now (Short asked got) = now ≡ before
StandsAtError before now OutOfMemory = Unit {0}

-- a read leaves the count of faults as it is, but for a fault and running out of memory
abbrev pub FaultsStand : {A : Type 0} → ℕ → ℕ → Result A ReadFault → Type 0
FaultsStand before now (Ok x) = now ≡ before
FaultsStand before now (Err e) = StandsAtError before now e

-- an answer has the version text of the read with this number
abbrev pub HasVersion : Result BackendResponse ReadFault → ℕ → (ℕ → Option (List ℕ)) → Type 0
HasVersion result number text = IfOk result (λ r. r.data_version_string ≡ text number)

abbrev pub IsLength : List ℕ → Result ℕ MediumFault → Type 0
IsLength bytes result = IfOk result (λ n. n ≡ length bytes)

abbrev pub IsWithin : ℕ → List ℕ → Type 0
IsWithin offset bytes = offset ≤ length bytes

abbrev pub EndsBelow : ℕ → List ℕ → ℕ → Type 0
EndsBelow offset piece end = offset + length piece < end

-- the bytes with a piece written over them at a place
abbrev pub written : List ℕ → ℕ → List ℕ → List ℕ
written bytes at piece = take at bytes ++ (piece ++ drop (at + length piece) bytes)

-- Ok has the piece written, Fault a front of it, and running out of memory leaves all as it was.
abbrev pub WriteGives : ℕ → List ℕ → Result Unit WriteFault → List ℕ → List ℕ → Type 0
WriteGives offset piece (Ok _) old new = new ≡ written old offset piece
WriteGives offset piece (Err writes.Fault) old new = (n : ℕ) × (n ≤ length piece) × (new ≡ written old offset (take n piece))
WriteGives offset piece (Err writes.OutOfMemory) old new = new ≡ old

-- the same of bytes that may be told; whether they are doesn't change
abbrev pub WriteLeaves : ℕ → List ℕ → Result Unit WriteFault → Option (List ℕ) → Option (List ℕ) → Type 0
WriteLeaves offset piece result None None = Unit {0}
WriteLeaves offset piece result None (Some new) = ⊥
WriteLeaves offset piece result (Some old) None = ⊥
WriteLeaves offset piece result (Some old) (Some new) = WriteGives offset piece result old new

-- a part of bytes that lie from a place on is the range of an offset and a number
abbrev pub IsPart : List ℕ → ℕ → ℕ → ℕ → List ℕ → Type 0
IsPart bytes from offset n part = (from ≤ offset) × (offset + n ≤ from + length bytes) × (part ≡ take n (drop (offset - from) bytes))

-- why a read of bytes that end at most there gives none: Short never, PastEnd not where that is the front
abbrev pub IsPartFault : ℕ → ReadFault → Type 0
IsPartFault end Fault = Unit {0}
IsPartFault end PastEnd = 0 < end
IsPartFault end (Short asked got) = ⊥
IsPartFault end OutOfMemory = Unit {0}
