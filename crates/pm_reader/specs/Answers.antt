-- What calls of a reader answer, and why.
use Rattle.std.specs.Prelude.{◌≡◌, ◌≢◌, ℕ, List, Option, Some, None, Result, Ok, Err, IfSome, IfOk}
use Rattle.pm_reader.specs.Common.{BackendResponse, PmtError, range_of, Rose}
use Rattle.pm_format.specs.declared.error.PmtError.TheVariants as errors
use Rattle.pm_format.specs.declared.error.ReadCause.TheVariants as causes

-- Over told bytes: the wanted answer is given. Want of memory and a fault may come in its place, and a wrong
-- number of bytes never does.
abbrev pub Gives : {A : Type 0} → Result A PmtError → Result A PmtError → Type 0
Gives wanted (Ok x) = wanted ≡ Ok x
Gives wanted (Err errors.OutOfMemory) = Unit {0}
Gives wanted (Err (errors.Reading causes.Fault)) = Unit {0}
Gives wanted (Err (errors.UnexpectedNumberOfBytesReturned asked got)) = ⊥
Gives wanted (Err e) = wanted ≡ Err e

-- Told or not: a refusal is one of the bytes, their end, a wrong number of bytes, running out of memory, or a fault,
-- which comes only where the count of faults rose.
abbrev pub LookUpCauses : {A : Type 0} → ℕ → ℕ → Result A PmtError → Type 0
LookUpCauses before now (Ok _) = Unit {0}
LookUpCauses before now (Err errors.InvalidEntry) = Unit {0}
LookUpCauses before now (Err (errors.Reading causes.PastEnd)) = Unit {0}
LookUpCauses before now (Err (errors.Reading causes.Fault)) = Rose before now
LookUpCauses before now (Err (errors.UnexpectedNumberOfBytesReturned asked got)) = asked ≢ got
LookUpCauses before now (Err errors.OutOfMemory) = Unit {0}
LookUpCauses before now (Err _) = ⊥

-- no wrong number of bytes is answered
abbrev pub IsWhole : {A : Type 0} → Result A PmtError → Type 0
IsWhole (Ok _) = Unit {0}
IsWhole (Err (errors.UnexpectedNumberOfBytesReturned asked got)) = ⊥
IsWhole (Err _) = Unit {0}

-- the same of bytes that aren't decoded
abbrev pub RangeCauses : {A : Type 0} → ℕ → ℕ → Result A PmtError → Type 0
RangeCauses before now (Err errors.InvalidEntry) = ⊥
RangeCauses {A = A} before now result = LookUpCauses {A = A} before now result

-- the range of the bytes, or their end
abbrev pub range_read : List ℕ → ℕ → ℕ → Result (List ℕ) PmtError
range_read b at len = elim (range_of b at len) [ None ↦ Err (errors.Reading causes.PastEnd) | Some bytes ↦ Ok bytes ]

-- the bytes of a response
abbrev pub bytes_of : Result BackendResponse PmtError → Result (List ℕ) PmtError
bytes_of (Ok r) = Ok r.bytes
bytes_of (Err e) = Err e

-- the bytes of a tile that was found
abbrev pub contents_of : Option BackendResponse → Option (List ℕ)
contents_of None = None
contents_of (Some r) = Some r.bytes

abbrev pub tile_of : Result (Option BackendResponse) PmtError → Result (Option (List ℕ)) PmtError
tile_of (Ok found) = Ok (contents_of found)
tile_of (Err e) = Err e

-- a response has the version text of the read with this number
abbrev pub HasTextAt : Option (ℕ → Option (List ℕ)) → ℕ → BackendResponse → Type 0
HasTextAt versions number r = IfSome versions (λ text. r.data_version_string ≡ text number)

-- the same of a tile that was found
abbrev pub FoundTextAt : Option (ℕ → Option (List ℕ)) → ℕ → Result (Option BackendResponse) PmtError → Type 0
FoundTextAt versions number found = IfOk found (λ o. IfSome o (HasTextAt versions number))
