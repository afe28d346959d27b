-- Opening an archive: what is answered and why, and what an opened reader owns.
use Rattle.std.specs.Prelude.{◌≡◌, ℕ, ◌+◌, List, length, take, drop, nat_lt, if◌then◌else◌, Option, Some, None, Result, Ok, Err, IfSome}
use Rattle.pm_reader.specs.Common.{Entry, Header, opened, PmtError, Rose}
use Rattle.pm_format.specs.declared.error.PmtError.TheVariants as errors
use Rattle.pm_format.specs.declared.error.ReadCause.TheVariants as causes
use Rattle.pm_reader.specs.declared.state.ReaderState.{ReaderState}

-- the bytes of the root, where it lies behind the header and within the front
abbrev pub root_range : List ℕ → Header → Option (List ℕ)
root_range front h =
    if nat_lt h.root_offset 127 then None else
    (if nat_lt (length front) (h.root_offset + h.root_length) then None else
    Some (take h.root_length (drop h.root_offset front)))

-- what a reader owns: the header, the entries of the root, and the version text of the opening read
abbrev pub header_of : ReaderState → Header
header_of s = s.header

abbrev pub root_of : ReaderState → List Entry
root_of s = s.root

abbrev pub version_of : ReaderState → Option (List ℕ)
version_of s = s.version

-- the header and the root are those of the bytes
abbrev pub OpensAs : List ℕ → ReaderState → Type 0
OpensAs b s = opened b ≡ Ok (header_of s, root_of s)

-- the same of bytes that may be told
abbrev pub IsOpen : Option (List ℕ) → ReaderState → Type 0
IsOpen told s = IfSome told (λ b. OpensAs b s)

-- the version text is that of the read with this number
abbrev pub HasVersionOf : Option (ℕ → Option (List ℕ)) → ℕ → ReaderState → Type 0
HasVersionOf versions number s = IfSome versions (λ text. version_of s ≡ text number)

-- Over told bytes: exactly what they open as, header and root or the first refusal, but for running
-- out of memory and a fault.
abbrev pub OpenAnswers : List ℕ → Result ReaderState PmtError → Type 0
OpenAnswers b (Ok s) = OpensAs b s
OpenAnswers b (Err errors.OutOfMemory) = Unit {0}
OpenAnswers b (Err (errors.Reading causes.Fault)) = Unit {0}
OpenAnswers b (Err e) = opened b ≡ Err e

-- a refusal that bytes may have where they are opened
abbrev pub IsOpenRefusal : PmtError → Type 0
IsOpenRefusal errors.InvalidEntry = Unit {0}
IsOpenRefusal errors.InvalidHeader = Unit {0}
IsOpenRefusal errors.InvalidMagicNumber = Unit {0}
IsOpenRefusal errors.UnsupportedPmTilesVersion = Unit {0}
IsOpenRefusal errors.InvalidCompression = Unit {0}
IsOpenRefusal errors.InvalidTileType = Unit {0}
IsOpenRefusal (errors.UnsupportedCompression label) = Unit {0}
IsOpenRefusal _ = ⊥

-- an error that opening may have over any backend: a refusal of the bytes, running out of memory, or a fault
abbrev pub IsOpenFailure : PmtError → Type 0
IsOpenFailure errors.OutOfMemory = Unit {0}
IsOpenFailure (errors.Reading causes.Fault) = Unit {0}
IsOpenFailure e = IsOpenRefusal e

-- Told or not: a refusal is one of the bytes, running out of memory, or a fault, which comes only where
-- the count of faults rose.
abbrev pub OpenCauses : {A : Type 0} → ℕ → ℕ → Result A PmtError → Type 0
OpenCauses before now (Ok _) = Unit {0}
OpenCauses before now (Err errors.OutOfMemory) = Unit {0}
OpenCauses before now (Err (errors.Reading causes.Fault)) = Rose before now
OpenCauses before now (Err e) = IsOpenRefusal e

-- reading the front: running out of memory, or a fault
abbrev pub FrontCauses : {A : Type 0} → ℕ → ℕ → Result A PmtError → Type 0
FrontCauses before now (Ok _) = Unit {0}
FrontCauses before now (Err errors.OutOfMemory) = Unit {0}
FrontCauses before now (Err (errors.Reading causes.Fault)) = Rose before now
FrontCauses before now (Err _) = ⊥
