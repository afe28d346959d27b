-- What a server answers to a line, and why.
use Rattle.std.specs.Prelude.{◌≡◌, ◌≢◌, ◌⊎◌, ◌≤◌, ℕ, true, List, Option, Some, None, Result, Ok, Err, IfSome}
use Rattle.tile_serve.specs.Common.{Agree, archive_tile, Bounded, IsOpenFailure, IsOpenRefusal, PmtError, ReadsByHops, Rose, UsesOneLength}
use Rattle.pm_format.specs.declared.error.PmtError.TheVariants as errors
use Rattle.pm_format.specs.declared.error.ReadCause.TheVariants as causes
use Rattle.tile_serve.specs.Reply.{found_in, reply}
use Rattle.tile_serve.specs.Request.{Request, request_of}
use Rattle.tile_serve.specs.Tiles.{is_read, tiles_after}
use Rattle.tile_serve.specs.declared.error.ServeError.{ServeError}
use Rattle.tile_serve.specs.declared.error.ServeError.TheVariants.{Opening, Fault, Modified, Short, OutOfMemory}
use Rattle.tile_serve.specs.declared.found.Found.{Found}

-- what holds over told bytes, where each leaf offset of the archive is used with one length
abbrev pub OverOneLength : Option (List ℕ) → (List ℕ → Type 0) → Type 0
OverOneLength told holds = IfSome told (λ b. UsesOneLength b → holds b)

-- a range of bytes is there for an id
abbrev pub IsThere : Result (Option (List ℕ)) PmtError → Type 0
IsThere tile = (bytes : List ℕ) × (tile ≡ Ok (Some bytes))

-- What a look-up ends in, and the refusals that a server answers as errors.
abbrev pub taken : Result (Option (List ℕ)) PmtError → Result Found ServeError
taken (Ok found) = Ok (found_in (Ok found))
taken (Err errors.InvalidEntry) = Ok (found_in (Err errors.InvalidEntry))
taken (Err (errors.Reading causes.PastEnd)) = Ok (found_in (Err (errors.Reading causes.PastEnd)))
taken (Err (errors.Reading causes.Fault)) = Err Fault
taken (Err (errors.SourceModified opened read)) = Err (Modified opened read)
taken (Err (errors.UnexpectedNumberOfBytesReturned asked got)) = Err (Short asked got)
taken (Err _) = Err OutOfMemory

-- Over told bytes: what the archive has is found. Want of memory, a fault, and another text for a tile that is
-- there may come in its place.
abbrev pub Finds : Result (Option (List ℕ)) PmtError → Result Found ServeError → Type 0
Finds tile (Ok found) = found ≡ found_in tile
Finds tile (Err (Opening e)) = ⊥
Finds tile (Err Fault) = Unit {0}
Finds tile (Err (Modified opened read)) = IsThere tile
Finds tile (Err (Short asked got)) = ⊥
Finds tile (Err OutOfMemory) = Unit {0}

-- Over told bytes: the reply of a server without caches. Want of memory, a fault, and another text for a tile that is
-- there may come in its place.
abbrev pub Answers : List ℕ → List ℕ → Result (List ℕ) ServeError → Type 0
Answers b line (Ok text) = text ≡ reply b line
Answers b line (Err (Opening e)) = ⊥
Answers b line (Err Fault) = Unit {0}
Answers b line (Err (Modified opened read)) = (r : Request) × (request_of line ≡ Some r) × IsThere (archive_tile b r.id)
Answers b line (Err (Short asked got)) = ⊥
Answers b line (Err OutOfMemory) = Unit {0}

-- Told or not: a fault comes only where the count of faults rose, and two numbers only where no bytes
-- are told, and they differ.
abbrev pub Causes : {A : Type 0} → Option (List ℕ) → ℕ → ℕ → Result A ServeError → Type 0
Causes told before now (Ok x) = Unit {0}
Causes told before now (Err (Opening e)) = ⊥
Causes told before now (Err Fault) = Rose before now
Causes told before now (Err (Modified opened read)) = Unit {0}
Causes told before now (Err (Short asked got)) = (told ≡ None) × (asked ≢ got)
Causes told before now (Err OutOfMemory) = Unit {0}

-- With the text of the opening, the texts of each read where they are told, and the number of the last read: it is
-- modified only where these are the two that differ.
abbrev pub HasTexts : {A : Type 0} → Option (List ℕ) → Option (ℕ → Option (List ℕ)) → ℕ → Result A ServeError → Type 0
HasTexts opened versions number (Err (Modified a b)) = (opened ≡ Some a) × (a ≢ b) × IfSome versions (λ text. text number ≡ Some b)
HasTexts opened versions number _ = Unit {0}

-- where a range was read for the answer, its text isn't another one than that of the opening
abbrev pub Compares : {A : Type 0} → Option (List ℕ) → Option (ℕ → Option (List ℕ)) → ℕ → Type 0 → Result A ServeError → Type 0
Compares opened versions number range (Ok x) = range → IfSome versions (λ text. Agree opened (text number))
Compares opened versions number range (Err e) = Unit {0}

-- the archive is read for a line, and has a range of bytes for its id
abbrev pub IsReadFor : List ℕ → Option Request → Bounded (List ℕ) → Type 0
IsReadFor b None tiles = ⊥
IsReadFor b (Some r) tiles = (is_read (Some r) tiles ≡ true) × IsThere (archive_tile b r.id)

-- no error but running out of memory is answered
abbrev pub IsWanting : {A : Type 0} → Result A ServeError → Type 0
IsWanting (Ok x) = Unit {0}
IsWanting (Err OutOfMemory) = Unit {0}
IsWanting (Err e) = ⊥

-- the texts are told, and each read gives one and the same text, or none
abbrev pub IsUniform : Option (ℕ → Option (List ℕ)) → Type 0
IsUniform None = ⊥
IsUniform (Some text) = (m n : ℕ) → text m ≡ text n

-- no other version text is answered
abbrev pub IsUnmodified : {A : Type 0} → Result A ServeError → Type 0
IsUnmodified (Err (Modified a b)) = ⊥
IsUnmodified _ = Unit {0}

-- What is held after a line: after a reply exactly what the reply leaves, and running out of memory may leave it
-- or what was held before.
abbrev pub LeavesTiles : List ℕ → Option Request → Bounded (List ℕ) → Bounded (List ℕ) → Result (List ℕ) ServeError → Type 0
LeavesTiles b asked old new (Ok text) = new ≡ tiles_after b asked old
LeavesTiles b asked old new (Err OutOfMemory) = (new ≡ old) ⊎ (new ≡ tiles_after b asked old)
LeavesTiles b asked old new (Err e) = new ≡ old

-- the reads of a line: none where it is no request, else at most the hops of its look-up and one more
abbrev pub ReadsFor : List ℕ → Option Request → ℕ → ℕ → Type 0
ReadsFor b None before now = now ≤ before
ReadsFor b (Some r) before now = ReadsByHops b r.id before now

-- why an archive doesn't open
abbrev pub opening_error : PmtError → ServeError
opening_error errors.OutOfMemory = OutOfMemory
opening_error e = Opening e

-- Opening, over told bytes: their first refusal. A fault and running out of memory may come in its place.
abbrev pub RefusesOpening : {A : Type 0} → Result A PmtError → ServeError → Type 0
RefusesOpening wanted (Opening (errors.Reading causes.Fault)) = Unit {0}
RefusesOpening wanted (Opening e) = wanted ≡ Err e
RefusesOpening wanted OutOfMemory = Unit {0}
RefusesOpening wanted e = ⊥

-- Told or not: the refusal of opening, a fault only where the count of faults rose, or running out of memory.
abbrev pub OpeningCauses : ℕ → ℕ → ServeError → Type 0
OpeningCauses before now (Opening (errors.Reading causes.Fault)) = Rose before now
OpeningCauses before now (Opening e) = IsOpenRefusal e
OpeningCauses before now OutOfMemory = Unit {0}
OpeningCauses before now e = ⊥

-- an error that opening may have over any backend
abbrev pub IsOpeningError : ServeError → Type 0
IsOpeningError (Opening e) = IsOpenFailure e
IsOpeningError OutOfMemory = Unit {0}
IsOpeningError e = ⊥
