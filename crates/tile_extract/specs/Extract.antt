-- What an extraction answers, why, and what it leaves.
use Rattle.std.specs.Prelude.{◌+◌, ◌≡◌, ◌≢◌, ◌⊎◌, ◌≤◌, ◌<◌, ℕ, true, List, [], ◌∷◌, length, Option, Some, None, Result, Ok, Err, IfSome}
use Rattle.tile_extract.specs.Common.{AllLieIn, archive_map, ArchiveFits, ArchivePlaces, AreOrdered, canon, entries, Entry, FinMap, get, in_intervals, IsArchivable, IsHidden, IsOpenRefusal}
use Rattle.tile_extract.specs.Common.{IsUtf8, metadata_read, nat_cmp, Opened, opened, Options, parts, places_of, places_read, PmtError, Rose, tile_count, Walked}
use Rattle.pm_format.specs.declared.error.PmtError.TheVariants as errors
use Rattle.pm_format.specs.declared.error.ReadCause.TheVariants as causes
use Rattle.pm_format.specs.WellFormed.{WellFormed}
use Rattle.pm_reader.specs.Answers.{LookUpCauses}
use Rattle.pm_contents.specs.Pieces.{BothTold}
use Rattle.tile_extract.specs.Part.{cut, options_of, part_options}
use Rattle.tile_extract.specs.declared.part.TilePart.{TilePart}
use Rattle.pm_walk.specs.declared.error.WalkError.TheVariants as walk
use Rattle.tile_extract.specs.Met.{met_of}
use Rattle.tile_extract.specs.Written.{ComesTo}
use Rattle.tile_extract.specs.declared.error.ExtractError.{ExtractError}
use Rattle.tile_extract.specs.declared.error.ExtractError.TheVariants.{InvalidZoom, MediumNotEmpty, Archive, TooManyTiles, IndexEntryOverflow, MediumFault, OutOfMemory}

-- the greatest zoom that is asked for is the least one or a deeper one, up to 31
abbrev pub HasZooms : TilePart → Type 0
HasZooms part = (part.min_zoom ≤ part.max_zoom) × (part.max_zoom ≤ 31)

-- why metadata isn't a text
abbrev pub IsMetadataRefused : Result (List ℕ) PmtError → PmtError → Type 0
IsMetadataRefused range errors.InvalidMetadataUtf8Encoding = (bytes : List ℕ) × (range ≡ Ok bytes) × ¬ (IsUtf8 bytes)
IsMetadataRefused range e = range ≡ Err e

-- bytes that open and have metadata that is a text
pub record Source (b : List ℕ) : Type 0 where
  pub found : Opened
  pub opens : opened b ≡ Ok found
  pub text : List ℕ
  pub metadata : metadata_read b found.0 ≡ Ok text
  pub utf8 : IsUtf8 text

-- A refusal before the archive is begun: of opening, of the metadata, or of the first directory or entry that is met. A
-- fault may come in its place, and a wrong number of bytes never does.
abbrev pub IsEarly : List ℕ → TilePart → PmtError → Type 0
IsEarly b part (errors.Reading causes.Fault) = Unit {0}
IsEarly b part (errors.UnexpectedNumberOfBytesReturned asked got) = ⊥
IsEarly b part errors.OutOfMemory = ⊥
IsEarly b part e =
    (opened b ≡ Err e)
    ⊎ ((found : Opened) × (opened b ≡ Ok found) × IsMetadataRefused (metadata_read b found.0) e)
    ⊎ ((s : Source b) × ((met_of b s.found part).refusal ≡ Some (walk.Archive e)))

-- the tiles among those that are met: their parts, and how many there are
abbrev pub parts_met : List ℕ → Opened → TilePart → List Entry
parts_met b o part = parts part.intervals (met_of b o part).entries

abbrev pub part_count : List ℕ → Opened → TilePart → ℕ
part_count b o part = tile_count (parts_met b o part)

-- all that is met passes its tests, and there are no more tiles than the limit
pub record Due (b : List ℕ) (part : TilePart) (most : ℕ) : Type 0 where
  pub source : Source b
  pub fine : (met_of b source.found part).refusal ≡ None
  pub few : part_count b source.found part ≤ most

-- what the tiles come to, added in order on a medium
abbrev pub Added : Option (List ℕ) → (b : List ℕ) (part : TilePart) (most : ℕ) → Due b part most → Result (List (ℕ × List ℕ)) ExtractError → Type 0
Added held b part most d = ComesTo held (part_options d.source.found.0 d.source.text part) d.source.found.0 b (parts_met b d.source.found part)

-- a refusal of a tile, after the archive was begun
abbrev pub IsLate : Option (List ℕ) → List ℕ → TilePart → ℕ → PmtError → Type 0
IsLate held b part most (errors.Reading causes.Fault) = Unit {0}
IsLate held b part most (errors.UnexpectedNumberOfBytesReturned asked got) = ⊥
IsLate held b part most e = (d : Due b part most) × Added held b part most d (Err (Archive e))

-- data that would end past u64, or an archive that doesn't fit
abbrev pub Overflows : Option (List ℕ) → List ℕ → TilePart → ℕ → Type 0
Overflows held b part most = (d : Due b part most)
    × (Added held b part most d (Err IndexEntryOverflow)
    ⊎ ((adds : List (ℕ × List ℕ)) × Added held b part most d (Ok adds) × (ArchiveFits (part_options d.source.found.0 d.source.text part) adds → ⊥)))

-- all tiles lie in the bytes, and their archive can be written; the places are its own
pub record IsExtracted (held : Option (List ℕ)) (b : List ℕ) (part : TilePart) (most : ℕ) (p : ArchivePlaces) : Type 0 where
  pub due : Due b part most
  pub adds : List (ℕ × List ℕ)
  pub are : Added held b part most due (Ok adds)
  pub fits : IsArchivable (part_options due.source.found.0 due.source.text part) adds
  pub places : p ≡ places_of (part_options due.source.found.0 due.source.text part) adds

-- Over told bytes: when each answer comes, once the zoom is valid and the medium empty, by what the
-- medium tells, if it does.
abbrev pub PartAnswers : Option (List ℕ) → List ℕ → TilePart → ℕ → Result ArchivePlaces ExtractError → Type 0
PartAnswers held b part most (Ok p) = IsExtracted held b part most p
PartAnswers held b part most (Err (Archive e)) = IsEarly b part e ⊎ IsLate held b part most e
PartAnswers held b part most (Err (TooManyTiles n)) = (n ≡ most) × ((s : Source b) × ((met_of b s.found part).refusal ≡ None) × (most < part_count b s.found part))
PartAnswers held b part most (Err IndexEntryOverflow) = Overflows held b part most
PartAnswers held b part most (Err e) = Unit {0}

-- Told or not: why an archive isn't read. A fault comes where the count of faults rose, other numbers of
-- bytes only where they differ.
abbrev pub ReadCauses : ℕ → ℕ → PmtError → Type 0
ReadCauses before now (errors.Reading causes.Fault) = Rose before now
ReadCauses before now (errors.Reading causes.PastEnd) = Unit {0}
ReadCauses before now (errors.UnexpectedNumberOfBytesReturned asked got) = asked ≢ got
ReadCauses before now errors.InvalidMetadataUtf8Encoding = Unit {0}
ReadCauses before now e = IsOpenRefusal e

-- Told or not: when each answer comes once the zoom is valid and the medium empty, by the counts of faults of
-- the source and the medium.
abbrev pub IntoCauses : ℕ → ℕ → ℕ → ℕ → ℕ → Result ArchivePlaces ExtractError → Type 0
IntoCauses most before now old new (Ok p) = Unit {0}
IntoCauses most before now old new (Err (Archive e)) = ReadCauses before now e
IntoCauses most before now old new (Err (TooManyTiles n)) = n ≡ most
IntoCauses most before now old new (Err IndexEntryOverflow) = Unit {0}
IntoCauses most before now old new (Err MediumFault) = Rose old new
IntoCauses most before now old new (Err OutOfMemory) = Unit {0}
IntoCauses most before now old new (Err e) = ⊥

-- the medium tells that it is empty, where it tells
abbrev pub IsEmpty : Option (List ℕ) → Type 0
IsEmpty held = IfSome held (λ b. b ≡ [])

-- the same with the tests of the zoom and the medium's length before it
abbrev pub PartCauses : TilePart → ℕ → Option (List ℕ) → ℕ → ℕ → ℕ → ℕ → Result ArchivePlaces ExtractError → Type 0
PartCauses part most held before now old new (Err (InvalidZoom tile asked)) = (tile ≡ part.min_zoom) × (asked ≡ part.max_zoom) × (HasZooms part → ⊥)
PartCauses part most held before now old new (Err (MediumNotEmpty n)) = HasZooms part × (0 < n) × IfSome held (λ b. n ≡ length b)
PartCauses part most held before now old new (Err MediumFault) = HasZooms part × Rose old new
PartCauses part most held before now old new result = HasZooms part × IsEmpty held × IntoCauses most before now old new result

-- The bytes are the one archive of some tiles, no more than the limit and in the intervals, and of options that have
-- its zooms; where the source tells its bytes, those of the part that was asked for.
pub record IsExtract (source : Option (List ℕ)) (part : TilePart) (most : ℕ) (b : List ℕ) : Type 0 where
  pub options : Options
  pub least : options.min_zoom ≡ part.min_zoom
  pub greatest : options.max_zoom ≡ part.max_zoom
  pub tiles : FinMap nat_cmp (List ℕ)
  pub few : length (entries tiles) ≤ most
  pub within : (id : ℕ) (bytes : List ℕ) → get tiles id ≡ Some bytes → in_intervals id part.intervals ≡ true
  pub one : b ≡ canon options tiles
  pub of : IfSome source (λ s. (options_of s part ≡ Some options) × ((id : ℕ) → get tiles id ≡ cut (archive_map s) part id))

-- no part of an archive is shown: the label of directories isn't written, or the whole archive stands
abbrev pub ShowsNoPart : Option (List ℕ) → TilePart → ℕ → List ℕ → Type 0
ShowsNoPart source part most b = IsHidden b ⊎ IsExtract source part most b

-- what a finished extraction leaves: that archive, well formed, and the places are its own
pub record IsDone (source : Option (List ℕ)) (part : TilePart) (most : ℕ) (p : ArchivePlaces) (b : List ℕ) : Type 0 where
  pub extract : IsExtract source part most b
  pub formed : WellFormed b extract.options true
  pub places : places_read b ≡ Some p

-- a refusal that a tile has, or may have as well as what is read before it: the end of the bytes, a fault,
-- or a wrong number of bytes
abbrev pub MayBeTile : PmtError → Type 0
MayBeTile (errors.Reading cause) = Unit {0}
MayBeTile (errors.UnexpectedNumberOfBytesReturned asked got) = Unit {0}
MayBeTile e = ⊥

-- What an empty medium holds afterwards: nothing, where the archive wasn't begun.
abbrev pub IntoBytes : Option (List ℕ) → TilePart → ℕ → Result ArchivePlaces ExtractError → List ℕ → Type 0
IntoBytes source part most (Ok p) new = IsDone source part most p new
IntoBytes source part most (Err (Archive e)) new =
    (IfSome source (λ b. IsEarly b part e) × (new ≡ [])) ⊎ (MayBeTile e × IfSome source (λ b. IsLate (Some new) b part most e) × IsHidden new)
IntoBytes source part most (Err (TooManyTiles n)) new = new ≡ []
IntoBytes source part most (Err e) new = ShowsNoPart source part most new

-- the same of a medium that may hold bytes, which then stay
abbrev pub LeavesPart : Option (List ℕ) → TilePart → ℕ → List ℕ → List ℕ → Type 0
LeavesPart source part most [] new = ShowsNoPart source part most new
LeavesPart source part most (byte ∷ bytes) new = new ≡ byte ∷ bytes

abbrev pub LeavesBytes : Option (List ℕ) → TilePart → ℕ → Result ArchivePlaces ExtractError → List ℕ → List ℕ → Type 0
LeavesBytes source part most (Err (InvalidZoom tile asked)) old new = new ≡ old
LeavesBytes source part most (Err (MediumNotEmpty n)) old new = new ≡ old
LeavesBytes source part most (Err MediumFault) old new = LeavesPart source part most old new
LeavesBytes source part most result old new = IntoBytes source part most result new

abbrev pub IntoLeaves : Option (List ℕ) → TilePart → ℕ → Result ArchivePlaces ExtractError → Option (List ℕ) → Type 0
IntoLeaves source part most result new = IfSome new (IntoBytes source part most result)

abbrev pub PartLeaves : Option (List ℕ) → TilePart → ℕ → Result ArchivePlaces ExtractError → Option (List ℕ) → Option (List ℕ) → Type 0
PartLeaves source part most result old new = BothTold (LeavesBytes source part most result) old new

-- Over told bytes: a walk's refusal is answered. A fault and running out of memory may come in its place, and a wrong
-- number of bytes never does.
abbrev pub Refuses : Walked → PmtError → Type 0
Refuses w errors.OutOfMemory = Unit {0}
Refuses w (errors.Reading causes.Fault) = Unit {0}
Refuses w (errors.UnexpectedNumberOfBytesReturned asked got) = ⊥
Refuses w e = w.refusal ≡ Some (walk.Archive e)

-- what collecting the parts is refused for
abbrev pub CollectRefuses : Walked → List (ℕ × ℕ) → ℕ → ExtractError → Type 0
CollectRefuses w is most (Archive e) = Refuses w e
CollectRefuses w is most (TooManyTiles n) = (n ≡ most) × (w.refusal ≡ None) × (most < tile_count (parts is w.entries))
CollectRefuses w is most OutOfMemory = Unit {0}
CollectRefuses w is most e = ⊥

abbrev pub CollectCauses : ℕ → ℕ → ℕ → ExtractError → Type 0
CollectCauses most before now (Archive errors.OutOfMemory) = ⊥
CollectCauses most before now (Archive e) = LookUpCauses {A = Unit {0}} before now (Err e)
CollectCauses most before now (TooManyTiles n) = n ≡ most
CollectCauses most before now OutOfMemory = Unit {0}
CollectCauses most before now e = ⊥

-- and what it gives
pub record IsCollected (w : Walked) (is : List (ℕ × ℕ)) (most : ℕ) (ps : List Entry) : Type 0 where
  pub fine : w.refusal ≡ None
  pub are : ps ≡ parts is w.entries
  pub few : tile_count (parts is w.entries) ≤ most

-- told or not, parts in order, no more tiles than the limit, in the intervals
pub record AreKept (is : List (ℕ × ℕ)) (most : ℕ) (ps : List Entry) : Type 0 where
  pub ordered : AreOrdered 0 ps None
  pub few : tile_count ps ≤ most
  pub within : AllLieIn is ps

-- how often the source is read: once when it is opened, once for its metadata, once for each leaf that is
-- met and once for each part
abbrev pub reads_opened : List ℕ → TilePart → Result Opened PmtError → ℕ
reads_opened b part (Ok o) = 2 + (met_of b o part).reads + length (parts_met b o part)
reads_opened b part (Err e) = 1

abbrev pub part_reads : List ℕ → TilePart → ℕ
part_reads b part = reads_opened b part (opened b)

-- a zoom or a medium that is refused is so before the source is read
abbrev pub LeavesUnread : ℕ → ℕ → Result ArchivePlaces ExtractError → Type 0
LeavesUnread before now (Err (InvalidZoom tile asked)) = now ≡ before
LeavesUnread before now (Err (MediumNotEmpty n)) = now ≡ before
LeavesUnread before now result = Unit {0}

-- a refusal of the zoom, of the medium or of the number of tiles comes before the medium is read
abbrev pub PartUncompared : Option (List ℕ) → Option (List ℕ) → TilePart → ℕ → ℕ → ℕ → Result ArchivePlaces ExtractError → Type 0
PartUncompared source held part most before now (Err (InvalidZoom tile asked)) = now ≡ before
PartUncompared source held part most before now (Err (MediumNotEmpty n)) = now ≡ before
PartUncompared source held part most before now (Err (TooManyTiles n)) = now ≡ before
PartUncompared source held part most before now (Err (Archive e)) = (now ≡ before) ⊎ (MayBeTile e × IfSome source (λ b. IsLate held b part most e))
PartUncompared source held part most before now result = Unit {0}
