-- What a join answers, why, and what it leaves.
use Rattle.std.specs.Prelude.{◌≡◌, ◌⊎◌, ◌-◌, ◌<◌, ◌≤◌, ℕ, true, All, get_or, List, [], ◌∷◌, length, slice_get, Option, Some, None, Result, Ok, Err, IfSome}
use Rattle.pm_contents.specs.Pieces.{BothTold}
use Rattle.pm_format.specs.WellFormed.{WellFormed}
use Rattle.pm_format.specs.declared.error.PmtError.TheVariants as errors
use Rattle.pm_format.specs.declared.error.ReadCause.TheVariants as causes
use Rattle.tile_join.specs.Common.{Adds, archive_map, ArchiveFits, ArchivePlaces, canon, entries, FinMap, get, Header, IsArchivable, IsHidden, IsMetadataRefused, IsUtf8, MayBeTile, metadata_read, nat_cmp, Options, places_of, places_read, PmtError}
use Rattle.tile_join.specs.Gathered.{Gathered, gathered}
use Rattle.tile_join.specs.Headers.{IsAlike, UnlikeAt, options_for}
use Rattle.tile_join.specs.Written.{ComesTo, piece_count}
use Rattle.tile_join.specs.declared.error.JoinError.{JoinError}
use Rattle.tile_join.specs.declared.error.JoinError.TheVariants.{Archive, Different, IndexEntryOverflow, MediumFault, MediumNotEmpty, NoSource, OutOfMemory, TooManyTiles}

-- THE MAP: the tile of a later archive over that of an earlier one
abbrev pub over_tile : Option (List ℕ) → Option (List ℕ) → Option (List ℕ)
over_tile None below = below
over_tile (Some tile) below = Some tile

abbrev pub joined_over : (ℕ → Option (List ℕ)) → List (List ℕ) → ℕ → Option (List ℕ)
joined_over below [] = below
joined_over below (b ∷ bs) = joined_over (λ id. over_tile (archive_map b id) (below id)) bs

abbrev pub no_tiles : ℕ → Option (List ℕ)
no_tiles id = None

-- at each id the tile of the last archive that has one
abbrev pub joined : List (List ℕ) → ℕ → Option (List ℕ)
joined bs = joined_over no_tiles bs

-- the number of the last source
abbrev pub last_of : List (List ℕ) → ℕ
last_of bs = length bs - 1

-- all sources open, their directories pass their tests, and the last one has metadata that is a text
pub record Read (bs : List (List ℕ)) (most : ℕ) : Type 0 where
  pub found : Gathered
  pub gathers : gathered most bs ≡ Ok found
  pub last : Header
  pub lasts : slice_get found.headers (last_of bs) ≡ Some last
  pub text : List ℕ
  pub metadata : metadata_read (get_or bs (last_of bs) []) last ≡ Ok text
  pub utf8 : IsUtf8 text

-- what the joined archive says beside its tiles
abbrev pub read_options : (bs : List (List ℕ)) (most : ℕ) → Read bs most → Options
read_options bs most r = options_for r.last r.found.headers r.text

-- Why the metadata of the last source isn't read.
abbrev pub IsUnreadText : List (List ℕ) → ℕ → ℕ → PmtError → Type 0
IsUnreadText bs most k e =
    (found : Gathered) × (gathered most bs ≡ Ok found) × (k ≡ last_of bs) × (last : Header) × (slice_get found.headers (last_of bs) ≡ Some last) × IsMetadataRefused (metadata_read (get_or bs (last_of bs) []) last) e

-- A refusal before the archive is begun. The first of these: that of a source, in their order, of its opening or of the
-- first directory or entry, or of its number of tiles; that of the last one's metadata; the first source with other
-- labels; too many tiles of all together. A fault may come in its place, and a wrong number of bytes never does.
abbrev pub IsEarly : List (List ℕ) → ℕ → JoinError → Type 0
IsEarly bs most (Archive k (errors.Reading causes.Fault)) = Unit {0}
IsEarly bs most (Archive k (errors.UnexpectedNumberOfBytesReturned asked got)) = ⊥
IsEarly bs most (Archive k errors.OutOfMemory) = ⊥
IsEarly bs most (Archive k e) = (gathered most bs ≡ Err (Archive k e)) ⊎ IsUnreadText bs most k e
IsEarly bs most (Different k) = (r : Read bs most) × UnlikeAt r.last r.found.headers k
IsEarly bs most (TooManyTiles n) = (n ≡ most) × ((gathered most bs ≡ Err (TooManyTiles n)) ⊎ ((r : Read bs most) × All (IsAlike r.last) r.found.headers × (most < piece_count r.found.pieces)))
IsEarly bs most OutOfMemory = Unit {0}
IsEarly bs most e = ⊥

-- all of it passes, and there are no more tiles than the limit
pub record Due (bs : List (List ℕ)) (most : ℕ) : Type 0 where
  pub read : Read bs most
  pub alike : All (IsAlike read.last) read.found.headers
  pub few : piece_count read.found.pieces ≤ most

-- what the tiles come to, added in order on a medium
abbrev pub Added : Option (List ℕ) → (bs : List (List ℕ)) (most : ℕ) → Due bs most → Result Adds JoinError → Type 0
Added held bs most d = ComesTo held (read_options bs most d.read) d.read.found.headers bs d.read.found.pieces

-- a refusal of a tile, after the archive was begun
abbrev pub IsLate : Option (List ℕ) → List (List ℕ) → ℕ → ℕ → PmtError → Type 0
IsLate held bs most k (errors.Reading causes.Fault) = Unit {0}
IsLate held bs most k (errors.UnexpectedNumberOfBytesReturned asked got) = ⊥
IsLate held bs most k e = (d : Due bs most) × Added held bs most d (Err (Archive k e))

-- data that would end past u64, or an archive that doesn't fit
abbrev pub Overflows : Option (List ℕ) → List (List ℕ) → ℕ → Type 0
Overflows held bs most = (d : Due bs most)
    × (Added held bs most d (Err IndexEntryOverflow) ⊎ ((adds : Adds) × Added held bs most d (Ok adds) × (ArchiveFits (read_options bs most d.read) adds → ⊥)))

-- all tiles lie in the bytes, and their archive can be written; the places are its own
pub record IsJoined (held : Option (List ℕ)) (bs : List (List ℕ)) (most : ℕ) (p : ArchivePlaces) : Type 0 where
  pub due : Due bs most
  pub adds : Adds
  pub are : Added held bs most due (Ok adds)
  pub fits : IsArchivable (read_options bs most due.read) adds
  pub places : p ≡ places_of (read_options bs most due.read) adds

-- Over told bytes of all sources: when each answer comes, once there is a source and the medium is empty, by what the
-- medium tells, if it does.
abbrev pub JoinAnswers : Option (List ℕ) → List (List ℕ) → ℕ → Result ArchivePlaces JoinError → Type 0
JoinAnswers held bs most (Ok p) = IsJoined held bs most p
JoinAnswers held bs most (Err (Archive k e)) = IsEarly bs most (Archive k e) ⊎ IsLate held bs most k e
JoinAnswers held bs most (Err (Different k)) = IsEarly bs most (Different k)
JoinAnswers held bs most (Err (TooManyTiles n)) = IsEarly bs most (TooManyTiles n)
JoinAnswers held bs most (Err IndexEntryOverflow) = Overflows held bs most
JoinAnswers held bs most (Err e) = Unit {0}

-- The bytes are the one archive of some options and of some tiles, no more than the limit; where the sources tell their
-- bytes, of the options that these give, and of the tiles of their maps, each over those before it.
pub record IsJoin (sources : Option (List (List ℕ))) (most : ℕ) (b : List ℕ) : Type 0 where
  pub options : Options
  pub tiles : FinMap nat_cmp (List ℕ)
  pub few : length (entries tiles) ≤ most
  pub one : b ≡ canon options tiles
  pub of : IfSome sources (λ bs. ((r : Read bs most) × (options ≡ read_options bs most r)) × ((id : ℕ) → get tiles id ≡ joined bs id))

-- no part of an archive is shown: the label of directories isn't written, or the whole archive stands
abbrev pub ShowsNoPart : Option (List (List ℕ)) → ℕ → List ℕ → Type 0
ShowsNoPart sources most b = IsHidden b ⊎ IsJoin sources most b

-- what a finished join leaves: that archive, well formed, and the places are its own
pub record IsDone (sources : Option (List (List ℕ))) (most : ℕ) (p : ArchivePlaces) (b : List ℕ) : Type 0 where
  pub join : IsJoin sources most b
  pub formed : WellFormed b join.options true
  pub places : places_read b ≡ Some p

-- What an empty medium holds afterwards: nothing, where the archive wasn't begun.
abbrev pub IntoBytes : Option (List (List ℕ)) → ℕ → Result ArchivePlaces JoinError → List ℕ → Type 0
IntoBytes sources most (Ok p) new = IsDone sources most p new
IntoBytes sources most (Err (Archive k e)) new =
    (IfSome sources (λ bs. IsEarly bs most (Archive k e)) × (new ≡ [])) ⊎ (MayBeTile e × IfSome sources (λ bs. IsLate (Some new) bs most k e) × IsHidden new)
IntoBytes sources most (Err (Different k)) new = new ≡ []
IntoBytes sources most (Err (TooManyTiles n)) new = new ≡ []
IntoBytes sources most (Err e) new = ShowsNoPart sources most new

-- the same of a medium that may hold bytes, which then stay
abbrev pub LeavesOld : Option (List (List ℕ)) → ℕ → List ℕ → List ℕ → Type 0
LeavesOld sources most [] new = ShowsNoPart sources most new
LeavesOld sources most (byte ∷ bytes) new = new ≡ byte ∷ bytes

abbrev pub LeavesBytes : Option (List (List ℕ)) → ℕ → Result ArchivePlaces JoinError → List ℕ → List ℕ → Type 0
LeavesBytes sources most (Err NoSource) old new = new ≡ old
LeavesBytes sources most (Err (MediumNotEmpty n)) old new = new ≡ old
LeavesBytes sources most (Err MediumFault) old new = LeavesOld sources most old new
LeavesBytes sources most result old new = IntoBytes sources most result new

abbrev pub IntoLeaves : Option (List (List ℕ)) → ℕ → Result ArchivePlaces JoinError → Option (List ℕ) → Type 0
IntoLeaves sources most result new = IfSome new (IntoBytes sources most result)

abbrev pub JoinLeaves : Option (List (List ℕ)) → ℕ → Result ArchivePlaces JoinError → Option (List ℕ) → Option (List ℕ) → Type 0
JoinLeaves sources most result old new = BothTold (LeavesBytes sources most result) old new
