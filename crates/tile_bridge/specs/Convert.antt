-- What a conversion answers, and what it leaves.
use Rattle.std.specs.Prelude.{ℕ, ◌≡◌, ◌≢◌, ◌⊎◌, ◌<◌, true, false, List, [], ◌∷◌, length, map, Option, Some, None, Result, Ok, Err, IfSome, IsOk}
use Rattle.tile_bridge.specs.Common.{address, aggregate, archive_map, canon, Coord, FinMap, get, id_of, is_free, IsHidden, nat_cmp, Options, Place, places_of, places_read, solid, State, TileSet}
use Rattle.tile_bridge.specs.Common.{TookAll, WellFormed}
use Rattle.pm_contents.specs.Pieces.{BothTold}
use Rattle.pm_format.specs.declared.compression.Compression.TheVariants as compression
use Rattle.tile_bridge.specs.Adds.{AreAddsOf}
use Rattle.tile_bridge.specs.ReadingBack.{IsReadBack}
use Rattle.tile_bridge.specs.Stores.{IsDue, IsRefused}
use Rattle.tile_bridge.specs.declared.error.ConvertError.{ConvertError}
use Rattle.tile_bridge.specs.declared.error.ConvertError.TheVariants.{MediumNotEmpty, UnsupportedCompression, Store, IndexEntryOverflow, StoreFault, MediumFault, ReadBack, OutOfMemory}
use Rattle.tile_bridge.specs.declared.report.ConvertReport.{ConvertReport}

-- the tiles of the archive are exactly those of at least one byte, each under its id
pub record HoldsExactly (b : List ℕ) (tiles : TileSet) : Type 0 where
  pub each : (p : Place) (bytes : List ℕ) → get (solid tiles) p ≡ Some (Some bytes) → archive_map b (address p) ≡ Some bytes
  pub only : (id : ℕ) (bytes : List ℕ) → archive_map b id ≡ Some bytes → (p : Place) × (get (solid tiles) p ≡ Some (Some bytes)) × (address p ≡ id)

-- The bytes are a well-formed archive with the options, which has exactly the tiles, and they are the one archive of
-- these options and of the map of these tiles by their ids.
pub record IsArchiveOf (b : List ℕ) (o : Options) (tiles : TileSet) : Type 0 where
  pub formed : WellFormed b o true
  pub holds : HoldsExactly b tiles
  pub by_id : FinMap nat_cmp (List ℕ)
  pub has : (id : ℕ) → get by_id id ≡ archive_map b id
  pub one : b ≡ canon o by_id

-- the bytes are the archive of the tiles, and the report is of them
pub record IsConverted (b : List ℕ) (o : Options) (tiles : TileSet) (coords : List Coord) (r : ConvertReport) : Type 0 where
  pub archive : IsArchiveOf b o tiles
  pub answers : r.answers ≡ map (λ c. archive_map b (id_of c)) coords
  pub places : places_read b ≡ Some r.places

-- The places of the report are those of the archive of the tiles, or over a medium that tells nothing of what the
-- writer takes their bytes for.
pub record HasPlaces (o : Options) (tiles : TileSet) (told : Option (List ℕ)) (r : ConvertReport) : Type 0 where
  pub adds : List (ℕ × List ℕ)
  pub are : AreAddsOf adds tiles
  pub taken : List (ℕ × List ℕ)
  pub took : TookAll told adds taken
  pub places : r.places ≡ places_of o taken

-- the medium is empty, where it tells
abbrev pub IsEmpty : Option (List ℕ) → Type 0
IsEmpty told = IfSome told (λ bytes. bytes ≡ [])

-- directories are labelled `None`
abbrev pub IsPlain : Options → Type 0
IsPlain o = o.internal_compression ≡ compression.None

-- When each answer comes. Where all tells, the answers but running out of memory and the faults rule each other out, so
-- each comes exactly where its line says.
abbrev pub ConvertCauses : Options → Option (Result State ConvertError) → Option (List ℕ) → Result ConvertReport ConvertError → Type 0
ConvertCauses o due told (Ok r) = IsEmpty told × IsPlain o × IfSome due IsOk
ConvertCauses o due told (Err (MediumNotEmpty n)) = (0 < n) × IfSome told (λ bytes. n ≡ length bytes)
ConvertCauses o due told (Err (UnsupportedCompression label)) = IsEmpty told × (label ≡ o.internal_compression) × (label ≢ compression.None)
ConvertCauses o due told (Err (Store place e)) = IsEmpty told × IsPlain o × IsRefused due (Store place e) × (is_free e ≡ false)
ConvertCauses o due told (Err IndexEntryOverflow) = IsEmpty told × IsPlain o × IsRefused due IndexEntryOverflow
ConvertCauses o due told (Err (StoreFault place)) = IsEmpty told × IsPlain o
ConvertCauses o due told (Err MediumFault) = Unit {0}
ConvertCauses o due told (Err (ReadBack e)) = (told ≡ None) × IsPlain o × IfSome due IsOk × IsReadBack e
ConvertCauses o due told (Err OutOfMemory) = Unit {0}

-- the report has the aggregate hash of the state
abbrev pub HasAggregate : Option (Result State ConvertError) → ConvertReport → Type 0
HasAggregate due r = (s : State) × IsDue due s × (r.aggregate ≡ aggregate s.algorithm s.tiles)

-- no part of an archive is shown: the label of directories isn't written, or the whole archive stands
abbrev pub ShowsNoPart : Options → TileSet → List ℕ → Type 0
ShowsNoPart o tiles b = IsHidden b ⊎ IsArchiveOf b o tiles

-- the same of the tiles that are due
abbrev pub ShowsNoDue : Options → Option (Result State ConvertError) → List ℕ → Type 0
ShowsNoDue o due b = IsHidden b ⊎ ((s : State) × IsDue due s × IsArchiveOf b o s.tiles)

-- bytes of a medium that wasn't empty stay, and an empty one shows no part
abbrev pub LeavesPart : Options → Option (Result State ConvertError) → List ℕ → List ℕ → Type 0
LeavesPart o due [] new = ShowsNoDue o due new
LeavesPart o due (byte ∷ bytes) new = new ≡ byte ∷ bytes

-- What the medium holds afterwards.
abbrev pub LeavesBytes : Options → Option (Result State ConvertError) → List Coord → Result ConvertReport ConvertError → List ℕ → List ℕ → Type 0
LeavesBytes o due coords (Ok r) old new = (s : State) × IsDue due s × IsConverted new o s.tiles coords r
LeavesBytes o due coords (Err MediumFault) old new = LeavesPart o due old new
LeavesBytes o due coords (Err (ReadBack e)) old new = ⊥
LeavesBytes o due coords (Err OutOfMemory) old new = LeavesPart o due old new
LeavesBytes o due coords (Err _) old new = new ≡ old

abbrev pub ConvertLeaves : Options → Option (Result State ConvertError) → List Coord → Result ConvertReport ConvertError → Option (List ℕ) → Option (List ℕ) → Type 0
ConvertLeaves o due coords result old new = BothTold (LeavesBytes o due coords result) old new

-- Of a set that is at hand: when each answer comes once the medium is empty and directories are labelled `None`.
abbrev pub SetCauses : Option (List ℕ) → Result ConvertReport ConvertError → Type 0
SetCauses told (Ok r) = Unit {0}
SetCauses told (Err MediumFault) = Unit {0}
SetCauses told (Err (ReadBack e)) = (told ≡ None) × IsReadBack e
SetCauses told (Err OutOfMemory) = Unit {0}
SetCauses told (Err _) = ⊥

-- and what the medium holds afterwards
abbrev pub SetBytes : Options → TileSet → List Coord → Result ConvertReport ConvertError → List ℕ → Type 0
SetBytes o tiles coords (Ok r) new = IsConverted new o tiles coords r
SetBytes o tiles coords (Err _) new = ShowsNoPart o tiles new

abbrev pub SetLeaves : Options → TileSet → List Coord → Result ConvertReport ConvertError → Option (List ℕ) → Option (List ℕ) → Type 0
SetLeaves o tiles coords result old new = BothTold (λ a b. SetBytes o tiles coords result b) old new
