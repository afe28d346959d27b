-- What a conversion that holds no contents answers, and what it leaves.
use Rattle.std.specs.Prelude.{ℕ, ◌≡◌, ◌≢◌, ◌<◌, ◌⊎◌, ◌&&◌, Bool, true, false, cond, is_some, List, [], length, map, Option, None, Some, Result, Ok, Err, OnOk, IfOk, IfSome, unwrap_or}
use Rattle.tile_streaming.specs.Common.{ConvertCauses, ConvertError, ConvertOptions, ConvertReport, Coord, due, HasPlaces, IsDue, IsEmpty, IsHidden, IsPlain, IsReadBack, list_all, option_map, Options, Rose, SetLeaves, State, state_of, Tables}
use Rattle.tile_bridge.specs.Outcome.{all_patched, at_place, tested, then}
use Rattle.tile_bridge.specs.declared.error.ConvertError.TheVariants.{MediumFault, MediumNotEmpty, OutOfMemory, ReadBack, StoreFault, UnsupportedCompression}
use Rattle.pm_format.specs.declared.compression.Compression.TheVariants as compression
use Rattle.tile_streaming.specs.Hashing.{HasHash}
use Rattle.tile_streaming.specs.Marks.{IsMarkedAs}
use Rattle.tile_streaming.specs.Part.{part_of}
use Rattle.tile_streaming.specs.Stored.{HasBytes, Stored}
use Rattle.tile_streaming.specs.declared.error.StreamError.{StreamError}
use Rattle.tile_streaming.specs.declared.error.StreamError.TheVariants.{Convert, StoreChanged}
use Rattle.tile_streaming.specs.declared.mark.MarkedSet.{MarkedSet}
use Rattle.tile_streaming.specs.declared.report.StreamReport.{StreamReport}

-- the outcome of a base without patches, where it tells
abbrev pub due_of : {S : Type 0} → (S → Bool) → (S → Tables) → S → ConvertOptions → Option (Result State ConvertError)
due_of tells told base o = due tells told tells told base [] o

-- the report in the words of `convert`, with no hash where none was made
abbrev pub as_report : StreamReport → ConvertReport
as_report r = record { answers = r.answers; aggregate = unwrap_or r.aggregate []; places = r.places }

-- the answer in these words; what a changed store leaves is what want of memory leaves
abbrev pub as_convert : Result StreamReport StreamError → Result ConvertReport ConvertError
as_convert (Ok r) = Ok (as_report r)
as_convert (Err (Convert e)) = Err e
as_convert (Err StoreChanged) = Err OutOfMemory

-- When each answer comes: that of `convert` as there. A store changed only where it tells nothing, behind the tests of
-- the medium and of the label.
abbrev pub StreamCauses : Options → Option (Result State ConvertError) → Bool → Option (List ℕ) → Result StreamReport StreamError → Type 0
StreamCauses o due tells told (Ok r) = ConvertCauses o due told (Ok (as_report r))
StreamCauses o due tells told (Err (Convert e)) = ConvertCauses o due told (Err e)
StreamCauses o due tells told (Err StoreChanged) = (tells ≡ false) × IsEmpty told × IsPlain o

-- the conversion ended before anything was written
pub record IsUnwritten (result : Result StreamReport StreamError) (old new : Option (List ℕ)) : Type 0 where
  pub refused : OnOk result ⊥
  pub medium : new ≡ old

-- when each answer comes once the set is at hand
abbrev pub StreamEnds : Bool → Option (List ℕ) → Result StreamReport StreamError → Type 0
StreamEnds tells told (Ok r) = Unit {0}
StreamEnds tells told (Err StoreChanged) = tells ≡ false
StreamEnds tells told (Err (Convert (StoreFault place))) = Unit {0}
StreamEnds tells told (Err (Convert MediumFault)) = Unit {0}
StreamEnds tells told (Err (Convert (ReadBack e))) = (told ≡ None) × IsReadBack e
StreamEnds tells told (Err (Convert OutOfMemory)) = Unit {0}
StreamEnds tells told (Err (Convert _)) = ⊥

-- once a store failed or changed, no reader opens what was written
abbrev pub HidesRest : Option (List ℕ) → Result StreamReport StreamError → Type 0
HidesRest new (Err StoreChanged) = IfSome new IsHidden
HidesRest new (Err (Convert (StoreFault place))) = IfSome new IsHidden
HidesRest new _ = Unit {0}

-- The set was at hand, and the medium empty. The options are those that the state gives, which is the one that
-- is due, where the store tells. The medium holds the archive of a part of this state and these options, or no part of
-- it; and the report is of both, with the hash of the whole state.
pub record IsOfState (part : Option (List (ℕ × ℕ))) (gives : State → Options → Type 0) (due : Option (Result State ConvertError)) (tells : Bool) (coords : List Coord) (result : Result StreamReport StreamError) (old new : Option (List ℕ)) : Type 0 where
  pub state : State
  pub options : Options
  pub is_due : IsDue due state
  pub given : gives state options
  pub empty : IsEmpty old
  pub ended : StreamEnds tells old result
  pub medium : SetLeaves options (part_of part state.tiles) coords (as_convert result) old new
  pub hidden : HidesRest new result
  pub aggregate_is : IfOk result (λ r. IfSome r.aggregate (HasHash tells state))
  pub places : IfOk result (λ r. HasPlaces options (part_of part state.tiles) old (as_report r))

-- What a conversion of a part leaves, whichever way it ends.
abbrev pub PartLeaves : Option (List (ℕ × ℕ)) → (State → Options → Type 0) → Option (Result State ConvertError) → Bool → List Coord → Result StreamReport StreamError → Option (List ℕ) → Option (List ℕ) → Type 0
PartLeaves part gives due tells coords result old new = IsUnwritten result old new ⊎ IsOfState part gives due tells coords result old new

-- and that of all tiles
abbrev pub StreamLeaves : (State → Options → Type 0) → Option (Result State ConvertError) → Bool → List Coord → Result StreamReport StreamError → Option (List ℕ) → Option (List ℕ) → Type 0
StreamLeaves = PartLeaves None

-- the options of a set that is held by its marks: these, whichever state it is held of
abbrev pub IsHeldWith : MarkedSet → Options → State → Options → Type 0
IsHeldWith m w state options = IsMarkedAs state m × (options ≡ w)

-- what is due of a set with what is due once it was tested
abbrev pub tested_due : Bool → Option (Result State ConvertError) → Option (Result State ConvertError)
tested_due verify begun = option_map (λ r. then r (tested verify)) begun

-- what is due of a base and its patches before the tests of the set that is converted, where all of them tell
abbrev pub begun_due : {S P : Type 0} → (S → Bool) → (S → Tables) → (P → Bool) → (P → Tables) → S → List P → Bool → Option (Result State ConvertError)
begun_due tells told patch_tells patch_told base patches force = cond (tells base && list_all patch_tells patches) (Some (then (at_place 0 (state_of (told base))) (λ s. all_patched force 1 s (map patch_told patches)))) None

-- The marks are those of the tiles of a state: the one that is due, where all stores tell. The bytes of its tiles are
-- stored, where that is told.
pub record IsHeldOf (begun : Option (Result State ConvertError)) (tells : Bool) (stored : Stored) (m : MarkedSet) : Type 0 where
  pub state : State
  pub is_due : IsDue begun state
  pub told : is_some begun ≡ true → tells ≡ true
  pub held : IsMarkedAs state m
  pub has : tells ≡ true → HasBytes stored state.tiles

-- the marks are those of some state
abbrev pub IsHeld : Bool → Stored → MarkedSet → Type 0
IsHeld tells stored m = IsHeldOf None tells stored m

-- what is tested of the medium and of the label of directories
abbrev pub TestCauses : {A : Type 0} → Options → Option (List ℕ) → ℕ → ℕ → Result A ConvertError → Type 0
TestCauses o told medium medium_now (Ok _) = IsEmpty told × IsPlain o
TestCauses o told medium medium_now (Err MediumFault) = Rose medium medium_now
TestCauses o told medium medium_now (Err (MediumNotEmpty n)) = (0 < n) × IfSome told (λ bytes. n ≡ length bytes)
TestCauses o told medium medium_now (Err (UnsupportedCompression label)) = IsEmpty told × (label ≡ o.internal_compression) × (label ≢ compression.None)
TestCauses o told medium medium_now (Err _) = ⊥
