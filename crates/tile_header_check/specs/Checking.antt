-- What a check of a header answers, and why.
use Rattle.std.specs.Prelude.{◌≡◌, ℕ, List, map, Option, Some, None, option_map, Result, Ok, Err}
use Rattle.std.specs.Option.{option_or}
use Rattle.tile_header_check.specs.Common.{Answers, Causes, Grew, Header, ids_of, Met, metadata_read, Opened, opened, part_of, report_by, report_of, Rose, Sound, StandsUnsound, tiles_of, VerifyReport}
use Rattle.tile_header_check.specs.Clustering.{clustered_fault}
use Rattle.tile_header_check.specs.Metadata.{metadata_fault}
use Rattle.tile_header_check.specs.Tiles.{counts_fault, zooms_fault}
use Rattle.tile_header_check.specs.declared.fault.HeaderError.{HeaderError}
use Rattle.tile_header_check.specs.declared.fault.HeaderError.TheVariants.{Unsound, Header as Said}
use Rattle.tile_header_check.specs.declared.fault.HeaderFault.{HeaderFault}
use Rattle.tile_header_check.specs.declared.fault.HeaderFault.TheVariants.{Metadata}
use Rattle.tile_verify.specs.declared.error.VerifyError.TheVariants as verify

-- the first thing that a header says wrong of tiles: counts, zooms, and that contents are clustered
unfoldable pub tiles_fault : Header → VerifyReport → Option (ℕ × ℕ) → List (ℕ × ℕ × ℕ) → Option HeaderFault
tiles_fault h r ids parts = option_or (counts_fault h r) (option_or (zooms_fault h ids) (clustered_fault h.clustered parts))

-- the first thing that the header of an archive says wrong: of its tiles, or of its metadata
unfoldable pub header_fault : List ℕ → Opened → Option HeaderFault
header_fault b o = option_or (tiles_fault o.0 (report_of b o) (ids_of b o) (map part_of (tiles_of b o))) (option_map Metadata (metadata_fault (metadata_read b o.0)))

-- Over told bytes: they are sound and the header is right, they are sound and this is the first thing that it says
-- wrong, or they aren't sound. A fault and running out of memory may come in the place of each.
abbrev pub HeaderAnswers : List ℕ → Result VerifyReport HeaderError → Type 0
HeaderAnswers b (Ok r) = Answers b (Ok r) × ((o : Opened) → opened b ≡ Ok o → header_fault b o ≡ None)
HeaderAnswers b (Err (Unsound e)) = Answers b (Err e)
HeaderAnswers b (Err (Said f)) = Sound b × ((o : Opened) → opened b ≡ Ok o → header_fault b o ≡ Some f)

-- told or not: what isn't told to be sound is so for a cause of the verifier
abbrev pub HeaderCauses : ℕ → ℕ → Result VerifyReport HeaderError → Type 0
HeaderCauses before now (Err (Unsound e)) = Causes {A = Unit {0}} before now (Err e)
HeaderCauses before now result = Unit {0}

-- told or not: the count of faults stands, but where a fault or running out of memory is answered
abbrev pub HeaderStands : ℕ → ℕ → Result VerifyReport HeaderError → Type 0
HeaderStands before now (Err (Unsound e)) = StandsUnsound before now e
HeaderStands before now result = now ≡ before

-- told or not, how often it reads: opening once, and what is refused by opening no more
abbrev pub HeaderReads : ℕ → ℕ → Result VerifyReport HeaderError → Type 0
HeaderReads before now (Err (Unsound (verify.Opening e))) = Grew before now 1
HeaderReads before now result = Rose before now

-- what the header says of tiles, against what was met: all of it is so, or this is the first that isn't
abbrev pub TilesTested : Header → Met → Result VerifyReport HeaderError → Type 0
TilesTested h m (Ok r) = (r ≡ report_by m.directories m.tiles.items) × (tiles_fault h r m.ids m.tiles.items ≡ None)
TilesTested h m (Err (Said f)) = tiles_fault h (report_by m.directories m.tiles.items) m.ids m.tiles.items ≡ Some f
TilesTested h m (Err (Unsound verify.OutOfMemory)) = Unit {0}
TilesTested h m (Err (Unsound e)) = ⊥
