-- What becomes of a store that described nothing and is filled from an archive in several commits.
use Rattle.std.specs.Prelude.{◌≡◌, ◌⊎◌, ◌+◌, ℕ, nat_lt, Bool, true, cond, List, [], Option, None, Some, IfSome, Result, Ok, Err, length, option_map}
use Rattle.set_import.specs.Common.{Archive, Flat, get, ImportError, MakesChanges, PmtError, Tables, tiles_put, TileSet}
use Rattle.mb_load.specs.Committed.{IsCommitted}
use Rattle.mb_lists.specs.Places.{address}
use Rattle.mb_loaded.specs.Editable.{IsOnBoard}
use Rattle.mb_loaded.specs.Empty.{empty_state}
use Rattle.mb_loaded.specs.Held.{fresh, Held}
use Rattle.mb_tables.specs.Tiles.{Place}
use Rattle.pm_format.specs.LookUp.{archive_map}
use Rattle.pm_format.specs.Opened.{Opened, opened}
use Rattle.pm_format.specs.declared.error.PmtError.TheVariants as errors
use Rattle.pm_format.specs.declared.error.ReadCause.TheVariants as causes
use Rattle.pm_walk.specs.Parts.{full}
use Rattle.pm_walk.specs.Walk.{all_walked}
use Rattle.set_import.specs.Filling.{flat_made}
use Rattle.tile_hash.specs.declared.algorithm.HashAlgorithm.TheVariants.{Md5}
use Rattle.tile_import.specs.Import.{reads_at_most}
use Rattle.tile_import.specs.Putting.{AreOnBoard}
use Rattle.tile_import.specs.Refusals.{is_free}

-- an empty flat set, as it is loaded
abbrev pub empty_flat : Held
empty_flat = fresh (empty_state Flat Md5)

-- a set has the tiles of an archive whose ids lie below one, and none else
pub record HasFrontOf (b : List ℕ) (tiles : TileSet) : Type 0 where
  pub from : ℕ
  pub at : (p : Place) → IsOnBoard p → get tiles p ≡ cond (nat_lt (address p) from) (option_map (λ bytes. Some bytes) (archive_map b (address p))) None

-- Tables of an empty flat set that took the front of an import: its first tiles, and no name.
pub record IsFront (told : Option (List ℕ)) (made new : Tables) : Type 0 where
  pub tiles : TileSet
  pub are : IfSome told (λ b. HasFrontOf b tiles)
  pub on_board : AreOnBoard tiles
  -- under the key of each place of these stands its row; there is no other row, and the descriptions are as before
  pub rows : IsCommitted (tiles_put empty_flat tiles) made new
  pub commits : MakesChanges (tiles_put empty_flat tiles) made new

-- A refusal behind the first commit: running out of memory, or a fault of the archive or the store; or contents that
-- were read before can't be read again.
abbrev pub is_stopped : ImportError → Bool
is_stopped (Archive (errors.Reading causes.PastEnd)) = true
is_stopped (Archive (errors.UnexpectedNumberOfBytesReturned asked got)) = true
is_stopped e = is_free e

-- what a refusal leaves: the tables as they were; or, where they described nothing, those of a flat set with a
-- front of the import, which comes of an archive that tells its bytes only where memory ran out, or the
-- archive or the store failed
abbrev pub IsStoppedAt : Option (List ℕ) → Tables → Tables → ImportError → Type 0
IsStoppedAt told old new e =
    (new ≡ old) ⊎ ((old.descriptions ≡ []) × IsFront told (flat_made old) new × (is_stopped e ≡ true) × IfSome told (λ b. is_free e ≡ true))

-- how often an archive is read: as by an import, and once more for each tile entry that has bytes
abbrev pub reads_again : List ℕ → Result Opened PmtError → ℕ
reads_again b (Err e) = 0
reads_again b (Ok o) = length (full (all_walked b o).entries)

abbrev pub reads_streamed : List ℕ → ℕ
reads_streamed b = reads_at_most b + reads_again b (opened b)
