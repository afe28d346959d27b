-- What an import answers, why, and what it leaves.
use Rattle.std.specs.Prelude.{◌≡◌, ◌≢◌, ◌≤◌, ◌<◌, ◌+◌, ℕ, Bool, true, false, List, Option, Some, None, Result, Ok, Err, IfSome}
use Rattle.tile_import.specs.Common.{all_walked, is_editable, IsOpenRefusal, len, MAX_TILE_ID, may_put, MbtError, Opened, opened, PmtError, Rose, State, Tables, TileSet}
use Rattle.tile_ids.specs.Coord.{IsCoord}
use Rattle.pm_format.specs.declared.error.PmtError.TheVariants as errors
use Rattle.pm_format.specs.declared.error.ReadCause.TheVariants as causes
use Rattle.mb_edit.specs.PutTables.{ArePut}
use Rattle.mb_load.specs.StateOf.{state_of}
use Rattle.mb_tables.specs.declared.error.MbtError.TheVariants as stores
use Rattle.tile_import.specs.Refusals.{IsRead, is_free}
use Rattle.tile_import.specs.Tiles.{HasTilesOf}
use Rattle.tile_import.specs.declared.error.ImportError.{ImportError}
use Rattle.tile_import.specs.declared.error.ImportError.TheVariants.{Archive, Store, InvalidTileId, InvalidTileIndex, TooManyTiles, OutOfMemory}

-- the import's word for an error of the store
abbrev pub of_store_error : MbtError → ImportError
of_store_error stores.OutOfMemory = OutOfMemory
of_store_error e = Store e

-- The answer that is due of a loaded set and of what an archive gives: the set is asked first whether tiles can be put
-- into it, then the archive is read, and then the set is asked whether it takes these tiles.
abbrev pub put_due : TileSet → Option MbtError → Result ℕ ImportError
put_due tiles (Some e) = Err (Store e)
put_due tiles None = Ok (len tiles)

abbrev pub found_due : State → Result TileSet ImportError → Result ℕ ImportError
found_due s (Err e) = Err e
found_due s (Ok tiles) = put_due tiles (may_put s tiles)

abbrev pub editable_due : State → Result TileSet ImportError → Bool → Result ℕ ImportError
editable_due s found true = found_due s found
editable_due s found false = Err (Store stores.UnsupportedCopyOperation)

-- the same of what loading gives
abbrev pub import_due : Result State MbtError → Result TileSet ImportError → Result ℕ ImportError
import_due (Ok s) found = editable_due s found (is_editable s.layout)
import_due (Err e) found = Err (Store e)

-- an answer is the one that is due, unless memory ran out, or the archive or the store failed
abbrev pub Answers : Result ℕ ImportError → Result ℕ ImportError → Type 0
Answers due (Ok n) = due ≡ Ok n
Answers due (Err e) = is_free e ≡ false → due ≡ Err e

-- The answer is that of the tables and the bytes that are told; of a store or a backend that tells nothing, that of
-- some tables, or of something that an archive may give.
pub record IsAnswered (most : ℕ) (told : Option (List ℕ)) (tells : Bool) (store : Tables) (answer : Result ℕ ImportError) : Type 0 where
  pub tables : Tables
  pub is_store : tells ≡ true → tables ≡ store
  pub found : Result TileSet ImportError
  pub is_archive : IfSome told (λ b. IsRead most b found)
  pub answers : Answers (import_due (state_of tables) found) answer

-- told or not, why an archive can't be read: a fault only where the count of faults rose, other numbers of
-- bytes only where they differ
abbrev pub ArchiveCauses : ℕ → ℕ → PmtError → Type 0
ArchiveCauses before now (errors.Reading causes.Fault) = Rose before now
ArchiveCauses before now (errors.Reading causes.PastEnd) = Unit {0}
ArchiveCauses before now (errors.UnexpectedNumberOfBytesReturned asked got) = asked ≢ got
ArchiveCauses before now e = IsOpenRefusal e

-- why it is refused
abbrev pub ReadCauses : ℕ → ℕ → ℕ → ImportError → Type 0
ReadCauses most before now (Archive e) = ArchiveCauses before now e
ReadCauses most before now (Store e) = ⊥
ReadCauses most before now (InvalidTileId id) = MAX_TILE_ID < id
ReadCauses most before now (InvalidTileIndex c) = IsCoord c × (c.z ≡ 31)
ReadCauses most before now (TooManyTiles n) = n ≡ most
ReadCauses most before now OutOfMemory = Unit {0}

-- and why a set doesn't take its tiles, by the store's count of faults
abbrev pub StoreCauses : ℕ → ℕ → MbtError → Type 0
StoreCauses old new stores.StoreFault = Rose old new
StoreCauses old new stores.OutOfMemory = ⊥
StoreCauses old new e = Unit {0}

abbrev pub ImportCauses : ℕ → ℕ → ℕ → ℕ → ℕ → Result ℕ ImportError → Type 0
ImportCauses most before now old new (Ok n) = n ≤ most
ImportCauses most before now old new (Err (Store e)) = StoreCauses old new e
ImportCauses most before now old new (Err e) = ReadCauses most before now e

-- Tables that held a set, and hold it with as many tiles as were answered over its own: those of the archive,
-- where it tells its bytes. They load again as exactly that set; rows of other places stay, and so do all
-- descriptions and metadata.
pub record IsImported (told : Option (List ℕ)) (old new : Tables) (n : ℕ) : Type 0 where
  pub tiles : TileSet
  pub are : IfSome told (λ b. HasTilesOf b tiles)
  pub count : n ≡ len tiles
  pub base : State
  pub loaded : state_of old ≡ Ok base
  pub rows : ArePut tiles base old new

-- how often an archive is read: once to open it, once for each leaf, and once for each tile entry
abbrev pub reads_opened : List ℕ → Result Opened PmtError → ℕ
reads_opened b (Err e) = 1
reads_opened b (Ok o) = 1 + (all_walked b o).reads

abbrev pub reads_at_most : List ℕ → ℕ
reads_at_most b = reads_opened b (opened b)
