-- Tiles that are put into an empty flat set in order of their ids, some at a time.
use Rattle.std.specs.Prelude.{◌≡◌, ◌≢◌, ◌≤◌, ◌<◌, ◌⊎◌, ◌+◌, ◌++◌, ◌&&◌, ◌||◌, ℕ, is_some, nat_eq, nat_lt, Bool, true, false, cond, List, [], ◌∷◌, Option, None, Some, Result, Ok, Err, IfSome, All, option_map, slice_get}
use Rattle.set_import.specs.Common.{Archive, Flat, get, ImportError, MakesChanges, OutOfMemory, PmtError, Store}
use Rattle.base_values.specs.Counts.{Rose}
use Rattle.mb_lists.specs.Entries.{blob_cell}
use Rattle.mb_lists.specs.Places.{address}
use Rattle.mb_loaded.specs.Changing.{front, tile_key}
use Rattle.mb_loaded.specs.Held.{Held}
use Rattle.mb_store.specs.Committing.{Commits}
use Rattle.mb_store.specs.declared.change.Change.{Change}
use Rattle.mb_tables.specs.Described.{is_table}
use Rattle.mb_tables.specs.Table.{table_eq, Tables}
use Rattle.mb_tables.specs.Tiles.{Place, TileSet}
use Rattle.mb_tables.specs.declared.cell.Cell.{Cell}
use Rattle.mb_tables.specs.declared.description.TableDesc.{TableDesc}
use Rattle.mb_tables.specs.declared.table.TableName.TheVariants.{Metadata, Tiles}
use Rattle.mb_tables.specs.declared.error.MbtError.TheVariants as stores
use Rattle.pm_format.specs.Directory.{Entry}
use Rattle.pm_format.specs.LookUp.{range_of}
use Rattle.pm_format.specs.declared.error.PmtError.TheVariants as errors
use Rattle.pm_format.specs.declared.error.ReadCause.TheVariants as causes
use Rattle.pm_format.specs.declared.header.Header.{Header}
use Rattle.pm_walk.specs.Collecting.{AreContentsOf, contents_of}
use Rattle.set_import.specs.Filling.{flat_made}
use Rattle.std.specs.FinMap.{contains_key, empty}
use Rattle.tile_import.specs.Putting.{AreOnBoard, ids_of, with_contents, with_ids}
use Rattle.tile_import.specs.Refusals.{is_free}

-- whether a batch that has room for so many more rows and bytes has none for a tile of so many bytes; one without a
-- row has room for any
abbrev pub is_full : ℕ → ℕ → ℕ → ℕ → Bool
is_full most rows bytes length = nat_eq rows 0 || (nat_lt bytes length && nat_lt rows most)

-- a flat set without ids
abbrev pub IsPlain : Held → Type 0
IsPlain h = (h.state.layout ≡ Flat) × ((id : Cell) → contains_key h.edited.ids id ≡ false)

-- a flat set in which these tiles were put, and nothing else was edited
pub record IsBatchOf (h : Held) (tiles : TileSet) : Type 0 where
  pub flat : h.state.layout ≡ Flat
  pub has : (p : Place) → get h.state.tiles p ≡ get tiles p
  pub places : (p : Place) → contains_key h.edited.places p ≡ contains_key tiles p
  pub ids : (id : Cell) → contains_key h.edited.ids id ≡ false
  pub names : (name : List ℕ) → contains_key h.edited.names name ≡ false

-- a change that puts the row of one of some tiles under the key of its place
pub record IsPut (tiles : TileSet) (c : Change) : Type 0 where
  pub place : Place
  pub there : contains_key tiles place ≡ true
  pub table : table_eq c.table Tiles ≡ true
  pub key : c.key ≡ tile_key place
  pub row : c.row ≡ option_map (λ contents. front place ++ blob_cell contents ∷ []) (get tiles place)

-- changes that do so for each of these tiles, and nothing else
pub record ArePuts (tiles : TileSet) (changes : List Change) : Type 0 where
  pub made : (p : Place) → contains_key tiles p ≡ true → (i : ℕ) × (c : Change) × (slice_get changes i ≡ Some c) × (table_eq c.table Tiles ≡ true) × (c.key ≡ tile_key p)
  pub only : All (IsPut tiles) changes

-- the tables of a flat set are described
abbrev pub AreFlat : List TableDesc → Type 0
AreFlat ds = (is_table ds Tiles ≡ true) × (is_table ds Metadata ≡ true)

-- such changes made tables of others
pub record ArePutInto (made now : Tables) (tiles : TileSet) : Type 0 where
  pub changes : List Change
  pub puts : ArePuts tiles changes
  pub commits : Commits changes made now

-- tables of a store that tells have those of some tiles whose ids lie below one, which isn't above another
pub record IsPart (tells : Bool) (made now : Tables) (all : TileSet) (next : ℕ) : Type 0 where
  pub done : TileSet
  pub from : ℕ
  pub low : from ≤ next
  pub parted : (p : Place) → get done p ≡ cond (nat_lt (address p) from) (get all p) None
  pub into : tells ≡ true → ArePutInto made now done

-- the others of these tiles wait in a batch
pub record IsStream (tells : Bool) (made now : Tables) (batch : Held) (all : TileSet) (next : ℕ) : Type 0 where
  pub part : IsPart tells made now all next
  pub rest : (p : Place) → get batch.state.tiles p ≡ cond (nat_lt (address p) part.from) None (get all p)
  pub waits : IsBatchOf batch batch.state.tiles
  pub board : AreOnBoard all
  pub below : (p : Place) → contains_key all p ≡ true → address p < next

-- what a call leaves of that with tiles that it puts: all of it, or, refused, a part that is committed
abbrev pub Streams : {A E : Type 0} → Bool → Tables → Tables → Held → TileSet → ℕ → Result A E → Type 0
Streams tells made now batch all next (Ok x) = IsStream tells made now batch all next
Streams tells made now batch all next (Err e) = IsPart tells made now all next

-- all of it is committed
abbrev pub Settles : {A E : Type 0} → Bool → Tables → Tables → TileSet → ℕ → Result A E → Type 0
Settles tells made now all next (Ok x) = tells ≡ true → ArePutInto made now all
Settles tells made now all next (Err e) = IsPart tells made now all next

-- where runs in order end
abbrev pub end_of : ℕ → List Entry → ℕ
end_of next [] = next
end_of next (e ∷ es) = end_of (e.tile_id + e.run_length) es

-- one tile entry was put: some contents of it, those that the archive has where it tells its bytes
pub record PutsEntry {A E : Type 0} (told : Option (List ℕ)) (h : Header) (tells : Bool) (made now : Tables) (batch : Held) (all : TileSet) (e : Entry) (r : Result A E) : Type 0 where
  pub bytes : List ℕ
  pub are : IfSome told (λ b. bytes ≡ contents_of h b e)
  pub streams : Streams tells made now batch (with_ids all bytes (ids_of e)) (e.tile_id + e.run_length) r

-- tile entries were put, and committed, some contents of each
pub record PutsEntries {A E : Type 0} (told : Option (List ℕ)) (h : Header) (tells : Bool) (made now : Tables) (es : List Entry) (r : Result A E) : Type 0 where
  pub contents : List (List ℕ)
  pub are : AreContentsOf told h es contents
  pub settled : Settles tells made now (with_contents empty es contents) (end_of 0 es) r

-- the contents of tile entries lie in an archive that tells its bytes
abbrev pub IsThere : Option (List ℕ) → Header → Entry → Type 0
IsThere told h e = IfSome told (λ b. is_some (range_of b (h.data_offset + e.offset) e.length) ≡ true)

abbrev pub AreThere : Option (List ℕ) → Header → List Entry → Type 0
AreThere told h [] = Unit {0}
AreThere told h (e ∷ es) = IsThere told h e × AreThere told h es

-- why a run of commits stops, told or not: a fault where a count of faults rose, or contents that can't be read
abbrev pub StopReading : ℕ → ℕ → PmtError → Type 0
StopReading before now (errors.Reading causes.Fault) = Rose before now
StopReading before now (errors.Reading causes.PastEnd) = Unit {0}
StopReading before now (errors.UnexpectedNumberOfBytesReturned asked got) = asked ≢ got
StopReading before now e = ⊥

abbrev pub StopCauses : ℕ → ℕ → ℕ → ℕ → ImportError → Type 0
StopCauses before now old new (Archive e) = StopReading before now e
StopCauses before now old new (Store stores.StoreFault) = Rose old new
StopCauses before now old new OutOfMemory = Unit {0}
StopCauses before now old new e = ⊥

-- and over told bytes: memory ran out, or the archive or the store failed
abbrev pub StopAnswers : Option (List ℕ) → ImportError → Type 0
StopAnswers told e = IfSome told (λ b. is_free e ≡ true)

-- tables that described nothing: those of a flat set were made, tiles were put, and a set of names was committed; or,
-- refused, nothing was made, or a part is committed
pub record AreFilled (old new : Tables) (all : TileSet) (names : Held) : Type 0 where
  pub mid : Tables
  pub into : ArePutInto (flat_made old) mid all
  pub last : MakesChanges names mid new

abbrev pub FillsBy : {A E : Type 0} → Tables → Tables → TileSet → ℕ → Held → Result A E → Type 0
FillsBy old new all next names (Ok x) = AreFilled old new all names
FillsBy old new all next names (Err e) = (new ≡ old) ⊎ IsPart true (flat_made old) new all next

pub record Fills {A E : Type 0} (told : Option (List ℕ)) (h : Header) (old new : Tables) (es : List Entry) (names : Held) (r : Result A E) : Type 0 where
  pub contents : List (List ℕ)
  pub are : AreContentsOf told h es contents
  pub by : FillsBy old new (with_contents empty es contents) (end_of 0 es) names r
