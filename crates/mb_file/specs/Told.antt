-- What a set tells, and that it is sound.
use Rattle.std.specs.Prelude.{◌≡◌, ℕ, ◌<◌, ◌-◌, ◌^◌, min, sum_by, ◌&&◌, not, Bool, true, false, cond, refl, All, filter_map, is_none, List, [], ◌∷◌, length, Option, Some, None, IfSome}
use Rattle.std.specs.List.{cons_option}
use Rattle.std.specs.Option.{option_map}
use Rattle.std.proofs.Common.{ap, subst, sym, ◌∙◌}
use Rattle.std.proofs.lemmas.Bool.{and_parts, false≢true, ltb-true, true≢false, not-true}
use Rattle.std.proofs.lemmas.List.Elements.{All-cons, All-nil}
use Rattle.std.proofs.lemmas.List.Kept.{AllPairs-cons}
use Rattle.std.proofs.lemmas.List.Sums.{AllPass-from_list_all}
use Rattle.sqlite_disk.specs.declared.Disk.{Ghosts}
use Rattle.sqlite_value.specs.Order.{Row}
use Rattle.mb_reading.specs.Rows.{hashed_row, is_placed, pair_of, placed_row, row_in}
use Rattle.mb_store.specs.MemStore.{told_of, told_sound}
use Rattle.mb_store.specs.Sizes.{row_size}
use Rattle.mb_store.specs.Store.{IsSound}
use Rattle.mb_store.specs.declared.mem_store.MemStore.{MemStore}
use Rattle.mb_tables.proofs.ListLemmas.{AllPairs-nil}
use Rattle.mb_tables.proofs.TableLemmas.{same_table}
use Rattle.mb_tables.specs.Described.{is_table, names_apart}
use Rattle.mb_tables.specs.Key.{clash}
use Rattle.mb_tables.specs.Kind.{contents_of, schema_of, tile_table}
use Rattle.mb_tables.specs.Schema.{set_tables}
use Rattle.mb_tables.specs.Table.{table_eq, Tables, width}
use Rattle.mb_tables.specs.declared.cell.Cell.{Cell}
use Rattle.mb_tables.specs.declared.kind.MbtType.{MbtType}
use Rattle.mb_tables.specs.declared.kind.MbtType.TheVariants.{Cache, Flat, FlatWithHash, Normalized}
use Rattle.mb_tables.specs.declared.kind.NormalizedSchema.TheVariants.{DedupId, Hash}
use Rattle.mb_tables.specs.declared.table.TableName.{TableName}
use Rattle.mb_tables.specs.declared.table.TableName.TheVariants.{Images, Map, Metadata, TileCache, Tiles, TilesData, TilesShallow, TilesWithHash}
use Rattle.mb_file.specs.Cursor.{Stored}
use Rattle.mb_file.specs.FilePages.{pages_of}
use Rattle.mb_file.specs.Listing.{AreApart}
use Rattle.mb_file.specs.Record.{values_in}
use Rattle.mb_file.specs.SetTable.{if_placed, row_read, set_row, set_rows}
use Rattle.mb_file.specs.Standing.{are_apart, contents_told, IsShown, may_tell, rows_told, shown}
use Rattle.mb_file.specs.declared.columns.Columns.{Columns}
use Rattle.mb_file.specs.declared.listing.Listing.{Listing}
use Rattle.mb_file.specs.declared.set_table.SetTable.{SetTable}
use Rattle.mb_file.specs.declared.source.Source.{Source}
use Rattle.mb_file.specs.declared.store.FileSet.{FileSet}

-- which table it is, and where
abbrev pub place_of : Listing → TableName × SetTable
place_of listing = (listing.table, listing.of)

module _ {D : Type 0} {g : Ghosts D} where
  -- the tables of a set: its layout's, with the rows that its pages show, and those of its metadata
  unfoldable pub told_by_set : FileSet D g → Tables
  told_by_set set = record { descriptions = set_tables set.layout; rows = rows_told set.source set.names set.tiles set.contents }

  -- whether the rows of contents may be told, where there are contents
  abbrev pub contents_may : Source D g → Option Listing → Bool
  contents_may source None = true
  contents_may source (Some contents) = may_tell source contents

  -- whether the rows of each table may be told
  unfoldable pub may_be_told : FileSet D g → Bool
  may_be_told set = may_tell set.source set.tiles && contents_may set.source set.contents

  -- whether a set tells: its disk is one of which each answer is true, and its rows may be told
  unfoldable pub tells_by_set : Bool → FileSet D g → Bool
  tells_by_set is_true set = is_true && may_be_told set

  -- the bytes of the cells of its tables, as far as a count goes
  abbrev pub size_of : Source D g → Listing → ℕ
  size_of source listing = min (sum_by row_size (shown source.pages.usable (pages_of source.pages) listing)) (2 ^ 64 - 1)

  abbrev pub size_in : Source D g → Option Listing → ℕ
  size_in source None = 0
  size_in source (Some contents) = size_of source contents

  unfoldable pub tiles_size : FileSet D g → ℕ
  tiles_size set = size_of set.source set.tiles

  unfoldable pub contents_size : FileSet D g → ℕ
  contents_size set = size_in set.source set.contents

  -- where its rows are read is as it was
  pub record IsSameSet (old new : FileSet D g) : Type 0 where
    pub layout : new.layout ≡ old.layout
    pub usable : new.source.pages.usable ≡ old.source.pages.usable
    pub pages : pages_of new.source.pages ≡ pages_of old.source.pages
    pub names : told_of new.names ≡ told_of old.names
    pub tiles : place_of new.tiles ≡ place_of old.tiles
    pub contents : option_map place_of new.contents ≡ option_map place_of old.contents

-- rows are apart where they are tested to be
pub apart_by : (table : TableName) (rows : List (List Cell)) → are_apart table rows ≡ true → AreApart table rows
apart_by table [] apart = AllPairs-nil (λ r s. clash table r s ≡ false)
apart_by table (row ∷ rows) apart =
    let both = and_parts _ (are_apart table rows) apart in
    let first = AllPass-from_list_all (λ other. not (clash table row other)) rows both.0 in
    AllPairs-cons (λ r s. clash table r s ≡ false) row rows (λ k d far. not-true _ (first k d far)) (apart_by table rows both.1)

-- a table without a key of its own has rowids
has_rowids : (key : Option ℕ) → is_none key ≡ true → key ≡ None
has_rowids None is = refl
has_rowids (Some n) is = absurd (false≢true is)

module _ {D : Type 0} {g : Ghosts D} (source : Source D g) (listing : Listing) (may : may_tell source listing ≡ true) where
  -- the rows of a table that may be told are shown
  pub told_shown : IsShown source listing
  told_shown =
      let all = and_parts _ _ may in
      record { rowids = has_rowids listing.of.columns.key all.0; few = ltb-true _ _ (and_parts _ _ all.1).0 }

  pub told_apart : AreApart listing.table (shown source.pages.usable (pages_of source.pages) listing)
  told_apart = apart_by listing.table _ (and_parts _ _ (and_parts _ _ may).1).1

-- each row that a table is read as has its width
placed_wide : (r : Row) (o : Option Cell) → IfSome (option_map (placed_row r) o) (λ row. length row ≡ 4)
placed_wide r None = tt
placed_wide r (Some cell) = refl

hashed_wide : (r : Row) (bytes hash : Option Cell) → IfSome (hashed_row r bytes hash) (λ row. length row ≡ 5)
hashed_wide r None hash = tt
hashed_wide r (Some bytes) None = tt
hashed_wide r (Some bytes) (Some hash) = refl

pair_wide : (first second : Option Cell) → IfSome (pair_of first second) (λ row. length row ≡ 2)
pair_wide None second = tt
pair_wide (Some first) None = tt
pair_wide (Some first) (Some second) = refl

read_wide : (table : TableName) (r : Row) → IfSome (row_in table r) (λ row. length row ≡ width table)
read_wide Tiles r = placed_wide r _
read_wide TilesWithHash r = hashed_wide r _ _
read_wide Map r = placed_wide r _
read_wide Images r = pair_wide _ _
read_wide TilesShallow r = placed_wide r _
read_wide TilesData r = pair_wide _ _
read_wide TileCache r = tt
read_wide Metadata r = pair_wide _ _

if_wide : (table : TableName) (o : Option (List Cell)) → IfSome o (λ row. length row ≡ width table) → IfSome (if_placed table o) (λ row. length row ≡ width table)
if_wide table None wide = tt
if_wide table (Some row) wide = by (is_placed table row)
  where
    by : (placed : Bool) → IfSome (cond placed (Some row) None) (λ row. length row ≡ width table)
    by true = wide
    by false = tt

all_wide : (table : TableName) (columns : Columns) (rows : List Stored) → All (λ row. length row ≡ width table) (filter_map (set_row table columns) rows)
all_wide table columns [] = All-nil (λ row. length row ≡ width table)
all_wide table columns (stored ∷ rows) = by (set_row table columns stored) (if_wide table (row_read table columns stored) (read_wide table (values_in columns stored.0 stored.1))) (all_wide table columns rows)
  where
    by : (o : Option (List Cell)) → IfSome o (λ row. length row ≡ width table) → All (λ row. length row ≡ width table) (filter_map (set_row table columns) rows)
        → All (λ row. length row ≡ width table) (cons_option o (filter_map (set_row table columns) rows))
    by None wide rest = rest
    by (Some row) wide rest = All-cons (λ row. length row ≡ width table) row (filter_map (set_row table columns) rows) wide rest

shown_wide : (table : TableName) (columns : Columns) (rows : List Stored) → All (λ row. length row ≡ width table) (set_rows table columns rows)
unfolding set_rows
shown_wide table columns rows = all_wide table columns rows

-- the descriptions of a layout have different names, and describe the tables of a set of it
apart_in : (layout : MbtType) → names_apart (set_tables layout) ≡ true
apart_in Flat = refl
apart_in FlatWithHash = refl
apart_in (Normalized true Hash) = refl
apart_in (Normalized false Hash) = refl
apart_in (Normalized view DedupId) = refl
apart_in Cache = refl

places_in : (layout : MbtType) → is_table (set_tables layout) (tile_table layout) ≡ true
places_in Flat = refl
places_in FlatWithHash = refl
places_in (Normalized true Hash) = refl
places_in (Normalized false Hash) = refl
places_in (Normalized view DedupId) = refl
places_in Cache = refl

contents_in : (layout : MbtType) → IfSome (option_map contents_of (schema_of layout)) (λ table. is_table (set_tables layout) table ≡ true)
contents_in Flat = tt
contents_in FlatWithHash = tt
contents_in (Normalized true Hash) = refl
contents_in (Normalized false Hash) = refl
contents_in (Normalized view DedupId) = refl
contents_in Cache = tt

module _ {D : Type 0} {g : Ghosts D} (source : Source D g) (names : MemStore) (tiles : Listing) where
  -- what holds of the rows of the metadata, of both tables, and of no rows, holds of what is told
  pub by_told : (P : TableName → List (List Cell) → Type 0) (contents : Option Listing) → P Metadata ((told_of names).rows Metadata)
      → P tiles.table (shown source.pages.usable (pages_of source.pages) tiles)
      → IfSome contents (λ listing. P listing.table (shown source.pages.usable (pages_of source.pages) listing))
      → ((table : TableName) → P table []) → (table : TableName) → P table (rows_told source names tiles contents table)
  by_told P contents metadata places others none table = first (table_eq table Metadata) refl
    where
      third : (listing : Listing) → P listing.table (shown source.pages.usable (pages_of source.pages) listing) → (b : Bool) → table_eq listing.table table ≡ b
          → P table (cond b (shown source.pages.usable (pages_of source.pages) listing) [])
      third listing own true is = subst (λ (t : TableName). P t (shown source.pages.usable (pages_of source.pages) listing)) (same_table listing.table table is) own
      third listing own false is = none table

      in_contents : (contents : Option Listing) → IfSome contents (λ listing. P listing.table (shown source.pages.usable (pages_of source.pages) listing)) → P table (contents_told source contents table)
      in_contents None own = none table
      in_contents (Some listing) own = third listing own (table_eq listing.table table) refl

      second : (b : Bool) → table_eq tiles.table table ≡ b → P table (cond b (shown source.pages.usable (pages_of source.pages) tiles) (contents_told source contents table))
      second true is = subst (λ (t : TableName). P t (shown source.pages.usable (pages_of source.pages) tiles)) (same_table tiles.table table is) places
      second false is = in_contents contents others

      first : (b : Bool) → table_eq table Metadata ≡ b
          → P table (cond b ((told_of names).rows Metadata) (cond (table_eq tiles.table table) (shown source.pages.usable (pages_of source.pages) tiles) (contents_told source contents table)))
      first true is = subst (λ (t : TableName). P t ((told_of names).rows Metadata)) (sym (same_table table Metadata is)) metadata
      first false is = second (table_eq tiles.table table) refl

-- what follows for a table from what holds of it, where there is one
some_then : (o : Option Listing) (P Q : Listing → Type 0) → ((listing : Listing) → P listing → Q listing) → IfSome o P → IfSome o Q
some_then None P Q then holds = tt
some_then (Some listing) P Q then holds = then listing holds

module _ {D : Type 0} {g : Ghosts D} (set : FileSet D g) where
  contents_each : (contents : Option Listing) → contents_may set.source contents ≡ true → IfSome contents (λ listing. may_tell set.source listing ≡ true)
  contents_each None may = tt
  contents_each (Some listing) may = may

  some_of : (P : Listing → Type 0) → ((listing : Listing) → P listing) → (o : Option Listing) → IfSome o P
  some_of P each None = tt
  some_of P each (Some listing) = each listing

  contents_described : (contents : Option Listing) → option_map (λ listing. listing.table) contents ≡ option_map contents_of (schema_of set.layout)
      → IfSome contents (λ listing. is_table (set_tables set.layout) listing.table ≡ true)
  contents_described None is = tt
  contents_described (Some listing) is = subst (λ (o : Option TableName). IfSome o (λ table. is_table (set_tables set.layout) table ≡ true)) (sym is) (contents_in set.layout)

  module _ (may : may_be_told set ≡ true) where
    places_may : may_tell set.source set.tiles ≡ true
    unfolding may_be_told
    places_may = (and_parts (may_tell set.source set.tiles) (contents_may set.source set.contents) may).0

    each_may : IfSome set.contents (λ listing. may_tell set.source listing ≡ true)
    unfolding may_be_told
    each_may = contents_each set.contents (and_parts (may_tell set.source set.tiles) (contents_may set.source set.contents) may).1

    -- the rows of each table are shown
    pub tiles_shown : IsShown set.source set.tiles
    tiles_shown = told_shown set.source set.tiles places_may

    pub contents_shown : IfSome set.contents (IsShown set.source)
    contents_shown = some_then set.contents _ _ (told_shown set.source) each_may

    -- no two rows of a table have one key
    pub all_apart : (table : TableName) → AreApart table (rows_told set.source set.names set.tiles set.contents table)
    all_apart = by_told set.source set.names set.tiles AreApart set.contents ((told_sound set.names refl).keys Metadata set.named.keyed) (told_apart set.source set.tiles places_may)
        (some_then set.contents _ _ (told_apart set.source) each_may) (λ table. AllPairs-nil (λ r s. clash table r s ≡ false))

    pub told_sound_by : IsSound (told_by_set set)
    unfolding told_by_set
    told_sound_by = record {
      names = apart_in set.layout;
      described = by_told set.source set.names set.tiles (λ table rows. is_table (set_tables set.layout) table ≡ false → rows ≡ []) set.contents (λ e. absurd (true≢false e))
          (λ e. absurd (true≢false (sym (ap (is_table (set_tables set.layout)) set.placed.places ∙ places_in set.layout) ∙ e)))
          (some_then set.contents _ _ (λ listing is e. absurd (true≢false (sym is ∙ e))) (contents_described set.contents set.placed.beside)) (λ table e. refl);
      keys = λ table keyed. all_apart table;
      widths = by_told set.source set.names set.tiles (λ table rows. All (λ row. length row ≡ width table) rows) set.contents ((told_sound set.names refl).widths Metadata) (shown_wide set.tiles.table set.tiles.of.columns _)
          (some_of _ (λ listing. shown_wide listing.table listing.of.columns _) set.contents) (λ table. All-nil (λ row. length row ≡ width table));
      counts = by_told set.source set.names set.tiles (λ table rows. length rows < 2 ^ 64) set.contents ((told_sound set.names refl).counts Metadata) tiles_shown.few
          (some_then set.contents _ _ (λ listing there. there.few) contents_shown) (λ table. ltb-true 0 (2 ^ 64) refl);
    }

  -- what is told is sound
  pub sound_by_set : (is_true : Bool) → tells_by_set is_true set ≡ true → IsSound (told_by_set set)
  unfolding tells_by_set
  sound_by_set is_true tells = told_sound_by (and_parts is_true (may_be_told set) tells).1
