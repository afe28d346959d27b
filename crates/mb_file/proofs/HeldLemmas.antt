-- The tables that bytes hold are those that a set of them tells.
use Rattle.std.proofs.Common.{ap, cond, filter_map, IfSome, List, None, Option, option_map, refl, Some, subst, true, [], ℕ, ◌∙◌, ◌≡◌}
use Rattle.std.proofs.lemmas.Bool.{and_parts}
use Rattle.sqlite_disk.specs.declared.Disk.{Ghosts}
use Rattle.sqlite_wal.specs.Files.{seen_image}
use Rattle.sqlite_wal.specs.Recovery.{Image}
use Rattle.mb_store.specs.MemStore.{told_of}
use Rattle.mb_tables.specs.Kind.{contents_of, schema_of, tile_table}
use Rattle.mb_tables.specs.Table.{table_eq}
use Rattle.mb_tables.specs.declared.cell.Cell.{Cell}
use Rattle.mb_tables.specs.declared.kind.MbtType.{MbtType}
use Rattle.mb_tables.specs.declared.kind.MbtType.TheVariants.{Cache, Flat, FlatWithHash, Normalized}
use Rattle.mb_tables.specs.declared.kind.NormalizedSchema.TheVariants.{DedupId, Hash}
use Rattle.mb_tables.specs.declared.table.TableName.{TableName}
use Rattle.mb_tables.specs.declared.table.TableName.TheVariants.{Images, Map, Metadata, TilesData, TilesShallow}
use Rattle.mb_file.specs.Catalog.{Entry, entry_in}
use Rattle.mb_file.specs.FilePages.{IsTrusted, pages_of}
use Rattle.mb_file.specs.Held.{alone, HoldsMetadata, HoldsRows, HoldsSet, HoldsTables}
use Rattle.mb_file.specs.Opened.{AreOf}
use Rattle.mb_file.specs.Parts.{HoldsParts, IsPlaced}
use Rattle.mb_file.specs.SetTable.{set_rows}
use Rattle.mb_file.specs.Standing.{AllStand, may_tell, rows_at, rows_told, shown, Stands}
use Rattle.mb_file.specs.Told.{contents_may, may_be_told, told_by_set, told_shown, told_sound_by}
use Rattle.mb_file.specs.declared.listing.Listing.{Listing}
use Rattle.mb_file.specs.declared.opening.Parts.{Parts}
use Rattle.mb_file.specs.declared.store.FileSet.{FileSet}

-- the rows of places among those of all tables, and those of contents
places_among : (layout : MbtType) (table : TableName) (metadata places others : List (List Cell)) → table ≡ tile_table layout
    → cond (table_eq table Metadata) metadata (cond (table_eq table table) places others) ≡ places
places_among layout table metadata places others is = ap (λ (t : TableName). cond (table_eq t Metadata) metadata (cond (table_eq t t) places others)) is ∙ by layout
  where
    by : (layout : MbtType) → cond (table_eq (tile_table layout) Metadata) metadata (cond (table_eq (tile_table layout) (tile_table layout)) places others) ≡ places
    by Flat = refl
    by FlatWithHash = refl
    by (Normalized view Hash) = refl
    by (Normalized view DedupId) = refl
    by Cache = refl

contents_among : (layout : MbtType) (table other : TableName) (metadata places contents : List (List Cell)) → table ≡ tile_table layout → Some other ≡ option_map contents_of (schema_of layout)
    → cond (table_eq other Metadata) metadata (cond (table_eq table other) places (cond (table_eq other other) contents [])) ≡ contents
contents_among layout table other metadata places contents is own =
    ap (λ (t : TableName). cond (table_eq other Metadata) metadata (cond (table_eq t other) places (cond (table_eq other other) contents []))) is ∙ by layout own
  where
    by : (layout : MbtType) → Some other ≡ option_map contents_of (schema_of layout)
        → cond (table_eq other Metadata) metadata (cond (table_eq (tile_table layout) other) places (cond (table_eq other other) contents [])) ≡ contents
    by Flat e = absurd (let h = e in cc)
    by FlatWithHash e = absurd (let h = e in cc)
    by (Normalized view Hash) e = let same : other ≡ Images = cc in ap (λ (u : TableName). cond (table_eq u Metadata) metadata (cond (table_eq Map u) places (cond (table_eq u u) contents []))) same
    by (Normalized view DedupId) e =
        let same : other ≡ TilesData = cc in ap (λ (u : TableName). cond (table_eq u Metadata) metadata (cond (table_eq TilesShallow u) places (cond (table_eq u u) contents []))) same
    by Cache e = absurd (let h = e in cc)

module _ {D : Type 0} {g : Ghosts D} (set : FileSet D g) where
  -- the parts of a set
  abbrev pub parts_of : Parts
  parts_of = record { layout = set.layout; tiles = set.tiles; contents = set.contents; names = set.names }

  -- rows of a set that pages hold
  abbrev pub Holds : List Entry → TableName → List (List Cell) → Type 0
  Holds entries table rows = HoldsRows set.source.pages.usable (pages_of set.source.pages) entries table (set_rows table) rows

  module _ (trusted : IsTrusted set.source.pages) (entries : List Entry) where
    listing_held : (listing : Listing) (rows : List (List Cell)) → Stands set.source listing → may_tell set.source listing ≡ true → IsPlaced entries listing
        → rows ≡ shown set.source.pages.usable (pages_of set.source.pages) listing → Holds entries listing.table rows
    listing_held listing rows stands may placed same =
        let there = told_shown set.source listing may in
        let standing = stands trusted there.rowids there.few in record {
          root = listing.of.root;
          columns = listing.of.columns;
          stored = rows_at set.source.pages.usable (pages_of set.source.pages) listing.of.root;
          placed = placed there.rowids;
          has = record { layout = standing.layout; laid = standing.laid; stored = standing.stored };
          read = same;
        }

    places_held : Stands set.source set.tiles → may_tell set.source set.tiles ≡ true → IsPlaced entries set.tiles
        → Holds entries (tile_table set.layout) (rows_told set.source set.names set.tiles set.contents (tile_table set.layout))
    places_held stands may placed = subst (λ (t : TableName). Holds entries t (rows_told set.source set.names set.tiles set.contents t)) set.placed.places
        (listing_held set.tiles (rows_told set.source set.names set.tiles set.contents set.tiles.table) stands may placed
        (places_among set.layout set.tiles.table _ (shown set.source.pages.usable (pages_of set.source.pages) set.tiles) _ set.placed.places))

    contents_held : (contents : Option Listing) → IfSome contents (Stands set.source) → contents_may set.source contents ≡ true → IfSome contents (IsPlaced entries)
        → option_map (λ (l : Listing). l.table) contents ≡ option_map contents_of (schema_of set.layout)
        → IfSome (option_map (λ (l : Listing). l.table) contents) (λ table. Holds entries table (rows_told set.source set.names set.tiles contents table))
    contents_held None stands may placed own = tt
    contents_held (Some listing) stands may placed own =
        listing_held listing (rows_told set.source set.names set.tiles (Some listing) listing.table) stands may placed
        (contents_among set.layout set.tiles.table listing.table _ _ (shown set.source.pages.usable (pages_of set.source.pages) listing) set.placed.places own)

    set_held : AllStand set.source set.tiles set.contents → may_be_told set ≡ true → IsPlaced entries set.tiles → IfSome set.contents (IsPlaced entries)
        → HoldsMetadata set.source.pages.usable (pages_of set.source.pages) entries ((told_by_set set).rows Metadata)
        → HoldsSet set.source.pages.usable (pages_of set.source.pages) entries set.layout (told_by_set set)
    unfolding told_by_set may_be_told
    set_held stand may tiles contents metadata =
        let both = and_parts (may_tell set.source set.tiles) (contents_may set.source set.contents) may in record {
          described = refl;
          places = places_held stand.of_tiles both.0 tiles;
          contents = subst (λ (o : Option TableName). IfSome o (λ table. Holds entries table (rows_told set.source set.names set.tiles set.contents table))) set.placed.beside
              (contents_held set.contents stand.of_contents both.1 contents set.placed.beside);
          metadata = metadata;
          others = (told_sound_by set may).described;
        }

  metadata_told : (P : List (List Cell) → Type 0) → P ((told_of set.names).rows Metadata) → P ((told_by_set set).rows Metadata)
  unfolding told_by_set
  metadata_told P holds = holds

  -- what a set tells is what the bytes hold that its pages are of
  pub tables_held : (bytes : Image) → AllStand set.source set.tiles set.contents → IsTrusted set.source.pages → AreOf bytes set.source.pages.usable (pages_of set.source.pages)
      → HoldsParts set.source.pages.usable (pages_of set.source.pages) parts_of → may_be_told set ≡ true → HoldsTables bytes (told_by_set set)
  tables_held bytes stand trusted are parts may = record {
    usable = set.source.pages.usable;
    pages = pages_of set.source.pages;
    schema = parts.schema;
    layout = set.layout;
    are = are;
    lists = parts.lists;
    first = parts.are.first;
    holds = set_held trusted (filter_map entry_in parts.schema) stand may parts.are.tiles parts.are.contents
        (metadata_told (λ (rows : List (List Cell)). HoldsMetadata set.source.pages.usable (pages_of set.source.pages) (filter_map entry_in parts.schema) rows) parts.are.names);
  }

-- the bytes of a file beside an empty log
pub image_alone : {D : Type 0} (g : Ghosts D) (log db : D) (bytes : List ℕ) → g.seen log ≡ [] → g.seen db ≡ bytes → seen_image g log db ≡ alone bytes
image_alone g log db bytes none all = λ i. record { log = none i; db = all i }
