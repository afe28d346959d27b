-- What calls keep of a set, and what it tells.
use Rattle.std.proofs.Common.{ap, arith, Bool, cond, IsTrue, length, List, min, None, Option, option_map, refl, Some, subst, sum_by, sym, true, [], ℕ, ◌&&◌, ◌+◌, ◌-◌, ◌^◌, ◌≤◌, ◌∙◌, ◌≡◌}
use Rattle.std.proofs.Common.{false, is_none, nat_lt}
use Rattle.std.proofs.lemmas.Bool.{and_from, and_parts}
use Rattle.sqlite_disk.specs.declared.Disk.{Ghosts}
use Rattle.sqlite_pager.specs.Pager.{files}
use Rattle.sqlite_pages.specs.Outcome.{doubt}
use Rattle.mb_store.specs.Kept.{Keeps, ReadsOnly}
use Rattle.mb_store.specs.MemStore.{told_of}
use Rattle.mb_store.specs.Sizes.{all_tables, live_size_of, row_size}
use Rattle.mb_store.specs.declared.mem_store.MemStore.{MemStore}
use Rattle.mb_tables.specs.Kind.{contents_of, schema_of, tile_table}
use Rattle.mb_tables.specs.Schema.{set_tables}
use Rattle.mb_tables.specs.Table.{table_eq}
use Rattle.mb_tables.specs.declared.cell.Cell.{Cell}
use Rattle.mb_tables.specs.declared.kind.MbtType.{MbtType}
use Rattle.mb_tables.specs.declared.kind.MbtType.TheVariants.{Cache, Flat, FlatWithHash, Normalized}
use Rattle.mb_tables.specs.declared.kind.NormalizedSchema.TheVariants.{DedupId, Hash}
use Rattle.mb_tables.specs.declared.table.TableName.{TableName}
use Rattle.mb_tables.specs.declared.table.TableName.TheVariants.{Images, Map, Metadata, TileCache, Tiles, TilesData, TilesShallow, TilesWithHash}
use Rattle.mb_file.specs.FilePages.{IsTrusted, pages_of}
use Rattle.mb_file.specs.SetTable.{set_rows}
use Rattle.mb_file.specs.Standing.{are_apart, AreOfLayout, contents_told, HoldsNames, may_tell, rows_at, rows_told, shown}
use Rattle.mb_file.specs.Told.{contents_may, contents_size, IsSameSet, may_be_told, place_of, size_in, tells_by_set, tiles_size, told_by_set}
use Rattle.mb_file.specs.declared.fault.Faults.{Faults}
use Rattle.mb_file.specs.declared.listing.Listing.{Listing}
use Rattle.mb_file.specs.declared.pages.FilePages.{FilePages}
use Rattle.mb_file.specs.declared.source.Source.{Source}
use Rattle.mb_file.specs.declared.store.FileSet.{FileSet}

-- the tables stay those of the layout
pub places_called : (layout : MbtType) (tiles next : Listing) (contents : Option Listing) → next.table ≡ tiles.table → AreOfLayout layout tiles contents → AreOfLayout layout next contents
places_called layout tiles next contents same placed = record { places = same ∙ placed.places; beside = placed.beside }

pub others_called : (layout : MbtType) (tiles listing next : Listing) (contents : Option Listing) → contents ≡ Some listing → next.table ≡ listing.table → AreOfLayout layout tiles contents
    → AreOfLayout layout tiles (Some next)
others_called layout tiles listing next contents there same placed = record {
  places = placed.places;
  beside = ap Some same ∙ sym (ap (option_map (λ (l : Listing). l.table)) there) ∙ placed.beside;
}

module _ {D : Type 0} {g : Ghosts D} where
  module _ (old new : Source D g) (usable : new.pages.usable ≡ old.pages.usable) (pages : pages_of new.pages ≡ pages_of old.pages) where
    module _ (listing next : Listing) (place : place_of next ≡ place_of listing) where
      shown_same : shown new.pages.usable (pages_of new.pages) next ≡ shown old.pages.usable (pages_of old.pages) listing
      shown_same = λ i. set_rows (place i).0 (place i).1.columns (rows_at (usable i) (pages i) (place i).1.root)

      may_tell_same : may_tell new next ≡ may_tell old listing
      may_tell_same = λ i. is_none (place i).1.columns.key && (nat_lt (length (shown_same i)) (2 ^ 64) && are_apart (place i).0 (shown_same i))

    contents_same : (contents next : Option Listing) → option_map place_of next ≡ option_map place_of contents → (table : TableName) → contents_told new next table ≡ contents_told old contents table
    contents_same None None e table = refl
    contents_same None (Some n) e table = absurd (let h = e in cc)
    contents_same (Some l) None e table = absurd (let h = e in cc)
    contents_same (Some l) (Some n) e table = let place : place_of n ≡ place_of l = cc in λ i. cond (table_eq (place i).0 table) (shown_same l n place i) []

    contents_may_same : (contents next : Option Listing) → option_map place_of next ≡ option_map place_of contents → contents_may new next ≡ contents_may old contents
    contents_may_same None None e = refl
    contents_may_same None (Some n) e = absurd (let h = e in cc)
    contents_may_same (Some l) None e = absurd (let h = e in cc)
    contents_may_same (Some l) (Some n) e = let place : place_of n ≡ place_of l = cc in may_tell_same l n place

    size_same : (contents next : Option Listing) → option_map place_of next ≡ option_map place_of contents → size_in new next ≡ size_in old contents
    size_same None None e = refl
    size_same None (Some n) e = absurd (let h = e in cc)
    size_same (Some l) None e = absurd (let h = e in cc)
    size_same (Some l) (Some n) e = let place : place_of n ≡ place_of l = cc in λ i. min (sum_by row_size (shown_same l n place i)) (2 ^ 64 - 1)

  -- a set whose rows are read where they were tells what it told
  module _ (old new : FileSet D g) (same : IsSameSet old new) where
    rows_same : (table : TableName) → rows_told new.source new.names new.tiles new.contents table ≡ rows_told old.source old.names old.tiles old.contents table
    rows_same table = λ i. cond (table_eq table Metadata) ((same.names i).rows Metadata)
        (cond (table_eq (same.tiles i).0 table) (shown_same old.source new.source same.usable same.pages old.tiles new.tiles same.tiles i)
        (contents_same old.source new.source same.usable same.pages old.contents new.contents same.contents table i))

    pub told_same : told_by_set new ≡ told_by_set old
    unfolding told_by_set
    told_same = λ i. record { descriptions = set_tables (same.layout i); rows = λ table. rows_same table i }

    pub may_same : may_be_told new ≡ may_be_told old
    unfolding may_be_told
    may_same = λ i. may_tell_same old.source new.source same.usable same.pages old.tiles new.tiles same.tiles i
        && contents_may_same old.source new.source same.usable same.pages old.contents new.contents same.contents i

    pub tells_same : (is_true : Bool) → tells_by_set is_true new ≡ tells_by_set is_true old
    unfolding tells_by_set
    tells_same is_true = ap (λ (b : Bool). is_true && b) may_same

    pub contents_size_same : contents_size new ≡ contents_size old
    unfolding contents_size
    contents_size_same = size_same old.source new.source same.usable same.pages old.contents new.contents same.contents

    pub tiles_size_same : tiles_size new ≡ tiles_size old
    unfolding tiles_size
    tiles_size_same = λ i. min (sum_by row_size (shown_same old.source new.source same.usable same.pages old.tiles new.tiles same.tiles i)) (2 ^ 64 - 1)

    -- so a call that keeps it only reads
    pub reads_set : (is_true : Bool) → old.faults.count ≤ new.faults.count → ReadsOnly told_by_set (tells_by_set is_true) (λ (s : FileSet D g). s.faults.count) (λ (s : FileSet D g). ⊥) old new
    reads_set is_true later = record { told = told_same; tells = tells_same is_true; faults = later; steady = λ never. never; calm = λ never. absurd never }

    pub keeps_set : (is_true : Bool) → old.faults.count ≤ new.faults.count → Keeps (tells_by_set is_true) (λ (s : FileSet D g). s.faults.count) (λ (s : FileSet D g). ⊥) old new
    keeps_set is_true later = record { tells = tells_same is_true; faults = later; steady = λ never. never; calm = λ never. absurd never }

  pub same_trans : (a b c : FileSet D g) → IsSameSet a b → IsSameSet b c → IsSameSet a c
  same_trans a b c first second = record {
    layout = second.layout ∙ first.layout;
    usable = second.usable ∙ first.usable;
    pages = second.pages ∙ first.pages;
    names = second.names ∙ first.names;
    tiles = second.tiles ∙ first.tiles;
    contents = second.contents ∙ first.contents;
  }

  -- a set of which no more than its faults differ
  pub same_but : (old mid new : FileSet D g) → new.layout ≡ mid.layout → new.source ≡ mid.source → new.names ≡ mid.names → new.tiles ≡ mid.tiles → new.contents ≡ mid.contents → IsSameSet old mid → IsSameSet old new
  same_but old mid new layout source names tiles contents same = record {
    layout = layout ∙ same.layout;
    usable = ap (λ (s : Source D g). s.pages.usable) source ∙ same.usable;
    pages = ap (λ (s : Source D g). pages_of s.pages) source ∙ same.pages;
    names = ap told_of names ∙ same.names;
    tiles = ap place_of tiles ∙ same.tiles;
    contents = ap (option_map place_of) contents ∙ same.contents;
  }

  pub same_first : (set : FileSet D g) → IsSameSet set set
  same_first set = record { layout = refl; usable = refl; pages = refl; names = refl; tiles = refl; contents = refl }

  -- a call whose answer is counted only reads
  pub reads_after : (is_true : Bool) (old mid new : FileSet D g) → IsSameSet old mid → mid.faults ≡ old.faults → mid.faults.count ≤ new.faults.count
      → new.layout ≡ mid.layout → new.source ≡ mid.source → new.names ≡ mid.names → new.tiles ≡ mid.tiles → new.contents ≡ mid.contents
      → ReadsOnly told_by_set (tells_by_set is_true) (λ (s : FileSet D g). s.faults.count) (λ (s : FileSet D g). ⊥) old new
  reads_after is_true old mid new same stood later layout source names tiles contents =
      reads_set old new (same_but old mid new layout source names tiles contents same) is_true (subst (λ (f : Faults). f.count ≤ new.faults.count) stood later)

  -- of disks whose answers are true none was wrong
  pub trusted_by : ((disk : D) → IsTrue (g.is_clean disk)) → (pages : FilePages D g) → IsTrusted pages
  unfolding doubt
  trusted_by clean pages = subst (λ (b : Bool). doubt b ≡ 0) (sym (and_from _ _ (clean (files pages.pager).0) (clean (files pages.pager).1))) refl

  pub trusted : (is_true : Bool) → ((disk : D) → is_true ≡ true → IsTrue (g.is_clean disk)) → (set : FileSet D g) → tells_by_set is_true set ≡ true → (pages : FilePages D g) → IsTrusted pages
  unfolding tells_by_set
  trusted is_true clean set tells pages = trusted_by (λ disk. clean disk (and_parts is_true (may_be_told set) tells).0) pages

  pub may_by : (is_true : Bool) (set : FileSet D g) → tells_by_set is_true set ≡ true → may_be_told set ≡ true
  unfolding tells_by_set
  may_by is_true set tells = (and_parts is_true (may_be_told set) tells).1

-- the bytes of the rows of metadata, of places and of contents are those of all tables
module _ (metadata places contents : List (List Cell)) where
  all_rows : TableName → TableName → ℕ
  all_rows t u = sum_by (λ table. sum_by row_size (cond (table_eq table Metadata) metadata (cond (table_eq t table) places (cond (table_eq u table) contents [])))) all_tables

  places_alone : TableName → ℕ
  places_alone t = sum_by (λ table. sum_by row_size (cond (table_eq table Metadata) metadata (cond (table_eq t table) places []))) all_tables

  no_contents : (layout : MbtType) (t : TableName) → t ≡ tile_table layout → places_alone t ≡ sum_by row_size metadata + sum_by row_size places
  unfolding places_alone
  no_contents layout t is = ap places_alone is ∙ by layout
    where
      by : (layout : MbtType) → places_alone (tile_table layout) ≡ sum_by row_size metadata + sum_by row_size places
      by Flat = omega arith
      by FlatWithHash = omega arith
      by (Normalized view Hash) = omega arith
      by (Normalized view DedupId) = omega arith
      by Cache = omega arith

  with_contents : (layout : MbtType) (t u : TableName) → t ≡ tile_table layout → Some u ≡ option_map contents_of (schema_of layout)
      → all_rows t u ≡ sum_by row_size metadata + sum_by row_size places + sum_by row_size contents
  unfolding all_rows
  with_contents layout t u is own = ap (λ (t : TableName). all_rows t u) is ∙ by layout own
    where
      by : (layout : MbtType) → Some u ≡ option_map contents_of (schema_of layout) → all_rows (tile_table layout) u ≡ sum_by row_size metadata + sum_by row_size places + sum_by row_size contents
      by Flat e = absurd (let h = e in cc)
      by FlatWithHash e = absurd (let h = e in cc)
      by (Normalized view Hash) e = let same : u ≡ Images = cc in ap (all_rows Map) same ∙ omega arith
      by (Normalized view DedupId) e = let same : u ≡ TilesData = cc in ap (all_rows TilesShallow) same ∙ omega arith
      by Cache e = absurd (let h = e in cc)

-- a store of metadata has no other bytes
names_size : (names : MemStore) → HoldsNames names → live_size_of (told_of names) ≡ min (sum_by row_size ((told_of names).rows Metadata)) (2 ^ 64 - 1)
names_size names holds =
    let none = λ (table : TableName) (other : table_eq table Metadata ≡ false). ap (λ (rows : List (List Cell)). sum_by row_size rows) (holds.others table other) in
    omega (arith, none Tiles refl, none TilesWithHash refl, none Map refl, none Images refl, none TilesShallow refl, none TilesData refl, none TileCache refl)

module _ {D : Type 0} {g : Ghosts D} (set : FileSet D g) where
  rows_of : Listing → List (List Cell)
  rows_of listing = shown set.source.pages.usable (pages_of set.source.pages) listing

  all_sizes : (contents : Option Listing) → option_map (λ (l : Listing). l.table) contents ≡ option_map contents_of (schema_of set.layout) → (n p c : ℕ)
      → n ≡ min (sum_by row_size ((told_of set.names).rows Metadata)) (2 ^ 64 - 1) → p ≡ min (sum_by row_size (rows_of set.tiles)) (2 ^ 64 - 1) → c ≡ size_in set.source contents
      → min (min (n + p) (2 ^ 64 - 1) + c) (2 ^ 64 - 1) ≡ min (sum_by (λ table. sum_by row_size (rows_told set.source set.names set.tiles contents table)) all_tables) (2 ^ 64 - 1)
  unfolding places_alone all_rows rows_of
  all_sizes None own n p c is_n is_p is_c =
      let all = no_contents ((told_of set.names).rows Metadata) (rows_of set.tiles) [] set.layout set.tiles.table set.placed.places in
      omega (arith, is_n, is_p, is_c, all)
  all_sizes (Some l) own n p c is_n is_p is_c =
      let all = with_contents ((told_of set.names).rows Metadata) (rows_of set.tiles) (rows_of l) set.layout set.tiles.table l.table set.placed.places own in
      omega (arith, is_n, is_p, is_c, all)

  -- the sizes of the metadata, of places and of contents make that of what is told
  pub told_size : (n p c : ℕ) → n ≡ live_size_of (told_of set.names) → p ≡ tiles_size set → c ≡ contents_size set → min (min (n + p) (2 ^ 64 - 1) + c) (2 ^ 64 - 1) ≡ live_size_of (told_by_set set)
  unfolding tiles_size contents_size told_by_set rows_of
  told_size n p c is_n is_p is_c = all_sizes set.contents set.placed.beside n p c (is_n ∙ names_size set.names set.named) is_p is_c

-- the sizes of its parts, one call after the other, make that of what a set tells
pub sized_by : {D : Type 0} {g : Ghosts D} (old first mid : FileSet D g) (n p c : ℕ) → IsSameSet old first → IsSameSet first mid → n ≡ live_size_of (told_of old.names)
    → (may_be_told first ≡ true → p ≡ tiles_size first) → (may_be_told mid ≡ true → c ≡ contents_size mid) → may_be_told old ≡ true
    → min (min (n + p) (2 ^ 64 - 1) + c) (2 ^ 64 - 1) ≡ live_size_of (told_by_set old)
sized_by old first mid n p c one two is_n is_p is_c may =
    let both = same_trans old first mid one two in
    told_size old n p c is_n (is_p (may_same old first one ∙ may) ∙ tiles_size_same old first one) (is_c (may_same old mid both ∙ may) ∙ contents_size_same old mid both)
