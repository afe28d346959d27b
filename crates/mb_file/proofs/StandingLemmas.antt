-- The tables of a set stand from call to call.
use Rattle.std.proofs.Common.{ap, arith, IfSome, length, List, map, None, Option, Some, subst, subst₂, sym, ℕ, ◌<◌, ◌^◌, ◌∙◌, ◌≡◌}
use Rattle.std.proofs.Math.Logic.{∥∥₁_map}
use Rattle.sqlite_btree.proofs.StoredLemmas.{entries_at-stored}
use Rattle.sqlite_btree.specs.Chain.{Layout}
use Rattle.sqlite_btree.specs.Stored.{as_row, IsLaidIn, IsTable}
use Rattle.sqlite_disk.specs.declared.Disk.{Ghosts}
use Rattle.sqlite_pages.specs.PageMap.{PageMap}
use Rattle.mb_tables.specs.declared.table.TableName.{TableName}
use Rattle.mb_file.specs.Cursor.{Stored}
use Rattle.mb_file.specs.FilePages.{GoesOn, IsTrusted, pages_of}
use Rattle.mb_file.specs.Listing.{IsListed}
use Rattle.mb_file.specs.Opening.{AreOpened, IsOpened}
use Rattle.mb_file.specs.SetTable.{set_rows}
use Rattle.mb_file.specs.Standing.{AllStand, IsStanding, rows_at, shown, Stands}
use Rattle.mb_file.specs.declared.listing.Listing.{Listing}
use Rattle.mb_file.specs.declared.opening.Parts.{Parts}
use Rattle.mb_file.specs.declared.set_table.SetTable.{SetTable}
use Rattle.mb_file.specs.declared.source.Source.{Source}

-- what pages that have a table read as
shows_rows : (usable root : ℕ) (pages : PageMap) (layout : Layout) (rows : List Stored) → IsLaidIn layout pages → IsTable usable layout root rows → rows_at usable pages root ≡ rows
shows_rows usable root pages layout rows laid table = ap (map as_row) (entries_at-stored pages laid table.stored) ∙ table.shows

module _ {D : Type 0} {g : Ghosts D} where
  -- a table that was opened stands
  pub stands_first : (source : Source D g) (listing : Listing) → (IsTrusted source.pages → IsOpened source.pages.usable (pages_of source.pages) listing) → Stands source listing
  stands_first source listing opened = λ trusted rowids few.
      let there = opened trusted rowids in
      let same : rows_at source.pages.usable (pages_of source.pages) listing.of.root ≡ there.rows = shows_rows source.pages.usable listing.of.root (pages_of source.pages) there.layout there.rows there.laid there.stored in
      record {
        layout = there.layout;
        laid = there.laid;
        stored = subst (IsTable source.pages.usable there.layout listing.of.root) (sym same) there.stored;
        listed = subst (λ (rows : List Stored). IsListed there.layout source.pages.usable (pages_of source.pages) source.secret listing.table rows listing) (sym same)
            (there.listed source.secret (subst (λ (rows : List Stored). length (set_rows listing.table listing.of.columns rows) < 2 ^ 64) same few));
      }

  -- the tables of a set that was opened stand
  pub opened_stands : (source : Source D g) (parts : Parts) → (IsTrusted source.pages → AreOpened source.pages.usable (pages_of source.pages) parts) → AllStand source parts.tiles parts.contents
  opened_stands source parts opened = record {
    of_tiles = stands_first source parts.tiles (λ trusted. (opened trusted).tiles);
    of_contents = by parts.contents (λ trusted. (opened trusted).contents);
  }
    where
      by : (contents : Option Listing) → (IsTrusted source.pages → IfSome contents (IsOpened source.pages.usable (pages_of source.pages))) → IfSome contents (Stands source)
      by None there = tt
      by (Some listing) there = stands_first source listing there

  module _ (old new : Source D g) (kept : GoesOn old.pages new.pages) (same : pages_of new.pages ≡ pages_of old.pages) (secret : new.secret ≡ old.secret) where
    clean_before : IsTrusted new.pages → IsTrusted old.pages
    clean_before trusted = omega (arith, trusted, kept.clean)

    -- one that a call leaves alone
    pub stands_still : (listing : Listing) → Stands old listing → Stands new listing
    stands_still listing stands = λ trusted rowids.
        subst (λ (s : ℕ). length (shown new.pages.usable (pages_of new.pages) listing) < 2 ^ 64 → IsStanding new.pages.usable (pages_of new.pages) s listing) (sym secret)
        (subst₂ (λ (u : ℕ) (p : PageMap). length (shown u p listing) < 2 ^ 64 → IsStanding u p old.secret listing) (sym kept.same_size) (sym same) (stands (clean_before trusted) rowids))

    -- one that is called
    pub stands_after : (listing next : Listing) (table : TableName) → listing.table ≡ table → next.of ≡ listing.of → next.table ≡ listing.table
        → (IsTrusted new.pages → (layout : Layout) (rows : List Stored) → IsLaidIn layout (pages_of old.pages) → IsTable old.pages.usable layout listing.of.root rows
        → IsListed layout old.pages.usable (pages_of old.pages) old.secret table rows listing → IsListed layout old.pages.usable (pages_of old.pages) old.secret table rows next)
        → Stands old listing → Stands new next
    stands_after listing next table is_table of_same table_same call stands = λ trusted rowids few.
        let u : ℕ = old.pages.usable in
        let p : PageMap = pages_of old.pages in
        let here : length (shown u p next) < 2 ^ 64 = subst₂ (λ (u : ℕ) (p : PageMap). length (shown u p next) < 2 ^ 64) kept.same_size same few in
        let own : length (shown u p listing) < 2 ^ 64 = subst₂ (λ (t : TableName) (o : SetTable). length (set_rows t o.columns (rows_at u p o.root)) < 2 ^ 64) table_same of_same here in
        let before : IsStanding u p old.secret listing = stands (clean_before trusted) (ap (λ (o : SetTable). o.columns.key) (sym of_same) ∙ rowids) own in
        let asked = subst (λ (t : TableName). IsListed before.layout u p old.secret t (rows_at u p listing.of.root) listing) is_table before.listed in
        let now = call trusted before.layout (rows_at u p listing.of.root) before.laid before.stored asked in
        let after : IsStanding u p old.secret next = record {
          layout = before.layout;
          laid = before.laid;
          stored = subst (λ (o : SetTable). IsTable u before.layout o.root (rows_at u p o.root)) (sym of_same) before.stored;
          listed = subst₂ (λ (t : TableName) (o : SetTable). IsListed before.layout u p old.secret t (rows_at u p o.root) next) (sym (table_same ∙ is_table)) (sym of_same) now;
        } in
        subst (λ (s : ℕ). IsStanding new.pages.usable (pages_of new.pages) s next) (sym secret)
        (subst₂ (λ (u : ℕ) (p : PageMap). IsStanding u p old.secret next) (sym kept.same_size) (sym same) after)

    -- the tables of a set, one of which is called
    abbrev pub Calls : Listing → Listing → TableName → Type 0
    Calls listing next table = IsTrusted new.pages → (layout : Layout) (rows : List Stored) → IsLaidIn layout (pages_of old.pages) → IsTable old.pages.usable layout listing.of.root rows
        → IsListed layout old.pages.usable (pages_of old.pages) old.secret table rows listing → IsListed layout old.pages.usable (pages_of old.pages) old.secret table rows next

    contents_still : (contents : Option Listing) → IfSome contents (Stands old) → IfSome contents (Stands new)
    contents_still None stands = tt
    contents_still (Some listing) stands = stands_still listing stands

    pub tiles_called : (tiles next : Listing) (contents : Option Listing) (table : TableName) → tiles.table ≡ table → next.of ≡ tiles.of → next.table ≡ tiles.table → Calls tiles next table
        → ∥ AllStand old tiles contents ∥₁ → ∥ AllStand new next contents ∥₁
    tiles_called tiles next contents table is_table of_same table_same call all =
        ∥∥₁_map all (λ stand. record { of_tiles = stands_after tiles next table is_table of_same table_same call stand.of_tiles; of_contents = contents_still contents stand.of_contents })

    pub contents_called : (tiles listing next : Listing) (contents : Option Listing) (table : TableName) → contents ≡ Some listing → listing.table ≡ table → next.of ≡ listing.of → next.table ≡ listing.table
        → Calls listing next table → ∥ AllStand old tiles contents ∥₁ → ∥ AllStand new tiles (Some next) ∥₁
    contents_called tiles listing next contents table there is_table of_same table_same call all =
        ∥∥₁_map all (λ stand. record {
          of_tiles = stands_still tiles stand.of_tiles;
          of_contents = stands_after listing next table is_table of_same table_same call (subst (λ (o : Option Listing). IfSome o (Stands old)) there stand.of_contents);
        })
