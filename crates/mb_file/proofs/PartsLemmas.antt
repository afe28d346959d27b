-- The parts of a set, by what a catalog lists.
use Rattle.std.proofs.Common.{ap, Bool, Err, find, IfOk, IfSome, List, map, MatchOption, None, Ok, Option, option_map, refl, Result, Some, subst, subst₂, sym, ℕ, [], ◌∙◌, ◌∷◌, ◌≡◌}
use Rattle.sqlite_btree.specs.Check.{IsChecked}
use Rattle.sqlite_btree.specs.Cut.{Each}
use Rattle.sqlite_btree.specs.Stored.{IsTable}
use Rattle.sqlite_pages.specs.PageMap.{PageMap}
use Rattle.sqlite_record.specs.Strict as strict
use Rattle.sqlite_value.specs.Order.{Row}
use Rattle.mb_reading.specs.Filling.{filled, noted, Read, read_on}
use Rattle.mb_reading.specs.Master.{first_layout}
use Rattle.mb_reading.specs.declared.left_out.LeftOut.{LeftOut}
use Rattle.mb_store.specs.MemStore.{told_of}
use Rattle.mb_store.specs.declared.mem_store.MemStore.{MemStore}
use Rattle.mb_tables.specs.Table.{Tables}
use Rattle.mb_tables.specs.declared.cell.Cell.{Cell}
use Rattle.mb_tables.specs.declared.kind.MbtType.{MbtType}
use Rattle.mb_tables.specs.declared.table.TableName.{TableName}
use Rattle.mb_tables.specs.declared.table.TableName.TheVariants.{Metadata}
use Rattle.mb_file.specs.Catalog.{Entry, entry_of, is_entry, IsCatalog, records}
use Rattle.mb_file.specs.Columns.{AreColumnsBy, HasRowids}
use Rattle.mb_file.specs.Cursor.{Stored}
use Rattle.mb_file.specs.Held.{HoldsMetadata, HoldsRows, IsTableAt, named_rows}
use Rattle.mb_file.specs.Metadata.{AreNames, held_in, names_in, no_names}
use Rattle.mb_file.specs.Parts.{AreParts, HoldsParts, IsPlaced}
use Rattle.mb_file.specs.declared.catalog.Catalog.{Catalog}
use Rattle.mb_file.specs.declared.catalog.Listed.{Listed}
use Rattle.mb_file.specs.declared.error.FileError.{FileError}
use Rattle.mb_file.specs.declared.listing.Listing.{Listing}
use Rattle.mb_file.specs.declared.opening.Parts.{Parts}
use Rattle.mb_file.specs.declared.set_table.SetTable.{SetTable}

-- the entry of a table that a catalog has
pub found_in : (entries : List Entry) (table : TableName) (o : Option Listed) (listed : Listed) → option_map entry_of o ≡ find (is_entry table) entries → o ≡ Some listed
    → find (is_entry table) entries ≡ Some (entry_of listed)
found_in entries table o listed finds is = sym finds ∙ ap (option_map entry_of) is

-- a table of a set is where that entry says
pub table_at : (entries : List Entry) (table : TableName) (listed : Listed) (of : SetTable) (listing : Listing) → find (is_entry table) entries ≡ Some (entry_of listed) → of.root ≡ listed.root
    → listing.table ≡ table → listing.of ≡ of → (of.columns.key ≡ None → AreColumnsBy table listed.text.items of.columns) → IsPlaced entries listing
table_at entries table listed of listing found root is_table is_of made = λ rowids.
    subst₂ (λ (t : TableName) (o : SetTable). IsTableAt entries t o.root o.columns) (sym is_table) (sym is_of) (record {
      entry = entry_of listed;
      listed = found;
      rooted = root;
      made = made (ap (λ (o : SetTable). o.columns.key) (sym is_of) ∙ rowids);
    })

-- the tables of what is read are filled
tables_read : (table : TableName) (x : Read) (answers : List Row) → (read_on table x answers).0 ≡ filled table x.0 answers
tables_read table x [] = refl
tables_read table x (answer ∷ answers) = tables_read table (noted table x answer) answers

-- the rows of metadata, by the entry of its table
abbrev HeldBy : ℕ → PageMap → List Entry → List (List Cell) → Option Entry → Type 0
HeldBy usable pages entries rows o = MatchOption o (rows ≡ []) (λ (entry : Entry). HasRowids entry.2 → HoldsRows usable pages entries Metadata named_rows rows)

pub metadata_held : (usable : ℕ) (pages : PageMap) (entries : List Entry) (listed : Option Listed) (names : MemStore) (before after : LeftOut) → option_map entry_of listed ≡ find (is_entry Metadata) entries
    → AreNames usable pages listed (no_names, before) (held_in names after) → HoldsMetadata usable pages entries ((told_of names).rows Metadata)
metadata_held usable pages entries None names before after finds are =
    subst (HeldBy usable pages entries ((told_of names).rows Metadata)) finds (ap (λ (x : Read). x.0.rows Metadata) are)
metadata_held usable pages entries (Some listed) names before after finds are = subst (HeldBy usable pages entries ((told_of names).rows Metadata)) finds (λ own.
    let there = are own in record {
      root = listed.root;
      columns = there.0;
      stored = there.1.rows;
      placed = record { entry = entry_of listed; listed = sym finds; rooted = refl; made = there.1.made };
      has = record { layout = there.1.layout; laid = there.1.laid; stored = there.1.stored };
      read = ap (λ (x : Read). x.0.rows Metadata) there.1.read ∙ ap (λ (t : Tables). t.rows Metadata) (tables_read Metadata (no_names, before) (names_in there.0 there.1.rows));
    })

-- the parts that a catalog lists
pub parts_listed : (usable : ℕ) (pages : PageMap) (master : List Row) (entries : List Entry) (layout : MbtType) (names : MemStore) (result : Result Parts FileError) → first_layout master ≡ Some layout
    → HoldsMetadata usable pages entries ((told_of names).rows Metadata) → IfOk result (λ parts. parts.layout ≡ layout) → IfOk result (λ parts. IsPlaced entries parts.tiles)
    → IfOk result (λ parts. IfSome parts.contents (IsPlaced entries)) → IfOk result (λ parts. parts.names ≡ names) → IfOk result (AreParts usable pages master entries)
parts_listed usable pages master entries layout names (Err e) first held is tiles contents same = tt
parts_listed usable pages master entries layout names (Ok parts) first held is tiles contents same = record {
  first = first ∙ ap Some (sym is);
  tiles = tiles;
  contents = contents;
  names = subst (λ (store : MemStore). HoldsMetadata usable pages entries ((told_of store).rows Metadata)) (sym same) held;
}

-- the parts that pages hold, by the catalog that was read of them
pub parts_held : (usable : ℕ) (pages : PageMap) (old new : List Bool) (count : ℕ) (catalog : Catalog) (result : Result Parts FileError)
    → (checked : IsChecked pages old new (λ layout. (rows : List Stored) × IsTable usable layout 1 rows × Each (λ row. strict.IsRecord row.1) rows))
    → IsCatalog count (records checked.fact.0) catalog → IfOk result (AreParts usable pages catalog.master.items (map entry_of catalog.tables.items)) → IfOk result (HoldsParts usable pages)
parts_held usable pages old new count catalog (Err e) checked lists are = tt
parts_held usable pages old new count catalog (Ok parts) checked lists are = record {
  schema = records checked.fact.0;
  lists = record {
    rows = checked.fact.0;
    stored = record { layout = checked.layout; laid = checked.laid; stored = checked.fact.1 };
    read = refl;
    once = lists.once;
  };
  are = subst₂ (λ (master : List Row) (entries : List Entry). AreParts usable pages master entries parts) lists.master lists.tables are;
}
