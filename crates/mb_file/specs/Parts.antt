-- The parts of a set, by the rows of the schema that list them.
use Rattle.std.specs.Prelude.{◌≡◌, ℕ, List, None, filter_map, Some, IfSome}
use Rattle.sqlite_pages.specs.PageMap.{PageMap}
use Rattle.sqlite_value.specs.Order.{Row}
use Rattle.mb_reading.specs.Master.{first_layout}
use Rattle.mb_store.specs.MemStore.{told_of}
use Rattle.mb_tables.specs.declared.table.TableName.TheVariants.{Metadata}
use Rattle.mb_file.specs.Catalog.{Entry, entry_in, master_in}
use Rattle.mb_file.specs.Held.{HoldsMetadata, IsSchema, IsTableAt}
use Rattle.mb_file.specs.declared.listing.Listing.{Listing}
use Rattle.mb_file.specs.declared.opening.Parts.{Parts}

-- a table of a set, where it has rowids, is one that entries list
abbrev pub IsPlaced : List Entry → Listing → Type 0
IsPlaced entries listing = listing.of.columns.key ≡ None → IsTableAt entries listing.table listing.of.root listing.of.columns

-- the parts are those of the layout in which a set is read first, by its tables and views and the entries of its tables
pub record AreParts (usable : ℕ) (pages : PageMap) (master : List Row) (entries : List Entry) (parts : Parts) : Type 0 where
  pub first : first_layout master ≡ Some parts.layout
  pub tiles : IsPlaced entries parts.tiles
  pub contents : IfSome parts.contents (IsPlaced entries)
  pub names : HoldsMetadata usable pages entries ((told_of parts.names).rows Metadata)

-- the parts are those of the set that pages hold
pub record HoldsParts (usable : ℕ) (pages : PageMap) (parts : Parts) : Type 0 where
  pub schema : List Row
  pub lists : IsSchema usable pages schema
  pub are : AreParts usable pages (filter_map master_in schema) (filter_map entry_in schema) parts
