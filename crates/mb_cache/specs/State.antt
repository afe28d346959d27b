-- What a cache keeps in memory agrees with the tables that its store tells.
use Rattle.std.specs.Prelude.{◌≡◌, Bool, true, not, List, Option, Some, None, All, filter, find}
use Rattle.mb_cache.specs.Common.{Cache, Cell, eq_by_cmp, first_refusal, has_key, is_keyed, is_table, IsStrictlySortedBy, layout_of, list_any, Place, refusals, Tables, tile_key, TileCache, with_rows}
use Rattle.mb_cache.specs.Entries.{IsCacheRow, entry_of, has_entry}
use Rattle.mb_cache.specs.EntryOrder.{entry_cmp}
use Rattle.mb_cache.specs.declared.entries.Entry.{Entry}

-- the tables load, as a set of the layout Cache
pub record IsCacheSet (t : Tables) : Type 0 where
  pub layout : layout_of t.descriptions ≡ Some Cache
  pub passes : first_refusal (refusals Cache t) ≡ None

-- the tables load, and describe a cache whose index keeps its places apart, each row is one that loading accepts, and
-- the entries are those of the rows, each once, in the order in which they are thrown out
pub record Agrees (t : Tables) (es : List Entry) : Type 0 where
  pub set : IsCacheSet t
  pub table : is_table t.descriptions TileCache ≡ true
  pub keyed : is_keyed t.descriptions TileCache ≡ true
  pub rows : All IsCacheRow (t.rows TileCache)
  pub members : (e : Entry) → has_entry es e ≡ list_any (λ row. eq_by_cmp entry_cmp e (entry_of row)) (t.rows TileCache)
  pub ordered : IsStrictlySortedBy entry_cmp es

-- the row of a place
abbrev pub row_at : Tables → Place → Option (List Cell)
row_at t p = find (has_key TileCache (tile_key p)) (t.rows TileCache)

-- the tables with those rows of the cache alone that pass a test
abbrev pub with_passed : (List Cell → Bool) → Tables → Tables
with_passed p t = record { descriptions = t.descriptions; rows = with_rows t.rows TileCache (filter p (t.rows TileCache)) }

-- without the rows of entries
abbrev pub without : List Entry → Tables → Tables
without es t = with_passed (λ row. not (has_entry es (entry_of row))) t
