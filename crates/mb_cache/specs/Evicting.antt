-- The changes that throw entries out of a cache.
use Rattle.std.specs.Prelude.{◌≡◌, List, None, All}
use Rattle.mb_cache.specs.Common.{Cell, Change, has_key, is_changed, list_any, tile_key, TileCache}
use Rattle.mb_cache.specs.Entries.{place_in}
use Rattle.mb_cache.specs.declared.entries.Entry.{Entry}

-- a change that removes the rows of a key of the cache
pub record IsDelete (c : Change) : Type 0 where
  pub table : c.table ≡ TileCache
  pub row : c.row ≡ None

-- all changes remove rows, and the rows that have the place of one of the entries are those of their keys
pub record AreDeletes (es : List Entry) (changes : List Change) : Type 0 where
  pub deletes : All IsDelete changes
  pub rows : (row : List Cell) → is_changed changes TileCache row ≡ list_any (λ e. has_key TileCache (tile_key (place_in e)) row) es
