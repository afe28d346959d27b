-- Where the last page of rows ended.
use Rattle.std.specs.Prelude.{◌≡◌, List, IfSome, drop, filter}
use Rattle.std.specs.Ordering.{is_le}
use Rattle.mb_store.specs.ByTable.{at}
use Rattle.mb_store.specs.MemTables.{MemTables}
use Rattle.mb_store.specs.StoredRow.{Stored, stored_cmp}
use Rattle.mb_store.specs.declared.bookmark.Bookmark.{Bookmark}
use Rattle.mb_store.specs.declared.bookmark.Place.{Place}

-- the key stands at the number: the rows that aren't below it are those behind so many
pub record IsPlaced (keys : List Stored) (p : Place) : Type 0 where
  pub rows : filter (λ s. is_le (stored_cmp p.key s)) keys ≡ drop p.number keys

-- a bookmark's key stands at its number in the rows of its table
abbrev pub IsMarked : MemTables → Bookmark → Type 0
IsMarked m b = IfSome b.place (λ p. IsPlaced (at m p.table).stored.keys p)
