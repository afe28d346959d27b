-- What is put into a cache.
use Rattle.std.specs.Prelude.{ℕ, ◌≡◌, ◌++◌, pos, ◌&&◌, ◌||◌, Bool, true, false, cond, not, List, [], ◌∷◌, Option, Some, None, Result, Ok, Err, option_copied, option_map}
use Rattle.std.specs.BTreeMap.{is_at}
use Rattle.mb_cache.specs.Common.{Blob, Cell, cell_at, Change, Commits, Coord, eq_by_cmp, front, Int, InvalidTileIndex, IsStrictlySortedBy, MbtError, Null, Place, place_at, Tables, text_cell}
use Rattle.mb_cache.specs.Common.{tile_key, TileCache}
use Rattle.std.specs.Set.{remove_key}
use Rattle.mb_cache.specs.Entries.{entry_at, has_entry}
use Rattle.mb_cache.specs.EntryOrder.{entry_cmp}
use Rattle.mb_cache.specs.declared.entries.Entry.{Entry}
use Rattle.mb_cache.specs.Finding.{coord_in}
use Rattle.mb_cache.specs.State.{row_at}
use Rattle.mb_cache.specs.declared.moments.CacheEntryMeta.{CacheEntryMeta}
use Rattle.mb_cache.specs.declared.moments.UnixSeconds.{UnixSeconds}

-- a moment as a cell, null where there is none
abbrev pub moment_cell : Option UnixSeconds → Cell
moment_cell None = Null
moment_cell (Some moment) = Int moment.0

-- the row of a tile: its place, what is kept beside its contents, and these
abbrev pub meta_row : Place → CacheEntryMeta → Cell → List Cell
meta_row p m contents = front p ++ moment_cell m.fetched ∷ moment_cell m.expires ∷ text_cell (option_copied m.etag) ∷ contents ∷ []

-- the one change that puts the row of a place
abbrev pub put_row : Place → List Cell → List Change
put_row p row = record { table = TileCache; key = tile_key p; row = Some row } ∷ []

-- of the place of a coordinate a row of these bytes stands alone, and all other rows stand as they stood
abbrev pub SetsTile : Option Coord → CacheEntryMeta → List ℕ → Tables → Tables → Type 0
SetsTile None m bytes old new = ⊥
SetsTile (Some c) m bytes old new = Commits (put_row (place_at c) (meta_row (place_at c) m (Blob bytes))) old new

-- where there is a row of the place, its contents stay, and all else of it is new; else nothing is changed. The
-- answer says whether there is
abbrev pub SetsMeta : Place → CacheEntryMeta → Option (List Cell) → Bool → Tables → Tables → Type 0
SetsMeta p m None is old new = (is ≡ false) × (new ≡ old)
SetsMeta p m (Some row) is old new = (is ≡ true) × Commits (put_row p (meta_row p m (cell_at 6 row))) old new

abbrev pub UpdatesMeta : Option Coord → CacheEntryMeta → Bool → Tables → Tables → Type 0
UpdatesMeta None m is old new = (is ≡ false) × (new ≡ old)
UpdatesMeta (Some c) m is old new = SetsMeta (place_at c) m (row_at old (place_at c)) is old new

-- three numbers that are no coordinate are refused with these numbers
abbrev pub answer_at : ℕ → ℕ → ℕ → Option Coord → Result (Unit {0}) MbtError
answer_at z x y None = Err (InvalidTileIndex (Int (pos z)) (Int (pos x)) (Int (pos y)))
answer_at z x y (Some c) = Ok tt

abbrev pub set_answer : ℕ → ℕ → ℕ → Result (Unit {0}) MbtError
set_answer z x y = answer_at z x y (coord_in z x y)

-- whether an entry is the old one of a place, and not also the new one
abbrev pub is_replaced : Option Entry → Entry → Entry → Bool
is_replaced None new e = false
is_replaced (Some old) new e = not (eq_by_cmp entry_cmp old new) && eq_by_cmp entry_cmp old e

-- entries without one that was added
abbrev pub taken_back : Bool → Entry → List Entry → List Entry
taken_back added e es = cond added (remove_key (is_at (entry_cmp e)) es) es

-- entries of a cache after a row was put at a place: that of its expiry is there, and the old one of the place
-- is gone, if there was one
pub record ReplacesEntry (p : Place) (expires : Option UnixSeconds) (old : Option Entry) (es fs : List Entry) : Type 0 where
  pub members : (e : Entry) → has_entry fs e ≡ ((eq_by_cmp entry_cmp e (entry_at p (moment_cell expires)) || has_entry es e) && not (is_replaced old (entry_at p (moment_cell expires)) e))
  pub ordered : IsStrictlySortedBy entry_cmp fs

-- the old entry of a place, by the row that was found there, if one was
abbrev pub old_entry : Place → Option (List Cell) → Option Entry
old_entry p row = option_map (λ row. entry_at p (cell_at 4 row)) row

-- what memory has gained and lost where a tile was put, also over a store that tells nothing: then the old entry is
-- that of some row, or of none
abbrev pub SetsEntry : Option Coord → CacheEntryMeta → List Entry → List Entry → Type 0
SetsEntry None m es fs = ⊥
SetsEntry (Some c) m es fs = (row : Option (List Cell)) × ReplacesEntry (place_at c) m.expires (old_entry (place_at c) row) es fs

-- the same where times and a tag were put: nothing where no row was found
abbrev pub UpdatesEntry : Option Coord → CacheEntryMeta → Bool → List Entry → List Entry → Type 0
UpdatesEntry None m is es fs = (is ≡ false) × (fs ≡ es)
UpdatesEntry (Some c) m false es fs = fs ≡ es
UpdatesEntry (Some c) m true es fs = (row : List Cell) × ReplacesEntry (place_at c) m.expires (old_entry (place_at c) (Some row)) es fs
