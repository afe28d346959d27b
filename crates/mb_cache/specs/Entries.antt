-- The entries of a cache, and the rows that they stand for.
use Rattle.std.specs.Prelude.{◌≡◌, pos, ◌==◌, ◌&&◌, Bool, true, false, int_lt, List, is_some, unwrap_or}
use Rattle.mb_cache.specs.Common.{Cache, Cell, cell_at, eq_by_cmp, has_tile_kinds, Int, list_any, Place, place_of, tile_of}
use Rattle.mb_cache.specs.EntryOrder.{entry_cmp}
use Rattle.mb_cache.specs.declared.entries.Entry.{Entry}
use Rattle.mb_cache.specs.declared.moments.UnixSeconds.{UnixSeconds}

-- the entry of a place whose expiry is in a cell; a cell that is no number stands for never
abbrev pub entry_at : Place → Cell → Entry
entry_at p (Int n) = record { group = 0; expires = n; zoom = p.zoom; column = p.column; row = p.row }
entry_at p _ = record { group = 1; expires = pos 0; zoom = p.zoom; column = p.column; row = p.row }

abbrev pub place_in : Entry → Place
place_in e = record { zoom = e.zoom; column = e.column; row = e.row }

-- the place of a row that has one
abbrev pub row_place : List Cell → Place
row_place row = unwrap_or (place_of row) (record { zoom = 0; column = 0; row = 0 })

-- the entry of a row: its place, and the expiry in its fifth cell
abbrev pub entry_of : List Cell → Entry
entry_of row = entry_at (row_place row) (cell_at 4 row)

-- whether an entry expires before a moment
abbrev pub is_expired_entry : UnixSeconds → Entry → Bool
is_expired_entry now e = (e.group == 0) && int_lt e.expires now.0

-- the same of an expiry in a cell
abbrev pub is_expired : UnixSeconds → Cell → Bool
is_expired now (Int n) = int_lt n now.0
is_expired now _ = false

-- whether a list has an entry
abbrev pub has_entry : List Entry → Entry → Bool
has_entry es e = list_any (eq_by_cmp entry_cmp e) es

-- a row that loading accepts: a place of zoom 0 to 30 with bytes or null, and times of their kinds
pub record IsCacheRow (row : List Cell) : Type 0 where
  pub place : is_some (tile_of row (cell_at 6 row)) ≡ true
  pub kinds : has_tile_kinds Cache row ≡ true
