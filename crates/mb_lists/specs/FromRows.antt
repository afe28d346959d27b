-- What is kept of rows.
use Rattle.std.specs.Prelude.{◌≡◌, ℕ, ℤ, suc, false, cond, List, [], ◌∷◌, Option, Some, None, All, map, option_map}
use Rattle.mb_lists.specs.Common.{Cell, cell_at, cell_cmp, cons_option, Coord, Int, is_null, IsPermutation, Null, tile_index}
use Rattle.mb_lists.specs.Entries.{AreContentsInOrder, id_at, is_content_gone, is_removed}
use Rattle.mb_lists.specs.Keyed.{live_at}
use Rattle.mb_lists.specs.declared.dates.Dates.{Dates}
use Rattle.mb_lists.specs.declared.entries.StoredTile.{StoredTile}
use Rattle.mb_lists.specs.Metadata.{text_of}
use Rattle.mb_lists.specs.declared.entries.StoredName.{StoredName}
use Rattle.mb_lists.specs.declared.entries.Content.{Content}
use Rattle.mb_lists.specs.declared.entries.Standing.TheVariants.{Kept}

-- what is kept of a row of contents
abbrev pub content_from : List Cell → Content
content_from row = record { id = cell_at 0 row; cell = cell_at 1 row; standing = Kept }

-- what is kept of a row of metadata that has a name
abbrev pub named : Option (List ℕ) → Cell → Option StoredName
named (Some name) value = Some (record { name = name; value = value; standing = Kept })
named None value = None

abbrev pub name_from : List Cell → Option StoredName
name_from row = named (text_of (cell_at 0 row)) (cell_at 1 row)

-- the indexes, from a number on, of the contents that have an id
abbrev pub ids_from : ℕ → List Content → List ℕ
ids_from k [] = []
ids_from k (c ∷ cs) = cond (is_null c.id) (ids_from (suc k) cs) (k ∷ ids_from (suc k) cs)

-- the row of contents that are kept
abbrev pub row_kept : Content → List Cell
row_kept c = c.id ∷ c.cell ∷ []

abbrev pub rows_kept : List Content → List (List Cell)
rows_kept contents = map row_kept contents

-- contents with the order of their ids, none of them removed
pub record AreIndexed (contents : List Content) (live : ℕ) (order : List ℕ) : Type 0 where
  pub rising : AreContentsInOrder contents live order
  pub listed : IsPermutation (ids_from 0 contents) order
  pub present : All (λ c. is_removed c.standing ≡ false) contents

-- the index of the contents of an id
abbrev pub index_by : List Content → List ℕ → Cell → Option ℕ
index_by contents order id = live_at cell_cmp (id_at contents) (is_content_gone contents) id order

-- the coordinate of a row
abbrev pub number_in : Cell → Option ℤ
number_in (Int n) = Some n
number_in _ = None

abbrev pub coord_in : List Cell → Option Coord
coord_in row = tile_index (number_in (cell_at 0 row)) (number_in (cell_at 1 row)) (number_in (cell_at 2 row))

-- what is kept of a row of a tile with these times and the contents at an index
abbrev pub stored : Option Dates → ℕ → List Cell → Option StoredTile
stored dates i row = option_map (λ c. record { coord = c; contents = i; dates = dates; standing = Kept }) (coord_in row)

-- the contents of a row that has its own, no times, and the times of a row of a cache
abbrev pub own_content : ℕ → List Cell → Content
own_content n row = record { id = Null; cell = cell_at n row; standing = Kept }

abbrev pub undated : List Cell → Option Dates
undated row = None

abbrev pub dates_from : List Cell → Option Dates
dates_from row = Some (record { fetched = cell_at 3 row; expires = cell_at 4 row; etag = cell_at 5 row })

-- the tiles of rows that have their own contents, those of the first at an index, each with the times of its row
abbrev pub own_tiles : (List Cell → Option Dates) → ℕ → List (List Cell) → List StoredTile
own_tiles dates k [] = []
own_tiles dates k (row ∷ rows) = cons_option (stored (dates row) k row) (own_tiles dates (suc k) rows)

-- what is kept of a row of a tile whose contents have an id
abbrev pub by_index : List Cell → Option ℕ → Option StoredTile
by_index row (Some i) = stored None i row
by_index row None = None

abbrev pub stored_by_id : List Content → List ℕ → List Cell → Option StoredTile
stored_by_id contents order row = cond (is_null (cell_at 3 row)) None (by_index row (index_by contents order (cell_at 3 row)))
