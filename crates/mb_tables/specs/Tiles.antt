-- The set of tiles that tables hold.
use Rattle.std.specs.Prelude.{ℕ, ◌^◌, pos, Bool, true, false, cond, nat_lt, List, [], ◌∷◌, Option, Some, None, filter_map, find, unwrap_or, suc, zero}
use Rattle.mb_tables.specs.Common.{FinMap, from_entries, get, nat_cmp, Ordering, ordering_then, retain_keys}
use Rattle.mb_tables.specs.Cell.{cell_eq, is_null}
use Rattle.mb_tables.specs.Table.{Tables}
use Rattle.mb_tables.specs.declared.cell.Cell.{Cell}
use Rattle.mb_tables.specs.declared.cell.Cell.TheVariants.{Null, Int, Blob}
use Rattle.mb_tables.specs.declared.kind.MbtType.{MbtType}
use Rattle.mb_tables.specs.declared.kind.MbtType.TheVariants.{Flat, FlatWithHash, Normalized, Cache}
use Rattle.mb_tables.specs.declared.kind.NormalizedSchema.TheVariants.{Hash, DedupId}
use Rattle.mb_tables.specs.declared.table.TableName.TheVariants.{Tiles, TilesWithHash, Map, Images, TilesShallow, TilesData, TileCache}

-- a place in a tile set: zoom, column, and row counted from the bottom
pub record Place : Type 0 where
  pub zoom : ℕ
  pub column : ℕ
  pub row : ℕ

-- by zoom, then column, then row
abbrev pub place_cmp : Place → Place → Ordering
place_cmp a b = ordering_then (nat_cmp a.zoom b.zoom) (ordering_then (nat_cmp a.column b.column) (nat_cmp a.row b.row))

-- a set of tiles: from places to bytes, or to null
abbrev pub TileSet : Type 0
TileSet = FinMap place_cmp (Option (List ℕ))

-- the cell of a row, Null past its end
abbrev pub cell_at : ℕ → List Cell → Cell
cell_at n [] = Null
cell_at zero (c ∷ cs) = c
cell_at (suc n) (c ∷ cs) = cell_at n cs

-- a number from 0 to below a limit
abbrev pub number_below : ℕ → Cell → Option ℕ
number_below limit (Int (pos n)) = cond (nat_lt n limit) (Some n) None
number_below limit _ = None

-- a place of zoom 0 to 30, its column and row below two to the zoom
abbrev pub place_of : List Cell → Option Place
place_of row = zoomed (number_below 31 (cell_at 0 row))
  where
    placed : ℕ → Option ℕ → Option ℕ → Option Place
    placed zoom (Some column) (Some line) = Some (record { zoom = zoom; column = column; row = line })
    placed zoom _ _ = None

    zoomed : Option ℕ → Option Place
    zoomed None = None
    zoomed (Some zoom) = placed zoom (number_below (2 ^ zoom) (cell_at 1 row)) (number_below (2 ^ zoom) (cell_at 2 row))

-- bytes, or null
abbrev pub contents_of : Cell → Option (Option (List ℕ))
contents_of (Blob bytes) = Some (Some bytes)
contents_of Null = Some None
contents_of _ = None

-- the tile of a row that begins with a place, where its contents are this cell. None where the place
-- or the contents are none
abbrev pub tile_of : List Cell → Cell → Option (Place × Option (List ℕ))
tile_of row cell = both (place_of row) (contents_of cell)
  where
    both : Option Place → Option (Option (List ℕ)) → Option (Place × Option (List ℕ))
    both (Some place) (Some contents) = Some (place, contents)
    both _ _ = None

-- one pair for each row, its contents in the column of this number
abbrev pub pairs_at : ℕ → List (List Cell) → List (Place × Option (List ℕ))
pairs_at n rows = filter_map (λ row. tile_of row (cell_at n row)) rows

-- the content cell under an id, Null where there is none
abbrev pub content_of : List (List Cell) → Cell → Cell
content_of contents id = cell_at 1 (unwrap_or (find (λ row. cell_eq (cell_at 0 row) id) contents) [])

-- one pair for each row with an id, its contents those of the id
abbrev pub pairs_by_id : List (List Cell) → List (List Cell) → List (Place × Option (List ℕ))
pairs_by_id rows contents = filter_map (λ row. cond (is_null (cell_at 3 row)) None (tile_of row (content_of contents (cell_at 3 row)))) rows

-- the tiles of tables of a layout, in the order of their rows
abbrev pub pairs_of : MbtType → Tables → List (Place × Option (List ℕ))
pairs_of Flat t = pairs_at 3 (t.rows Tiles)
pairs_of FlatWithHash t = pairs_at 3 (t.rows TilesWithHash)
pairs_of (Normalized view Hash) t = pairs_by_id (t.rows Map) (t.rows Images)
pairs_of (Normalized view DedupId) t = pairs_by_id (t.rows TilesShallow) (t.rows TilesData)
pairs_of Cache t = pairs_at 6 (t.rows TileCache)

-- the set of tiles that tables of a layout hold
abbrev pub tiles_of : MbtType → Tables → TileSet
tiles_of layout t = from_entries (pairs_of layout t)

-- whether a tile has at least one byte
abbrev pub is_solid : Option (Option (List ℕ)) → Bool
is_solid (Some (Some (byte ∷ bytes))) = true
is_solid _ = false

-- the tiles of at least one byte
abbrev pub solid : TileSet → TileSet
solid t = retain_keys t (λ place. is_solid (get t place))
