-- Rows that are tiles.
use Rattle.mb_constraints.proofs.Common.{ap, Cell, contents_of, Coord, coord_in, is_some, List, None, Option, option_map, Place, place_at, place_is, place_of, refl, Some, sym, tile_of, ℕ, ◌&&◌, ◌∙◌}
use Rattle.mb_constraints.proofs.Common.{◌≡◌}

-- a tile needs a place and contents
both_parts : (row : List Cell) (cell : Cell) (p : Option Place) (c : Option (Option (List ℕ))) → place_of row ≡ p → contents_of cell ≡ c → is_some (tile_of row cell) ≡ (is_some p && is_some c)
both_parts row cell None None e f = simp (e, f)
both_parts row cell None (Some c) e f = simp (e, f)
both_parts row cell (Some p) None e f = simp (e, f)
both_parts row cell (Some p) (Some c) e f = simp (e, f)

has_place : (o : Option Coord) → is_some (option_map place_at o) ≡ is_some o
has_place None = refl
has_place (Some c) = refl

pub tile_parts : (row : List Cell) (cell : Cell) → is_some (tile_of row cell) ≡ (is_some (coord_in row) && is_some (contents_of cell))
tile_parts row cell = both_parts row cell (place_of row) (contents_of cell) refl refl ∙ ap (λ b. b && is_some (contents_of cell)) (ap is_some (sym (place_is row)) ∙ has_place (coord_in row))
