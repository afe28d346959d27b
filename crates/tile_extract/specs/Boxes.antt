-- Boxes of the columns and rows of a zoom, and the ids of their tiles.
use Rattle.std.specs.Prelude.{◌≡◌, ◌≤◌, ℕ, ◌+◌, ◌-◌, ◌*◌, ◌^◌, Bool, true, false, ◌&&◌, nat_eq, nat_le, max, min, List, [], ◌∷◌, refl}
use Rattle.tile_extract.specs.Common.{Coord, Header, list_any, MAX_TILE_ID}
unfoldable use Rattle.tile_extract.specs.Common.{coord_of}
use Rattle.tile_extract.specs.declared.zoom_box.ZoomBox.{ZoomBox}

-- a tile is of the zoom of a box, and in one of its columns and one of its rows
abbrev pub box_holds : Coord → ZoomBox → Bool
box_holds c b = nat_eq b.zoom c.z && nat_le b.min_x c.x && nat_le c.x b.max_x && nat_le b.min_y c.y && nat_le c.y b.max_y

abbrev pub in_boxes : List ZoomBox → Coord → Bool
in_boxes boxes c = list_any (box_holds c) boxes

-- an id is that of a tile that one of some boxes has
abbrev pub boxes_hold : List ZoomBox → ℕ → Bool
boxes_hold boxes id = nat_le id MAX_TILE_ID && in_boxes boxes (coord_of id)

-- intervals of at least one id, in order, from an id on, with an id between each two that lies in none of them
abbrev pub AreParted : ℕ → List (ℕ × ℕ) → Type 0
AreParted low [] = Unit {0}
AreParted low (i ∷ is) = (low ≤ i.0) × (i.0 ≤ i.1) × AreParted (i.1 + 2) is

-- the least and the greatest zoom of boxes, 0 where there is none
abbrev pub widened : ℕ × ℕ → List ZoomBox → ℕ × ℕ
widened zooms [] = zooms
widened zooms (b ∷ boxes) = widened (min zooms.0 b.zoom, max zooms.1 b.zoom) boxes

abbrev pub zooms_of : List ZoomBox → ℕ × ℕ
zooms_of [] = (0, 0)
zooms_of (b ∷ boxes) = widened (b.zoom, b.zoom) boxes

-- a box is of one of the zooms that the header of an archive says
abbrev pub is_said : Header → ZoomBox → Bool
is_said h b = nat_le h.min_zoom b.zoom && nat_le b.zoom h.max_zoom

-- the columns and rows of a tile's descendants at a zoom
abbrev pub area_of : Coord → ℕ → ZoomBox
area_of c zoom =
    let side = 2 ^ (zoom - c.z) in
    record { zoom = zoom; min_x = c.x * side; min_y = c.y * side; max_x = c.x * side + (side - 1); max_y = c.y * side + (side - 1) }

-- a box has a tile of an area, unless one of them has none, and all tiles of it
abbrev pub box_meets : ZoomBox → ZoomBox → Bool
box_meets area b = nat_eq b.zoom area.zoom && nat_le b.min_x area.max_x && nat_le area.min_x b.max_x && nat_le b.min_y area.max_y && nat_le area.min_y b.max_y

abbrev pub box_covers : ZoomBox → ZoomBox → Bool
box_covers area b = nat_eq b.zoom area.zoom && nat_le b.min_x area.min_x && nat_le area.max_x b.max_x && nat_le b.min_y area.min_y && nat_le area.max_y b.max_y

-- two columns and three rows of zoom 2, and other zooms
abbrev pub some_box : ZoomBox
some_box = record { zoom = 2; min_x = 1; min_y = 0; max_x = 2; max_y = 2 }

pub corner_held : box_holds (record { z = 2; x = 2; y = 2 }) some_box ≡ true
corner_held = refl

pub next_column : box_holds (record { z = 2; x = 3; y = 2 }) some_box ≡ false
next_column = refl

pub next_row : box_holds (record { z = 2; x = 2; y = 3 }) some_box ≡ false
next_row = refl

pub other_zoom : box_holds (record { z = 3; x = 2; y = 2 }) some_box ≡ false
other_zoom = refl
