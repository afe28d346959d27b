-- Which tiles of a set a copier takes: by their zoom, and by boxes at zoom 30.
use Rattle.std.specs.Prelude.{ℕ, ◌-◌, ◌*◌, ◌^◌, ◌==◌, ◌&&◌, Bool, true, nat_le, nat_lt, List, [], ◌∷◌, Option, Some, None}
use Rattle.mb_copy.specs.Common.{list_any, Place}
use Rattle.mb_copy.specs.CopyWords.{copies_tiles}
use Rattle.mb_copy.specs.declared.copier.MbtilesCopier.{MbtilesCopier}
use Rattle.mb_copy.specs.declared.tile_box.TileBox.{TileBox}

-- a number is at least, and at most, another one, where that is given
abbrev pub is_from : Option ℕ → ℕ → Bool
is_from (Some least) n = nat_le least n
is_from None n = true

abbrev pub is_up_to : Option ℕ → ℕ → Bool
is_up_to (Some greatest) n = nat_le n greatest
is_up_to None n = true

-- a zoom is one of a list; where that is empty, it lies within two bounds
abbrev pub zoom_passes : List ℕ → Option ℕ → Option ℕ → ℕ → Bool
zoom_passes [] least greatest zoom = is_from least zoom && is_up_to greatest zoom
zoom_passes (level ∷ levels) least greatest zoom = list_any (λ level. level == zoom) (level ∷ levels)

abbrev pub is_wanted_zoom : MbtilesCopier → ℕ → Bool
is_wanted_zoom c zoom = zoom_passes c.zoom_levels c.min_zoom c.max_zoom zoom

-- a column or row of a zoom as the first one of zoom 30 that lies in it
abbrev pub scaled : ℕ → ℕ → ℕ
scaled zoom n = n * 2 ^ (30 - zoom)

-- a row of zoom 30 counted from the other side
abbrev pub turned : ℕ → ℕ
turned n = 2 ^ 30 - 1 - n

abbrev pub is_within : ℕ → ℕ → ℕ → Bool
is_within least greatest n = nat_le least n && nat_le n greatest

-- all four numbers of a box are of zoom 30
abbrev pub is_on_grid : TileBox → Bool
is_on_grid b = nat_lt b.min_x (2 ^ 30) && nat_lt b.max_x (2 ^ 30) && nat_lt b.min_y (2 ^ 30) && nat_lt b.max_y (2 ^ 30)

-- a box, whose rows are counted from the top, holds a place, whose row is counted from the bottom
abbrev pub box_holds : Place → TileBox → Bool
box_holds p b = is_on_grid b && is_within b.min_x b.max_x (scaled p.zoom p.column) && is_within (turned b.max_y) (turned b.min_y) (scaled p.zoom p.row)

-- a place is held by one of a list of boxes, or the list is empty
abbrev pub place_passes : List TileBox → Place → Bool
place_passes [] p = true
place_passes (box ∷ boxes) p = list_any (box_holds p) (box ∷ boxes)

abbrev pub is_wanted_place : MbtilesCopier → Place → Bool
is_wanted_place c p = place_passes c.bbox p

-- whether a tile at a place is copied, where the set has one
abbrev pub is_chosen : MbtilesCopier → Place → Bool
is_chosen c p = copies_tiles c.copy && is_wanted_zoom c p.zoom && is_wanted_place c p
