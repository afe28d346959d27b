-- Boxes of columns and rows of a zoom, by the words that say them.
use Rattle.std.specs.Prelude.{◌≡◌, ◌++◌, ◌+◌, ◌-◌, ◌^◌, ◌&&◌, ℕ, List, [], ◌∷◌, min, nat_eq, Option, Some, None, codes, if◌then◌else◌, refl}
use Rattle.std.specs.Option.{option_and_then, option_map}
use Rattle.tile_command.specs.Common.{number_to, TileBox, words_of, ZoomBox}
unfoldable use Rattle.tile_command.specs.Common.{parted}

-- the least and the greatest number that two words spell: the greatest is no more than a last one, and the least is
-- no more than the greatest
abbrev pub span_of : ℕ → List ℕ → List ℕ → Option (ℕ × ℕ)
span_of last least greatest = option_and_then (λ g. option_map (λ l. (l, g)) (number_to g least)) (number_to last greatest)

-- a box of a zoom, each of whose columns and rows is below two to the zoom
abbrev pub box_at : ℕ → List ℕ → List ℕ → List ℕ → List ℕ → Option ZoomBox
box_at zoom left top right bottom =
    option_and_then (λ columns. option_map (λ rows. record { zoom = zoom; min_x = columns.0; min_y = rows.0; max_x = columns.1; max_y = rows.1 })
    (span_of (2 ^ zoom - 1) top bottom)) (span_of (2 ^ zoom - 1) left right)

-- five numbers: the zoom, 0 to 30, the least column and row, and the greatest ones
abbrev pub box_by : List (List ℕ) → Option ZoomBox
box_by (zoom ∷ left ∷ top ∷ right ∷ bottom ∷ []) = option_and_then (λ z. box_at z left top right bottom) (number_to 30 zoom)
box_by _ = None

-- `Z XMIN YMIN XMAX YMAX`, numbers parted by one space
abbrev pub box_of : List ℕ → Option ZoomBox
box_of word = box_by (words_of word)

-- `XMIN YMIN XMAX YMAX`, columns and rows of zoom 30
abbrev pub place_box_by : List (List ℕ) → Option TileBox
place_box_by (left ∷ top ∷ right ∷ bottom ∷ []) =
    option_and_then (λ columns. option_map (λ rows. record { min_x = columns.0; min_y = rows.0; max_x = columns.1; max_y = rows.1 })
    (span_of 1073741823 top bottom)) (span_of 1073741823 left right)
place_box_by _ = None

abbrev pub place_box_of : List ℕ → Option TileBox
place_box_of word = place_box_by (words_of word)

-- boxes behind others, one of each word
abbrev pub boxes_after : List ZoomBox → List (List ℕ) → Option (List ZoomBox)
boxes_after before [] = Some before
boxes_after before (word ∷ words) = option_and_then (λ b. boxes_after (before ++ (b ∷ [])) words) (box_of word)

abbrev pub boxes_of : List (List ℕ) → Option (List ZoomBox)
boxes_of words = boxes_after [] words

-- how many tiles lie along two sides that are opposite each other: none, where these are the edges of the grid
abbrev pub sides : ℕ → ℕ → ℕ → ℕ → ℕ
sides last least greatest length = if nat_eq least 0 && nat_eq greatest last then 0 else length + 1

-- how many tiles lie along the sides of a box: its rows for left and right, and its columns for top and bottom;
-- zooms above 31 have no tiles
abbrev pub outline_of : ZoomBox → ℕ
outline_of b =
    let last = 2 ^ min b.zoom 31 - 1 in
    sides last b.min_x b.max_x (b.max_y - b.min_y) + sides last b.min_y b.max_y (b.max_x - b.min_x)

-- and along those of all of some boxes
abbrev pub outline : List ZoomBox → ℕ
outline [] = 0
outline (b ∷ boxes) = outline_of b + outline boxes

pub two_columns_and_three_rows : box_of (codes "2 1 0 2 2") ≡ Some (record { zoom = 2; min_x = 1; min_y = 0; max_x = 2; max_y = 2 })
unfolding parted
two_columns_and_three_rows = refl

pub past_the_grid : box_of (codes "2 1 0 4 2") ≡ None
unfolding parted
past_the_grid = refl

pub least_behind_greatest : box_of (codes "2 2 0 1 2") ≡ None
unfolding parted
least_behind_greatest = refl

pub too_deep : box_of (codes "31 0 0 0 0") ≡ None
unfolding parted
too_deep = refl

pub four_numbers : box_of (codes "2 1 0 2") ≡ None
unfolding parted
four_numbers = refl

pub two_spaces : box_of (codes "2  1 0 2 2") ≡ None
unfolding parted
two_spaces = refl

pub places_of_zoom_30 : place_box_of (codes "0 5 1073741823 5") ≡ Some (record { min_x = 0; min_y = 5; max_x = 1073741823; max_y = 5 })
unfolding parted
places_of_zoom_30 = refl

pub past_zoom_30 : place_box_of (codes "0 5 1073741824 5") ≡ None
unfolding parted
past_zoom_30 = refl

pub one_is_none : boxes_of (codes "0 0 0 0 0" ∷ codes "tile" ∷ []) ≡ None
unfolding parted
one_is_none = refl

pub a_corner : outline (record { zoom = 2; min_x = 1; min_y = 0; max_x = 2; max_y = 2 } ∷ []) ≡ 5
a_corner = refl

pub whole_rows : outline (record { zoom = 2; min_x = 0; min_y = 1; max_x = 3; max_y = 1 } ∷ []) ≡ 4
whole_rows = refl

pub the_whole_grid : outline (record { zoom = 2; min_x = 0; min_y = 0; max_x = 3; max_y = 3 } ∷ []) ≡ 0
the_whole_grid = refl
