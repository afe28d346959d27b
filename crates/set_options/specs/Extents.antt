-- The bounds and the center that texts of metadata say (MBTiles 1.3).
use Rattle.std.specs.Prelude.{◌≡◌, ℕ, ◌-◌, ◌&&◌, ℤ, pos, negsuc, ◌+ℤ◌, int_div, Bool, not, List, [], ◌∷◌, length, take, drop, cond, Option, Some, None, codes, refl}
use Rattle.set_options.specs.Common.{int_cmp, is_ascii_whitespace, is_gt, is_lt, option_and_then, parted, prefix_len, suffix_len}
use Rattle.line_words.specs.Number.{number_to}
use Rattle.set_options.specs.Degrees.{degrees_of}
use Rattle.set_options.specs.declared.extents.SetBounds.{SetBounds}
use Rattle.set_options.specs.declared.extents.SetCenter.{SetCenter}

-- a word without blanks in front and behind
abbrev pub trimmed : List ℕ → List ℕ
trimmed word = let t = drop (prefix_len is_ascii_whitespace word) word in take (length t - suffix_len is_ascii_whitespace t) t

abbrev pub longitude_of : List ℕ → Option ℤ
longitude_of part = degrees_of (trimmed part)

-- from -90 to 90 degrees
abbrev pub is_latitude : ℤ → Bool
is_latitude d = not (is_gt (int_cmp d (pos 900000000))) && not (is_lt (int_cmp d (negsuc 899999999)))

abbrev pub latitude_of : List ℕ → Option ℤ
latitude_of part = option_and_then (λ d. cond (is_latitude d) (Some d) None) (longitude_of part)

-- bounds whose south doesn't lie above their north
abbrev pub bounds_within : ℤ → ℤ → ℤ → ℤ → Option SetBounds
bounds_within w s e n = cond (is_gt (int_cmp s n)) None (Some (record { west = w; south = s; east = e; north = n }))

abbrev pub bounds_at : List ℕ → List ℕ → List ℕ → List ℕ → Option SetBounds
bounds_at a b c d =
    option_and_then (λ w. option_and_then (λ s. option_and_then (λ e. option_and_then (λ n. bounds_within w s e n) (latitude_of d)) (longitude_of c)) (latitude_of b)) (longitude_of a)

-- west, south, east and north
abbrev pub bounds_of : List (List ℕ) → Option SetBounds
bounds_of (a ∷ b ∷ c ∷ d ∷ []) = bounds_at a b c d
bounds_of _ = None

abbrev pub center_at : List ℕ → List ℕ → Option ℕ → Option SetCenter
center_at a b zoom = option_and_then (λ lon. option_and_then (λ lat. Some (record { longitude = lon; latitude = lat; zoom = zoom })) (latitude_of b)) (longitude_of a)

-- a zoom from 0 to 30; any other word says none
abbrev pub zoom_said : List ℕ → Option ℕ
zoom_said part = number_to 30 (trimmed part)

-- longitude, latitude, and a zoom or none
abbrev pub center_of : List (List ℕ) → Option SetCenter
center_of (a ∷ b ∷ []) = center_at a b None
center_of (a ∷ b ∷ c ∷ []) = center_at a b (zoom_said c)
center_of _ = None

-- numbers parted by commas
abbrev pub bounds_in : List ℕ → Option SetBounds
bounds_in text = bounds_of (parted 44 text)

abbrev pub center_in : List ℕ → Option SetCenter
center_in text = center_of (parted 44 text)

-- half of a sum, towards 0
abbrev pub middle : ℤ → ℤ → ℤ
middle a b = int_div (a +ℤ b) (pos 2)

-- the middle of bounds, at a zoom
abbrev pub middle_of : SetBounds → ℕ → SetCenter
middle_of b zoom = record { longitude = middle b.west b.east; latitude = middle b.south b.north; zoom = Some zoom }

pub a_middle : middle_of (record { west = pos 84000000; south = negsuc 8; east = pos 86000001; north = pos 4 }) 3 ≡ record { longitude = pos 85000000; latitude = negsuc 1; zoom = Some 3 }
a_middle = refl

pub a_city : bounds_in (codes "8.4, 47.3,8.6 ,47.4") ≡ Some (record { west = pos 84000000; south = pos 473000000; east = pos 86000000; north = pos 474000000 })
unfolding parted
a_city = refl

pub three_numbers : bounds_in (codes "8.4,47.3,8.6") ≡ None
unfolding parted
three_numbers = refl

pub a_comma_behind : bounds_in (codes "8.4,47.3,8.6,47.4,") ≡ None
unfolding parted
a_comma_behind = refl

pub upside_down : bounds_in (codes "8.4,47.4,8.6,47.3") ≡ None
unfolding parted
upside_down = refl

pub above_the_pole : bounds_in (codes "8,47,9,90.0000001") ≡ None
unfolding parted
above_the_pole = refl

pub with_a_zoom : center_in (codes "-8.5,47.35,12") ≡ Some (record { longitude = negsuc 84999999; latitude = pos 473500000; zoom = Some 12 })
unfolding parted
with_a_zoom = refl

pub with_a_fraction : center_in (codes "8,47,1.5") ≡ Some (record { longitude = pos 80000000; latitude = pos 470000000; zoom = None })
unfolding parted
with_a_fraction = refl

pub without_a_zoom : center_in (codes "8,47") ≡ Some (record { longitude = pos 80000000; latitude = pos 470000000; zoom = None })
unfolding parted
without_a_zoom = refl
