-- What the words of an extraction ask for.
use Rattle.std.specs.Prelude.{◌≡◌, ℕ, ◌-◌, ◌^◌, List, [], ◌∷◌, Option, Some, None, codes, refl}
use Rattle.std.specs.Option.{option_and_then, option_map}
use Rattle.line_words.specs.Number.{number_to}
use Rattle.tile_extract.specs.Common.{Coord}

-- a tile, the greatest zoom of its descendants, and how many tiles there may be
pub record Asked : Type 0 where
  pub root : Coord
  pub max_zoom : ℕ
  pub max_tiles : ℕ

abbrev pub asked : Coord → ℕ → ℕ → Asked
asked root max_zoom max_tiles = record { root = root; max_zoom = max_zoom; max_tiles = max_tiles }

-- the tile whose zoom, column and row words spell: zoom 0 to 31, the others below two to the zoom
abbrev pub tile_at : List ℕ → List ℕ → List ℕ → Option Coord
tile_at zoom column row =
    option_and_then (λ z. option_and_then (λ x. option_map (λ y. record { z = z; x = x; y = y }) (number_to (2 ^ z - 1) row)) (number_to (2 ^ z - 1) column)) (number_to 31 zoom)

abbrev pub asked_by_five : List ℕ → List ℕ → List ℕ → List ℕ → List ℕ → Option Asked
asked_by_five zoom column row max_zoom max_tiles =
    option_and_then (λ c. option_and_then (λ m. option_map (λ t. asked c m t) (number_to 18446744073709551615 max_tiles)) (number_to 255 max_zoom)) (tile_at zoom column row)

-- five numbers: a tile's zoom, column and row, a zoom from 0 to 255, and a number of tiles
abbrev pub asked_in : List (List ℕ) → Option Asked
asked_in (zoom ∷ column ∷ row ∷ max_zoom ∷ max_tiles ∷ []) = asked_by_five zoom column row max_zoom max_tiles
asked_in _ = None

pub five_numbers : asked_in (codes "3" ∷ codes "7" ∷ codes "0" ∷ codes "255" ∷ codes "18446744073709551615" ∷ []) ≡ Some (asked (record { z = 3; x = 7; y = 0 }) 255 18446744073709551615)
five_numbers = refl

pub no_such_column : asked_in (codes "3" ∷ codes "8" ∷ codes "0" ∷ codes "5" ∷ codes "10" ∷ []) ≡ None
no_such_column = refl

pub zoom_past_a_byte : asked_in (codes "0" ∷ codes "0" ∷ codes "0" ∷ codes "256" ∷ codes "10" ∷ []) ≡ None
zoom_past_a_byte = refl

pub four_numbers : asked_in (codes "0" ∷ codes "0" ∷ codes "0" ∷ codes "0" ∷ []) ≡ None
four_numbers = refl
