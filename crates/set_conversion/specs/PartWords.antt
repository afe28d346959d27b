-- The numbers that name a part of a set, word by word.
use Rattle.std.specs.Prelude.{◌≡◌, ℕ, Bool, true, false, List, nat_le, if◌then◌else◌, Option, Some, None, codes, refl}
use Rattle.std.specs.Option.{option_and_then, option_map}
use Rattle.line_words.specs.Number.{number_to}
use Rattle.set_conversion.specs.Part.{coord_at}
use Rattle.set_conversion.specs.declared.part.SetPart.{SetPart}
use Rattle.set_conversion.specs.declared.part.SetPart.TheVariants.{Whole, Below, Ids}
use Rattle.set_conversion.specs.declared.part_words.Awaited.{Awaited}
use Rattle.set_conversion.specs.declared.part_words.Awaited.TheVariants.{Any, Zoom, Column, Row, First, Last}
use Rattle.tile_ids.specs.declared.id.TheConstants.{MAX_TILE_ID}

-- whether the next word is a number
abbrev pub is_number : Awaited → Bool
is_number Any = false
is_number _ = true

-- a tile and all tiles below it, if there is such a tile
abbrev pub with_tile : ℕ → ℕ → ℕ → Option (Awaited × SetPart)
with_tile z x y = option_map (λ c. (Any, Below z x y)) (coord_at z x y)

-- the ids from one to another that isn't below it
abbrev pub with_ids : ℕ → ℕ → Option (Awaited × SetPart)
with_ids first last = if nat_le first last then Some (Any, Ids first last) else None

-- what is read next, and the part that is named so far
abbrev pub after_number : Awaited → SetPart → List ℕ → Option (Awaited × SetPart)
after_number Any part word = None
after_number Zoom part word = option_map (λ z. (Column z, part)) (number_to 255 word)
after_number (Column z) part word = option_map (λ x. (Row z x, part)) (number_to 4294967295 word)
after_number (Row z x) part word = option_and_then (with_tile z x) (number_to 4294967295 word)
after_number First part word = option_map (λ n. (Last n, part)) (number_to MAX_TILE_ID word)
after_number (Last first) part word = option_and_then (with_ids first) (number_to MAX_TILE_ID word)

pub a_tile : after_number (Row 3 7) Whole (codes "0") ≡ Some (Any, Below 3 7 0)
a_tile = refl

pub no_such_row : after_number (Row 3 7) Whole (codes "8") ≡ None
no_such_row = refl

pub one_id : after_number (Last 5) Whole (codes "5") ≡ Some (Any, Ids 5 5)
one_id = refl

pub falling_ids : after_number (Last 5) Whole (codes "4") ≡ None
falling_ids = refl
