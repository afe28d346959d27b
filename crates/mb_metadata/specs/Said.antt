-- What a name of a set's metadata says.
use Rattle.std.specs.Prelude.{◌≡◌, refl, ℕ, ◌==◌, List, [], codes, length, Option, Some, None, option_map, option_and_then, if◌then◌else◌}
use Rattle.mb_metadata.specs.Common.{Names, text_at, TileBounds, TileCenter}
use Rattle.tile_json.specs.declared.extent.TileBounds.TheVariants as bounds
use Rattle.tile_json.specs.declared.extent.TileCenter.TheVariants as center

-- an empty text says nothing
abbrev pub unless_empty : List ℕ → Option (List ℕ)
unless_empty text = if length text == 0 then None else Some text

-- the text of a name that is there and says something; null says nothing
abbrev pub said : Names → List ℕ → Option (List ℕ)
said names name = option_and_then unless_empty (text_at names name)

-- bounds and center are kept as texts, unread
abbrev pub bounds_said : Names → Option TileBounds
bounds_said names = option_map bounds.Text (said names (codes "bounds"))

abbrev pub center_said : Names → Option TileCenter
center_said names = option_map center.Text (said names (codes "center"))

pub empty_text : unless_empty [] ≡ None
empty_text = refl

pub one_sign : unless_empty (codes "0") ≡ Some (codes "0")
one_sign = refl
