-- Adds and options within the bounds of the format.
use Rattle.std.specs.Prelude.{ℕ, ◌<◌, ◌≤◌, ◌^◌, List, [], ◌∷◌, length, FitsSigned}
use Rattle.std.specs.Int.{w32}
use Rattle.pm_writer.specs.Common.{dir_bytes, Entry, MAX_TILE_ID, Options}

-- no add is empty
abbrev pub AddsFilled : List (ℕ × List ℕ) → Type 0
AddsFilled [] = Unit {0}
AddsFilled (a ∷ adds) = (0 < length a.1) × AddsFilled adds

-- each id is that of a tile
abbrev pub AllLow : List (ℕ × List ℕ) → Type 0
AllLow [] = Unit {0}
AllLow (a ∷ adds) = (a.0 ≤ MAX_TILE_ID) × AllLow adds

-- contents have fewer than 2^32 bytes
abbrev pub AllSized : List (ℕ × List ℕ) → Type 0
AllSized [] = Unit {0}
AllSized (a ∷ adds) = (length a.1 < 2 ^ 32) × AllSized adds

-- directories have fewer than 2^32 bytes
abbrev pub AllShort : List (List Entry) → Type 0
AllShort [] = Unit {0}
AllShort (l ∷ ls) = (length (dir_bytes l) < 2 ^ 32) × AllShort ls

-- zooms and degrees lie within their types, and a leaf has from 16 to 65,536 entries at most
pub record OptionsFit (o : Options) : Type 0 where
  pub min_zoom : o.min_zoom < 2 ^ 8
  pub max_zoom : o.max_zoom < 2 ^ 8
  pub min_longitude : FitsSigned w32 o.min_longitude
  pub min_latitude : FitsSigned w32 o.min_latitude
  pub max_longitude : FitsSigned w32 o.max_longitude
  pub max_latitude : FitsSigned w32 o.max_latitude
  pub center_zoom : o.center_zoom < 2 ^ 8
  pub center_longitude : FitsSigned w32 o.center_longitude
  pub center_latitude : FitsSigned w32 o.center_latitude
  pub least_leaf : 16 ≤ o.max_leaf_entries
  pub most_leaf : o.max_leaf_entries ≤ 65536
