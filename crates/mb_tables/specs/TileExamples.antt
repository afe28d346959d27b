-- Rows and the tiles that they are.
use Rattle.std.specs.Prelude.{◌≡◌, pos, negsuc, refl, codes, Some, None, [], ◌∷◌, List, ℕ}
use Rattle.mb_tables.specs.declared.cell.Cell.{Cell}
use Rattle.mb_tables.specs.declared.cell.Cell.TheVariants.{Null, Int, Text, Blob}
use Rattle.mb_tables.specs.Tiles.{Place, pairs_at, pairs_by_id, place_of}

abbrev at : ℕ → ℕ → ℕ → Cell → List Cell
at zoom column row contents = Int (pos zoom) ∷ Int (pos column) ∷ Int (pos row) ∷ contents ∷ []

abbrev place : ℕ → ℕ → ℕ → Place
place zoom column row = record { zoom = zoom; column = column; row = row }

-- bytes, no bytes and null differ
pub contents_differ : pairs_at 3 (at 1 0 1 (Blob (48 ∷ [])) ∷ at 1 0 0 (Blob []) ∷ at 1 1 0 Null ∷ []) ≡ (place 1 0 1, Some (48 ∷ [])) ∷ (place 1 0 0, Some []) ∷ (place 1 1 0, None) ∷ []
contents_differ = refl

-- the last zoom, and the last place of a zoom
pub last_place : place_of (at 30 1073741823 1073741823 Null) ≡ Some (place 30 1073741823 1073741823)
last_place = refl

pub no_place_past_zoom : place_of (at 31 0 0 Null) ≡ None
no_place_past_zoom = refl

pub no_place_past_column : place_of (at 2 4 0 Null) ≡ None
no_place_past_column = refl

pub no_place_below_row : place_of (Int (pos 2) ∷ Int (pos 0) ∷ Int (negsuc 0) ∷ Null ∷ []) ≡ None
no_place_below_row = refl

-- a place without an id has no row, and one whose id isn't there is null
pub contents_by_id : pairs_by_id (at 0 0 0 (Text (codes "a")) ∷ at 1 0 0 Null ∷ at 1 1 0 (Text (codes "b")) ∷ []) ((Text (codes "a") ∷ Blob (49 ∷ []) ∷ []) ∷ []) ≡ (place 0 0 0, Some (49 ∷ [])) ∷ (place 1 1 0, None) ∷ []
contents_by_id = refl
