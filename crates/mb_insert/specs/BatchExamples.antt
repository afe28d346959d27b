-- Small batches: what is put, and what is refused.
use Rattle.std.specs.Prelude.{◌≡◌, ℕ, codes, pos, refl, true, List, [], ◌∷◌, Option, Some, None}
use Rattle.std.proofs.lemmas.Cmp.{on_total, then_total}
use Rattle.std.specs.Cmp.{IsTotalOrder, nat_cmp_total}
use Rattle.mb_insert.specs.Common.{empty, first_refused, from_entries, get, get-empty, get-from_entries, Int, InvalidTileIndex, Place, place_cmp, TileSet}
use Rattle.mb_insert.specs.Batch.{has_duplicates, place_in, put_of}
use Rattle.mb_insert.specs.Insertion.{bad_coord}
use Rattle.mb_insert.specs.declared.mode.CopyDuplicateMode.TheVariants.{Override, Ignore}
use Rattle.mb_insert.specs.declared.new_tile.NewTile.{NewTile}

-- tiles by zoom, column and row from the top
abbrev tile : ℕ → ℕ → ℕ → List ℕ → NewTile
tile z x y bytes = record { z = z; x = x; y = y; tile_data = bytes }

-- 1/0/0 twice, and 1/1/0
abbrev batch : List NewTile
batch = tile 1 0 0 (codes "a") ∷ tile 1 1 0 (codes "b") ∷ tile 1 0 0 (codes "c") ∷ []

-- a set with null at 1/0/0
abbrev null_there : TileSet
null_there = from_entries ((place_in (tile 1 0 0 []), None) ∷ [])

places_total : IsTotalOrder place_cmp
places_total = then_total (on_total (λ (p : Place). p.zoom) nat_cmp_total) (then_total (on_total (λ (p : Place). p.column) nat_cmp_total) (on_total (λ (p : Place). p.row) nat_cmp_total))

-- rows of places are counted from the bottom
pub from_the_bottom : place_in (tile 1 0 0 []) ≡ record { zoom = 1; column = 0; row = 1 }
from_the_bottom = refl

pub last_wins : get (put_of Override empty batch) (place_in (tile 1 0 0 [])) ≡ Some (Some (codes "c"))
last_wins = simp (get-from_entries {X = Option (List ℕ)} places_total) refl

pub first_wins : get (put_of Ignore empty batch) (place_in (tile 1 0 0 [])) ≡ Some (Some (codes "a"))
first_wins = simp (get-from_entries {X = Option (List ℕ)} places_total, get-empty) refl

pub null_stays : get (put_of Ignore null_there batch) (place_in (tile 1 0 0 [])) ≡ None
null_stays = simp (get-from_entries {X = Option (List ℕ)} places_total) refl

pub twice_in_batch : has_duplicates empty batch ≡ true
twice_in_batch = simp (get-empty) refl

pub null_in_set : has_duplicates null_there (tile 1 0 0 [] ∷ []) ≡ true
null_in_set = simp (get-from_entries {X = Option (List ℕ)} places_total) refl

-- the first of two bad coordinates, with the row as it is given; a zoom of 31 is none of a set
pub first_bad : first_refused bad_coord (tile 1 0 0 [] ∷ tile 1 0 2 [] ∷ tile 31 0 0 [] ∷ []) ≡ Some (InvalidTileIndex (Int (pos 1)) (Int (pos 0)) (Int (pos 2)))
first_bad = refl

pub too_deep : bad_coord (tile 31 5 6 []) ≡ Some (InvalidTileIndex (Int (pos 31)) (Int (pos 5)) (Int (pos 6)))
too_deep = refl
