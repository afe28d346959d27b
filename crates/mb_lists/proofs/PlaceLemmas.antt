-- The coordinate of a row is that of its place.
use Rattle.mb_lists.proofs.Common.{ap, arith, Blob, Bool, Cell, cell_at, Coord, coord_in, false, if◌then◌else◌, index_of, Int, inverted_y, List, nat_le, nat_lt, negsuc, None, Null, number_below}
use Rattle.mb_lists.proofs.Common.{number_in, Option, option_map, Other, Place, place_at, pos, refl, Some, sym, Text, tile_index, true, ℕ, [], ◌&&◌, ◌<◌, ◌^◌, ◌∙◌, ◌∷◌, ◌≡◌}
use Rattle.std.proofs.lemmas.Bool.Decides.{nat_tests}
use Rattle.mb_tables.specs.Tiles.{place_of}

inverted_back : (zoom y : ℕ) → y < 2 ^ zoom → inverted_y zoom (inverted_y zoom y) ≡ y
inverted_back zoom y h = omega arith

place_from : Cell → Cell → Cell → Option Place
place_from a b c = place_of (a ∷ b ∷ c ∷ [])

-- a place needs its column and its row
no_column : (z : ℕ) (b c : Cell) → ((limit : ℕ) → number_below limit b ≡ None) → place_from (Int (pos z)) b c ≡ None
unfolding place_from
no_column z b c none = go (nat_lt z 31) refl
  where
    go : (t : Bool) → nat_lt z 31 ≡ t → place_from (Int (pos z)) b c ≡ None
    go true e = simp (e, none (2 ^ z))
    go false e = simp e

no_row : (z x : ℕ) (c : Cell) → ((limit : ℕ) → number_below limit c ≡ None) → place_from (Int (pos z)) (Int (pos x)) c ≡ None
unfolding place_from
no_row z x c none = go (nat_lt z 31) (nat_lt x (2 ^ z)) refl refl
  where
    go : (t u : Bool) → nat_lt z 31 ≡ t → nat_lt x (2 ^ z) ≡ u → place_from (Int (pos z)) (Int (pos x)) c ≡ None
    go true true e f = simp (e, f, none (2 ^ z))
    go true false e f = simp (e, f, none (2 ^ z))
    go false u e f = simp e

tested : (z x y : ℕ) → Bool → Bool → Bool → Option Place
tested z x y true true true = Some (record { zoom = z; column = x; row = y })
tested z x y t u v = None

as_place : (z x y : ℕ) → place_from (Int (pos z)) (Int (pos x)) (Int (pos y)) ≡ tested z x y (nat_lt z 31) (nat_lt x (2 ^ z)) (nat_lt y (2 ^ z))
unfolding place_from tested
as_place z x y = go (nat_lt z 31) (nat_lt x (2 ^ z)) (nat_lt y (2 ^ z)) refl refl refl
  where
    go : (t u v : Bool) → nat_lt z 31 ≡ t → nat_lt x (2 ^ z) ≡ u → nat_lt y (2 ^ z) ≡ v → place_from (Int (pos z)) (Int (pos x)) (Int (pos y)) ≡ tested z x y (nat_lt z 31) (nat_lt x (2 ^ z)) (nat_lt y (2 ^ z))
    go true true true e f g = simp (e, f, g)
    go true true false e f g = simp (e, f, g)
    go true false v e f g = simp (e, f, g)
    go false u v e f g = simp e

tested_coord : (z x y : ℕ) → Bool → Bool → Bool → Option Coord
tested_coord z x y t u v = elim t as (λ b. Option Coord) [ true ↦ (if u && v then Some (record { z = z; x = x; y = inverted_y z y }) else None) | false ↦ None ]

as_coord : (z x y : ℕ) → index_of (Some z) (Some x) (Some y) ≡ tested_coord z x y (nat_le z 30) (nat_lt x (2 ^ z)) (nat_lt y (2 ^ z))
unfolding tested_coord
as_coord z x y = refl

below : (z y : ℕ) → nat_lt y (2 ^ z) ≡ true → y < 2 ^ z
below z y g = grind (arith, nat_tests)

coord_place : (z x y : ℕ) (t u v : Bool) → nat_lt y (2 ^ z) ≡ v → option_map place_at (tested_coord z x y t u v) ≡ tested z x y t u v
unfolding tested_coord tested
coord_place z x y true true true g = ap (λ n. Some (record { zoom = z; column = x; row = n })) (inverted_back z y (below z y g))
coord_place z x y true true false g = refl
coord_place z x y true false true g = refl
coord_place z x y true false false g = refl
coord_place z x y false u v g = refl

three_numbers : (z x y : ℕ) → option_map place_at (index_of (Some z) (Some x) (Some y)) ≡ place_from (Int (pos z)) (Int (pos x)) (Int (pos y))
three_numbers z x y = ap (option_map place_at) (as_coord z x y) ∙ (coord_place z x y (nat_le z 30) (nat_lt x (2 ^ z)) (nat_lt y (2 ^ z)) refl ∙ (ap (λ t. tested z x y t (nat_lt x (2 ^ z)) (nat_lt y (2 ^ z))) same ∙ sym (as_place z x y)))
  where
    same : nat_le z 30 ≡ nat_lt z 31
    same = grind (arith, nat_tests)

from_numbers : (a b c : Cell) → option_map place_at (tile_index (number_in a) (number_in b) (number_in c)) ≡ place_from a b c
unfolding place_from
from_numbers Null b c = refl
from_numbers (Text t) b c = refl
from_numbers (Blob t) b c = refl
from_numbers Other b c = refl
from_numbers (Int (negsuc n)) b c = refl
from_numbers (Int (pos z)) Null c = sym (no_column z Null c (λ limit. refl))
from_numbers (Int (pos z)) (Text t) c = sym (no_column z (Text t) c (λ limit. refl))
from_numbers (Int (pos z)) (Blob t) c = sym (no_column z (Blob t) c (λ limit. refl))
from_numbers (Int (pos z)) Other c = sym (no_column z Other c (λ limit. refl))
from_numbers (Int (pos z)) (Int (negsuc n)) c = sym (no_column z (Int (negsuc n)) c (λ limit. refl))
from_numbers (Int (pos z)) (Int (pos x)) Null = sym (no_row z x Null (λ limit. refl))
from_numbers (Int (pos z)) (Int (pos x)) (Text t) = sym (no_row z x (Text t) (λ limit. refl))
from_numbers (Int (pos z)) (Int (pos x)) (Blob t) = sym (no_row z x (Blob t) (λ limit. refl))
from_numbers (Int (pos z)) (Int (pos x)) Other = sym (no_row z x Other (λ limit. refl))
from_numbers (Int (pos z)) (Int (pos x)) (Int (negsuc n)) = sym (no_row z x (Int (negsuc n)) (λ limit. refl))
from_numbers (Int (pos z)) (Int (pos x)) (Int (pos y)) = three_numbers z x y

pub place_is : (row : List Cell) → option_map place_at (coord_in row) ≡ place_of row
unfolding place_from
place_is row = from_numbers (cell_at 0 row) (cell_at 1 row) (cell_at 2 row)
