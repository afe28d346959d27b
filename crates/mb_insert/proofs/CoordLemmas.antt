-- Numbers of tiles that are coordinates.
use Rattle.mb_insert.proofs.Common.{All, and_parts, arith, bad_coord, Bool, chosen, cond, contains_key, CopyDuplicateMode, eq_by_cmp, Equal-is, false, false≢true, filter, first_refused, holds, Int}
use Rattle.mb_insert.proofs.Common.{InvalidTileIndex, is_coord, is_missing, IsOnBoard, List, list_any, ltb-true, map, nat_lt, NewTile, None, pass_first, pass_rest, Place, place_cmp, place_in}
use Rattle.mb_insert.proofs.Common.{places_antisymmetric, pos, put_of, refl, reverse, subst, sym, TileSet, true, [], ◌&&◌, ◌<◌, ◌^◌, ◌||◌, ◌∙◌, ◌∷◌, ◌≡◌}
use Rattle.std.proofs.lemmas.List.Elements.{All-cons, All-head, All-nil, All-tail}
use Rattle.std.proofs.lemmas.List.Sorted.{All-permutation, IsPermutation-reverse}
use Rattle.mb_insert.proofs.ChosenLemmas.{contained}
use Rattle.mb_insert.specs.declared.mode.CopyDuplicateMode.TheVariants.{Override}

record AreWithin (t : NewTile) : Type 0 where
  zoom : t.z < 31
  column : t.x < 2 ^ t.z
  row : t.y < 2 ^ t.z

within : (t : NewTile) → is_coord t ≡ true → AreWithin t
within t h =
    let two = and_parts (nat_lt t.z 31 && nat_lt t.x (2 ^ t.z)) (nat_lt t.y (2 ^ t.z)) h in
    let one = and_parts (nat_lt t.z 31) (nat_lt t.x (2 ^ t.z)) two.0 in
    record { zoom = ltb-true t.z 31 one.0; column = ltb-true t.x (2 ^ t.z) one.1; row = ltb-true t.y (2 ^ t.z) two.1 }

on_board : (t : NewTile) → is_coord t ≡ true → IsOnBoard (place_in t)
on_board t h =
    let w = within t h in
    let row : t.y < 2 ^ t.z = w.row in
    record { zoom = w.zoom; column = w.column; row = omega arith }

-- a batch that no test of numbers refuses
pub all_coords : (ts : List NewTile) → first_refused bad_coord ts ≡ None → All (λ t. is_coord t ≡ true) ts
all_coords [] h = All-nil (λ t. is_coord t ≡ true)
all_coords (t ∷ ts) h =
    All-cons (λ t. is_coord t ≡ true) t ts
    (holds (is_coord t) (InvalidTileIndex (Int (pos t.z)) (Int (pos t.x)) (Int (pos t.y))) (pass_first (bad_coord t) (map bad_coord ts) h))
    (all_coords ts (pass_rest (bad_coord t) (map bad_coord ts) h))

all_left : (test : NewTile → Bool) (ts : List NewTile) → All (λ t. is_coord t ≡ true) ts → All (λ t. is_coord t ≡ true) (filter test ts)
all_left test [] all = All-nil (λ t. is_coord t ≡ true)
all_left test (t ∷ ts) all = by (test t) (all_left test ts (All-tail (λ t. is_coord t ≡ true) t ts all))
  where
    by : (b : Bool) → All (λ t. is_coord t ≡ true) (filter test ts) → All (λ t. is_coord t ≡ true) (cond b (t ∷ filter test ts) (filter test ts))
    by true rest = All-cons (λ t. is_coord t ≡ true) t (filter test ts) (All-head (λ t. is_coord t ≡ true) t ts all) rest
    by false rest = rest

all_chosen : (mode : CopyDuplicateMode) (tiles : TileSet) (ts : List NewTile) → All (λ t. is_coord t ≡ true) ts → All (λ t. is_coord t ≡ true) (chosen mode tiles ts)
all_chosen Override tiles ts all = All-permutation (λ t. is_coord t ≡ true) ts (reverse ts) (IsPermutation-reverse ts) all
all_chosen _ tiles ts all = all_left (is_missing tiles) ts all

listed_on_board : (ts : List NewTile) → All (λ t. is_coord t ≡ true) ts → (p : Place) → list_any (eq_by_cmp place_cmp p) (map place_in ts) ≡ true → IsOnBoard p
listed_on_board [] all p h = absurd (false≢true h)
listed_on_board (t ∷ ts) all p h = by (eq_by_cmp place_cmp p (place_in t)) refl h (λ k. listed_on_board ts (All-tail (λ t. is_coord t ≡ true) t ts all) p k)
  where
    by : (b : Bool) → eq_by_cmp place_cmp p (place_in t) ≡ b → (b || list_any (eq_by_cmp place_cmp p) (map place_in ts)) ≡ true → (list_any (eq_by_cmp place_cmp p) (map place_in ts) ≡ true → IsOnBoard p) → IsOnBoard p
    by true e h rest =
        let same : p ≡ place_in t = places_antisymmetric p (place_in t) ((Equal-is (place_cmp p (place_in t))).0 e) in
        subst IsOnBoard (sym same) (on_board t (All-head (λ t. is_coord t ≡ true) t ts all))
    by false e h rest = rest h

-- what is put stands on the board
pub put_on_board : (mode : CopyDuplicateMode) (tiles : TileSet) (ts : List NewTile) → All (λ t. is_coord t ≡ true) ts → (p : Place) → contains_key (put_of mode tiles ts) p ≡ true → IsOnBoard p
put_on_board mode tiles ts all p h = listed_on_board (chosen mode tiles ts) (all_chosen mode tiles ts all) p (sym (contained (chosen mode tiles ts) p) ∙ h)
