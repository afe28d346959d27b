-- Tiles that are put are as many more as they are, exactly where none is there or comes twice.
use Rattle.mb_tree.proofs.Common.{ap, ap₂, are_distinct, arith, Bool, cond, contains_key, eq_by_cmp, eq_by_cmp_equiv, false, get, get-insert, has_duplicates, Held, insert, is_some, is_some_cond, len}
use Rattle.mb_tree.proofs.Common.{len-insert, length, List, list_any, map, NewTile, not, Place, place_cmp, place_in, places_total, put_in_turn, refl, Some, subst, suc, tiles_in, TileSet, true}
use Rattle.mb_tree.proofs.Common.{with_tile, ℕ, [], ◌&&◌, ◌+◌, ◌-◌, ◌<◌, ◌||◌, ◌∙◌, ◌∷◌, ◌≡◌, ◌≤◌}

-- fewer than there would be, or as many
abbrev pub IsCount : Bool → ℕ → ℕ → Type 0
IsCount true n m = n < m
IsCount false n m = n ≡ m

at_most : (b : Bool) (n m : ℕ) → IsCount b n m → n ≤ m
at_most true n m h = let lt : n < m = h in omega arith
at_most false n m h = let all : n ≡ m = h in omega arith

-- whether a place is there after one more tile
pub has_after : (tiles : TileSet) (t : NewTile) (q : Place) → contains_key (insert tiles (place_in t) (Some t.tile_data)) q ≡ (eq_by_cmp place_cmp (place_in t) q || contains_key tiles q)
has_after tiles t q =
    ap is_some (get-insert places_total tiles (place_in t) (Some t.tile_data) q)
    ∙ (is_some_cond (eq_by_cmp place_cmp q (place_in t)) (Some t.tile_data) (get tiles q)
    ∙ ap (λ b. b || contains_key tiles q) ((eq_by_cmp_equiv places_total).symm q (place_in t)))

four : (a b x y : Bool) → ((a || b) || (x || y)) ≡ ((a || x) || (b || y))
four false true true y = refl
four false false true y = refl
four _ _ _ y = refl

pub any_after : (tiles : TileSet) (t : NewTile) (ts : List NewTile) → list_any (λ u. contains_key (insert tiles (place_in t) (Some t.tile_data)) (place_in u)) ts ≡ (list_any (eq_by_cmp place_cmp (place_in t)) (map place_in ts) || list_any (λ u. contains_key tiles (place_in u)) ts)
any_after tiles t [] = refl
any_after tiles t (u ∷ us) =
    ap₂ (λ a b. a || b) (has_after tiles t (place_in u)) (any_after tiles t us)
    ∙ four (eq_by_cmp place_cmp (place_in t) (place_in u)) (contains_key tiles (place_in u)) (list_any (eq_by_cmp place_cmp (place_in t)) (map place_in us)) (list_any (λ u. contains_key tiles (place_in u)) us)

-- one more tile: whether its place is there (a), whether one of the others is (x), whether its place comes again (y),
-- and whether the others differ (z)
step : (a x y z : Bool) (n m k l : ℕ) → IsCount ((y || x) || not z) n (k + l) → k ≡ cond a m (m + 1) → IsCount ((a || x) || not (not y && z)) n (m + suc l)
step true x y z n m k l h e = let le : n ≤ k + l = at_most ((y || x) || not z) n (k + l) h in let same : k ≡ m = e in omega arith
step false true true z n m k l h e = let lt : n < k + l = h in let more : k ≡ m + 1 = e in omega arith
step false false false true n m k l h e = let all : n ≡ k + l = h in let more : k ≡ m + 1 = e in omega arith
step false _ _ _ n m k l h e = let lt : n < k + l = h in let more : k ≡ m + 1 = e in omega arith

counted : (tiles : TileSet) (ts : List NewTile) → IsCount (has_duplicates tiles ts) (len (put_in_turn tiles ts)) (len tiles + length ts)
counted tiles [] = omega arith
counted tiles (t ∷ ts) =
    step (contains_key tiles (place_in t)) (list_any (λ u. contains_key tiles (place_in u)) ts) (list_any (eq_by_cmp place_cmp (place_in t)) (map place_in ts)) (are_distinct place_cmp (map place_in ts))
    (len (put_in_turn tiles (t ∷ ts))) (len tiles) (len (insert tiles (place_in t) (Some t.tile_data))) (length ts)
    (subst (λ b. IsCount (b || not (are_distinct place_cmp (map place_in ts))) (len (put_in_turn tiles (t ∷ ts))) (len (insert tiles (place_in t) (Some t.tile_data)) + length ts)) (any_after tiles t ts)
    (counted (insert tiles (place_in t) (Some t.tile_data)) ts))
    (len-insert places_total tiles (place_in t) (Some t.tile_data))

grown : (c : Bool) (n k : ℕ) → k ≡ cond c n (n + 1) → n ≤ k
grown true n k e = let same : k ≡ n = e in omega arith
grown false n k e = let more : k ≡ n + 1 = e in omega arith

grows : (tiles : TileSet) (ts : List NewTile) → len tiles ≤ len (put_in_turn tiles ts)
grows tiles [] = omega arith
grows tiles (t ∷ ts) =
    let one : len tiles ≤ len (insert tiles (place_in t) (Some t.tile_data)) = grown (contains_key tiles (place_in t)) (len tiles) (len (insert tiles (place_in t) (Some t.tile_data))) (len-insert places_total tiles (place_in t) (Some t.tile_data)) in
    let rest : len (insert tiles (place_in t) (Some t.tile_data)) ≤ len (put_in_turn (insert tiles (place_in t) (Some t.tile_data)) ts) = grows (insert tiles (place_in t) (Some t.tile_data)) ts in
    omega arith

none_twice : (b : Bool) (n before l : ℕ) → before ≤ n → IsCount b n (before + l) → n - before ≡ l → b ≡ false
none_twice true n before l le h e = let lt : n < before + l = h in absurd (omega arith)
none_twice false n before l le h e = refl

some_twice : (b : Bool) (n before l : ℕ) → before ≤ n → IsCount b n (before + l) → (n - before ≡ l → ⊥) → b ≡ true
some_twice true n before l le h e = refl
some_twice false n before l le h e = let all : n ≡ before + l = h in absurd (e (omega arith))

-- the tiles of a set after those of a batch
pub tiles_are : (h : Held) (ts : List NewTile) → (tiles_in h ts).state.tiles ≡ put_in_turn h.state.tiles ts
tiles_are h [] = refl
tiles_are h (t ∷ ts) = tiles_are (with_tile h (place_in t) t.tile_data) ts

pub apart : (h : Held) (ts : List NewTile) (before n l : ℕ) → before ≡ len h.state.tiles → n ≡ len (tiles_in h ts).state.tiles → l ≡ length ts → n - before ≡ l → has_duplicates h.state.tiles ts ≡ false
apart h ts before n l b is same e =
    let m : n ≡ len (put_in_turn h.state.tiles ts) = is ∙ ap (λ (m : TileSet). len m) (tiles_are h ts) in
    let more : len h.state.tiles ≤ len (put_in_turn h.state.tiles ts) = grows h.state.tiles ts in
    none_twice (has_duplicates h.state.tiles ts) (len (put_in_turn h.state.tiles ts)) (len h.state.tiles) (length ts) more (counted h.state.tiles ts) (omega arith)

pub twice : (h : Held) (ts : List NewTile) (before n l : ℕ) → before ≡ len h.state.tiles → n ≡ len (tiles_in h ts).state.tiles → l ≡ length ts → (n - before ≡ l → ⊥) → has_duplicates h.state.tiles ts ≡ true
twice h ts before n l b is same e =
    let m : n ≡ len (put_in_turn h.state.tiles ts) = is ∙ ap (λ (m : TileSet). len m) (tiles_are h ts) in
    let more : len h.state.tiles ≤ len (put_in_turn h.state.tiles ts) = grows h.state.tiles ts in
    some_twice (has_duplicates h.state.tiles ts) (len (put_in_turn h.state.tiles ts)) (len h.state.tiles) (length ts) more (counted h.state.tiles ts) (λ k. e (omega arith))
