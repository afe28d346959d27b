-- A batch has as many tiles as are put exactly where none of its places is there or comes twice.
use Rattle.mb_insert.proofs.Common.{ap, arith, Bool, cond, contains_key, DuplicateValues, entry_of, eq_by_cmp, false, filter, has_duplicates, insert, is_missing, len, len-empty, len-insert, length}
use Rattle.mb_insert.proofs.Common.{List, list_any, map, NewTile, None, not, Option, or_parts, place_cmp, place_in, places_total, refl, Some, subst, suc, sym, TileSet, true, unless, ℕ, [], ◌&&◌, ◌+◌}
use Rattle.mb_insert.proofs.Common.{◌<◌, ◌||◌, ◌∙◌, ◌∷◌, ◌≡◌, ◌≢◌, ◌≤◌}
use Rattle.mb_insert.proofs.ChosenLemmas.{by_first, contained, missing_of}
use Rattle.mb_lists.specs.Keyed.{are_distinct}

-- fewer are put than there are, or as many
abbrev IsCount : Bool → ℕ → ℕ → Type 0
IsCount true n m = n < m
IsCount false n m = n ≡ m

at_most : (b : Bool) (n m : ℕ) → IsCount b n m → n ≤ m
at_most true n m h = let lt : n < m = h in omega arith
at_most false n m h = let all : n ≡ m = h in omega arith

all_missing : (set : TileSet) (ts : List NewTile) → list_any (λ t. contains_key set (place_in t)) ts ≡ false → filter (is_missing set) ts ≡ ts
all_missing set [] h = refl
all_missing set (t ∷ ts) h =
    let two = or_parts (contains_key set (place_in t)) (list_any (λ t. contains_key set (place_in t)) ts) h in
    ap (λ b. cond (not b) (t ∷ filter (is_missing set) ts) (filter (is_missing set) ts)) two.0 ∙ ap (λ l. t ∷ l) (all_missing set ts two.1)

-- a place that is put, or is among those that were
below : (c : Bool) (n m k : ℕ) → n < m → k ≡ cond c n (n + 1) → k < suc m
below true n m k h e = let put : k ≡ n = e in omega arith
below false n m k h e = let put : k ≡ n + 1 = e in omega arith

-- one more tile: whether the set has its place (a), whether it has one of the others (x), whether its place comes again
-- (y), whether the others differ (z), and whether its place is among those that are put (c)
step : (a x y z c : Bool) (n m k : ℕ) → IsCount (x || not z) n m → k ≡ cond c n (n + 1) → (x ≡ false → c ≡ y) → IsCount (a || x || not (not y && z)) (cond (not a) k n) (suc m)
step true x y z c n m k h e same = let le : n ≤ m = at_most (x || not z) n m h in omega arith
step false true y z c n m k h e same = below c n m k h e
step false false true false c n m k h e same = below c n m k h e
step false false false false c n m k h e same = below c n m k h e
step false false true true c n m k h e same =
    let all : n ≡ m = h in
    let put : k ≡ n = e ∙ ap (λ b. cond b n (n + 1)) (same refl) in
    omega arith
step false false false true c n m k h e same =
    let all : n ≡ m = h in
    let put : k ≡ n + 1 = e ∙ ap (λ b. cond b n (n + 1)) (same refl) in
    omega arith

one_step : (t : NewTile) (ts : List NewTile) (a : Bool) → len (by_first (map entry_of (cond (not a) (t ∷ ts) ts))) ≡ cond (not a) (len (insert (by_first (map entry_of ts)) (place_in t) (Some t.tile_data))) (len (by_first (map entry_of ts)))
one_step t ts true = refl
one_step t ts false = refl

counted : (set : TileSet) (ts : List NewTile) → IsCount (has_duplicates set ts) (len (missing_of set ts)) (length ts)
counted set [] = len-empty place_cmp (Option (List ℕ))
counted set (t ∷ ts) =
    subst (λ n. IsCount (has_duplicates set (t ∷ ts)) n (suc (length ts))) (sym (one_step t (filter (is_missing set) ts) (contains_key set (place_in t))))
    (step (contains_key set (place_in t)) (list_any (λ t. contains_key set (place_in t)) ts) (list_any (eq_by_cmp place_cmp (place_in t)) (map place_in ts)) (are_distinct place_cmp (map place_in ts)) (contains_key (missing_of set ts) (place_in t))
    (len (missing_of set ts)) (length ts) (len (insert (missing_of set ts) (place_in t) (Some t.tile_data))) (counted set ts) (len-insert places_total (missing_of set ts) (place_in t) (Some t.tile_data))
    (λ none. ap (λ (l : List NewTile). contains_key (by_first (map entry_of l)) (place_in t)) (all_missing set ts none) ∙ contained ts (place_in t)))

pub as_many : (set : TileSet) (ts : List NewTile) → len (missing_of set ts) ≡ length ts → unless (not (has_duplicates set ts)) DuplicateValues ≡ None
as_many set ts h = by (has_duplicates set ts) (counted set ts)
  where
    by : (b : Bool) → IsCount b (len (missing_of set ts)) (length ts) → unless (not b) DuplicateValues ≡ None
    by true lt = let less : len (missing_of set ts) < length ts = lt in absurd (omega arith)
    by false e = refl

pub fewer : (set : TileSet) (ts : List NewTile) → len (missing_of set ts) ≢ length ts → unless (not (has_duplicates set ts)) DuplicateValues ≡ Some DuplicateValues
fewer set ts h = by (has_duplicates set ts) (counted set ts)
  where
    by : (b : Bool) → IsCount b (len (missing_of set ts)) (length ts) → unless (not b) DuplicateValues ≡ Some DuplicateValues
    by true lt = refl
    by false e = absurd (h e)
