-- Items in the order of their keys, with marks of removed ones behind.
use Rattle.std.specs.Prelude.{◌≡◌, ℕ, ◌<◌, ◌≤◌, ◌&&◌, Bool, true, false, cond, not, filter, length, reverse, List, [], ◌∷◌, Option, Some, None, option_map, option_and_then, filter_map, find, slice_index_or, AllPairs}
use Rattle.mb_lists.specs.Common.{bool_cmp, eq_by_cmp, list_any, Ordering, ordering_then}
use Rattle.std.specs.declared.cmp.Ordering.TheVariants.{Less, Greater}

-- whether no two keys of a list are equal
abbrev pub are_distinct : {K : Type 0} → (K → K → Ordering) → List K → Bool
are_distinct R [] = true
are_distinct R (k ∷ ks) = not (list_any (eq_by_cmp R k) ks) && are_distinct R ks

-- whether an item has the key
abbrev pub at_key : {K X : Type 0} → (K → K → Ordering) → (X → K) → K → X → Bool
at_key R key q x = eq_by_cmp R q (key x)

-- the entries of the items of which there is a value
abbrev pub entries_by : {K X V : Type 0} → (X → K) → (X → Option V) → List X → List (K × V)
entries_by key value xs = filter_map (λ x. option_map (λ v. (key x, v)) (value x)) xs

-- no two items have one key
pub record Apart {K X : Type 0} (R : K → K → Ordering) (key : X → K) (xs : List X) : Type 0 where
  pub pairs : AllPairs (λ x y. eq_by_cmp R (key x) (key y) ≡ false) xs

-- below n the items in the order of their keys, and from n on the marks
pub record IsInOrder {K X : Type 0} (R : K → K → Ordering) (key : X → K) (gone : X → Bool) (n : ℕ) (xs : List X) : Type 0 where
  pub bound : n ≤ length xs
  pub apart : Apart R key xs
  pub rising : (i j : ℕ) (d : X) → i < j → j < n → R (key (slice_index_or xs i d)) (key (slice_index_or xs j d)) ≡ Less
  pub live : (i : ℕ) (d : X) → i < n → gone (slice_index_or xs i d) ≡ false
  pub marks : (i : ℕ) (d : X) → n ≤ i → i < length xs → gone (slice_index_or xs i d) ≡ true

-- the item with a key stands at i, below n
pub record IsAt {K X : Type 0} (R : K → K → Ordering) (key : X → K) (n : ℕ) (xs : List X) (q : K) (i : ℕ) : Type 0 where
  pub in_range : i < n
  pub has_key : (d : X) → key (slice_index_or xs i d) ≡ q

-- an item with the key would go to i: below n smaller keys before it, and greater keys from it on
pub record IsGap {K X : Type 0} (R : K → K → Ordering) (key : X → K) (n : ℕ) (xs : List X) (q : K) (i : ℕ) : Type 0 where
  pub in_range : i ≤ n
  pub before : (k : ℕ) (d : X) → k < i → R (key (slice_index_or xs k d)) q ≡ Less
  pub after : (k : ℕ) (d : X) → i ≤ k → k < n → R (key (slice_index_or xs k d)) q ≡ Greater

-- the item with a key, unless it is a mark
abbrev pub live_at : {K X : Type 0} → (K → K → Ordering) → (X → K) → (X → Bool) → K → List X → Option X
live_at R key gone q xs = option_and_then (λ x. cond (gone x) None (Some x)) (find (at_key R key q) xs)

-- the first item of each key
abbrev pub firsts : {K X : Type 0} → (K → K → Ordering) → (X → K) → List X → List X
firsts R key [] = []
firsts R key (x ∷ xs) = x ∷ filter (λ y. not (eq_by_cmp R (key x) (key y))) (firsts R key xs)

-- the last item of each key, the latest first
abbrev pub newest : {K X : Type 0} → (K → K → Ordering) → (X → K) → List X → List X
newest R key xs = firsts R key (reverse xs)

-- under each key the same item stands
pub record StandsAs {K X : Type 0} (R : K → K → Ordering) (key : X → K) (old new : List X) : Type 0 where
  pub found : (q : K) → find (at_key R key q) new ≡ find (at_key R key q) old

-- items before marks, and each by its key
abbrev pub behind : {K X : Type 0} → (K → K → Ordering) → (X → K) → (X → Bool) → X → X → Ordering
behind R key gone x y = ordering_then (bool_cmp (gone x) (gone y)) (R (key x) (key y))
