-- Lists in another order: what a filter leaves of them, and the entries of a map that is held in two parts.
use Rattle.tile_streaming.proofs.Common.{ap, arith, Bool, cond, entries, entries_sorted, Equal, false, false≢true, filter, get, get-entries, get_or, Has, inl, inr, is_some, is_sorted, IsPermutation}
use Rattle.tile_streaming.proofs.Common.{IsPermutation-cons, IsPermutation-refl, IsPermutation-trans, IsTotalOrder, length, List, map, None, not, Option, option_or, Ordering, refl, Some, subst, suc}
use Rattle.tile_streaming.proofs.Common.{sym, T, true, zero, ℕ, [], ◌++◌, ◌<◌, ◌∙◌, ◌∷◌, ◌≡◌}
use Rattle.std.proofs.Common.{set}
use Rattle.std.proofs.lemmas.List.Edits.{swap_is}
use Rattle.std.proofs.lemmas.List.Sorted.{IsPermutation-filter_both, IsPermutation-keeps, IsPermutation-swap}
use Rattle.std.specs.FinMap.{contains_key, entries-from_sorted, FinMap, from_sorted, get-from_sorted, get_tied, IsAntisymmetric, same_map}
use Rattle.std.specs.FinMap.Entries.{find-where_key, is_sorted-where_key, where_key}
use Rattle.std.specs.List.{swap}

module _ {X : Type 0} (p : X → Bool) where
  -- what passes of the one is what passes of the other, in some order
  abbrev Passes : List X → List X → Type 0
  Passes xs ys = IsPermutation (filter p xs) (filter p ys)

  passes_then : (xs ys zs : List X) → Passes xs ys → Passes ys zs → Passes xs zs
  passes_then xs ys zs = IsPermutation-trans (filter p xs) (filter p ys) (filter p zs)

  passes_cons : (x : X) (xs ys : List X) → Passes xs ys → Passes (x ∷ xs) (x ∷ ys)
  passes_cons x xs ys h = by (p x)
    where
      by : (b : Bool) → IsPermutation (cond b (x ∷ filter p xs) (filter p xs)) (cond b (x ∷ filter p ys) (filter p ys))
      by true = IsPermutation-cons x (filter p xs) (filter p ys) h
      by false = h

  -- two elements before others, each where its answer is true
  abbrev with_both : Bool → Bool → X → X → List X → List X
  with_both b c x y xs = cond b (x ∷ cond c (y ∷ xs) xs) (cond c (y ∷ xs) xs)

  passes_flip : (x y : X) (xs : List X) → Passes (x ∷ y ∷ xs) (y ∷ x ∷ xs)
  passes_flip x y xs = by (p x) (p y)
    where
      by : (b c : Bool) → IsPermutation (with_both b c x y (filter p xs)) (with_both c b y x (filter p xs))
      by true true = IsPermutation-swap (x ∷ y ∷ filter p xs) (y ∷ x ∷ filter p xs) 0 1 (omega arith) (omega arith) refl
      by true false = IsPermutation-refl (x ∷ filter p xs)
      by false true = IsPermutation-refl (y ∷ filter p xs)
      by false false = IsPermutation-refl (filter p xs)

  -- the first and a later one in each other's place
  passes_front : (x : X) (xs : List X) (j : ℕ) (d : X) → j < length xs → Passes (x ∷ xs) (get_or xs j d ∷ set xs j x)
  passes_front x [] j d low = absurd (omega (arith, low))
  passes_front x (y ∷ xs) zero d low = passes_flip x y xs
  passes_front x (y ∷ xs) (suc j) d low =
      passes_then (x ∷ y ∷ xs) (y ∷ x ∷ xs) (get_or xs j d ∷ y ∷ set xs j x) (passes_flip x y xs)
      (passes_then (y ∷ x ∷ xs) (y ∷ get_or xs j d ∷ set xs j x) (get_or xs j d ∷ y ∷ set xs j x)
      (passes_cons y (x ∷ xs) (get_or xs j d ∷ set xs j x) (passes_front x xs j d (omega (arith, low))))
      (passes_flip y (get_or xs j d) (set xs j x)))

  -- any two in each other's place
  passes_swapped : (xs : List X) (i j : ℕ) (d : X) → i < length xs → j < length xs → Passes xs (set (set xs i (get_or xs j d)) j (get_or xs i d))
  passes_swapped [] i j d low high = absurd (omega (arith, low))
  passes_swapped (x ∷ xs) zero zero d low high = IsPermutation-refl (filter p (x ∷ xs))
  passes_swapped (x ∷ xs) zero (suc j) d low high = passes_front x xs j d (omega (arith, high))
  passes_swapped (x ∷ xs) (suc i) zero d low high = passes_front x xs i d (omega (arith, low))
  passes_swapped (x ∷ xs) (suc i) (suc j) d low high = passes_cons x xs (set (set xs i (get_or xs j d)) j (get_or xs i d)) (passes_swapped xs i j d (omega (arith, low)) (omega (arith, high)))

  passes_swap : (xs : List X) (i j : ℕ) → i < length xs → j < length xs → Passes xs (swap xs i j)
  passes_swap [] i j low high = absurd (omega (arith, low))
  passes_swap (x ∷ xs) i j low high = subst (Passes (x ∷ xs)) (swap_is (x ∷ xs) i j x low high) (passes_swapped (x ∷ xs) i j x low high)

  -- what passes of a list in another order is what passes of it, in another order
  pub filter_permuted : (xs ys : List X) → IsPermutation xs ys → IsPermutation (filter p xs) (filter p ys)
  filter_permuted xs ys = IsPermutation-keeps xs (Passes xs) (IsPermutation-refl (filter p xs)) (λ l i j low high h. passes_then xs l (swap l i j) h (passes_swap l i j low high)) ys

module _ {K V : Type 0} {R : K → K → Ordering} (total : IsTotalOrder R) (anti : IsAntisymmetric R) where
  -- a map that has what another one has at the keys that pass a test
  pub entries_where : (m s : FinMap R V) (p : K → Bool) → ((q x : K) → R q x ≡ Equal → p x ≡ p q) → ((q : K) → get m q ≡ cond (p q) (get s q) None) → entries m ≡ filter (λ e. p e.0) (entries s)
  entries_where m s p alike h = ap entries same ∙ entries-from_sorted R (where_key R p (entries s)) sorted
    where
      sorted : T (is_sorted R (where_key R p (entries s)))
      sorted = is_sorted-where_key R p (entries s) (entries_sorted s)

      same : m ≡ from_sorted (where_key R p (entries s))
      same = same_map total anti m (from_sorted (where_key R p (entries s))) (λ q.
          h q ∙ ap (λ o. cond (p q) o None) (get-entries s q)
          ∙ sym (get-from_sorted R (where_key R p (entries s)) q sorted ∙ find-where_key R p q (alike q) (entries s)))

  -- the entries of a map of which one part lies over the rest, with no key in both
  pub entries_parted : (s over rest : FinMap R V) → ((q : K) → get s q ≡ option_or (get over q) (get rest q)) → ((q : K) → contains_key over q ≡ true → contains_key rest q ≡ false) → IsPermutation (entries s) (entries over ++ entries rest)
  entries_parted s over rest lies apart =
      subst (λ es. IsPermutation (entries s) (es ++ entries rest)) (sym above)
      (subst (λ es. IsPermutation (entries s) (filter (λ e. contains_key over e.0) (entries s) ++ es)) (sym below)
      (IsPermutation-filter_both (λ e. contains_key over e.0) (λ e. not (contains_key over e.0)) (λ e. refl) (entries s)))
    where
      alike : (q x : K) → R q x ≡ Equal → contains_key over x ≡ contains_key over q
      alike q x tie = ap is_some (get_tied total over q x tie)

      upper : (o r : Option V) → o ≡ cond (is_some o) (option_or o r) None
      upper None r = refl
      upper (Some v) r = refl

      lower : (o r : Option V) → (is_some o ≡ true → is_some r ≡ false) → r ≡ cond (not (is_some o)) (option_or o r) None
      lower None r h = refl
      lower (Some v) None h = refl
      lower (Some v) (Some w) h = absurd (false≢true (sym (h refl)))

      above : entries over ≡ filter (λ e. contains_key over e.0) (entries s)
      above = entries_where over s (contains_key over) alike (λ q. upper (get over q) (get rest q) ∙ ap (λ o. cond (contains_key over q) o None) (sym (lies q)))

      below : entries rest ≡ filter (λ e. not (contains_key over e.0)) (entries s)
      below = entries_where rest s (λ q. not (contains_key over q)) (λ q x tie. ap not (alike q x tie)) (λ q. lower (get over q) (get rest q) (apart q) ∙ ap (λ o. cond (not (contains_key over q)) o None) (sym (lies q)))

-- what passes of mapped elements, where each passes as its image does
pub filter_mapped : {X Y : Type 0} (f : X → Y) (p : Y → Bool) (r : X → Bool) (xs : List X) → ((x : X) → Has x xs → p (f x) ≡ r x) → filter p (map f xs) ≡ map f (filter r xs)
filter_mapped f p r [] h = refl
filter_mapped f p r (x ∷ xs) h = ap (λ b. cond b (f x ∷ filter p (map f xs)) (filter p (map f xs))) (h x (inl refl)) ∙ by (r x) (filter_mapped f p r xs (λ y there. h y (inr there)))
  where
    by : (b : Bool) → filter p (map f xs) ≡ map f (filter r xs) → cond b (f x ∷ filter p (map f xs)) (filter p (map f xs)) ≡ map f (cond b (x ∷ filter r xs) (filter r xs))
    by true e = ap (λ l. f x ∷ l) e
    by false e = e
