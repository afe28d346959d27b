-- Rows put into ordered rows: their order, their number, and that a sorted list of them is what they make.
use Rattle.mb_store.proofs.Common.{All, All-contains_itself, All-head, All-permutation, all_rows, AllByRecursion, AllPairs, ap, apart_from_distinct, arith, Bool, Contains, eq_by_cmp, eq_by_cmp_equiv}
use Rattle.mb_store.proofs.Common.{Equal, false, false≢true, get_or, Greater, inl, inr, insert_key, is_eq, is_lt, IsDistinct, IsDistinct-from_apart, IsDistinct-IsPermutation, IsPermutation}
use Rattle.mb_store.proofs.Common.{IsPermutation-cons, IsPermutation-middle, IsPermutation-refl, IsPermutation-sym, IsPermutation-trans, IsSorted, IsStrictlySortedBy, IsTotalOrder, length, Less, List}
use Rattle.mb_store.proofs.Common.{list_any, list_any-IsPermutation, match_ordering, Ordering, ordering_reverse, refl, sorted_from_all_adjacent, Stored, stored_cmp, stored_total, subst, suc, sym}
use Rattle.mb_store.proofs.Common.{tied_itself, zero, ℕ, [], ◌++◌, ◌+◌, ◌<◌, ◌||◌, ◌∙◌, ◌∷◌, ◌≡◌, ◌⊎◌}

-- a key beside the first of others, by their order
abbrev beside : {K : Type 0} → (K → K → Ordering) → Ordering → K → K → List K → List K
beside R r k z zs = match_ordering r (k ∷ z ∷ zs) (z ∷ zs) (z ∷ insert_key R zs k)

-- what holds of all holds of each
at_each : {K : Type 0} (P : K → Type 0) (xs : List K) (k : ℕ) (d : K) → AllByRecursion P xs → k < length xs → P (get_or xs k d)
at_each P [] k d all far = absurd (omega arith)
at_each P (x ∷ xs) zero d all far = all.0
at_each P (x ∷ xs) (suc k) d all far = at_each P xs k d all.1 (omega arith)

pub none_passes : {K : Type 0} (p : K → Bool) (xs : List K) → AllByRecursion (λ x. p x ≡ false) xs → list_any p xs ≡ false
none_passes p [] all = refl
none_passes p (x ∷ xs) all = λ i. all.0 i || none_passes p xs all.1 i

module _ {K : Type 0} {R : K → K → Ordering} (o : IsTotalOrder R) where
  -- the order turned round
  back : (x y : K) (r : Ordering) → R x y ≡ r → R y x ≡ ordering_reverse r
  back x y r e = o.antisymm y x ∙ ap ordering_reverse e

  above : (x y z : K) → R x z ≡ Less → R z y ≡ Less → R y x ≡ Greater
  above x y z e f = back x y Less (o.trans x z y e f)

  above_tie : (x y z : K) → R x z ≡ Less → R y z ≡ Equal → R y x ≡ Greater
  above_tie x y z e f = o.congr y z x f ∙ back x z Less e

  -- two keys that differ can be put in either order
  pub swapped : (x y : K) → is_eq (R x y) ≡ false → (ks : List K) → insert_key R (insert_key R ks x) y ≡ insert_key R (insert_key R ks y) x
  swapped x y apart [] = by (R x y) refl apart
    where
      by : (r : Ordering) → R x y ≡ r → is_eq r ≡ false → match_ordering (R y x) (y ∷ x ∷ []) (x ∷ []) (x ∷ y ∷ []) ≡ match_ordering (R x y) (x ∷ y ∷ []) (y ∷ []) (y ∷ x ∷ [])
      by Less e h = ap (λ r. match_ordering r (y ∷ x ∷ []) (x ∷ []) (x ∷ y ∷ [])) (back x y Less e) ∙ sym (ap (λ r. match_ordering r (x ∷ y ∷ []) (y ∷ []) (y ∷ x ∷ [])) e)
      by Equal e h = absurd (false≢true (sym h))
      by Greater e h = ap (λ r. match_ordering r (y ∷ x ∷ []) (x ∷ []) (x ∷ y ∷ [])) (back x y Greater e) ∙ sym (ap (λ r. match_ordering r (x ∷ y ∷ []) (y ∷ []) (y ∷ x ∷ [])) e)
  swapped x y apart (z ∷ zs) = by (R x z) (R y z) refl refl (swapped x y apart zs)
    where
      low : (r : Ordering) → R x y ≡ r → is_eq r ≡ false → R x z ≡ Less → R y z ≡ Less → insert_key R (x ∷ z ∷ zs) y ≡ insert_key R (y ∷ z ∷ zs) x
      low Less d h e f = ap (λ r. beside R r y x (z ∷ zs)) (back x y Less d) ∙ (ap (λ r. x ∷ beside R r y z zs) f ∙ sym (ap (λ r. beside R r x y (z ∷ zs)) d))
      low Equal d h e f = absurd (false≢true (sym h))
      low Greater d h e f = ap (λ r. beside R r y x (z ∷ zs)) (back x y Greater d) ∙ sym (ap (λ r. beside R r x y (z ∷ zs)) d ∙ ap (λ r. y ∷ beside R r x z zs) e)

      by : (p q : Ordering) → R x z ≡ p → R y z ≡ q → insert_key R (insert_key R zs x) y ≡ insert_key R (insert_key R zs y) x → insert_key R (beside R p x z zs) y ≡ insert_key R (beside R q y z zs) x
      by Less Less e f next = low (R x y) refl apart e f
      by Less Equal e f next = ap (λ r. beside R r y x (z ∷ zs)) (above_tie x y z e f) ∙ (ap (λ r. x ∷ beside R r y z zs) f ∙ sym (ap (λ r. beside R r x z zs) e))
      by Less Greater e f next = ap (λ r. beside R r y x (z ∷ zs)) (above x y z e (back y z Greater f)) ∙ (ap (λ r. x ∷ beside R r y z zs) f ∙ sym (ap (λ r. beside R r x z (insert_key R zs y)) e))
      by Equal Less e f next = ap (λ r. beside R r y z zs) f ∙ sym (ap (λ r. beside R r x y (z ∷ zs)) (above_tie y x z f e) ∙ ap (λ r. y ∷ beside R r x z zs) e)
      by Equal Equal e f next = ap (λ r. beside R r y z zs) f ∙ sym (ap (λ r. beside R r x z zs) e)
      by Equal Greater e f next = ap (λ r. beside R r y z zs) f ∙ sym (ap (λ r. beside R r x z (insert_key R zs y)) e)
      by Greater Less e f next = ap (λ r. beside R r y z (insert_key R zs x)) f ∙ sym (ap (λ r. beside R r x y (z ∷ zs)) (above y x z f (back x z Greater e)) ∙ ap (λ r. y ∷ beside R r x z zs) e)
      by Greater Equal e f next = ap (λ r. beside R r y z (insert_key R zs x)) f ∙ sym (ap (λ r. beside R r x z zs) e)
      by Greater Greater e f next = ap (λ r. beside R r y z (insert_key R zs x)) f ∙ (ap (λ ks. z ∷ ks) next ∙ sym (ap (λ r. beside R r x z (insert_key R zs y)) e))

  insert_holds : (P : K → Type 0) (ks : List K) (k : K) → AllByRecursion P ks → P k → AllByRecursion P (insert_key R ks k)
  insert_holds P [] k all one = (one, tt)
  insert_holds P (z ∷ zs) k all one = by (R k z) (insert_holds P zs k all.1 one)
    where
      by : (r : Ordering) → AllByRecursion P (insert_key R zs k) → AllByRecursion P (beside R r k z zs)
      by Less rest = (one, all)
      by Equal rest = all
      by Greater rest = (all.0, rest)

  all_above : (k z : K) (ys : List K) → R k z ≡ Less → AllByRecursion (λ y. R z y ≡ Less) ys → AllByRecursion (λ y. R k y ≡ Less) ys
  all_above k z [] e all = tt
  all_above k z (y ∷ ys) e all = (o.trans k z y e all.0, all_above k z ys e all.1)

  sorted_beside : (r : Ordering) (k z : K) (zs : List K) → R k z ≡ r → AllByRecursion (λ y. R z y ≡ Less) zs → IsStrictlySortedBy R zs → IsStrictlySortedBy R (insert_key R zs k) → IsStrictlySortedBy R (beside R r k z zs)
  unfolding IsStrictlySortedBy
  sorted_beside Less k z zs e first sorted rest = ((e, all_above k z zs e first), (first, sorted))
  sorted_beside Equal k z zs e first sorted rest = (first, sorted)
  sorted_beside Greater k z zs e first sorted rest = (insert_holds (λ y. R z y ≡ Less) zs k first (back k z Greater e), rest)

  -- a key put at its place leaves the order
  pub insert_sorted : (ks : List K) (k : K) → IsStrictlySortedBy R ks → IsStrictlySortedBy R (insert_key R ks k)
  unfolding IsStrictlySortedBy
  insert_sorted [] k sorted = (tt, tt)
  insert_sorted (z ∷ zs) k sorted = sorted_beside (R k z) k z zs refl sorted.0 sorted.1 (insert_sorted zs k sorted.1)

  -- and it is one more key where none is equal to it
  insert_permutation : (ks : List K) (k : K) → list_any (eq_by_cmp R k) ks ≡ false → IsPermutation (k ∷ ks) (insert_key R ks k)
  insert_permutation [] k none = IsPermutation-refl (k ∷ [])
  insert_permutation (z ∷ zs) k none = by (R k z) none (insert_permutation zs k)
    where
      by : (r : Ordering) → (is_eq r || list_any (eq_by_cmp R k) zs) ≡ false → (list_any (eq_by_cmp R k) zs ≡ false → IsPermutation (k ∷ zs) (insert_key R zs k)) → IsPermutation (k ∷ z ∷ zs) (beside R r k z zs)
      by Less h next = IsPermutation-refl (k ∷ z ∷ zs)
      by Equal h next = absurd (false≢true (sym h))
      by Greater h next = IsPermutation-trans (k ∷ z ∷ zs) (z ∷ k ∷ zs) (z ∷ insert_key R zs k) (IsPermutation-middle (k ∷ []) z zs) (IsPermutation-cons z (k ∷ zs) (insert_key R zs k) (next h))

  -- an element is the first or above it
  lower : (y z : K) (zs : List K) → AllByRecursion (λ x. R z x ≡ Less) zs → Contains (z ∷ zs) y → (y ≡ z) ⊎ (R z y ≡ Less)
  lower y z zs below (zero, lt, e) = inl (sym e)
  lower y z zs below (suc k, lt, e) = inr (subst (λ x. R z x ≡ Less) e (at_each (λ x. R z x ≡ Less) zs k y below (omega arith)))

  heads : (y z : K) → (y ≡ z) ⊎ (R z y ≡ Less) → (z ≡ y) ⊎ (R y z ≡ Less) → y ≡ z
  heads y z (inl e) h = e
  heads y z (inr a) (inl e) = sym e
  heads y z (inr a) (inr b) = absurd (differ (sym b ∙ back z y Less a))
    where
      differ : Less ≡ Greater → ⊥
      differ h = cc

  tail_in : (z x : K) (zs : List K) → R z x ≡ Less → Contains (z ∷ zs) x → Contains zs x
  tail_in z x zs below (zero, lt, e) = absurd (differ (sym below ∙ (ap (λ y. R z y) (sym e) ∙ tied_itself o z)))
    where
      differ : Less ≡ Equal → ⊥
      differ h = cc
  tail_in z x zs below (suc k, lt, e) = (k, omega arith, e)

  all_in : (z : K) (zs ys : List K) → AllByRecursion (λ x. R z x ≡ Less) ys → All (Contains (z ∷ zs)) ys → All (Contains zs) ys
  all_in z zs ys below all k d far = tail_in z (get_or ys k d) zs (at_each (λ x. R z x ≡ Less) ys k d below far) (all k d far)

  behind_first : (y : K) (ys : List K) (P : K → Type 0) → All P (y ∷ ys) → All P ys
  behind_first y ys P all k d far = all (suc k) d (omega arith)

  none_in : (x : K) → Contains [] x → ⊥
  none_in x (k, lt, e) = absurd (omega arith)

  -- lists in strict order with the same elements are equal
  pub same_sorted : (ys zs : List K) → IsStrictlySortedBy R ys → IsStrictlySortedBy R zs → All (Contains zs) ys → All (Contains ys) zs → ys ≡ zs
  unfolding IsStrictlySortedBy
  same_sorted [] [] a b p q = refl
  same_sorted [] (z ∷ zs) a b p q = absurd (none_in z (All-head (Contains []) z zs q))
  same_sorted (y ∷ ys) [] a b p q = absurd (none_in y (All-head (Contains []) y ys p))
  same_sorted (y ∷ ys) (z ∷ zs) a b p q =
      let e : y ≡ z = heads y z (lower y z zs b.0 (All-head (Contains (z ∷ zs)) y ys p)) (lower z y ys a.0 (All-head (Contains (y ∷ ys)) z zs q)) in
      let below : AllByRecursion (λ x. R z x ≡ Less) ys = subst (λ w. AllByRecursion (λ x. R w x ≡ Less) ys) e a.0 in
      let above : AllByRecursion (λ x. R y x ≡ Less) zs = subst (λ w. AllByRecursion (λ x. R w x ≡ Less) zs) (sym e) b.0 in
      let rest : ys ≡ zs = same_sorted ys zs a.1 b.1 (all_in z zs ys below (behind_first y ys (Contains (z ∷ zs)) p)) (all_in y ys zs above (behind_first z zs (Contains (y ∷ ys)) q)) in
      λ i. e i ∷ rest i

  less : (r : Ordering) → is_eq r ≡ false → is_lt (ordering_reverse r) ≡ false → r ≡ Less
  less Less h k = refl
  less Equal h k = absurd (false≢true (sym h))
  less Greater h k = absurd (false≢true (sym k))

  -- a sorted list without equal elements is in strict order
  strictly : (ys : List K) → IsDistinct (eq_by_cmp R) ys → IsSorted R ys → IsStrictlySortedBy R ys
  unfolding IsStrictlySortedBy
  strictly [] apart sorted = tt
  strictly (y ∷ ys) apart sorted = sorted_from_all_adjacent o (y ∷ ys) y (λ k lt.
      less (R (get_or (y ∷ ys) k y) (get_or (y ∷ ys) (k + 1) y)) (apart_from_distinct (eq_by_cmp R) (y ∷ ys) k (k + 1) y apart (omega arith) lt)
      (ap is_lt (sym (o.antisymm (get_or (y ∷ ys) (k + 1) y) (get_or (y ∷ ys) k y))) ∙ sorted k y (omega arith) lt))

-- all rows of a list are in strict order
pub all_sorted : (keys xs : List Stored) → IsStrictlySortedBy stored_cmp keys → IsStrictlySortedBy stored_cmp (all_rows keys xs)
all_sorted keys [] sorted = sorted
all_sorted keys (x ∷ xs) sorted = insert_sorted stored_total (all_rows keys xs) x (all_sorted keys xs sorted)

-- rows without equal keys are all there
all_there : (xs : List Stored) → IsDistinct (eq_by_cmp stored_cmp) xs → IsPermutation xs (all_rows [] xs)
unfolding IsDistinct
all_there [] apart = IsPermutation-refl []
all_there (x ∷ xs) apart =
    IsPermutation-trans (x ∷ xs) (x ∷ all_rows [] xs) (insert_key stored_cmp (all_rows [] xs) x) (IsPermutation-cons x xs (all_rows [] xs) (all_there xs apart.1))
    (insert_permutation stored_total (all_rows [] xs) x (sym (list_any-IsPermutation (eq_by_cmp stored_cmp x) xs (all_rows [] xs) (all_there xs apart.1)) ∙ none_passes (eq_by_cmp stored_cmp x) xs apart.0))

abbrev pub AreApart : List Stored → Type 0
AreApart xs = AllPairs (λ a b. eq_by_cmp stored_cmp a b ≡ false) xs

distinct : (xs : List Stored) → AreApart xs → IsDistinct (eq_by_cmp stored_cmp) xs
distinct xs apart = IsDistinct-from_apart (eq_by_cmp stored_cmp) xs apart

pub all_permuted : (xs : List Stored) → AreApart xs → IsPermutation xs (all_rows [] xs)
all_permuted xs apart = all_there xs (distinct xs apart)

empty_sorted : IsStrictlySortedBy stored_cmp []
unfolding IsStrictlySortedBy
empty_sorted = tt

-- a sorted list of them is what they make
pub sorted_all : (xs ys : List Stored) → AreApart xs → IsPermutation xs ys → IsSorted stored_cmp ys → ys ≡ all_rows [] xs
sorted_all xs ys apart moved sorted =
    let there : IsPermutation xs (all_rows [] xs) = all_permuted xs apart in
    let zs : List Stored = all_rows [] xs in
    same_sorted stored_total ys zs
    (strictly stored_total ys (IsDistinct-IsPermutation (eq_by_cmp stored_cmp) (eq_by_cmp_equiv stored_total).symm xs ys moved (distinct xs apart)) sorted)
    (all_sorted [] xs empty_sorted)
    (All-permutation (Contains zs) xs ys moved (All-permutation (Contains zs) zs xs (IsPermutation-sym xs zs there) (All-contains_itself zs)))
    (All-permutation (Contains ys) xs zs there (All-permutation (Contains ys) ys xs (IsPermutation-sym xs ys moved) (All-contains_itself ys)))

-- the last of a list is moved into the ordered rows
pub last_moved : (keys xs : List Stored) (x : Stored) → all_rows keys (xs ++ x ∷ []) ≡ all_rows (insert_key stored_cmp keys x) xs
last_moved keys [] x = refl
last_moved keys (y ∷ ys) x = ap (λ ks. insert_key stored_cmp ks y) (last_moved keys ys x)

-- and where it differs from the others it is put at its place among all
pub last_placed : (keys xs : List Stored) (x : Stored) → AllByRecursion (λ y. is_eq (stored_cmp x y) ≡ false) xs → all_rows keys (xs ++ x ∷ []) ≡ insert_key stored_cmp (all_rows keys xs) x
last_placed keys [] x apart = refl
last_placed keys (y ∷ ys) x apart = ap (λ ks. insert_key stored_cmp ks y) (last_placed keys ys x apart.1) ∙ swapped stored_total x y apart.0 (all_rows keys ys)
