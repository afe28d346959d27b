-- Finding and counting in lists after an item was put in, taken out or written over.
use Rattle.mb_lists.proofs.Common.{ap, arith, Bool, cases_eq, cases_lt, cond, drop, false, find, get_or, get_or-insert_above, get_or-insert_at, get_or-insert_below, get_or-remove_above}
use Rattle.mb_lists.proofs.Common.{get_or-remove_below, inl, inr, insert, length, length-drop, List, None, refl, remove, set, Some, subst, suc, sym, take, true, zero, ℕ, [], ◌++◌, ◌+◌, ◌-◌, ◌<◌, ◌∙◌}
use Rattle.mb_lists.proofs.Common.{◌∷◌, ◌≡◌, ◌≤◌, ◌⊎◌}

pub find_push_other : {X : Type 0} (p : X → Bool) (xs : List X) (y : X) → p y ≡ false → find p (xs ++ y ∷ []) ≡ find p xs
find_push_other p [] y h = rw h refl
find_push_other p (x ∷ xs) y h = ap (λ o. cond (p x) (Some x) o) (find_push_other p xs y h)

pub find_push_new : {X : Type 0} (p : X → Bool) (xs : List X) (y : X) → find p xs ≡ None → p y ≡ true → find p (xs ++ y ∷ []) ≡ Some y
find_push_new p [] y n h = rw h refl
find_push_new p (x ∷ xs) y n h = step (p x) n (λ m. find_push_new p xs y m h)
  where
    step : (b : Bool) → cond b (Some x) (find p xs) ≡ None → (find p xs ≡ None → find p (xs ++ y ∷ []) ≡ Some y) → cond b (Some x) (find p (xs ++ y ∷ [])) ≡ Some y
    step true n rest = cc
    step false n rest = rest n

pub find_set_other : {X : Type 0} (p : X → Bool) (xs : List X) (i : ℕ) (y d : X) → p (get_or xs i d) ≡ false → p y ≡ false → find p (set xs i y) ≡ find p xs
find_set_other p [] i y d h k = refl
find_set_other p (x ∷ xs) zero y d h k = rw (h, k) refl
find_set_other p (x ∷ xs) (suc i) y d h k = ap (λ o. cond (p x) (Some x) o) (find_set_other p xs i y d h k)

pub find_set_first : {X : Type 0} (p : X → Bool) (xs : List X) (i : ℕ) (y d : X) → i < length xs → ((k : ℕ) → k < i → p (get_or xs k d) ≡ false) → p y ≡ true → find p (set xs i y) ≡ Some y
find_set_first p [] i y d lt h k = absurd (omega arith)
find_set_first p (x ∷ xs) zero y d lt h k = rw k refl
find_set_first p (x ∷ xs) (suc i) y d lt h k = rw (h 0 (omega arith)) (find_set_first p xs i y d (omega arith) (λ j less. h (suc j) (omega arith)) k)

-- finding after an item was put in or taken out
pub find_insert_other : {X : Type 0} (p : X → Bool) (xs : List X) (i : ℕ) (y : X) → p y ≡ false → find p (insert xs i y) ≡ find p xs
find_insert_other p [] zero y h = rw h refl
find_insert_other p [] (suc i) y h = rw h refl
find_insert_other p (x ∷ xs) zero y h = rw h refl
find_insert_other p (x ∷ xs) (suc i) y h = ap (λ o. cond (p x) (Some x) o) (find_insert_other p xs i y h)

pub find_insert_new : {X : Type 0} (p : X → Bool) (xs : List X) (i : ℕ) (y : X) → find p xs ≡ None → p y ≡ true → find p (insert xs i y) ≡ Some y
find_insert_new p [] zero y n h = rw h refl
find_insert_new p [] (suc i) y n h = rw h refl
find_insert_new p (x ∷ xs) zero y n h = rw h refl
find_insert_new p (x ∷ xs) (suc i) y n h = step (p x) n (λ m. find_insert_new p xs i y m h)
  where
    step : (b : Bool) → cond b (Some x) (find p xs) ≡ None → (find p xs ≡ None → find p (insert xs i y) ≡ Some y) → cond b (Some x) (find p (insert xs i y)) ≡ Some y
    step true n rest = cc
    step false n rest = rest n

pub find_remove_other : {X : Type 0} (p : X → Bool) (xs : List X) (i : ℕ) (d : X) → i < length xs → p (get_or xs i d) ≡ false → find p (remove xs i) ≡ find p xs
find_remove_other p [] i d lt h = absurd (omega arith)
find_remove_other p (x ∷ xs) zero d lt h = rw h refl
find_remove_other p (x ∷ xs) (suc i) d lt h = ap (λ o. cond (p x) (Some x) o) (find_remove_other p xs i d (omega arith) h)

-- where an item of the shorter list stood
pub removed_from : {X : Type 0} (xs : List X) (i k : ℕ) (d : X) → i < length xs → (j : ℕ) × (get_or (remove xs i) k d ≡ get_or xs j d) × (((j ≡ k) × (k < i)) ⊎ ((j ≡ k + 1) × (i ≤ k)))
removed_from xs i k d lt = elim (cases_lt k i) [
  | inl a ↦ (k, get_or-remove_below xs i d k a lt, inl (refl, a))
  | inr b ↦ (k + 1, get_or-remove_above xs i d k b lt, inr (refl, b))
]

-- the same of the longer list
pub inserted_from : {X : Type 0} (xs : List X) (i k : ℕ) (y d : X) → i ≤ length xs → ((k < i) × (get_or (insert xs i y) k d ≡ get_or xs k d)) ⊎ (((k ≡ i) × (get_or (insert xs i y) k d ≡ y)) ⊎ ((j : ℕ) × (k ≡ j + 1) × (i ≤ j) × (get_or (insert xs i y) k d ≡ get_or xs j d)))
inserted_from xs i zero y d le = elim (cases_lt 0 i) [
  | inl a ↦ inl (a, get_or-insert_below xs i y d 0 a le)
  | inr b ↦ let z : 0 ≡ i = omega arith in inr (inl (z, subst (λ n. get_or (insert xs i y) n d ≡ y) (sym z) (get_or-insert_at xs i y d le)))
]
inserted_from xs i (suc j) y d le = elim (cases_lt (suc j) i) [
  | inl a ↦ inl (a, get_or-insert_below xs i y d (suc j) a le)
  | inr b ↦ elim (cases_eq (suc j) i) [
    | inl z ↦ inr (inl (z, subst (λ n. get_or (insert xs i y) n d ≡ y) (sym z) (get_or-insert_at xs i y d le)))
    | inr n ↦ let far : i ≤ j = omega arith in inr (inr (j, omega arith, far, subst (λ n. get_or (insert xs i y) n d ≡ get_or xs j d) (omega arith) (get_or-insert_above xs i y d j far le)))
  ]
]

-- where an item stood before one was taken out
pub came_in_order : (i j k a b : ℕ) → j < k → ((a ≡ j) × (j < i)) ⊎ ((a ≡ j + 1) × (i ≤ j)) → ((b ≡ k) × (k < i)) ⊎ ((b ≡ k + 1) × (i ≤ k)) → a < b
came_in_order i j k a b less (inl p) (inl q) = omega (arith, p.0, p.1, q.0, q.1)
came_in_order i j k a b less (inl p) (inr q) = omega (arith, p.0, p.1, q.0, q.1)
came_in_order i j k a b less (inr p) (inl q) = omega (arith, p.0, p.1, q.0, q.1)
came_in_order i j k a b less (inr p) (inr q) = omega (arith, p.0, p.1, q.0, q.1)

pub came_below : (i n m k b : ℕ) → ((i < n) × (m + 1 ≡ n)) ⊎ ((n ≤ i) × (m ≡ n)) → k < m → ((b ≡ k) × (k < i)) ⊎ ((b ≡ k + 1) × (i ≤ k)) → b < n
came_below i n m k b (inl c) lt (inl q) = omega (arith, c.0, c.1, q.0, q.1)
came_below i n m k b (inl c) lt (inr q) = omega (arith, c.0, c.1, q.0, q.1)
came_below i n m k b (inr c) lt (inl q) = omega (arith, c.0, c.1, q.0, q.1)
came_below i n m k b (inr c) lt (inr q) = absurd (omega (arith, c.0, c.1, q.0, q.1))

pub came_above : (i n m k b : ℕ) → ((i < n) × (m + 1 ≡ n)) ⊎ ((n ≤ i) × (m ≡ n)) → m ≤ k → ((b ≡ k) × (k < i)) ⊎ ((b ≡ k + 1) × (i ≤ k)) → n ≤ b
came_above i n m k b (inl c) le (inl q) = absurd (omega (arith, c.0, c.1, q.0, q.1))
came_above i n m k b (inl c) le (inr q) = omega (arith, c.0, c.1, q.0, q.1)
came_above i n m k b (inr c) le (inl q) = omega (arith, c.0, c.1, q.0, q.1)
came_above i n m k b (inr c) le (inr q) = omega (arith, c.0, c.1, q.0, q.1)

pub came_within : (i k b len : ℕ) → k + 1 < len + 1 → ((b ≡ k) × (k < i)) ⊎ ((b ≡ k + 1) × (i ≤ k)) → k + 1 < len → b < len
came_within i k b len lt (inl q) more = omega (arith, q.0, q.1)
came_within i k b len lt (inr q) more = omega (arith, q.0, q.1)

pub came_apart : (i k b : ℕ) → ((b ≡ k) × (k < i)) ⊎ ((b ≡ k + 1) × (i ≤ k)) → (b < i) ⊎ (i < b)
came_apart i k b (inl q) = inl (omega (arith, q.0, q.1))
came_apart i k b (inr q) = inr (omega (arith, q.0, q.1))

-- the slice from n on
take_past : {X : Type 0} (k : ℕ) (ys : List X) → length ys ≤ k → take k ys ≡ ys
take_past zero [] h = refl
take_past (suc k) [] h = refl
take_past zero (y ∷ ys) h = absurd (omega arith)
take_past (suc k) (y ∷ ys) h = ap (λ l. y ∷ l) (take_past k ys (omega arith))

pub slice_from : {X : Type 0} (xs ys : List X) (n : ℕ) → xs ≡ ys → take (length xs - n) (drop n xs) ≡ drop n ys
slice_from xs ys n e = take_past (length xs - n) (drop n xs) (omega (arith, length-drop n xs)) ∙ ap (drop n) e
