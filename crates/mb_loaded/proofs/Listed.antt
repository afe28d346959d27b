-- Places in lists of changes, and one more change at their end.
use Rattle.mb_loaded.proofs.Common.{ap, append-nil, append_assoc, arith, Bool, Change, Decides-ltb, false, filter_map, filter_map-append, get_or, inl, inr, length, List, nat_lt, None, Option}
use Rattle.mb_loaded.proofs.Common.{option_to_list, position, position_or_len, refl, slice_get, Some, suc, sym, take, take_more, true, with_any, zero, ℕ, [], ◌++◌, ◌+◌, ◌<◌, ◌∙◌, ◌∷◌, ◌≡◌, ◌⊎◌}
use Rattle.mb_store.specs.Changes.{same_key, with_change}

pub in_append : {X : Type 0} (xs ys : List X) (k : ℕ) (x : X) → slice_get (xs ++ ys) k ≡ Some x → (slice_get xs k ≡ Some x) ⊎ ((j : ℕ) × (slice_get ys j ≡ Some x))
in_append [] ys k x h = inr (k, h)
in_append (z ∷ xs) ys zero x h = inl h
in_append (z ∷ xs) ys (suc k) x h = in_append xs ys k x h

pub at_right : {X : Type 0} (xs ys : List X) (k : ℕ) (x : X) → slice_get ys k ≡ Some x → (j : ℕ) × (slice_get (xs ++ ys) j ≡ Some x)
at_right [] ys k x h = (k, h)
at_right (z ∷ xs) ys k x h = let r = at_right xs ys k x h in (suc r.0, r.1)

-- what is mapped comes of an item
pub in_mapped : {X Y : Type 0} (f : X → Option Y) (xs : List X) (k : ℕ) (y : Y) → slice_get (filter_map f xs) k ≡ Some y → (i : ℕ) × (x : X) × (slice_get xs i ≡ Some x) × (f x ≡ Some y)
in_mapped f [] k y h = cc
in_mapped {X} {Y} f (z ∷ xs) k y h = by (f z) refl k h (λ j. in_mapped f xs j y)
  where
    by : (o : Option Y) → f z ≡ o → (k : ℕ) → slice_get (filter_map f (z ∷ xs)) k ≡ Some y → ((j : ℕ) → slice_get (filter_map f xs) j ≡ Some y → (i : ℕ) × (x : X) × (slice_get xs i ≡ Some x) × (f x ≡ Some y)) → (i : ℕ) × (x : X) × (slice_get (z ∷ xs) i ≡ Some x) × (f x ≡ Some y)
    by None e k h rest = let r = rest k (rw e at h) in (suc r.0, r.1, r.2, r.3)
    by (Some w) e zero h rest = let g = rw e at h in (0, z, refl, e ∙ g)
    by (Some w) e (suc k) h rest = let r = rest k (rw e at h) in (suc r.0, r.1, r.2, r.3)

-- and what an item is mapped to is there
pub keeps_mapped : {X Y : Type 0} (f : X → Option Y) (xs : List X) (i : ℕ) (x : X) (y : Y) → slice_get xs i ≡ Some x → f x ≡ Some y → (k : ℕ) × (slice_get (filter_map f xs) k ≡ Some y)
keeps_mapped f [] i x y h e = cc
keeps_mapped f (z ∷ xs) zero x y h e = let same : z ≡ x = cc in (0, rw (same, e) refl)
keeps_mapped {X} {Y} f (z ∷ xs) (suc i) x y h e = let r = keeps_mapped f xs i x y h e in by (f z) refl r.0 r.1
  where
    by : (o : Option Y) → f z ≡ o → (j : ℕ) → slice_get (filter_map f xs) j ≡ Some y → (k : ℕ) × (slice_get (filter_map f (z ∷ xs)) k ≡ Some y)
    by None e j h = (j, rw e h)
    by (Some w) e j h = (suc j, rw e h)

in_take : {X : Type 0} (xs : List X) (i j : ℕ) (x : X) → slice_get (take i xs) j ≡ Some x → (j < i) × (slice_get xs j ≡ Some x)
in_take [] zero j x h = cc
in_take (z ∷ xs) (suc i) zero x h = (omega arith, h)
in_take (z ∷ xs) (suc i) (suc j) x h = let r = in_take xs i j x h in (omega (arith, r.0), r.1)
in_take _ _ j x h = cc

far : {X : Type 0} (p : X → Bool) (xs : List X) → ((k : ℕ) (x : X) → slice_get xs k ≡ Some x → p x ≡ false) → position_or_len p xs ≡ length xs
far p [] h = refl
far p (x ∷ xs) h = rw (h 0 x refl) (omega (arith, far p xs (λ k y at. h (suc k) y at)))

not_below : (n : ℕ) → nat_lt n n ≡ false
not_below n = by (nat_lt n n) refl
  where
    by : (b : Bool) → nat_lt n n ≡ b → b ≡ false
    by true e = absurd (let lt : n < n = (Decides-ltb n n).0 e in omega arith)
    by false e = refl

no_position : {X : Type 0} (p : X → Bool) (xs : List X) → ((k : ℕ) (x : X) → slice_get xs k ≡ Some x → p x ≡ false) → position p xs ≡ None
no_position p xs h = rw (far p xs h, not_below (length xs)) refl

-- a change under a new key is pushed
pushed : (cs : List Change) (c : Change) → ((k : ℕ) (d : Change) → slice_get cs k ≡ Some d → same_key d c ≡ false) → with_change cs c ≡ cs ++ c ∷ []
pushed cs c h = rw (no_position (λ d. same_key d c) cs h) refl

mapped_more : {X Y : Type 0} (f : X → Option Y) (xs : List X) (i : ℕ) (x : X) (o : Option Y) → i < length xs → x ≡ get_or xs i x → f x ≡ o → filter_map f (take (i + 1) xs) ≡ filter_map f (take i xs) ++ option_to_list o
mapped_more f xs i x None lt at e = rw (take_more xs i x lt, ← at, filter_map-append f (take i xs) (x ∷ []), e) refl
mapped_more f xs i x (Some y) lt at e = rw (take_more xs i x lt, ← at, filter_map-append f (take i xs) (x ∷ []), e) refl

none_more : {X : Type 0} (f : X → Option Change) (base : List Change) (xs : List X) (i : ℕ) (x : X) → i < length xs → x ≡ get_or xs i x → f x ≡ None → base ++ filter_map f (take i xs) ≡ base ++ filter_map f (take (i + 1) xs)
none_more f base xs i x lt at e = ap (λ l. base ++ l) (sym (mapped_more f xs i x None lt at e ∙ append-nil (filter_map f (take i xs))))

one_more : {X : Type 0} (f : X → Option Change) (base : List Change) (xs : List X) (i : ℕ) (x : X) (c : Change) → i < length xs → x ≡ get_or xs i x → f x ≡ Some c → ((k : ℕ) (d : Change) → slice_get base k ≡ Some d → same_key d c ≡ false) → ((j : ℕ) (y : X) (d : Change) → j < i → slice_get xs j ≡ Some y → f y ≡ Some d → same_key d c ≡ false) → with_change (base ++ filter_map f (take i xs)) c ≡ base ++ filter_map f (take (i + 1) xs)
one_more f base xs i x c lt at e old earlier =
    pushed (base ++ filter_map f (take i xs)) c (λ k d here. elim (in_append base (filter_map f (take i xs)) k d here) [
      | inl a ↦ old k d a
      | inr b ↦
          let m = in_mapped f (take i xs) b.0 d b.1 in
          let t = in_take xs i m.0 m.1 m.2 in
          earlier m.0 m.1 d t.0 t.1 m.3
    ])
    ∙ (append_assoc base (filter_map f (take i xs)) (c ∷ []) ∙ ap (λ l. base ++ l) (sym (mapped_more f xs i x (Some c) lt at e)))

-- one more item whose change, if it has one, is of a new key
pub more : {X : Type 0} (f : X → Option Change) (base : List Change) (xs : List X) (i : ℕ) (x : X) → i < length xs → x ≡ get_or xs i x → ((c : Change) → f x ≡ Some c → ((k : ℕ) (d : Change) → slice_get base k ≡ Some d → same_key d c ≡ false) × ((j : ℕ) (y : X) (d : Change) → j < i → slice_get xs j ≡ Some y → f y ≡ Some d → same_key d c ≡ false)) → with_any (base ++ filter_map f (take i xs)) (f x) ≡ base ++ filter_map f (take (i + 1) xs)
more {X} f base xs i x lt at fresh = by (f x) refl fresh
  where
    by : (o : Option Change) → f x ≡ o → ((c : Change) → o ≡ Some c → ((k : ℕ) (d : Change) → slice_get base k ≡ Some d → same_key d c ≡ false) × ((j : ℕ) (y : X) (d : Change) → j < i → slice_get xs j ≡ Some y → f y ≡ Some d → same_key d c ≡ false)) → with_any (base ++ filter_map f (take i xs)) o ≡ base ++ filter_map f (take (i + 1) xs)
    by None e fresh = none_more f base xs i x lt at e
    by (Some c) e fresh = one_more f base xs i x c lt at e (fresh c refl).0 (fresh c refl).1
