-- Reading a map of values that is kept as items in the order of their keys, with marks behind.
use Rattle.mb_lists.proofs.Common.{All, All-from_get_or, All-head, All-tail, AllPairs, ap, arith, at_key, Bool, cond, drop, entries, entries-from_sorted, entries_by, false, false≢true, find}
use Rattle.mb_lists.proofs.Common.{from_entries, from_sorted, get, get-from_entries, get-from_sorted, get_or, get_or-drop, get_or-take, get_or_from_slice_get, is_lt, is_some, IsAntisymmetric}
use Rattle.mb_lists.proofs.Common.{IsInOrder, IsTotalOrder, len, len-entries, length, length-drop, length-take-le, Less, List, live_at, map, None, Option, option_and_then, option_map, Ordering, refl}
use Rattle.mb_lists.proofs.Common.{same_map, slice_get, slice_get-get_or, slice_get-map, slice_get_within, Some, subst, suc, sym, T, take, true, unwrap_or, zero, ℕ, [], ◌&&◌, ◌++◌, ◌+◌, ◌<◌, ◌∙◌, ◌∷◌}
use Rattle.mb_lists.proofs.Common.{◌≡◌}
use Rattle.std.specs.FinMap.Entries.{is_sorted, below_all}
use Rattle.mb_lists.proofs.Items.{look_up}

both : (a b : Bool) → T a → T b → T (a && b)
both true b p q = q
both false b p q = p

parts : {X : Type 0} (n : ℕ) (xs : List X) → take n xs ++ drop n xs ≡ xs
parts zero [] = refl
parts zero (x ∷ xs) = refl
parts (suc n) [] = refl
parts (suc n) (x ∷ xs) = ap (λ l. x ∷ l) (parts n xs)

length_map : {A B : Type 0} (f : A → B) (xs : List A) → length (map f xs) ≡ length xs
length_map f [] = refl
length_map f (x ∷ xs) = ap suc (length_map f xs)

known : {V : Type 0} (o : Option V) (d : V) → is_some o ≡ true → o ≡ Some (unwrap_or o d)
known (Some v) d h = refl
known None d h = absurd (false≢true h)

-- the entries of a map that is made of entries in order are these
entries_in_order : {K V : Type 0} {R : K → K → Ordering} (total : IsTotalOrder R) (anti : IsAntisymmetric R) (es : List (K × V)) → T (is_sorted R es) → entries (from_entries {R = R} es) ≡ es
entries_in_order {R = R} total anti es h =
    ap entries (same_map total anti (from_entries {R = R} es) (from_sorted es) (λ q. get-from_entries total es q ∙ sym (get-from_sorted R es q h)))
    ∙ entries-from_sorted R es h

-- live items before marks: the marks have no value
live_in_front : {K X V : Type 0} (key : X → K) (value : X → Option V) (live marks : List X) → ((k : ℕ) (x : X) → slice_get marks k ≡ Some x → value x ≡ None) → entries_by key value (live ++ marks) ≡ entries_by key value live
live_in_front key value [] [] h = refl
live_in_front key value [] (m ∷ marks) h = rw (h 0 m refl) (live_in_front key value [] marks (λ k x at. h (suc k) x at))
live_in_front {V = V} key value (x ∷ live) marks h = by (value x) refl (live_in_front key value live marks h)
  where
    by : (o : Option V) → value x ≡ o → entries_by key value (live ++ marks) ≡ entries_by key value live → entries_by key value (x ∷ (live ++ marks)) ≡ entries_by key value (x ∷ live)
    by (Some v) e rest = rw e (ap (λ l. (key x, v) ∷ l) rest)
    by None e rest = rw e rest

module _ {K X V : Type 0} (R : K → K → Ordering) (key : X → K) (f : X → V) where
  below_from : (k : K) (xs : List X) → All (λ y. R k (key y) ≡ Less) xs → T (below_all R k (map (λ y. (key y, f y)) xs))
  below_from k [] h = tt
  below_from k (x ∷ xs) h = both _ _ (subst (λ o. T (is_lt o)) (sym (All-head (λ y. R k (key y) ≡ Less) x xs h)) tt) (below_from k xs (All-tail (λ y. R k (key y) ≡ Less) x xs h))

  sorted_from : (xs : List X) → AllPairs (λ x y. R (key x) (key y) ≡ Less) xs → T (is_sorted R (map (λ y. (key y, f y)) xs))
  sorted_from [] h = tt
  sorted_from (x ∷ xs) h = both _ _ (below_from (key x) xs (All-from_get_or (λ y. R (key x) (key y) ≡ Less) xs x (λ i lt. h 0 (suc i) x (omega arith) (omega arith)))) (sorted_from xs (λ i j d less lt. h (suc i) (suc j) d (omega arith) (omega arith)))

  entries_all : (value : X → Option V) (xs : List X) → All (λ x. value x ≡ Some (f x)) xs → entries_by key value xs ≡ map (λ y. (key y, f y)) xs
  entries_all value [] h = refl
  entries_all value (x ∷ xs) h = rw (All-head (λ x. value x ≡ Some (f x)) x xs h) (ap (λ l. (key x, f x) ∷ l) (entries_all value xs (All-tail (λ x. value x ≡ Some (f x)) x xs h)))

-- items in order whose marks have no value, and whose other items have one
module _ {K X V : Type 0} {R : K → K → Ordering} (total : IsTotalOrder R) (anti : IsAntisymmetric R) (key : X → K) (gone : X → Bool) (value : X → Option V) (away : (x : X) → gone x ≡ true → value x ≡ None) where
  -- what is found at a key
  pub found_at : (n : ℕ) (xs : List X) (q : K) → IsInOrder R key gone n xs → get (from_entries {R = R} (entries_by key value xs)) q ≡ option_and_then value (live_at R key gone q xs)
  found_at n xs q o = look_up total key value q xs o.apart ∙ by (find (at_key R key q) xs)
    where
      one : (x : X) (b : Bool) → gone x ≡ b → value x ≡ option_and_then value (cond b None (Some x))
      one x true e = away x e
      one x false e = refl

      by : (r : Option X) → option_and_then value r ≡ option_and_then value (option_and_then (λ x. cond (gone x) None (Some x)) r)
      by None = refl
      by (Some x) = one x (gone x) refl

  pub live_entries : (d : V) (n : ℕ) (xs : List X) → IsInOrder R key gone n xs → ((i : ℕ) (e : X) → i < n → is_some (value (get_or xs i e)) ≡ true) → entries (from_entries {R = R} (entries_by key value xs)) ≡ map (λ y. (key y, unwrap_or (value y) d)) (take n xs)
  live_entries d n xs o there =
      let len_is = length-take-le n xs o.bound in
      let front : entries_by key value xs ≡ entries_by key value (take n xs) =
      ap (entries_by key value) (sym (parts n xs))
      ∙ live_in_front key value (take n xs) (drop n xs) (λ k x at.
      let lt = slice_get_within (drop n xs) k x at in
      away x (ap gone (sym (get_or_from_slice_get (drop n xs) k x x at) ∙ get_or-drop n xs k x) ∙ o.marks (n + k) x (omega arith) (omega (arith, lt, length-drop n xs)))) in
      let all : entries_by key value (take n xs) ≡ map (λ y. (key y, unwrap_or (value y) d)) (take n xs) =
      entries_all R key (λ y. unwrap_or (value y) d) value (take n xs) (live_ones len_is) in
      ap (λ es. entries (from_entries {R = R} es)) (front ∙ all)
      ∙ entries_in_order total anti (map (λ y. (key y, unwrap_or (value y) d)) (take n xs)) (sorted_from R key (λ y. unwrap_or (value y) d) (take n xs) (λ i j e less lt.
      let jn : j < n = omega (arith, len_is) in
      let jn' : i < n = omega (arith, len_is) in
      ap (λ z. R (key z) (key (get_or (take n xs) j e))) (get_or-take n xs i e jn') ∙ (ap (λ z. R (key (get_or xs i e)) (key z)) (get_or-take n xs j e jn) ∙ o.rising i j e less jn)))
    where
      live_ones : length (take n xs) ≡ n → All (λ y. value y ≡ Some (unwrap_or (value y) d)) (take n xs)
      live_ones len_is = λ i e lt. let below : i < n = omega (arith, len_is) in known (value (get_or (take n xs) i e)) d (ap (λ z. is_some (value z)) (get_or-take n xs i e below) ∙ there i e below)

  pub live_count : (d : V) (n : ℕ) (xs : List X) → IsInOrder R key gone n xs → ((i : ℕ) (e : X) → i < n → is_some (value (get_or xs i e)) ≡ true) → len (from_entries {R = R} (entries_by key value xs)) ≡ n
  live_count d n xs o there = len-entries _ ∙ (ap length (live_entries d n xs o there) ∙ (length_map (λ y. (key y, unwrap_or (value y) d)) (take n xs) ∙ length-take-le n xs o.bound))

  pub entry_at : (d : V) (n : ℕ) (xs : List X) (i : ℕ) (e : X) → IsInOrder R key gone n xs → ((i : ℕ) (e : X) → i < n → is_some (value (get_or xs i e)) ≡ true) → i < n → slice_get (entries (from_entries {R = R} (entries_by key value xs))) i ≡ Some (key (get_or xs i e), unwrap_or (value (get_or xs i e)) d)
  entry_at d n xs i e o there lt =
      ap (λ es. slice_get es i) (live_entries d n xs o there)
      ∙ (slice_get-map (λ y. (key y, unwrap_or (value y) d)) (take n xs) i
      ∙ ap (option_map (λ y. (key y, unwrap_or (value y) d))) (slice_get-get_or (take n xs) i e (omega (arith, length-take-le n xs o.bound)) ∙ ap Some (get_or-take n xs i e lt)))
