-- What stands at the place of a key, and what an edit there does to a finite map.
use Rattle.tile_json.proofs.Common.{alike_right, ap, arith, below_all, Bool, by_order, cond, Err, false, find, get_or, IfErr, IfOk, insert, is_eq, is_lt, is_sorted, IsAt, IsGap, IsTotalOrder, length}
use Rattle.tile_json.proofs.Common.{List, None, Ok, Ordering, ordering_index, ordering_reverse, put, refl, Result, set, Some, StandsAt, suc, sym, tied_back, true, true≢false, zero, ℕ, [], ◌&&◌, ◌+◌}
use Rattle.tile_json.proofs.Common.{◌<◌, ◌∙◌, ◌∷◌, ◌≡◌, ◌≤◌}
use Rattle.std.specs.declared.cmp.Ordering.TheVariants.{Less, Equal, Greater}
use Rattle.std.specs.List.Sorted.{IsNonDecreasingBy, IsSearchInRange, IsBinarySearchResult}
use Rattle.std.proofs.lemmas.List.Sorted.{searchable_from_sorted}

both_of : (a b : Bool) → (a && b) ≡ true → (a ≡ true) × (b ≡ true)
both_of true b h = (refl, h)
both_of false b h = absurd (true≢false (sym h))

is_less : (o : Ordering) → is_lt o ≡ true → o ≡ Less
is_less Less h = refl
is_less Equal h = absurd (true≢false (sym h))
is_less Greater h = absurd (true≢false (sym h))

module _ {K V : Type 0} (R : K → K → Ordering) (k : K) where
  put_step : (v : V) (e : K × V) (es : List (K × V)) (r : Ordering) → R k e.0 ≡ r → put R k v (e ∷ es) ≡ by_order r ((k, v) ∷ e ∷ es) ((e.0, v) ∷ es) (e ∷ put R k v es)
  put_step v e es r h = ap (λ o. by_order o ((k, v) ∷ e ∷ es) ((e.0, v) ∷ es) (e ∷ put R k v es)) h

  find_step : (e : K × V) (es : List (K × V)) (r : Ordering) → R k e.0 ≡ r → find R k (e ∷ es) ≡ cond (is_eq r) (Some e.1) (find R k es)
  find_step e es r h = ap (λ o. cond (is_eq o) (Some e.1) (find R k es)) h

  -- a new value at the place of the key
  pub put_over : (v : V) (d : K × V) (es : List (K × V)) (i : ℕ) → i < length es → StandsAt (R k) es i Equal → set es i ((get_or es i d).0, v) ≡ put R k v es
  put_over v d [] i l a = absurd (omega (arith, l))
  put_over v d (e ∷ es) zero l a = sym (put_step v e es Equal a)
  put_over v d (e ∷ es) (suc i) l a = ap (λ x. e ∷ x) (put_over v d es i (omega (arith, l)) a.1) ∙ sym (put_step v e es Greater a.0)

  -- a new key at its place
  pub put_between : (v : V) (es : List (K × V)) (i : ℕ) → StandsAt (R k) es i Less → insert es i (k, v) ≡ put R k v es
  put_between v [] zero a = refl
  put_between v [] (suc i) a = absurd a
  put_between v (e ∷ es) zero a = sym (put_step v e es Less a)
  put_between v (e ∷ es) (suc i) a = ap (λ x. e ∷ x) (put_between v es i a.1) ∙ sym (put_step v e es Greater a.0)

  -- the place of a key that would go there is no further than the end
  pub place_within : (es : List (K × V)) (i : ℕ) → StandsAt (R k) es i Less → i ≤ length es
  place_within [] zero a = omega arith
  place_within [] (suc i) a = absurd a
  place_within (e ∷ es) zero a = omega arith
  place_within (e ∷ es) (suc i) a = omega (arith, place_within es i a.1)

  -- the value at the place of the key is found
  pub find_there : (d : K × V) (es : List (K × V)) (i : ℕ) → i < length es → StandsAt (R k) es i Equal → find R k es ≡ Some (get_or es i d).1
  find_there d [] i l a = absurd (omega (arith, l))
  find_there d (e ∷ es) zero l a = find_step e es Equal a
  find_there d (e ∷ es) (suc i) l a = find_step e es Greater a.0 ∙ find_there d es i (omega (arith, l)) a.1

  module _ (o : IsTotalOrder R) where
    find_below : (x : K) (es : List (K × V)) → R k x ≡ Less → below_all R x es ≡ true → find R k es ≡ None
    find_below x [] below h = refl
    find_below x (e ∷ es) below h =
        let parts = both_of _ _ h in
        find_step e es Less (o.trans k x e.0 below (is_less _ parts.0)) ∙ find_below x es below parts.1

    -- no value is found where the key would go
    pub find_missing : (es : List (K × V)) (i : ℕ) → is_sorted R es ≡ true → StandsAt (R k) es i Less → find R k es ≡ None
    find_missing [] i s a = refl
    find_missing (e ∷ es) zero s a = find_step e es Less a ∙ find_below e.0 es a (both_of _ _ s).0
    find_missing (e ∷ es) (suc i) s a = find_step e es Greater a.0 ∙ find_missing es i (both_of _ _ s).1 a.1

    below_at : (x : K) (d : K × V) (es : List (K × V)) (i : ℕ) → below_all R x es ≡ true → i < length es → R x (get_or es i d).0 ≡ Less
    below_at x d [] i h l = absurd (omega (arith, l))
    below_at x d (e ∷ es) zero h l = is_less _ (both_of _ _ h).0
    below_at x d (e ∷ es) (suc i) h l = below_at x d es i (both_of _ _ h).1 (omega (arith, l))

    above : (d : K × V) (es : List (K × V)) (i j : ℕ) → is_sorted R es ≡ true → i < j → j < length es → R (get_or es i d).0 (get_or es j d).0 ≡ Less
    above d [] i j s m l = absurd (omega (arith, l))
    above d (e ∷ es) i zero s m l = absurd (omega (arith, m))
    above d (e ∷ es) zero (suc j) s m l = below_at e.0 d es j (both_of _ _ s).0 (omega (arith, l))
    above d (e ∷ es) (suc i) (suc j) s m l = above d es i j (both_of _ _ s).1 (omega (arith, m)) (omega (arith, l))

    -- the comparisons with the key rise along the keys, as a binary search asks
    rising : (es : List (K × V)) → is_sorted R es ≡ true → IsNonDecreasingBy (λ e. ordering_index (R e.0 k)) es
    rising es s = searchable_from_sorted o (λ e. e.0) es k (λ n d low high. ap is_lt (o.antisymm (get_or es (n + 1) d).0 (get_or es n d).0 ∙ ap ordering_reverse (above d es n (n + 1) s (omega arith) high)))

    stands_equal : (es : List (K × V)) (i : ℕ) → is_sorted R es ≡ true → i < length es → ((d : K × V) → R (get_or es i d).0 k ≡ Equal) → StandsAt (R k) es i Equal
    stands_equal [] i s l same = absurd (omega (arith, l))
    stands_equal (e ∷ es) zero s l same = tied_back o e.0 k (same e)
    stands_equal (e ∷ es) (suc i) s l same =
        let x = (get_or es i e).0 in
        let below : R e.0 k ≡ Less = sym (alike_right o x k e.0 (same e)) ∙ below_at e.0 e es i (both_of _ _ s).0 (omega (arith, l)) in
        (o.antisymm k e.0 ∙ ap ordering_reverse below, stands_equal es i (both_of _ _ s).1 (omega (arith, l)) same)

    stands_less : (es : List (K × V)) (i : ℕ) → i ≤ length es
        → ((j : ℕ) (d : K × V) → j < i → R (get_or es j d).0 k ≡ Less)
        → ((j : ℕ) (d : K × V) → i ≤ j → j < length es → R (get_or es j d).0 k ≡ Greater)
        → StandsAt (R k) es i Less
    stands_less [] zero l before after = tt
    stands_less [] (suc i) l before after = absurd (omega (arith, l))
    stands_less (e ∷ es) zero l before after = o.antisymm k e.0 ∙ ap ordering_reverse (after 0 e (omega arith) (omega arith))
    stands_less (e ∷ es) (suc i) l before after = (
      o.antisymm k e.0 ∙ ap ordering_reverse (before 0 e (omega arith)),
      stands_less es i (omega (arith, l)) (λ j d m. before (suc j) d (omega (arith, m))) (λ j d m n. after (suc j) d (omega (arith, m)) (omega (arith, n))),
    )

    -- a binary search among keys that rise ends at the key's place
    pub searched : (es : List (K × V)) (r : Result ℕ ℕ) → is_sorted R es ≡ true → IsSearchInRange r (length es) → IsBinarySearchResult (λ e. R e.0 k) es r → record { found : IfOk r (IsAt (R k) es); absent : IfErr r (IsGap (R k) es) }
    searched es (Ok i) s l equal = record { found = (l, stands_equal es i s l equal); absent = tt }
    searched es (Err i) s l parted =
        let parts = parted (rising es s) in
        record { found = tt; absent = stands_less es i l (λ j d m. parts.0 j d (omega arith) m) (λ j d m n. parts.1 j d m n) }
