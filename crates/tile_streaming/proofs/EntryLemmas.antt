-- The entries of a map that was made of a list without two equal keys are that list, in another order.
use Rattle.tile_streaming.proofs.Common.{and_parts, ap, are_distinct, arith, len-empty, len-entries, length, Bool, by_order, cond, empty, entries, entries-insert, Equal, eq_by_cmp, false, false≢true, from_entries, get-entries, get-from_entries}
use Rattle.std.specs.FinMap.{find}
use Rattle.tile_streaming.proofs.Common.{Greater, is_eq, is_some, is_some-find, IsPermutation, IsPermutation-cons, IsPermutation-insert, IsPermutation-refl, IsPermutation-trans, IsTotalOrder, Less, List, list_any}
use Rattle.tile_streaming.proofs.Common.{map, None, not, Option, Ordering, put, refl, Some, subst, sym, true, [], ◌∙◌, ◌∷◌, ◌≡◌}

of_none : {A : Type 0} (xs : List A) → length xs ≡ 0 → xs ≡ []
of_none [] h = refl
of_none (x ∷ xs) h = absurd (omega arith)

no_entries : {K X : Type 0} (R : K → K → Ordering) → entries (empty {X = X} {R = R}) ≡ []
no_entries {X = X} R = of_none (entries (empty {X = X} {R = R})) (sym (len-entries (empty {X = X} {R = R})) ∙ len-empty R X)

nothing : {X : Type 0} (o : Option X) → is_some o ≡ false → o ≡ None
nothing None h = refl
nothing (Some x) h = absurd (false≢true (sym h))

is_not : (b : Bool) → not b ≡ true → b ≡ false
is_not false h = refl
is_not true h = absurd (false≢true h)

module _ {K X : Type 0} {R : K → K → Ordering} (total : IsTotalOrder R) where
  -- an entry of a new key, put in its place
  put_permuted : (k : K) (v : X) (es : List (K × X)) → find R k es ≡ None → IsPermutation ((k, v) ∷ es) (put R k v es)
  put_permuted k v [] h = IsPermutation-refl ((k, v) ∷ [])
  put_permuted k v (e ∷ es) h = by (R k e.0) refl (λ n. put_permuted k v es n)
    where
      later : is_eq (R k e.0) ≡ false → find R k es ≡ None
      later t = ap (λ b. cond b (Some e.1) (find R k es)) (sym t) ∙ h

      by : (o : Ordering) → R k e.0 ≡ o → (find R k es ≡ None → IsPermutation ((k, v) ∷ es) (put R k v es)) → IsPermutation ((k, v) ∷ e ∷ es) (by_order o ((k, v) ∷ e ∷ es) ((e.0, v) ∷ es) (e ∷ put R k v es))
      by Less t rest = IsPermutation-refl ((k, v) ∷ e ∷ es)
      by Equal t rest = let found : Some e.1 ≡ None = ap (λ o. cond (is_eq o) (Some e.1) (find R k es)) (sym t) ∙ h in absurd (cc)
      by Greater t rest =
          IsPermutation-trans ((k, v) ∷ e ∷ es) (e ∷ (k, v) ∷ es) (e ∷ put R k v es) (IsPermutation-insert (e ∷ es) 1 (k, v))
          (IsPermutation-cons e ((k, v) ∷ es) (put R k v es) (rest (later (ap is_eq t))))

  pub entries_permuted : (es : List (K × X)) → are_distinct R (map (λ e. e.0) es) ≡ true → IsPermutation es (entries (from_entries {R = R} es))
  entries_permuted [] h = subst (λ l. IsPermutation {X = K × X} [] l) (sym (no_entries R)) (IsPermutation-refl [])
  entries_permuted (e ∷ es) h =
      let parts = and_parts (not (list_any (eq_by_cmp R e.0) (map (λ e. e.0) es))) (are_distinct R (map (λ e. e.0) es)) h in
      let m = from_entries {R = R} es in
      let fresh : find R e.0 es ≡ None = nothing (find R e.0 es) (is_some-find R e.0 es ∙ is_not _ parts.0) in
      let new : find R e.0 (entries m) ≡ None = sym (get-entries m e.0) ∙ (get-from_entries total es e.0 ∙ fresh) in
      subst (IsPermutation (e ∷ es)) (sym (entries-insert total m e.0 e.1))
      (IsPermutation-trans (e ∷ es) (e ∷ entries m) (put R e.0 e.1 (entries m)) (IsPermutation-cons e es (entries m) (entries_permuted es parts.1)) (put_permuted e.0 e.1 (entries m) new))
