-- The index of changes, and what a change does to it.
use Rattle.mb_store.proofs.Common.{ap, arith, Bool, BTreeMap, cases_Bool, cases_eq, Change, cond, eq-eqb, eq_by_cmp, eq_by_cmp_equiv, false, get, get_or, inl, inr, is_eq, IsEquivalence, IsIndex}
use Rattle.mb_store.proofs.Common.{le-ltb, length, length-append, length-set, List, lt-ltb, nat_lt, ne_eqb, None, none_passes, not, Option, position, position-Some, position_or_len}
use Rattle.mb_store.proofs.Common.{position_or_len-set, position_or_len_is, position_or_len_push, prefix_len-le-length, refl, same_key, set, Some, sym, table_key_cmp, table_key_of, table_keys_total}
use Rattle.mb_store.proofs.Common.{TableKey, true, with_change, ℕ, [], ◌++◌, ◌+◌, ◌<◌, ◌==◌, ◌∙◌, ◌∷◌, ◌≡◌, ◌⊎◌}
use Rattle.mb_store.proofs.ChangeLemmas.{same_key-cmp, same_keys}

keys_equiv : IsEquivalence (eq_by_cmp table_key_cmp)
keys_equiv = eq_by_cmp_equiv table_keys_total

-- the test of a change's own key is that of the change
own_ties : (c : Change) → ◌≡◌ {A = Change → Bool} (λ d. is_eq (table_key_cmp (table_key_of c) (table_key_of d))) (λ d. same_key d c)
own_ties c i d = (sym (same_key-cmp c d) ∙ same_keys.symm c d) i

position-set : {X : Type 0} (p : X → Bool) (xs : List X) (i : ℕ) (y d : X) → p y ≡ p (get_or xs i d) → position p (set xs i y) ≡ position p xs
position-set p xs i y d same = rw (position_or_len-set p xs i y d same, length-set xs i y) refl

module _ {X : Type 0} (p : X → Bool) (xs : List X) (y : X) where
  longer : length (xs ++ y ∷ []) ≡ length xs + 1
  longer = length-append xs (y ∷ [])

  -- the first that passes is pushed
  position-push_first : position_or_len p xs ≡ length xs → p y ≡ true → position p (xs ++ y ∷ []) ≡ Some (length xs)
  position-push_first none passes =
      let place : position_or_len p (xs ++ y ∷ []) ≡ length xs = position_or_len_push p xs y ∙ (ap (λ b. cond b (length xs + cond (p y) 0 1) (position_or_len p xs)) (eq-eqb _ _ none) ∙ (ap (λ b. length xs + cond b 0 1) passes ∙ omega arith)) in
      let inside : nat_lt (length xs) (length (xs ++ y ∷ [])) ≡ true = lt-ltb _ _ (omega (arith, longer)) in
      ap (λ n. cond (nat_lt n (length (xs ++ y ∷ []))) (Some n) None) place ∙ ap (λ b. cond b (Some (length xs)) None) inside

  -- one that fails is pushed
  position-push_failing : p y ≡ false → position p (xs ++ y ∷ []) ≡ position p xs
  position-push_failing fails = by (cases_eq (position_or_len p xs) (length xs))
    where
      pushed : position_or_len p (xs ++ y ∷ []) ≡ cond (position_or_len p xs == length xs) (length xs + 1) (position_or_len p xs)
      pushed = position_or_len_push p xs y ∙ ap (λ b. cond (position_or_len p xs == length xs) (length xs + cond b 0 1) (position_or_len p xs)) fails

      at : (n m : ℕ) (b d : Bool) → position_or_len p (xs ++ y ∷ []) ≡ n → position_or_len p xs ≡ m → nat_lt n (length (xs ++ y ∷ [])) ≡ b → nat_lt m (length xs) ≡ d → ◌≡◌ {A = Option ℕ} (cond b (Some n) None) (cond d (Some m) None) → position p (xs ++ y ∷ []) ≡ position p xs
      at n m b d e f g h same =
          (ap (λ k. cond (nat_lt k (length (xs ++ y ∷ []))) (Some k) None) e ∙ ap (λ c. cond c (Some n) None) g)
          ∙ (same ∙ sym (ap (λ k. cond (nat_lt k (length xs)) (Some k) None) f ∙ ap (λ c. cond c (Some m) None) h))

      by : (position_or_len p xs ≡ length xs) ⊎ (position_or_len p xs ≡ length xs → ⊥) → position p (xs ++ y ∷ []) ≡ position p xs
      by (inl none) = at (length xs + 1) (length xs) false false (pushed ∙ ap (λ b. cond b (length xs + 1) (position_or_len p xs)) (eq-eqb _ _ none)) none (le-ltb _ _ (omega (arith, longer))) (le-ltb _ _ (omega arith)) refl
      by (inr some) =
          let lt : position_or_len p xs < length xs = omega (arith, prefix_len-le-length (λ x. not (p x)) xs) in
          at (position_or_len p xs) (position_or_len p xs) true true (pushed ∙ ap (λ b. cond b (length xs + 1) (position_or_len p xs)) (ne_eqb _ _ some)) refl (lt-ltb _ _ (omega (arith, longer))) (lt-ltb _ _ lt) refl

module _ (cs : List Change) (m : BTreeMap TableKey ℕ) (c : Change) (key : TableKey) (is_key : key ≡ table_key_of c) (index : IsIndex cs m) where
  looked_up : get table_key_cmp m key ≡ position (λ d. same_key d c) cs
  looked_up = ap (get table_key_cmp m) is_key ∙ (index (table_key_of c) ∙ ap (λ p. position p cs) (own_ties c))

  pub set-with_change : (i : ℕ) → Some i ≡ get table_key_cmp m key → set cs i c ≡ with_change cs c
  set-with_change i found = rw (sym (found ∙ looked_up)) refl

  pub push-with_change : None ≡ get table_key_cmp m key → cs ++ c ∷ [] ≡ with_change cs c
  push-with_change none = rw (sym (none ∙ looked_up)) refl

  pub IsIndex-set : (i : ℕ) → Some i ≡ get table_key_cmp m key → IsIndex (set cs i c) m
  IsIndex-set i found q =
      let at = position-Some (λ d. same_key d c) cs i c (sym (found ∙ looked_up)) in
      let same : is_eq (table_key_cmp q (table_key_of c)) ≡ is_eq (table_key_cmp q (table_key_of (get_or cs i c))) =
      keys_equiv.symm q (table_key_of c)
      ∙ (sym (keys_equiv.congr (table_key_of (get_or cs i c)) (table_key_of c) q (sym (same_key-cmp (get_or cs i c) c) ∙ at.1))
      ∙ keys_equiv.symm (table_key_of (get_or cs i c)) q) in
      index q ∙ sym (position-set (λ d. is_eq (table_key_cmp q (table_key_of d))) cs i c c same)

  pub IsIndex-push : (n : BTreeMap TableKey ℕ) → None ≡ get table_key_cmp m key → ((q : TableKey) → get table_key_cmp n q ≡ cond (is_eq (table_key_cmp key q)) (Some (length cs)) (get table_key_cmp m q)) → IsIndex (cs ++ c ∷ []) n
  IsIndex-push n none updated q = by (cases_Bool (is_eq (table_key_cmp key q)))
    where
      own : is_eq (table_key_cmp key q) ≡ is_eq (table_key_cmp (table_key_of c) q)
      own = ap (λ k. is_eq (table_key_cmp k q)) is_key

      fails : is_eq (table_key_cmp (table_key_of c) q) ≡ true → (k : ℕ) (d : Change) → k < length cs → is_eq (table_key_cmp q (table_key_of (get_or cs k d))) ≡ false
      fails tied k d far =
          sym (keys_equiv.congr (table_key_of c) q (table_key_of (get_or cs k d)) tied)
          ∙ (sym (same_key-cmp c (get_or cs k d)) ∙ (same_keys.symm c (get_or cs k d) ∙ none_passes (λ d. same_key d c) cs (sym (none ∙ looked_up)) k d far))

      by : (is_eq (table_key_cmp key q) ≡ true) ⊎ (is_eq (table_key_cmp key q) ≡ false) → get table_key_cmp n q ≡ position (λ d. is_eq (table_key_cmp q (table_key_of d))) (cs ++ c ∷ [])
      by (inl tied) =
          updated q ∙ (ap (λ b. cond b (Some (length cs)) (get table_key_cmp m q)) tied
          ∙ sym (position-push_first (λ d. is_eq (table_key_cmp q (table_key_of d))) cs c
          (position_or_len_is (λ d. is_eq (table_key_cmp q (table_key_of d))) cs (length cs) c (omega arith) (λ k lt. fails (sym own ∙ tied) k c lt) (λ lt. absurd (omega arith)))
          (keys_equiv.symm q (table_key_of c) ∙ (sym own ∙ tied))))
      by (inr apart) =
          updated q ∙ (ap (λ b. cond b (Some (length cs)) (get table_key_cmp m q)) apart
          ∙ (index q ∙ sym (position-push_failing (λ d. is_eq (table_key_cmp q (table_key_of d))) cs c (keys_equiv.symm q (table_key_of c) ∙ (sym own ∙ apart)))))
