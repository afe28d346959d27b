-- Changes stay one for each table and key, each row under its own.
use Rattle.mb_store.proofs.Common.{All-push, All-set, all_pairs_push, AllPairs, ap, AreChanges, arith, both_tied, cases_eq, Change, eq_by_cmp_equiv, Err, false, get_or, get_or-set_other}
use Rattle.mb_store.proofs.Common.{get_or-set_same, get_or_default, inl, inr, is_eq, is_own, IsEquivalence, key_cmp, length, length-set, List, nat_cmp, None, none_passes, Ok, OnErr, OnOk, Option}
use Rattle.mb_store.proofs.Common.{position, position-Some, refl, Result, same_key, set, Some, subst, sym, table_key_cmp, table_key_of, table_keys_total, table_number, true, unsigned_ties}
use Rattle.mb_store.proofs.Common.{with_change, ℕ, [], ◌++◌, ◌<◌, ◌∙◌, ◌∷◌, ◌≡◌, ◌⊎◌}
use Rattle.std.proofs.lemmas.Cmp.{on_total}

-- what holds of all pairs still does with an element replaced by one that stands as it did
pub AllPairs-set : {X : Type 0} (R : X → X → Type 0) (xs : List X) (i : ℕ) (y e : X) → i < length xs → ((x : X) → R (get_or xs i e) x → R y x) → ((x : X) → R x (get_or xs i e) → R x y) → AllPairs R xs → AllPairs R (set xs i y)
AllPairs-set {X} R xs i y e within left right pairs j k d less far = by (cases_eq j i) (cases_eq k i)
  where
    long : k < length xs
    long = omega (arith, length-set xs i y)

    there : (n : ℕ) → n ≡ i → get_or (set xs i y) n d ≡ y
    there n s = ap (λ m. get_or (set xs i y) m d) s ∙ get_or-set_same xs i y d within

    old : (n : ℕ) → n ≡ i → get_or xs n d ≡ get_or xs i e
    old n s = ap (λ m. get_or xs m d) s ∙ get_or_default xs i d e within

    both : (a b p q : X) → a ≡ p → b ≡ q → R p q → R a b
    both a b p q f g h = subst (λ z. R z b) (sym f) (subst (λ z. R p z) (sym g) h)

    by : (j ≡ i) ⊎ (j ≡ i → ⊥) → (k ≡ i) ⊎ (k ≡ i → ⊥) → R (get_or (set xs i y) j d) (get_or (set xs i y) k d)
    by (inl a) (inl b) = absurd (omega arith)
    by (inl a) (inr b) = both _ _ y (get_or xs k d) (there j a) (get_or-set_other xs i k y d b) (left (get_or xs k d) (subst (λ z. R z (get_or xs k d)) (old j a) (pairs j k d less long)))
    by (inr a) (inl b) = both _ _ (get_or xs j d) y (get_or-set_other xs i j y d a) (there k b) (right (get_or xs j d) (subst (λ z. R (get_or xs j d) z) (old k b) (pairs j k d less long)))
    by (inr a) (inr b) = both _ _ (get_or xs j d) (get_or xs k d) (get_or-set_other xs i j y d a) (get_or-set_other xs i k y d b) (pairs j k d less long)

pub same_key-cmp : (c d : Change) → same_key c d ≡ is_eq (table_key_cmp (table_key_of c) (table_key_of d))
same_key-cmp c d = both_tied _ _ (nat_cmp (table_number c.table) (table_number d.table)) (key_cmp c.key d.key) (unsigned_ties (table_number c.table) (table_number d.table)) refl

pub same_keys : IsEquivalence same_key
same_keys = subst IsEquivalence (λ i c d. sym (same_key-cmp c d) i) (eq_by_cmp_equiv (on_total table_key_of table_keys_total))

-- a change in place of the one with its key
replaced : (cs : List Change) (i : ℕ) (c : Change) → i < length cs → same_key (get_or cs i c) c ≡ true → is_own c ≡ true → AreChanges cs → AreChanges (set cs i c)
replaced cs i c within same owned sound =
    let back : same_key c (get_or cs i c) ≡ true = same_keys.symm c (get_or cs i c) ∙ same in
    record {
      apart = AllPairs-set (λ d e. same_key d e ≡ false) cs i c c within
          (λ x h. same_keys.congr c (get_or cs i c) x back ∙ h)
          (λ x h. same_keys.symm x c ∙ (same_keys.congr c (get_or cs i c) x back ∙ (same_keys.symm (get_or cs i c) x ∙ h)))
          sound.apart;
      own = All-set (λ d. is_own d ≡ true) cs i c owned sound.own;
    }

-- a change at the end
added : (cs : List Change) (c : Change) → position (λ d. same_key d c) cs ≡ None → is_own c ≡ true → AreChanges cs → AreChanges (cs ++ c ∷ [])
added cs c new owned sound = record {
  apart = all_pairs_push (λ d e. same_key d e ≡ false) cs c sound.apart (λ k d far. none_passes (λ e. same_key e c) cs new k d far);
  own = All-push (λ d. is_own d ≡ true) cs c sound.own owned;
}

changed : (cs : List Change) (c : Change) (o : Option ℕ) → position (λ d. same_key d c) cs ≡ o → is_own c ≡ true → AreChanges cs → AreChanges (with_change cs c)
changed cs c (Some i) h owned sound =
    let found = position-Some (λ d. same_key d c) cs i c h in
    rw h (replaced cs i c found.0 found.1 owned sound)
changed cs c None h owned sound = rw h (added cs c h owned sound)

pub AreChanges-with_change : (cs : List Change) (c : Change) → is_own c ≡ true → AreChanges cs → AreChanges (with_change cs c)
AreChanges-with_change cs c owned sound = changed cs c _ refl owned sound

-- what holds with a change and without it holds after a call that makes it, or refuses it
change_made : {T E : Type 0} (P : List Change → Type 0) (r : Result T E) (old new : List Change) (c : Change) → OnOk r (new ≡ with_change old c) → OnErr r (new ≡ old) → P old → P (with_change old c) → P new
change_made P (Ok x) old new c ok err before made = subst P (sym ok) made
change_made P (Err e) old new c ok err before made = subst P (sym err) before

pub AreChanges-after : {T E : Type 0} (r : Result T E) (old new : List Change) (c : Change) → OnOk r (new ≡ with_change old c) → OnErr r (new ≡ old) → is_own c ≡ true → AreChanges old → AreChanges new
AreChanges-after r old new c ok err owned sound = change_made AreChanges r old new c ok err sound (AreChanges-with_change old c owned sound)
