-- Edits for each of a list, from the last to the first, in a loop.
use Rattle.mb_edit.proofs.Common.{ap, arith, drop, drop_all, from_last, Held, IfSome, length, List, slice_get, suc, sym, zero, ℕ, [], ◌-◌, ◌<◌, ◌∙◌, ◌∷◌, ◌≡◌, ◌≤◌}

-- the edit of the item before those that were made
at_index : {A : Type 0} (edit : Held → A → Held) (es : List A) (i : ℕ) (first set new : Held) → i < length es → set ≡ from_last edit first (drop (suc i) es) → IfSome (slice_get es i) (λ e. new ≡ edit set e) → new ≡ from_last edit first (drop i es)
at_index edit [] i first set new lt done made = absurd (omega arith)
at_index edit (e ∷ es) zero first set new lt done made = made ∙ ap (λ h. edit h e) done
at_index edit (e ∷ es) (suc i) first set new lt done made = at_index edit es i first set new (omega arith) done made

pub one_before : {A : Type 0} (edit : Held → A → Held) (es : List A) (n : ℕ) (first set new : Held) → 0 < n → n ≤ length es → set ≡ from_last edit first (drop n es) → IfSome (slice_get es (n - 1)) (λ e. new ≡ edit set e) → (n - 1 ≤ length es) × (new ≡ from_last edit first (drop (n - 1) es))
one_before edit es n first set new some within done made =
    let next : n ≡ suc (n - 1) = omega arith in
    (omega arith, at_index edit es (n - 1) first set new (omega arith) (done ∙ ap (λ k. from_last edit first (drop k es)) next) made)

pub none_made : {A : Type 0} (edit : Held → A → Held) (es : List A) (n : ℕ) (first : Held) → n ≡ length es → (n ≤ length es) × (first ≡ from_last edit first (drop n es))
none_made edit es n first all = (omega (arith, all), ap (from_last edit first) (sym (drop_all n es (omega (arith, all)))))
