-- The first of a list that a test refuses.
use Rattle.mb_lists.proofs.Common.{ap, arith, drop, drop-cons, first_refused, get_or, length, List, MbtError, None, Option, option_or, Some, suc, sym, ℕ, ◌+◌, ◌<◌, ◌∙◌, ◌∷◌, ◌≡◌}

-- what is left begins with the item at an index
rest_at : {A : Type 0} (xs : List A) (i : ℕ) (x : A) → i < length xs → x ≡ get_or xs i x → drop i xs ≡ x ∷ drop (suc i) xs
rest_at xs i x lt at = drop-cons xs i x lt ∙ ap (λ z. z ∷ drop (suc i) xs) (sym at)

-- an item that passes leaves the refusal to those after it
pub passes : {A : Type 0} (test : A → Option MbtError) (xs : List A) (i : ℕ) (x : A) → i < length xs → x ≡ get_or xs i x → first_refused test xs ≡ first_refused test (drop i xs) → test x ≡ None → first_refused test xs ≡ first_refused test (drop (i + 1) xs)
passes test xs i x lt at h p =
    let e : suc i ≡ i + 1 = omega arith in
    h ∙ (ap (first_refused test) (rest_at xs i x lt at) ∙ (ap (λ o. option_or o (first_refused test (drop (suc i) xs))) p ∙ ap (λ n. first_refused test (drop n xs)) e))

-- one that is refused refuses all
pub refuses : {A : Type 0} (test : A → Option MbtError) (xs : List A) (i : ℕ) (x : A) (e : MbtError) → i < length xs → x ≡ get_or xs i x → first_refused test xs ≡ first_refused test (drop i xs) → test x ≡ Some e → first_refused test xs ≡ Some e
refuses test xs i x e lt at h p = h ∙ (ap (first_refused test) (rest_at xs i x lt at) ∙ ap (λ o. option_or o (first_refused test (drop (suc i) xs))) p)
