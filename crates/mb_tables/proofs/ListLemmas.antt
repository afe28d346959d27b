-- Pairs of a list, and what tests leave of it and find in it.
use Rattle.mb_tables.proofs.Common.{All, AllPairs, ap, arith, Bool, cond, false, false≢true, filter, get_or, length, List, ltb-false, None, Option, option_to_list, position, refl, Some, suc, sym}
use Rattle.mb_tables.proofs.Common.{true, ℕ, [], ◌<◌, ◌∙◌, ◌∷◌, ◌≡◌}
use Rattle.std.proofs.Common.{find}
use Rattle.std.specs.List.{position_or_len}
use Rattle.std.proofs.lemmas.List.Elements.{All-head, All-tail}
use Rattle.std.proofs.lemmas.List.Sums.{fails_before_first}

module _ {X : Type 0} where
  pub AllPairs-head : (R : X → X → Type 0) (x : X) (xs : List X) → AllPairs R (x ∷ xs) → All (R x) xs
  AllPairs-head R x xs h k d far = h 0 (suc k) d (omega arith) (omega arith)

  pub AllPairs-tail : (R : X → X → Type 0) (x : X) (xs : List X) → AllPairs R (x ∷ xs) → AllPairs R xs
  AllPairs-tail R x xs h i j d less far = h (suc i) (suc j) d (omega arith) (omega arith)

  pub AllPairs-nil : (R : X → X → Type 0) → AllPairs R []
  AllPairs-nil R i j d less far = absurd (omega arith)

  filtered : (p : X → Bool) (x : X) (xs : List X) (b : Bool) → p x ≡ b → filter p (x ∷ xs) ≡ cond b (x ∷ filter p xs) (filter p xs)
  filtered p x xs b e = ap (λ c. cond c (x ∷ filter p xs) (filter p xs)) e

  pub filter_none : (p : X → Bool) (xs : List X) → All (λ x. p x ≡ false) xs → filter p xs ≡ []
  filter_none p [] all = refl
  filter_none p (x ∷ xs) all = filtered p x xs false (All-head (λ z. p z ≡ false) x xs all) ∙ filter_none p xs (All-tail (λ z. p z ≡ false) x xs all)

  pub filter_every : (p : X → Bool) (xs : List X) → All (λ x. p x ≡ true) xs → filter p xs ≡ xs
  filter_every p [] all = refl
  filter_every p (x ∷ xs) all = filtered p x xs true (All-head (λ z. p z ≡ true) x xs all) ∙ ap (λ ys. x ∷ ys) (filter_every p xs (All-tail (λ z. p z ≡ true) x xs all))

-- a weaker test before a stronger one changes nothing
pub filter_within : {X : Type 0} (p q : X → Bool) → ((x : X) → q x ≡ true → p x ≡ true) → (xs : List X) → filter q (filter p xs) ≡ filter q xs
filter_within p q weaker [] = refl
filter_within p q weaker (x ∷ xs) = by (p x) (q x) refl refl (weaker x) (filter_within p q weaker xs)
  where
    by : (b c : Bool) → p x ≡ b → q x ≡ c → (q x ≡ true → p x ≡ true) → filter q (filter p xs) ≡ filter q xs → filter q (cond b (x ∷ filter p xs) (filter p xs)) ≡ cond c (x ∷ filter q xs) (filter q xs)
    by true true e g h same = ap (λ d. cond d (x ∷ filter q (filter p xs)) (filter q (filter p xs))) g ∙ ap (λ ys. x ∷ ys) same
    by true false e g h same = ap (λ d. cond d (x ∷ filter q (filter p xs)) (filter q (filter p xs))) g ∙ same
    by false true e g h same = absurd (false≢true (sym e ∙ h g))
    by false false e g h same = same

first_of : {X : Type 0} → List X → Option X
first_of [] = None
first_of (x ∷ xs) = Some x

first_of-option : {X : Type 0} (o : Option X) → first_of (option_to_list o) ≡ o
unfolding first_of
first_of-option None = refl
first_of-option (Some x) = refl

-- what is found is the first of all that passes
find_is : {X : Type 0} (p : X → Bool) (xs : List X) → find p xs ≡ first_of (filter p xs)
unfolding first_of
find_is p [] = refl
find_is p (x ∷ xs) = by (p x) (find_is p xs)
  where
    by : (b : Bool) → find p xs ≡ first_of (filter p xs) → cond b (Some x) (find p xs) ≡ first_of (cond b (x ∷ filter p xs) (filter p xs))
    by true e = refl
    by false e = e

-- where one alone passes, or none, that is what is found
pub find_only : {X : Type 0} (p : X → Bool) (xs : List X) (o : Option X) → filter p xs ≡ option_to_list o → find p xs ≡ o
find_only p xs o e = find_is p xs ∙ (ap first_of e ∙ first_of-option o)

-- equal lists of those that pass have one first
pub find_same : {X : Type 0} (p : X → Bool) (xs ys : List X) → filter p xs ≡ filter p ys → find p xs ≡ find p ys
find_same p xs ys e = find_is p xs ∙ (ap first_of e ∙ sym (find_is p ys))

no_place : (b : Bool) (i : ℕ) → cond b (Some i) None ≡ None → b ≡ false
no_place true i h = cc
no_place false i h = refl

-- where no place is found, no element passes
pub none_passes : {X : Type 0} (p : X → Bool) (xs : List X) → position p xs ≡ None → (k : ℕ) (d : X) → k < length xs → p (get_or xs k d) ≡ false
none_passes p xs none k d far = fails_before_first p xs k d (omega (arith, far, ltb-false (position_or_len p xs) (length xs) (no_place _ _ none)))
