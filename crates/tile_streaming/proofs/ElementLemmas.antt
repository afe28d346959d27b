-- Folds that hang on nothing but which elements a list has.
use Rattle.tile_streaming.proofs.Common.{ap, fold, Has, inl, inr, List, refl, sym, [], ◌∙◌, ◌∷◌, ◌≡◌}

-- a step that may be made in any order, and twice as well as once
module _ {A B : Type 0} (f : B → A → B) (swap : (b : B) (x y : A) → f (f b x) y ≡ f (f b y) x) (twice : (b : B) (x : A) → f (f b x) x ≡ f b x) where
  last : (b : B) (x : A) (ys : List A) → fold f (f b x) ys ≡ f (fold f b ys) x
  last b x [] = refl
  last b x (y ∷ ys) = ap (λ c. fold f c ys) (swap b x y) ∙ last (f b y) x ys

  absorbed : (b : B) (x : A) (ys : List A) → Has x ys → f (fold f b ys) x ≡ fold f b ys
  absorbed b x [] h = absurd h
  absorbed b x (y ∷ ys) (inl is) =
      let moved = last b y ys in
      ap (λ c. f c x) moved ∙ (ap (λ z. f (f (fold f b ys) y) z) (sym is) ∙ (twice (fold f b ys) y ∙ sym moved))
  absorbed b x (y ∷ ys) (inr h) = absorbed (f b y) x ys h

  all_absorbed : (b : B) (xs ys : List A) → ((x : A) → Has x ys → Has x xs) → fold f (fold f b xs) ys ≡ fold f b xs
  all_absorbed b xs [] h = refl
  all_absorbed b xs (y ∷ ys) h = ap (λ c. fold f c ys) (absorbed b y xs (h y (inl refl))) ∙ all_absorbed b xs ys (λ x there. h x (inr there))

  exchanged : (b : B) (xs ys : List A) → fold f (fold f b xs) ys ≡ fold f (fold f b ys) xs
  exchanged b [] ys = refl
  exchanged b (x ∷ xs) ys = exchanged (f b x) xs ys ∙ ap (λ c. fold f c xs) (last b x ys)

  -- two lists with the same elements come to the same
  pub same_elements : (b : B) (xs ys : List A) → ((x : A) → Has x xs → Has x ys) → ((x : A) → Has x ys → Has x xs) → fold f b xs ≡ fold f b ys
  same_elements b xs ys there back = sym (all_absorbed b xs ys back) ∙ (exchanged b xs ys ∙ all_absorbed b ys xs there)
