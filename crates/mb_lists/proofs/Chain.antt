-- The tests of rows in their order, in five parts.
use Rattle.mb_lists.proofs.Common.{ap, first_refusal, List, MbtError, None, Option, option_or, refl, Some, [], ◌∙◌, ◌∷◌, ◌≡◌}

of_three : (a b c : Option MbtError) (rest : List (Option MbtError)) → first_refusal (a ∷ b ∷ c ∷ rest) ≡ option_or (option_or a (option_or b c)) (first_refusal rest)
of_three (Some x) b c rest = refl
of_three None (Some x) c rest = refl
of_three None None (Some x) rest = refl
of_three None None None rest = refl

of_two : (a b : Option MbtError) (rest : List (Option MbtError)) → first_refusal (a ∷ b ∷ rest) ≡ option_or (option_or a b) (first_refusal rest)
of_two (Some x) b rest = refl
of_two None (Some x) rest = refl
of_two None None rest = refl

of_one : (a : Option MbtError) → first_refusal (a ∷ []) ≡ a
of_one (Some x) = refl
of_one None = refl

module _ (a b c d e f g h i j : Option MbtError) where
  abbrev all : Option MbtError
  all = first_refusal (a ∷ b ∷ c ∷ d ∷ e ∷ f ∷ g ∷ h ∷ i ∷ j ∷ [])

  parts : all ≡ option_or (option_or a (option_or b c)) (option_or (option_or d e) (option_or f (option_or (option_or g (option_or h i)) j)))
  parts =
      of_three a b c (d ∷ e ∷ f ∷ g ∷ h ∷ i ∷ j ∷ [])
      ∙ ap (option_or (option_or a (option_or b c))) (of_two d e (f ∷ g ∷ h ∷ i ∷ j ∷ []) ∙ ap (λ o. option_or (option_or d e) (option_or f o)) (of_three g h i (j ∷ []) ∙ ap (option_or (option_or g (option_or h i))) (of_one j)))

  pub first_part : (r : MbtError) → option_or a (option_or b c) ≡ Some r → all ≡ Some r
  first_part r k = parts ∙ ap (λ o. option_or o (option_or (option_or d e) (option_or f (option_or (option_or g (option_or h i)) j)))) k

  pub second_part : option_or a (option_or b c) ≡ None → (r : MbtError) → option_or d e ≡ Some r → all ≡ Some r
  second_part p1 r k = parts ∙ (ap (λ o. option_or o (option_or (option_or d e) (option_or f (option_or (option_or g (option_or h i)) j)))) p1 ∙ ap (λ o. option_or o (option_or f (option_or (option_or g (option_or h i)) j))) k)

  after_two : option_or a (option_or b c) ≡ None → option_or d e ≡ None → all ≡ option_or f (option_or (option_or g (option_or h i)) j)
  after_two p1 p2 = parts ∙ (ap (λ o. option_or o (option_or (option_or d e) (option_or f (option_or (option_or g (option_or h i)) j)))) p1 ∙ ap (λ o. option_or o (option_or f (option_or (option_or g (option_or h i)) j))) p2)

  pub third_part : option_or a (option_or b c) ≡ None → option_or d e ≡ None → (r : MbtError) → f ≡ Some r → all ≡ Some r
  third_part p1 p2 r k = after_two p1 p2 ∙ ap (λ o. option_or o (option_or (option_or g (option_or h i)) j)) k

  after_three : option_or a (option_or b c) ≡ None → option_or d e ≡ None → f ≡ None → all ≡ option_or (option_or g (option_or h i)) j
  after_three p1 p2 p3 = after_two p1 p2 ∙ ap (λ o. option_or o (option_or (option_or g (option_or h i)) j)) p3

  pub fourth_part : option_or a (option_or b c) ≡ None → option_or d e ≡ None → f ≡ None → (r : MbtError) → option_or g (option_or h i) ≡ Some r → all ≡ Some r
  fourth_part p1 p2 p3 r k = after_three p1 p2 p3 ∙ ap (λ o. option_or o j) k

  pub last_part : option_or a (option_or b c) ≡ None → option_or d e ≡ None → f ≡ None → option_or g (option_or h i) ≡ None → all ≡ j
  last_part p1 p2 p3 p4 = after_three p1 p2 p3 ∙ ap (λ o. option_or o j) p4
