-- The first of some bytes that pass one of two tests.
use Rattle.tile_streaming.proofs.Common.{ap, Bool, cond, false, false≢true, find, Has, inl, inr, List, list_any, None, none-some, not, Ok, Option, option_map, refl, same_Some, Some, sym, true, ℕ, [], ◌&&◌, ◌||◌, ◌∙◌, ◌∷◌, ◌≡◌}
use Rattle.mb_edit.specs.Common.{bytes_eq}
use Rattle.std.proofs.Math.Bool.{or-true}
use Rattle.std.proofs.lemmas.Slice.Eq.{bytes_eq-Decides}

module _ {A : Type 0} where
  pub find_same : (p q : A → Bool) (xs : List A) → ((x : A) → p x ≡ q x) → find p xs ≡ find q xs
  find_same p q xs same = λ i. find (λ x. same x i) xs

  pub find_nothing : (p : A → Bool) (xs : List A) → ((x : A) → p x ≡ false) → find p xs ≡ None
  find_nothing p [] none = refl
  find_nothing p (x ∷ xs) none = ap (λ b. cond b (Some x) (find p xs)) (none x) ∙ find_nothing p xs none

  pub find_there : (p : A → Bool) (xs : List A) (x : A) → find p xs ≡ Some x → Has x xs × (p x ≡ true)
  find_there p [] x h = absurd (none-some x h)
  find_there p (y ∷ xs) x h = by (p y) refl h (find_there p xs x)
    where
      by : (b : Bool) → p y ≡ b → cond b (Some y) (find p xs) ≡ Some x → (find p xs ≡ Some x → Has x xs × (p x ≡ true)) → Has x (y ∷ xs) × (p x ≡ true)
      by true e k later = let same = same_Some y x k in (inl same, ap p (sym same) ∙ e)
      by false e k later = let rest = later k in (inr rest.0, rest.1)

  -- where no element passes the first test, the second one decides
  pub find_second : (f g : A → Bool) (xs : List A) → find f xs ≡ None → find (λ x. f x || g x) xs ≡ find g xs
  find_second f g [] none = refl
  find_second f g (x ∷ xs) none = by (f x) none (find_second f g xs)
    where
      by : (b : Bool) → cond b (Some x) (find f xs) ≡ None → (find f xs ≡ None → find (λ x. f x || g x) xs ≡ find g xs) → cond (b || g x) (Some x) (find (λ x. f x || g x) xs) ≡ cond (g x) (Some x) (find g xs)
      by true k later = absurd (none-some x (sym k))
      by false k later = ap (cond (g x) (Some x)) (later k)

pub any_there : {A : Type 0} (p : A → Bool) (x : A) (xs : List A) → Has x xs → p x ≡ true → list_any p xs ≡ true
any_there p x [] there h = absurd there
any_there p x (y ∷ xs) (inl is) h = ap (λ b. b || list_any p xs) (ap p is ∙ h)
any_there p x (y ∷ xs) (inr there) h = ap (λ b. p y || b) (any_there p x xs there h) ∙ or-true (p y)

-- Where the first test depends on a digest alone, the first digest that passes one of both is that of the first bytes
-- that have the one that passes the first test, or pass the second one.
module _ (digest : List ℕ → List ℕ) (f g : List ℕ → Bool) (first : List ℕ) where
  abbrev has_digest : List ℕ → Bool
  has_digest b = bytes_eq (digest first) (digest b)

  pub find_known : (xs : List (List ℕ)) → ((b : List ℕ) → Has b xs → has_digest b ≡ true → f b ≡ true) → find f xs ≡ Some first
      → option_map digest (find (λ b. has_digest b || g b) xs) ≡ option_map digest (find (λ b. f b || g b) xs)
  find_known [] each h = refl
  find_known (x ∷ xs) each h = by (f x) (has_digest x) refl refl h (find_known xs (λ b there. each b (inr there)))
    where
      by : (a b : Bool) → f x ≡ a → has_digest x ≡ b → cond a (Some x) (find f xs) ≡ Some first → (find f xs ≡ Some first → option_map digest (find (λ b. has_digest b || g b) xs) ≡ option_map digest (find (λ b. f b || g b) xs))
          → option_map digest (cond (b || g x) (Some x) (find (λ b. has_digest b || g b) xs)) ≡ option_map digest (cond (a || g x) (Some x) (find (λ b. f b || g b) xs))
      by true true e d k later = refl
      by true false e d k later = absurd (false≢true (sym d ∙ (bytes_eq-Decides (digest first) (digest x)).1 (ap digest (sym (same_Some x first k)))))
      by false true e d k later = absurd (false≢true (sym e ∙ each x (inl refl) d))
      by false false e d k later = at (g x) (later k)
        where
          at : (c : Bool) → option_map digest (find (λ b. has_digest b || g b) xs) ≡ option_map digest (find (λ b. f b || g b) xs)
              → option_map digest (cond c (Some x) (find (λ b. has_digest b || g b) xs)) ≡ option_map digest (cond c (Some x) (find (λ b. f b || g b) xs))
          at true same = refl
          at false same = same
