-- Elements added one after another to a list, each before the first greater one.
use Rattle.mb_store.proofs.Common.{All, AllPairs, ap, arith, cond, false, fold, insert, is_gt, IsTotalOrder, List, not, Ordering, position_or_len, suc, sum_by, sum_by-cons, sum_by-insert, true, ℕ, []}
use Rattle.mb_store.proofs.Common.{◌+◌, ◌∙◌, ◌∷◌, ◌≡◌}
use Rattle.mb_store.proofs.Ordered.{up-insert}

module _ {X : Type 0} (R : X → X → Ordering) where
  -- an element at its place
  abbrev pub put : X → List X → List X
  put x xs = insert xs (position_or_len (λ y. is_gt (R y x)) xs) x

  abbrev pub all_put : List X → List X → List X
  all_put xs ys = fold (λ zs y. put y zs) xs ys

  abbrev pub Up : List X → Type 0
  Up xs = AllPairs (λ a b. is_gt (R a b) ≡ false) xs

  insert_next : (x y : X) (ys : List X) (n : ℕ) → insert (y ∷ ys) (1 + n) x ≡ y ∷ insert ys n x
  insert_next x y ys n = let e : 1 + n ≡ suc n = omega arith in ap (λ m. insert (y ∷ ys) m x) e

  pub before_greater : (x y : X) (ys : List X) → is_gt (R y x) ≡ true → put x (y ∷ ys) ≡ x ∷ y ∷ ys
  before_greater x y ys h = ap (λ b. insert (y ∷ ys) (cond (not b) (1 + position_or_len (λ y. is_gt (R y x)) ys) 0) x) h

  pub behind_others : (x y : X) (ys : List X) → is_gt (R y x) ≡ false → put x (y ∷ ys) ≡ y ∷ put x ys
  behind_others x y ys h = ap (λ b. insert (y ∷ ys) (cond (not b) (1 + position_or_len (λ y. is_gt (R y x)) ys) 0) x) h ∙ insert_next x y ys (position_or_len (λ y. is_gt (R y x)) ys)

  module _ (o : IsTotalOrder R) where
    pub Up-tail : (y : X) (ys : List X) → Up (y ∷ ys) → Up ys
    Up-tail y ys up i j d less far = up (suc i) (suc j) d (omega arith) (omega arith)

    pub Up-head : (y : X) (ys : List X) → Up (y ∷ ys) → All (λ z. is_gt (R y z) ≡ false) ys
    Up-head y ys up k d far = up 0 (suc k) d (omega arith) (omega arith)

    pub up-put : (r : X) (ys : List X) → Up ys → Up (put r ys)
    up-put r ys up = up-insert o ys up r

    pub up-all_put : (xs ys : List X) → Up xs → Up (all_put xs ys)
    up-all_put xs [] up = up
    up-all_put xs (y ∷ ys) up = up-all_put (put y xs) ys (up-put y xs up)

module _ {X : Type 0} (R : X → X → Ordering) where
  -- a list weighs as much as its elements, in whatever order they came
  pub sum_by-all_put : (f : X → ℕ) (xs ys : List X) → sum_by f (all_put R xs ys) ≡ sum_by f xs + sum_by f ys
  sum_by-all_put f xs [] = omega arith
  sum_by-all_put f xs (y ∷ ys) = omega (arith, sum_by-all_put f (put R y xs) ys, sum_by-insert f xs (position_or_len (λ z. is_gt (R z y)) xs) y, sum_by-cons f y ys)
