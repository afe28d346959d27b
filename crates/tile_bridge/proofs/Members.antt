-- What a list of entries has, and what is found in it.
use Rattle.tile_bridge.proofs.Common.{and_parts, ap, arith, Bool, cond, Contains, Contains-permutation, eq_by_cmp, Equal, false, find, get_or, Greater, inl, inr, is_eq, is_lt, is_sorted}
use Rattle.tile_bridge.proofs.Common.{IsPermutation, IsPermutation-sym, IsTotalOrder, length, Less, List, ordering_reverse, refl, Some, suc, sym, T, tied_itself, true, zero, ℕ, [], ◌&&◌, ◌<◌, ◌∙◌}
use Rattle.tile_bridge.proofs.Common.{◌∷◌, ◌≡◌, ◌⊎◌}
use Rattle.std.specs.declared.cmp.Ordering.{Ordering}
use Rattle.mb_lists.proofs.Items.{equal_of}

abbrev pub Has : {X : Type 0} → X → List X → Type 0
Has x [] = ⊥
Has x (y ∷ ys) = (y ≡ x) ⊎ Has x ys

to_contains : {X : Type 0} (x : X) (ys : List X) → Has x ys → Contains ys x
to_contains x [] h = absurd h
to_contains x (y ∷ ys) (inl is) = (0, omega arith, is)
to_contains x (y ∷ ys) (inr h) = let rest = to_contains x ys h in (suc rest.0, omega (arith, rest.1), rest.2)

from_contains : {X : Type 0} (x : X) (ys : List X) (k : ℕ) → k < length ys → get_or ys k x ≡ x → Has x ys
from_contains x [] k far is = absurd (omega (arith, far))
from_contains x (y ∷ ys) zero far is = inl is
from_contains x (y ∷ ys) (suc k) far is = inr (from_contains x ys k (omega (arith, far)) is)

pub has_permuted : {X : Type 0} (x : X) (xs ys : List X) → IsPermutation xs ys → Has x xs → Has x ys
has_permuted x xs ys same h = let c = Contains-permutation xs ys x same (to_contains x xs h) in from_contains x ys c.0 c.1 c.2

pub has_back : {X : Type 0} (x : X) (xs ys : List X) → IsPermutation xs ys → Has x ys → Has x xs
has_back x xs ys same h = has_permuted x ys xs (IsPermutation-sym xs ys same) h

pub sorted_true : (b : Bool) → T b → b ≡ true
sorted_true true h = refl
sorted_true false h = absurd h

less : (o : Ordering) → is_lt o ≡ true → o ≡ Less
less Less h = refl
less Equal h = absurd (cc)
less Greater h = absurd (cc)

not_equal : {K : Type 0} (R : K → K → Ordering) (total : IsTotalOrder R) (k q : K) → R k q ≡ Less → eq_by_cmp R q k ≡ false
not_equal R total k q h = ap is_eq (total.antisymm q k ∙ ap ordering_reverse h)

module _ {K V : Type 0} (R : K → K → Ordering) where
  pub find_has : ((x y : K) → R x y ≡ Equal → x ≡ y) → (es : List (K × V)) (q : K) (v : V) → find R q es ≡ Some v → Has (q, v) es
  find_has tied [] q v h = absurd (cc)
  find_has tied (e ∷ es) q v h = elim (eq_by_cmp R q e.0) as (λ b. eq_by_cmp R q e.0 ≡ b → cond b (Some e.1) (find R q es) ≡ Some v → Has (q, v) (e ∷ es)) [
    | true ↦ λ t is. let key : e.0 ≡ q = sym (tied q e.0 (equal_of (R q e.0) t)) in let value : e.1 ≡ v = cc in inl (λ i. (key i, value i))
    | false ↦ λ t is. inr (find_has tied es q v is)
  ] refl h

  abbrev below : K → List (K × V) → Bool
  below k [] = true
  below k (e ∷ es) = is_lt (R k e.0) && below k es

  above : (k q : K) (v : V) (es : List (K × V)) → below k es ≡ true → Has (q, v) es → R k q ≡ Less
  above k q v [] b h = absurd h
  above k q v (e ∷ es) b (inl is) = ap (λ a. R k a.0) (sym is) ∙ less (R k e.0) (and_parts (is_lt (R k e.0)) (below k es) b).0
  above k q v (e ∷ es) b (inr h) = above k q v es (and_parts (is_lt (R k e.0)) (below k es) b).1 h

  module _ (total : IsTotalOrder R) where
    pub has_find : (es : List (K × V)) (q : K) (v : V) → is_sorted R es ≡ true → Has (q, v) es → find R q es ≡ Some v
    has_find [] q v s h = absurd h
    has_find (e ∷ es) q v s (inl is) =
        ap (λ k. cond (eq_by_cmp R k e.0) (Some e.1) (find R q es)) (sym (ap (λ a. a.0) is))
        ∙ ap (λ r. cond (is_eq r) (Some e.1) (find R q es)) (tied_itself total e.0)
        ∙ ap (λ a. Some a.1) is
    has_find (e ∷ es) q v s (inr h) =
        let parts = and_parts (below e.0 es) (is_sorted R es) s in
        ap (λ b. cond b (Some e.1) (find R q es)) (not_equal R total e.0 q (above e.0 q v es parts.0 h)) ∙ has_find es q v parts.1 h
