-- Items that came to their place in a list in order, or left it, are the latest of their keys.
use Rattle.mb_lists.proofs.Common.{All, ap, Apart, arith, at_key, Bool, Clears, cond, Contains, Contains-get_or, Contains-permutation, Content, drop, eq_by_cmp, false, find, get_or}
use Rattle.mb_lists.proofs.Common.{get_or_from_slice_get, id_at, insert, IsAntisymmetric, IsAt, IsGap, IsInOrder, IsPermutation-reverse, IsPermutation-sym, IsTotalOrder, length, List, listed, live_at}
use Rattle.mb_lists.proofs.Common.{newest, nothing, Option, Ordering, position, refl, remove, reverse, set, slice_get-get_or, slice_get_within, Some, StandsAs, subst, sym, true, unmarked, unwrap_or}
use Rattle.mb_lists.proofs.Common.{ℕ, [], ◌++◌, ◌+◌, ◌-◌, ◌<◌, ◌∙◌, ◌∷◌, ◌≡◌}
use Rattle.mb_lists.proofs.Finding.{found_in}
use Rattle.mb_lists.proofs.Items.{found_itself}
use Rattle.mb_lists.proofs.Newest.{find_newest, find_pushed}
use Rattle.mb_lists.proofs.Ordered.{at_live, gap_live}
use Rattle.mb_lists.proofs.Placed.{Puts, clear_all, put_all, set_all}
use Rattle.mb_lists.proofs.Sorting.{apart_permuted, found_permuted}

module _ {K X : Type 0} {R : K → K → Ordering} (total : IsTotalOrder R) (anti : IsAntisymmetric R) (key : X → K) where
  find_own : (q : K) (xs : List X) → Apart R key xs → find (at_key R key q) (newest R key xs) ≡ find (at_key R key q) xs
  find_own q xs a = let p = IsPermutation-reverse xs in find_newest total key q xs ∙ found_permuted total anti key q xs (reverse xs) a (apart_permuted total key xs (reverse xs) p a) p

  -- of items of different keys each is the latest of its key
  pub stands_itself : (xs : List X) → Apart R key xs → StandsAs R key (newest R key xs) xs
  stands_itself xs a = record { found = λ q. sym (find_own q xs a) }

  -- an item that came to its place is the latest of its key
  pub stands_put : (xs ys : List X) (x : X) → Apart R key xs → Puts R key x xs ys → StandsAs R key (newest R key (xs ++ x ∷ [])) ys
  stands_put xs ys x a puts = record { found = λ q. puts.found q ∙ (ap (cond (eq_by_cmp R q (key x)) (Some x)) (sym (find_own q xs a)) ∙ sym (find_pushed total key q xs x)) }

  -- what stands now are some of the items
  pub stands_from : (xs ys : List X) → StandsAs R key (newest R key xs) ys → Apart R key ys → All (Contains xs) ys
  stands_from xs ys h a = λ k d lt.
      let y = get_or ys k d in
      let own : find (at_key R key (key y)) ys ≡ Some y = found_itself total key ys k y a (slice_get-get_or ys k d lt) in
      let e : find (at_key R key (key y)) (reverse xs) ≡ Some y = sym (find_newest total key (key y) xs) ∙ (sym (h.found (key y)) ∙ own) in
      let f = found_in (at_key R key (key y)) (reverse xs) y e in
      Contains-permutation (reverse xs) xs y (IsPermutation-sym xs (reverse xs) (IsPermutation-reverse xs)) (subst (Contains (reverse xs)) (get_or_from_slice_get (reverse xs) f.0 y y f.1) (Contains-get_or (reverse xs) f.0 y (slice_get_within (reverse xs) f.0 y f.1)))

-- keys and marks that agree leave the order
pub order_same : {K X : Type 0} {R : K → K → Ordering} (key key' : X → K) (gone gone' : X → Bool) (n : ℕ) (xs : List X) → All (λ x. key' x ≡ key x) xs → All (λ x. gone' x ≡ gone x) xs → IsInOrder R key gone n xs → IsInOrder R key' gone' n xs
order_same {R = R} key key' gone gone' n xs keys gones o =
    let le = o.bound in
    record {
      bound = o.bound;
      apart = record { pairs = λ i j d less lt. ap (λ z. eq_by_cmp R z (key' (get_or xs j d))) (keys i d (omega arith)) ∙ (ap (eq_by_cmp R (key (get_or xs i d))) (keys j d lt) ∙ o.apart.pairs i j d less lt) };
      rising = λ i j d less lt. ap (λ z. R z (key' (get_or xs j d))) (keys i d (omega (arith, le))) ∙ (ap (R (key (get_or xs i d))) (keys j d (omega (arith, le))) ∙ o.rising i j d less lt);
      live = λ i d lt. gones i d (omega (arith, le)) ∙ o.live i d lt;
      marks = λ i d from lt. gones i d lt ∙ o.marks i d from lt;
    }

module _ {K X : Type 0} {R : K → K → Ordering} (total : IsTotalOrder R) (anti : IsAntisymmetric R) (key : X → K) (gone : X → Bool) where
  -- an item that was written over the one with its key
  pub over : (n : ℕ) (xs : List X) (i : ℕ) (x : X) → IsAt R key n xs (key x) i → gone x ≡ false → IsInOrder R key gone n xs → IsInOrder R key gone n (set xs i x) × StandsAs R key (newest R key (xs ++ x ∷ [])) (set xs i x)
  over n xs i x at live o =
      let r = set_all total anti key gone n xs i x at live o in
      (r.0, stands_put total anti key xs (set xs i x) x o.apart r.1)

  -- a new item at its place, for its mark if there is one
  pub placed : (n : ℕ) (xs ys slice : List X) (i : ℕ) (x : X) (mark : Option ℕ) → IsGap R key n xs (key x) i → gone x ≡ false → mark ≡ position (at_key R key (key x)) slice → slice ≡ drop n xs → IsInOrder R key gone n xs → ys ≡ insert (unmarked n mark xs) i x → IsInOrder R key gone (n + 1) ys × StandsAs R key (newest R key (xs ++ x ∷ [])) ys
  placed n xs ys slice i x mark gap live found is o e =
      let r = put_all total anti key gone n xs i x mark gap live (ap (position (at_key R key (key x))) (sym is) ∙ sym found) o in
      (subst (IsInOrder R key gone (n + 1)) (sym e) r.0, subst (StandsAs R key (newest R key (xs ++ x ∷ []))) (sym e) (stands_put total anti key xs _ x o.apart r.1))

  -- a mark in place of an item
  pub marked_at : (n : ℕ) (xs ys : List X) (i : ℕ) (x : X) → IsAt R key n xs (key x) i → gone x ≡ true → IsInOrder R key gone n xs → ys ≡ remove xs i ++ x ∷ [] → IsInOrder R key gone (n - 1) ys × Clears R key (live_at R key gone (key x) xs) x xs ys
  marked_at n xs ys i x at mark o e =
      let lt = at.in_range in
      let same : n - 1 + 1 ≡ n = omega arith in
      let r = clear_all total anti key gone (n - 1) xs i x (subst (λ m. IsAt R key m xs (key x) i) (sym same) at) mark (subst (λ m. IsInOrder R key gone m xs) (sym same) o) in (
        subst (IsInOrder R key gone (n - 1)) (sym e) r.0,
        subst (λ (o : Option X). Clears R key o x xs ys) (sym (at_live total anti key gone n xs (key x) i x at o)) (subst (StandsAs R key (newest R key (xs ++ x ∷ []))) (sym e) (stands_put total anti key xs _ x o.apart r.1)),
      )

  pub no_mark : (n : ℕ) (xs : List X) (q : K) (i : ℕ) (x : X) → IsGap R key n xs q i → IsInOrder R key gone n xs → Clears R key (live_at R key gone q xs) x xs xs
  no_mark n xs q i x gap o = subst (λ (o : Option X). Clears R key o x xs xs) (sym (gap_live total anti key gone n xs q i gap o)) refl

-- contents that are read at their index have the id that is looked up
pub id_read : (contents : List Content) (i : ℕ) (c : Content) → i < length contents → c ≡ get_or contents i c → c.id ≡ id_at contents i
id_read contents i c lt e = ap (λ (x : Content). x.id) (e ∙ sym (ap (λ o. unwrap_or o nothing) (slice_get-get_or contents i c lt)))

pub not_listed : (b : Bool) (i : ℕ) → b ≡ true → listed b i ≡ []
not_listed b i h = rw h refl
