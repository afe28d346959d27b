-- Items by their keys: what is found, and the maps of their values.
use Rattle.mb_lists.proofs.Common.{ap, Apart, arith, at_key, Bool, cond, entries_by, eq_by_cmp, eq_by_cmp_equiv, Equal, false, false≢true, find, from_entries, get, get-from_entries, get_or}
use Rattle.mb_lists.proofs.Common.{get_or_from_slice_get, Greater, is_eq, IsTotalOrder, length, Less, List, None, Option, option_and_then, Ordering, refl, slice_get, slice_get_within, Some, suc, sym}
use Rattle.mb_lists.proofs.Common.{tied_itself, true, ℕ, [], ◌<◌, ◌∙◌, ◌∷◌, ◌≡◌}
use Rattle.std.specs.FinMap as fin
use Rattle.mb_lists.proofs.Finding.{find_none, find_first}

pub equal_of : (o : Ordering) → is_eq o ≡ true → o ≡ Equal
equal_of Less h = absurd (false≢true h)
equal_of Equal h = refl
equal_of Greater h = absurd (false≢true h)

module _ {K X : Type 0} {R : K → K → Ordering} (total : IsTotalOrder R) (key : X → K) where
  pub same_test : (q p : K) → eq_by_cmp R q p ≡ true → (r : K) → eq_by_cmp R q r ≡ eq_by_cmp R p r
  same_test q p h r = (eq_by_cmp_equiv total).congr q p r h

  look_step : {V : Type 0} (value : X → Option V) (q : K) (x : X) (xs : List X) → (eq_by_cmp R q (key x) ≡ true → find (at_key R key q) xs ≡ None) → fin.find R q (entries_by key value xs) ≡ option_and_then value (find (at_key R key q) xs) → (o : Option V) → value x ≡ o → (b : Bool) → eq_by_cmp R q (key x) ≡ b → fin.find R q (entries_by key value (x ∷ xs)) ≡ option_and_then value (cond b (Some x) (find (at_key R key q) xs))
  look_step value q x xs none rest (Some v) h true e = rw (h, e) refl
  look_step value q x xs none rest (Some v) h false e = rw (h, e) rest
  look_step value q x xs none rest None h true e = rw h (rest ∙ ap (option_and_then value) (none e))
  look_step value q x xs none rest None h false e = rw h rest

  pub Apart-tail : (x : X) (xs : List X) → Apart R key (x ∷ xs) → Apart R key xs
  Apart-tail x xs h = record { pairs = λ i j d less lt. h.pairs (suc i) (suc j) d (omega arith) (omega arith) }

  pub others_apart : (q : K) (x : X) (xs : List X) → Apart R key (x ∷ xs) → eq_by_cmp R q (key x) ≡ true → (k : ℕ) (y : X) → slice_get xs k ≡ Some y → at_key R key q y ≡ false
  others_apart q x xs h e k y at =
      let lt : k < length xs = slice_get_within xs k y at in
      let here : get_or xs k y ≡ y = get_or_from_slice_get xs k y y at in
      let apart : eq_by_cmp R (key x) (key (get_or xs k y)) ≡ false = h.pairs 0 (suc k) y (omega arith) (omega arith) in
      same_test q (key x) e (key y) ∙ (ap (λ z. eq_by_cmp R (key x) (key z)) (sym here) ∙ apart)

  -- the value under a key is that of the item that has it
  look : {V : Type 0} (value : X → Option V) (q : K) (xs : List X) → Apart R key xs → fin.find R q (entries_by key value xs) ≡ option_and_then value (find (at_key R key q) xs)
  look value q [] h = refl
  look value q (x ∷ xs) h =
      look_step value q x xs (λ e. find_none (at_key R key q) xs (others_apart q x xs h e)) (look value q xs (Apart-tail x xs h)) (value x) refl (eq_by_cmp R q (key x)) refl

  pub look_up : {V : Type 0} (value : X → Option V) (q : K) (xs : List X) → Apart R key xs → get (from_entries {R = R} (entries_by key value xs)) q ≡ option_and_then value (find (at_key R key q) xs)
  look_up value q xs h = get-from_entries total (entries_by key value xs) q ∙ look value q xs h

  -- each item is found under its own key
  pub found_itself : (xs : List X) (i : ℕ) (x : X) → Apart R key xs → slice_get xs i ≡ Some x → find (at_key R key (key x)) xs ≡ Some x
  found_itself xs i x a at =
      let lt : i < length xs = slice_get_within xs i x at in
      let here : get_or xs i x ≡ x = get_or_from_slice_get xs i x x at in
      find_first (at_key R key (key x)) xs i x lt
      (λ k less. (eq_by_cmp_equiv total).symm (key x) (key (get_or xs k x)) ∙ (ap (λ z. eq_by_cmp R (key (get_or xs k x)) (key z)) (sym here) ∙ a.pairs k i x less lt))
      (ap (λ z. eq_by_cmp R (key x) (key z)) here ∙ ap is_eq (tied_itself total (key x)))
      ∙ ap Some here
