-- Items in the order of their keys, after one was written over, put in, or made a mark.
use Rattle.mb_lists.proofs.Common.{ap, Apart, arith, at_key, Bool, cases_eq, cases_lt, cond, drop, eq_by_cmp, eq_by_cmp_equiv, false, find, get_or, get_or-drop, get_or-remove_below, get_or-set_other}
use Rattle.mb_lists.proofs.Common.{get_or-set_same, get_or_append_left, get_or_from_slice_get, get_or_push, Greater, inl, inr, insert, IsAntisymmetric, IsAt, IsGap, IsInOrder, IsTotalOrder, length}
use Rattle.mb_lists.proofs.Common.{length-drop, length-insert, length-remove, length-set, length_push, Less, List, None, none_passes, Option, Ordering, ordering_reverse, position, refl, remove, set}
use Rattle.mb_lists.proofs.Common.{slice_get_within, Some, sym, true, unmarked, ℕ, [], ◌++◌, ◌+◌, ◌-◌, ◌<◌, ◌∙◌, ◌∷◌, ◌≡◌, ◌≤◌, ◌⊎◌}
use Rattle.std.proofs.lemmas.List.Quantifiers.{all_pairs_push, all_pairs_remove, position-Some}
use Rattle.mb_lists.proofs.Finding.{find_none}
use Rattle.mb_lists.proofs.Items.{same_test, equal_of}
use Rattle.mb_lists.proofs.ListEdits.{find_insert_other, find_insert_new, find_push_other, find_push_new, find_remove_other, find_set_other, find_set_first, removed_from, inserted_from, came_in_order, came_below, came_above, came_within, came_apart}
use Rattle.mb_lists.proofs.Ordered.{gap_apart}

-- an item under its key, and under each other key what was there
pub record Puts {K X : Type 0} (R : K → K → Ordering) (key : X → K) (x : X) (old new : List X) : Type 0 where
  pub found : (q : K) → find (at_key R key q) new ≡ cond (eq_by_cmp R q (key x)) (Some x) (find (at_key R key q) old)

module _ {K X : Type 0} {R : K → K → Ordering} (total : IsTotalOrder R) (anti : IsAntisymmetric R) (key : X → K) (gone : X → Bool) where
  flipped : (a b : K) → R a b ≡ Greater → R b a ≡ Less
  flipped a b h = total.antisymm b a ∙ ap ordering_reverse h

  -- a write under the same key
  key_kept : (xs : List X) (i k : ℕ) (x d : X) → i < length xs → ((e : X) → key (get_or xs i e) ≡ key x) → key (get_or (set xs i x) k d) ≡ key (get_or xs k d)
  key_kept xs i k x d lt h = elim (cases_eq k i) [
    | inl e ↦ ap (λ n. key (get_or (set xs i x) n d)) e ∙ (ap key (get_or-set_same xs i x d lt) ∙ (sym (h d) ∙ ap (λ n. key (get_or xs n d)) (sym e)))
    | inr n ↦ ap key (get_or-set_other xs i k x d n)
  ]

  pub set_in_order : (n : ℕ) (xs : List X) (i : ℕ) (x : X) → IsAt R key n xs (key x) i → gone x ≡ false → IsInOrder R key gone n xs → IsInOrder R key gone n (set xs i x)
  set_in_order n xs i x at g o =
      let le = o.bound in
      let lt : i < length xs = omega (arith, at.in_range) in
      let same = length-set xs i x in
      record {
        bound = omega (arith, same);
        apart = record {
          pairs = λ j k d less in_it.
              let kk : k < length xs = omega (arith, same) in
              ap (λ z. eq_by_cmp R z (key (get_or (set xs i x) k d))) (key_kept xs i j x d lt at.has_key) ∙ (ap (eq_by_cmp R (key (get_or xs j d))) (key_kept xs i k x d lt at.has_key) ∙ o.apart.pairs j k d less kk);
        };
        rising = λ j k d less below. ap (λ z. R z (key (get_or (set xs i x) k d))) (key_kept xs i j x d lt at.has_key) ∙ (ap (R (key (get_or xs j d))) (key_kept xs i k x d lt at.has_key) ∙ o.rising j k d less below);
        live = λ k d below. elim (cases_eq k i) [
          | inl e ↦ ap (λ n. gone (get_or (set xs i x) n d)) e ∙ (ap gone (get_or-set_same xs i x d lt) ∙ g)
          | inr e ↦ ap gone (get_or-set_other xs i k x d e) ∙ o.live k d below
        ];
        marks = λ k d from in_it. ap gone (get_or-set_other xs i k x d (λ e. let l = at.in_range in omega arith)) ∙ o.marks k d from (omega (arith, same));
      }

  pub set_puts : (n : ℕ) (xs : List X) (i : ℕ) (x : X) → IsAt R key n xs (key x) i → IsInOrder R key gone n xs → Puts R key x xs (set xs i x)
  set_puts n xs i x at o = record { found = λ q. by q (eq_by_cmp R q (key x)) refl }
    where
      by : (q : K) (b : Bool) → eq_by_cmp R q (key x) ≡ b → find (at_key R key q) (set xs i x) ≡ cond b (Some x) (find (at_key R key q) xs)
      by q true e =
          let lt : i < length xs = let le = o.bound in omega (arith, at.in_range) in
          find_set_first (at_key R key q) xs i x x lt (λ k less. same_test total key q (key x) e (key (get_or xs k x)) ∙ ((eq_by_cmp_equiv total).symm (key x) (key (get_or xs k x)) ∙ (ap (eq_by_cmp R (key (get_or xs k x))) (sym (at.has_key x)) ∙ o.apart.pairs k i x less lt))) e
      by q false e = find_set_other (at_key R key q) xs i x x (ap (eq_by_cmp R q) (at.has_key x) ∙ e) e

  -- a mark at the end
  pub push_in_order : (n : ℕ) (xs : List X) (x : X) → gone x ≡ true → ((k : ℕ) (d : X) → k < length xs → eq_by_cmp R (key (get_or xs k d)) (key x) ≡ false) → IsInOrder R key gone n xs → IsInOrder R key gone n (xs ++ x ∷ [])
  push_in_order n xs x g absent o =
      let le = o.bound in
      let same = length_push xs x in
      record {
        bound = omega (arith, same);
        apart = record { pairs = all_pairs_push (λ y z. eq_by_cmp R (key y) (key z) ≡ false) xs x o.apart.pairs absent };
        rising = λ j k d less below.
            let jj : j < length xs = omega arith in let kk : k < length xs = omega arith in
            ap (λ z. R (key z) (key (get_or (xs ++ x ∷ []) k d))) (get_or_append_left xs (x ∷ []) d j jj) ∙ (ap (λ z. R (key (get_or xs j d)) (key z)) (get_or_append_left xs (x ∷ []) d k kk) ∙ o.rising j k d less below);
        live = λ k d below. let kk : k < length xs = omega arith in ap gone (get_or_append_left xs (x ∷ []) d k kk) ∙ o.live k d below;
        marks = λ k d from in_it. elim (cases_lt k (length xs)) [
          | inl a ↦ ap gone (get_or_append_left xs (x ∷ []) d k a) ∙ o.marks k d from a
          | inr b ↦ let e : k ≡ length xs = omega (arith, same) in ap gone (get_or_push xs x d k (sym e)) ∙ g
        ];
      }

  -- an item, live or a mark, is taken out
  pub remove_in_order : (n m : ℕ) (xs : List X) (i : ℕ) → i < length xs → ((i < n) × (m + 1 ≡ n)) ⊎ ((n ≤ i) × (m ≡ n)) → IsInOrder R key gone n xs → IsInOrder R key gone m (remove xs i)
  remove_in_order n m xs i lt c o =
      let le = o.bound in
      let shorter = length-remove xs i lt in
      record {
        bound = elim c [ inl a ↦ omega (arith, a.0, a.1, shorter, le) | inr b ↦ omega (arith, b.0, b.1, shorter, le) ];
        apart = record { pairs = all_pairs_remove (λ y z. eq_by_cmp R (key y) (key z) ≡ false) xs i lt o.apart.pairs };
        rising = λ j k d less below.
            let a = removed_from xs i j d lt in
            let b = removed_from xs i k d lt in
            ap (λ z. R (key z) (key (get_or (remove xs i) k d))) a.1 ∙ (ap (λ z. R (key (get_or xs a.0 d)) (key z)) b.1 ∙ o.rising a.0 b.0 d (came_in_order i j k a.0 b.0 less a.2 b.2) (came_below i n m k b.0 c below b.2));
        live = λ k d below. let b = removed_from xs i k d lt in ap gone b.1 ∙ o.live b.0 d (came_below i n m k b.0 c below b.2);
        marks = λ k d from in_it. let b = removed_from xs i k d lt in ap gone b.1 ∙ o.marks b.0 d (came_above i n m k b.0 c from b.2) (came_within i k b.0 (length xs) (omega (arith, shorter)) b.2 (omega (arith, shorter)));
      }

  -- what is left has other keys
  pub others_left : (xs : List X) (i : ℕ) (p : K) → i < length xs → ((d : X) → key (get_or xs i d) ≡ p) → Apart R key xs → (k : ℕ) (d : X) → k < length (remove xs i) → eq_by_cmp R p (key (get_or (remove xs i) k d)) ≡ false
  others_left xs i p lt h a k d in_it =
      let b = removed_from xs i k d lt in
      let within : b.0 < length xs = came_within i k b.0 (length xs) (omega (arith, length-remove xs i lt)) b.2 (omega (arith, length-remove xs i lt)) in
      ap (λ z. eq_by_cmp R p (key z)) b.1 ∙ elim (came_apart i k b.0 b.2) [
        | inl l ↦ (eq_by_cmp_equiv total).symm p (key (get_or xs b.0 d)) ∙ (ap (eq_by_cmp R (key (get_or xs b.0 d))) (sym (h d)) ∙ a.pairs b.0 i d l lt)
        | inr g ↦ ap (λ z. eq_by_cmp R z (key (get_or xs b.0 d))) (sym (h d)) ∙ a.pairs i b.0 d g within
      ]

  pub found_removed : (xs : List X) (i : ℕ) (p : K) → i < length xs → ((d : X) → key (get_or xs i d) ≡ p) → Apart R key xs → (q : K) → find (at_key R key q) (remove xs i) ≡ cond (eq_by_cmp R q p) None (find (at_key R key q) xs)
  found_removed xs i p lt h a q = by (eq_by_cmp R q p) refl
    where
      by : (b : Bool) → eq_by_cmp R q p ≡ b → find (at_key R key q) (remove xs i) ≡ cond b None (find (at_key R key q) xs)
      by true e = find_none (at_key R key q) (remove xs i) (λ k y at.
          same_test total key q p e (key y) ∙ (ap (λ z. eq_by_cmp R p (key z)) (sym (get_or_from_slice_get (remove xs i) k y y at)) ∙ others_left xs i p lt h a k y (slice_get_within (remove xs i) k y at)))
      by false e = none_at xs i lt (λ d. ap (eq_by_cmp R q) (h d) ∙ e)
        where
          none_at : (xs : List X) (i : ℕ) → i < length xs → ((d : X) → at_key R key q (get_or xs i d) ≡ false) → find (at_key R key q) (remove xs i) ≡ find (at_key R key q) xs
          none_at [] i lt g = absurd (omega arith)
          none_at (x ∷ xs) i lt g = find_remove_other (at_key R key q) (x ∷ xs) i x lt (g x)

  pub insert_puts : (xs : List X) (i : ℕ) (x : X) → ((k : ℕ) (d : X) → k < length xs → eq_by_cmp R (key x) (key (get_or xs k d)) ≡ false) → Puts R key x xs (insert xs i x)
  insert_puts xs i x absent = record { found = λ q. by q (eq_by_cmp R q (key x)) refl }
    where
      by : (q : K) (b : Bool) → eq_by_cmp R q (key x) ≡ b → find (at_key R key q) (insert xs i x) ≡ cond b (Some x) (find (at_key R key q) xs)
      by q true e = find_insert_new (at_key R key q) xs i x (find_none (at_key R key q) xs (λ k y at. same_test total key q (key x) e (key y) ∙ (ap (λ z. eq_by_cmp R (key x) (key z)) (sym (get_or_from_slice_get xs k y y at)) ∙ absent k y (slice_get_within xs k y at)))) e
      by q false e = find_insert_other (at_key R key q) xs i x e

  pub push_puts : (xs : List X) (x : X) → ((k : ℕ) (d : X) → k < length xs → eq_by_cmp R (key x) (key (get_or xs k d)) ≡ false) → Puts R key x xs (xs ++ x ∷ [])
  push_puts xs x absent = record { found = λ q. by q (eq_by_cmp R q (key x)) refl }
    where
      by : (q : K) (b : Bool) → eq_by_cmp R q (key x) ≡ b → find (at_key R key q) (xs ++ x ∷ []) ≡ cond b (Some x) (find (at_key R key q) xs)
      by q true e = find_push_new (at_key R key q) xs x (find_none (at_key R key q) xs (λ k y at. same_test total key q (key x) e (key y) ∙ (ap (λ z. eq_by_cmp R (key x) (key z)) (sym (get_or_from_slice_get xs k y y at)) ∙ absent k y (slice_get_within xs k y at)))) e
      by q false e = find_push_other (at_key R key q) xs x e

  -- out and in again
  pub back_puts : (x : X) (xs ys zs : List X) → ((q : K) → find (at_key R key q) ys ≡ cond (eq_by_cmp R q (key x)) None (find (at_key R key q) xs)) → Puts R key x ys zs → Puts R key x xs zs
  back_puts x xs ys zs out in_again = record { found = λ q. in_again.found q ∙ (ap (cond (eq_by_cmp R q (key x)) (Some x)) (out q) ∙ over (eq_by_cmp R q (key x)) (find (at_key R key q) xs)) }
    where
      over : (b : Bool) (o : Option X) → cond b (Some x) (cond b None o) ≡ cond b (Some x) o
      over true o = refl
      over false o = refl

  -- pairs after an insertion
  insert_pairs : (P : X → X → Type 0) (n : ℕ) (xs : List X) (i : ℕ) (y : X) → i ≤ n → n ≤ length xs → ((j k : ℕ) (d : X) → j < k → k < n → P (get_or xs j d) (get_or xs k d)) → ((k : ℕ) (d : X) → k < i → P (get_or xs k d) y) → ((k : ℕ) (d : X) → i ≤ k → k < n → P y (get_or xs k d)) → (j k : ℕ) (d : X) → j < k → k < n + 1 → P (get_or (insert xs i y) j d) (get_or (insert xs i y) k d)
  insert_pairs P n xs i y le bound h front back j k d less below =
      let in_it : i ≤ length xs = omega arith in
      by (inserted_from xs i j y d in_it) (inserted_from xs i k y d in_it)
    where
      by : ((j < i) × (get_or (insert xs i y) j d ≡ get_or xs j d)) ⊎ (((j ≡ i) × (get_or (insert xs i y) j d ≡ y)) ⊎ ((a : ℕ) × (j ≡ a + 1) × (i ≤ a) × (get_or (insert xs i y) j d ≡ get_or xs a d)))
          → ((k < i) × (get_or (insert xs i y) k d ≡ get_or xs k d)) ⊎ (((k ≡ i) × (get_or (insert xs i y) k d ≡ y)) ⊎ ((b : ℕ) × (k ≡ b + 1) × (i ≤ b) × (get_or (insert xs i y) k d ≡ get_or xs b d)))
          → P (get_or (insert xs i y) j d) (get_or (insert xs i y) k d)
      by (inl a) (inl b) = rw (a.1, b.1) (h j k d less (omega (arith, b.0)))
      by (inl a) (inr (inl b)) = rw (a.1, b.1) (front j d a.0)
      by (inl a) (inr (inr b)) = rw (a.1, b.3) (h j b.0 d (omega (arith, a.0, b.2)) (omega (arith, b.1)))
      by (inr (inl a)) (inl b) = absurd (omega (arith, a.0, b.0))
      by (inr (inl a)) (inr (inl b)) = absurd (omega (arith, a.0, b.0))
      by (inr (inl a)) (inr (inr b)) = rw (a.1, b.3) (back b.0 d b.2 (omega (arith, b.1)))
      by (inr (inr a)) (inl b) = absurd (omega (arith, a.1, a.2, b.0))
      by (inr (inr a)) (inr (inl b)) = absurd (omega (arith, a.1, a.2, b.0))
      by (inr (inr a)) (inr (inr b)) = rw (a.3, b.3) (h a.0 b.0 d (omega (arith, a.1, b.1)) (omega (arith, b.1)))

  -- an item comes to its place
  pub insert_in_order : (n : ℕ) (xs : List X) (i : ℕ) (x : X) → IsGap R key n xs (key x) i → gone x ≡ false → ((k : ℕ) (d : X) → k < length xs → eq_by_cmp R (key x) (key (get_or xs k d)) ≡ false) → IsInOrder R key gone n xs → IsInOrder R key gone (n + 1) (insert xs i x)
  insert_in_order n xs i x g live_one absent o =
      let le = o.bound in
      let at = g.in_range in
      let in_it : i ≤ length xs = omega arith in
      let longer = length-insert xs i x in_it in
      record {
        bound = omega (arith, longer);
        apart = record {
          pairs = λ j k d less below. insert_pairs (λ y z. eq_by_cmp R (key y) (key z) ≡ false) (length xs) xs i x in_it (omega arith) o.apart.pairs
              (λ k d lt. (eq_by_cmp_equiv total).symm (key (get_or xs k d)) (key x) ∙ absent k d (omega arith)) (λ k d from lt. absent k d lt) j k d less (omega (arith, longer));
        };
        rising = insert_pairs (λ y z. R (key y) (key z) ≡ Less) n xs i x at le o.rising g.before (λ k d from lt. flipped (key (get_or xs k d)) (key x) (g.after k d from lt));
        live = λ k d below. elim (inserted_from xs i k x d in_it) [
          | inl a ↦ ap gone a.1 ∙ o.live k d (omega (arith, a.0))
          | inr r ↦ elim r [
            | inl a ↦ ap gone a.1 ∙ live_one
            | inr a ↦ ap gone a.3 ∙ o.live a.0 d (omega (arith, a.1))
          ]
        ];
        marks = λ k d from within. elim (inserted_from xs i k x d in_it) [
          | inl a ↦ absurd (omega (arith, a.0))
          | inr r ↦ elim r [
            | inl a ↦ absurd (omega (arith, a.0))
            | inr a ↦ ap gone a.3 ∙ o.marks a.0 d (omega (arith, a.1)) (omega (arith, a.1, longer))
          ]
        ];
      }

  -- taking out a mark leaves the gap
  pub gap_left : (n : ℕ) (xs : List X) (q : K) (at i : ℕ) → n ≤ i → i < length xs → IsGap R key n xs q at → IsGap R key n (remove xs i) q at
  gap_left n xs q at i le lt g = record {
    in_range = g.in_range;
    before = λ k d less. let r = g.in_range in ap (λ z. R (key z) q) (get_or-remove_below xs i d k (omega arith) lt) ∙ g.before k d less;
    after = λ k d from below. ap (λ z. R (key z) q) (get_or-remove_below xs i d k (omega arith) lt) ∙ g.after k d from below;
  }

  -- no mark has the key either
  pub absent_all : (n : ℕ) (xs : List X) (q : K) (i : ℕ) → IsGap R key n xs q i → position (at_key R key q) (drop n xs) ≡ None → IsInOrder R key gone n xs → (k : ℕ) (d : X) → k < length xs → eq_by_cmp R q (key (get_or xs k d)) ≡ false
  absent_all n xs q i g none o k d lt = elim (cases_lt k n) [
    | inl a ↦ gap_apart total anti key gone n xs q i k d g a
    | inr b ↦
        let e : n + (k - n) ≡ k = omega arith in
        let within : k - n < length (drop n xs) = omega (arith, length-drop n xs) in
        ap (λ j. eq_by_cmp R q (key (get_or xs j d))) (sym e) ∙ (ap (λ z. eq_by_cmp R q (key z)) (sym (get_or-drop n xs (k - n) d)) ∙ none_passes (at_key R key q) (drop n xs) none (k - n) d within)
  ]

  -- the mark that has the key
  pub mark_at : (n : ℕ) (xs : List X) (q : K) (j : ℕ) → position (at_key R key q) (drop n xs) ≡ Some j → (n + j < length xs) × ((d : X) → key (get_or xs (n + j) d) ≡ q)
  mark_at n xs q j h =
      let lt : n + j < length xs = within h in
      (lt, λ d. let p = position-Some (at_key R key q) (drop n xs) j d h in sym (anti q (key (get_or xs (n + j) d)) (equal_of (R q (key (get_or xs (n + j) d))) (ap (λ z. eq_by_cmp R q (key z)) (sym (get_or-drop n xs j d)) ∙ p.1))))
    where
      any : (ys : List X) → position (at_key R key q) ys ≡ Some j → j < length ys
      any [] h = cc
      any (y ∷ ys) h = (position-Some (at_key R key q) (y ∷ ys) j y h).0

      within : position (at_key R key q) (drop n xs) ≡ Some j → n + j < length xs
      within h = let lt = any (drop n xs) h in omega (arith, length-drop n xs)

  -- the item under a key is written over
  pub set_all : (n : ℕ) (xs : List X) (i : ℕ) (x : X) → IsAt R key n xs (key x) i → gone x ≡ false → IsInOrder R key gone n xs → IsInOrder R key gone n (set xs i x) × Puts R key x xs (set xs i x)
  set_all n xs i x at g o = (set_in_order n xs i x at g o, set_puts n xs i x at o)

  -- a new item comes to its place, and its mark goes if there is one
  pub put_all : (n : ℕ) (xs : List X) (i : ℕ) (x : X) (mark : Option ℕ) → IsGap R key n xs (key x) i → gone x ≡ false → position (at_key R key (key x)) (drop n xs) ≡ mark → IsInOrder R key gone n xs → IsInOrder R key gone (n + 1) (insert (unmarked n mark xs) i x) × Puts R key x xs (insert (unmarked n mark xs) i x)
  put_all n xs i x None g live none o =
      let absent = absent_all n xs (key x) i g none o in
      (insert_in_order n xs i x g live absent o, insert_puts xs i x absent)
  put_all n xs i x (Some j) g live found o =
      let m = mark_at n xs (key x) j found in
      let left = remove_in_order n n xs (n + j) m.0 (inr (omega arith, refl)) o in
      let absent = others_left xs (n + j) (key x) m.0 m.1 o.apart in (
        insert_in_order n (remove xs (n + j)) i x (gap_left n xs (key x) i (n + j) (omega arith) m.0 g) live absent left,
        back_puts x xs (remove xs (n + j)) (insert (remove xs (n + j)) i x) (found_removed xs (n + j) (key x) m.0 m.1 o.apart) (insert_puts (remove xs (n + j)) i x absent),
      )

  -- an item goes and its mark comes
  pub clear_all : (m : ℕ) (xs : List X) (i : ℕ) (x : X) → IsAt R key (m + 1) xs (key x) i → gone x ≡ true → IsInOrder R key gone (m + 1) xs → IsInOrder R key gone m (remove xs i ++ x ∷ []) × Puts R key x xs (remove xs i ++ x ∷ [])
  clear_all m xs i x at g o =
      let lt : i < length xs = let le = o.bound in omega (arith, at.in_range) in
      let left = remove_in_order (m + 1) m xs i lt (inl (at.in_range, refl)) o in
      let absent = others_left xs i (key x) lt at.has_key o.apart in (
        push_in_order m (remove xs i) x g (λ k d less. (eq_by_cmp_equiv total).symm (key (get_or (remove xs i) k d)) (key x) ∙ absent k d less) left,
        back_puts x xs (remove xs i) (remove xs i ++ x ∷ []) (found_removed xs i (key x) lt at.has_key o.apart) (push_puts (remove xs i) x absent),
      )
