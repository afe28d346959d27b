-- Items of different keys in their order, with the marks behind them.
use Rattle.mb_lists.proofs.Common.{ap, Apart, arith, behind, Bool, bool_cmp, bool_cmp_total, false, false≢true, get_or, get_or-take, is_lt, IsInOrder, IsPartitionedBy, IsPartitionPoint, IsPermutation}
use Rattle.mb_lists.proofs.Common.{IsSortedBy, IsTotalOrder, length, length-take-le, List, not, on_total, Ordering, ordering_then, ranks_by, refl, sorted_far, sym, take, then_total, true, ℕ, ◌+◌, ◌<◌}
use Rattle.mb_lists.proofs.Common.{◌∙◌, ◌≡◌, ◌≤◌}
use Rattle.mb_lists.proofs.Sorting.{apart_permuted, only_less}

module _ {K X : Type 0} {R : K → K → Ordering} (total : IsTotalOrder R) (key : X → K) (gone : X → Bool) where
  pub behind_total : IsTotalOrder (behind R key gone)
  behind_total = then_total (on_total gone bool_cmp_total) (on_total key total)

  not_gone_before : (a b : Bool) (o : Ordering) → is_lt (ordering_then (bool_cmp b a) o) ≡ false → not b ≡ true → not a ≡ true
  not_gone_before false b o h k = refl
  not_gone_before true false o h k = absurd (false≢true (sym h))
  not_gone_before true true o h k = k

  key_below : (a b : Bool) (o : Ordering) → a ≡ false → b ≡ false → is_lt (ordering_then (bool_cmp b a) o) ≡ false → is_lt o ≡ false
  key_below false false o e f h = h
  key_below true b o e f h = absurd (false≢true (sym e))
  key_below false true o e f h = absurd (false≢true (sym f))

  alive : (b : Bool) → not b ≡ true → b ≡ false
  alive false h = refl
  alive true h = absurd (false≢true h)

  dead : (b : Bool) → not b ≡ false → b ≡ true
  dead true h = refl
  dead false h = absurd (false≢true (sym h))

  pub parted : (ys : List X) → IsSortedBy (λ x y. is_lt (behind R key gone x y)) ys → IsPartitionedBy (λ x. not (gone x)) ys
  parted ys up i j d le lt h = not_gone_before (gone (get_or ys i d)) (gone (get_or ys j d)) (R (key (get_or ys j d)) (key (get_or ys i d))) (sorted_far (λ x y. is_lt (behind R key gone x y)) (ranks_by behind_total (λ x. x)) ys up i j d le lt) h

  pub settled_in_order : (xs ys : List X) (n : ℕ) → Apart R key xs → IsPermutation xs ys → IsSortedBy (λ x y. is_lt (behind R key gone x y)) ys → n ≤ length ys → IsPartitionPoint (λ x. not (gone x) ≡ true) (λ x. not (gone x) ≡ false) ys n → IsInOrder R key gone n ys
  settled_in_order xs ys n a p up le point =
      let apart : Apart R key ys = apart_permuted total key xs ys p a in
      let live_one : (i : ℕ) (d : X) → i < n → gone (get_or ys i d) ≡ false = λ i d lt. alive (gone (get_or ys i d)) (point.0 i d (omega arith) lt) in
      record {
        bound = le;
        apart = apart;
        rising = λ i j d less lt.
            let in_it : j < length ys = omega arith in
            let far = key_below (gone (get_or ys i d)) (gone (get_or ys j d)) (R (key (get_or ys j d)) (key (get_or ys i d))) (live_one i d (omega arith)) (live_one j d lt) (sorted_far (λ x y. is_lt (behind R key gone x y)) (ranks_by behind_total (λ x. x)) ys up i j d (omega arith) in_it) in
            only_less (R (key (get_or ys i d)) (key (get_or ys j d))) (ap is_lt (sym (total.antisymm (key (get_or ys j d)) (key (get_or ys i d)))) ∙ far) (apart.pairs i j d less in_it);
        live = live_one;
        marks = λ i d from lt. dead (gone (get_or ys i d)) (point.1 i d from lt);
      }

-- those that aren't marks rise by their keys alone
by_keys : (a b : Bool) (o : Ordering) → not a ≡ true → not b ≡ true → is_lt (ordering_then (bool_cmp b a) o) ≡ false → is_lt o ≡ false
by_keys false false o e f h = h
by_keys true b o e f h = absurd (false≢true e)
by_keys false true o e f h = absurd (false≢true f)

module _ {K X : Type 0} (R : K → K → Ordering) (key : X → K) (gone : X → Bool) where
  pub live_sorted : (xs : List X) (n : ℕ) → IsSortedBy (λ x y. is_lt (behind R key gone x y)) xs → n ≤ length xs → IsPartitionPoint (λ x. not (gone x) ≡ true) (λ x. not (gone x) ≡ false) xs n → IsSortedBy (λ x y. is_lt (R (key x) (key y))) (take n xs)
  live_sorted xs n up le point k d from lt =
      let len = length-take-le n xs le in
      let less : k + 1 < n = omega (arith, len, lt) in
      let here : get_or (take n xs) k d ≡ get_or xs k d = get_or-take n xs k d (omega (arith, less)) in
      let there : get_or (take n xs) (k + 1) d ≡ get_or xs (k + 1) d = get_or-take n xs (k + 1) d less in
      ap (λ x. is_lt (R (key x) (key (get_or (take n xs) k d)))) there
      ∙ (ap (λ x. is_lt (R (key (get_or xs (k + 1) d)) (key x))) here
      ∙ by_keys (gone (get_or xs k d)) (gone (get_or xs (k + 1) d)) (R (key (get_or xs (k + 1) d)) (key (get_or xs k d))) (point.0 k d from (omega (arith, less))) (point.0 (k + 1) d (omega arith) less) (up k d from (omega (arith, less, le))))
