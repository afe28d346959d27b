-- The one of intervals in order that an id can lie in.
use Rattle.tile_streaming.proofs.Common.{[], ap, arith, Bool, false, get_or, IsNonDecreasingBy, length, List, nat_le, nat_tests, None, Option, refl, Some, suc, sym, true, zero, ℕ, ◌&&◌, ◌+◌, ◌<◌, ◌||◌, ◌∙◌, ◌∷◌, ◌≡◌, ◌≤◌}
use Rattle.pm_walk.specs.Intervals.{AreApart, in_intervals, lies_in}
use Rattle.std.proofs.Common.{ltb, slice_index_or}
use Rattle.std.proofs.Math.Bool.{and-false, or-false}
use Rattle.std.proofs.lemmas.Option.{slice_get_past}
use Rattle.std.specs.List.Sorted.{IsPartitionPoint}
use Rattle.std.specs.Option.{option_map_or}
use Rattle.std.specs.Prelude.{slice_get}

-- they end where they begin or later
ends_from : (low : ℕ) (is : List (ℕ × ℕ)) → AreApart low is → (j : ℕ) (d : ℕ × ℕ) → j < length is → low ≤ (slice_index_or is j d).1
ends_from low [] h j d lt = absurd (omega (arith, lt))
ends_from low (i ∷ is) h zero d lt = omega (arith, h.0, h.1)
ends_from low (i ∷ is) h (suc j) d lt = let after = ends_from (i.1 + 1) is h.2 j d (omega (arith, lt)) in omega (arith, after, h.0, h.1)

pub ends_rise : (low : ℕ) (is : List (ℕ × ℕ)) → AreApart low is → IsNonDecreasingBy (λ i. i.1) is
ends_rise low [] h k j d le lt = absurd (omega (arith, lt))
ends_rise low (i ∷ is) h zero zero d le lt = omega arith
ends_rise low (i ∷ is) h zero (suc j) d le lt = let after = ends_from (i.1 + 1) is h.2 j d (omega (arith, lt)) in omega (arith, after)
ends_rise low (i ∷ is) h (suc k) zero d le lt = absurd (omega (arith, le))
ends_rise low (i ∷ is) h (suc k) (suc j) d le lt = ends_rise (i.1 + 1) is h.2 k j d (omega (arith, le)) (omega (arith, lt))

-- none has an id before them
none_before : (low id : ℕ) (is : List (ℕ × ℕ)) → AreApart low is → id < low → in_intervals id is ≡ false
none_before low id [] h lt = refl
none_before low id (i ∷ is) h lt =
    let not : nat_le i.0 id ≡ false = first (omega (arith, h.0, lt)) in
    ap (λ b. (b && nat_le id i.1) || in_intervals id is) not ∙ none_before (i.1 + 1) id is h.2 (omega (arith, h.0, h.1, lt))
  where
    first : id < i.0 → nat_le i.0 id ≡ false
    first e = grind (arith, nat_tests)

not_below : (a b : ℕ) → ltb a b ≡ false → nat_le b a ≡ true
not_below a b h = grind (arith, nat_tests)

below : (a b : ℕ) → ltb a b ≡ true → nat_le b a ≡ false
below a b h = grind (arith, nat_tests)

-- an id lies in the first that doesn't end before it, or in none
pub lies_found : (low id : ℕ) (is : List (ℕ × ℕ)) (n : ℕ) → AreApart low is → IsPartitionPoint (λ i. ltb i.1 id ≡ true) (λ i. ltb i.1 id ≡ false) is n → option_map_or (λ i. nat_le i.0 id) (slice_get is n) false ≡ in_intervals id is
lies_found low id [] n h point = refl
lies_found low id (i ∷ is) zero h point =
    let ends : nat_le id i.1 ≡ true = not_below i.1 id (point.1 0 i (omega arith) (omega arith)) in
    sym (ap (λ b. (nat_le i.0 id && b) || in_intervals id is) ends
    ∙ (ap (λ b. (nat_le i.0 id && true) || b) (none_before (i.1 + 1) id is h.2 (lower ends))
    ∙ (or-false (nat_le i.0 id && true) ∙ and_true (nat_le i.0 id))))
  where
    lower : nat_le id i.1 ≡ true → id < i.1 + 1
    lower e = grind (arith, nat_tests)

    and_true : (b : Bool) → (b && true) ≡ b
    and_true true = refl
    and_true false = refl
lies_found low id (i ∷ is) (suc n) h point =
    let ends : nat_le id i.1 ≡ false = below i.1 id (point.0 0 i (omega arith) (omega arith)) in
    lies_found (i.1 + 1) id is n h.2 (λ k d le lt. point.0 (suc k) d (omega (arith, le)) (omega (arith, lt)), λ k d le lt. point.1 (suc k) d (omega (arith, le)) (omega (arith, lt)))
    ∙ sym (ap (λ b. (nat_le i.0 id && b) || in_intervals id is) ends ∙ ap (λ b. b || in_intervals id is) (and-false (nat_le i.0 id)))

pub lies_past : (id : ℕ) (is : List (ℕ × ℕ)) (n : ℕ) → AreApart 0 is → IsPartitionPoint (λ i. ltb i.1 id ≡ true) (λ i. ltb i.1 id ≡ false) is n → length is ≤ n → false ≡ in_intervals id is
lies_past id is n h point far = sym (ap (λ o. option_map_or (λ (i : ℕ × ℕ). nat_le i.0 id) o false) (slice_get_past is n far)) ∙ lies_found 0 id is n h point

slice_at : (is : List (ℕ × ℕ)) (n : ℕ) (d : ℕ × ℕ) → n < length is → slice_get is n ≡ Some (get_or is n d)
slice_at [] n d lt = absurd (omega (arith, lt))
slice_at (i ∷ is) zero d lt = refl
slice_at (i ∷ is) (suc n) d lt = slice_at is n d (omega (arith, lt))

pub lies_at : (id : ℕ) (is : List (ℕ × ℕ)) (n : ℕ) (d : ℕ × ℕ) → AreApart 0 is → IsPartitionPoint (λ i. ltb i.1 id ≡ true) (λ i. ltb i.1 id ≡ false) is n → n < length is → nat_le (get_or is n d).0 id ≡ in_intervals id is
lies_at id is n d h point lt = sym (ap (λ o. option_map_or (λ (i : ℕ × ℕ). nat_le i.0 id) o false) (slice_at is n d lt)) ∙ lies_found 0 id is n h point
