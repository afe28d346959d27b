-- The flags of pages.
use Rattle.std.proofs.Common.{ap, arith, Bool, drop, false, inl, inr, length, List, refl, slice_index_or, suc, sym, take, true, zero, [], ℕ, ◌<◌, ◌≤◌, ◌+◌, ◌++◌, ◌∙◌, ◌∷◌, ◌≡◌, ◌⊎◌}
use Rattle.std.proofs.lemmas.Bool.{cases_lt}
use Rattle.std.proofs.Math.Seq.{take-append_seam}

drop_all : {X : Type 0} (n : ℕ) (xs : List X) → length xs ≤ n → drop n xs ≡ []
drop_all zero [] less = refl
drop_all zero (x ∷ xs) less = absurd (omega (arith, less))
drop_all (suc n) [] less = refl
drop_all (suc n) (x ∷ xs) less = drop_all n xs (omega (arith, less))

-- a list that was lent as a slice has what was written there
pub written_back : (old given new : List Bool) (n : ℕ) → n ≡ length old → given ≡ old → length new ≡ length given → take n (new ++ drop (length new) old) ≡ new
written_back old given new n long value same =
    ap (λ k. take k (new ++ drop (length new) old)) (long ∙ ap length (sym value) ∙ sym same) ∙ take-append_seam new (drop (length new) old)

past_end : (xs : List Bool) (n : ℕ) → length xs ≤ n → slice_index_or xs n true ≡ true
past_end [] n less = refl
past_end (x ∷ xs) zero less = absurd (omega (arith, less))
past_end (x ∷ xs) (suc n) less = past_end xs n (omega (arith, less))

at_front : (xs : List Bool) → slice_index_or xs 0 false ≡ true → slice_index_or xs 0 true ≡ true
at_front [] e = refl
at_front (x ∷ xs) e = e

-- a page without a flag is one of those that are counted from 1 on
pub without_flag : (xs : List Bool) (count n : ℕ) → length xs ≡ count + 1 → slice_index_or xs 0 false ≡ true → slice_index_or xs n true ≡ false → (0 < n) × (n ≤ count)
without_flag xs count n long first unset = (above n unset, below)
  where
    above : (n : ℕ) → slice_index_or xs n true ≡ false → 0 < n
    above zero unset = absurd (let a = at_front xs first in let b = unset in cc)
    above (suc n) unset = omega arith

    below : n ≤ count
    below = by (cases_lt count n)
      where
        by : (count < n) ⊎ (n ≤ count) → n ≤ count
        by (inr le) = le
        by (inl gt) = absurd (let a = past_end xs n (omega (arith, long, gt)) in let b = unset in cc)
