-- Numbers that are written are read again.
use Rattle.pm_format.proofs.Common.{ap, append_assoc, arith, below, column, inl, inr, length, List, lt_or, number_at, option_map, refl, short_of, Some, spell_all, spelled, suc, u64_at, varint, zero}
use Rattle.pm_format.proofs.Common.{ℕ, [], ◌%◌, ◌*◌, ◌++◌, ◌+◌, ◌/◌, ◌<◌, ◌>>=◌, ◌^◌, ◌∙◌, ◌∷◌, ◌≡◌, ◌≤◌}
use Rattle.pm_format.proofs.VarintLemmas.{short_more, short_last, low_more}
use Rattle.pm_format.proofs.VarintReadingLemmas.{carried, spelled_last, spelled_more, below_low}

abbrev pub AllBelow : ℕ → List ℕ → Type 0
AllBelow limit [] = Unit {0}
AllBelow limit (n ∷ ns) = (n < limit) × AllBelow limit ns

digit_again : (n : ℕ) → (n % 128 + 128) % 128 + 128 * (n / 128) ≡ n
digit_again n = omega arith

one_again : (j k n : ℕ) (rest : List ℕ) → n < 128 → spelled (suc j) (short_of (suc k) n ++ rest) ≡ Some (n, rest)
one_again j k n rest h = ap (λ s. spelled (suc j) (s ++ rest)) (short_last k n h) ∙ spelled_last j n rest h

pub spelled_again : (j k n : ℕ) (rest : List ℕ) → n < 128 ^ suc j → n < 128 ^ suc k → spelled (suc j) (short_of (suc k) n ++ rest) ≡ Some (n, rest)
spelled_again zero k n rest h g = one_again zero k n rest (omega (arith, h))
spelled_again (suc j) zero n rest h g = one_again (suc j) zero n rest (omega (arith, g))
spelled_again (suc j) (suc k) n rest h g =
    elim (lt_or n 128) [
      | inl low ↦ one_again (suc j) (suc k) n rest low
      | inr high ↦
          let again = spelled_again j k (n / 128) rest (low_more j n h) (low_more k n g) in
          let b : 128 ≤ n % 128 + 128 = omega arith in
          ap (λ s. spelled (suc (suc j)) (s ++ rest)) (short_more (suc k) n high)
          ∙ (spelled_more (suc j) (n % 128 + 128) (short_of (suc k) (n / 128) ++ rest) b
          ∙ (ap (option_map (carried ((n % 128 + 128) % 128) 128)) again
          ∙ ap (λ m. Some (m, rest)) (digit_again n)))
    ]

pub u64_again : (n : ℕ) (rest : List ℕ) → n < 2 ^ 64 → u64_at (varint n ++ rest) ≡ Some (n, rest)
unfolding u64_at varint
u64_again n rest h = ap (below (2 ^ 64)) (spelled_again 9 9 n rest (omega (arith, h)) (omega (arith, h))) ∙ below_low (2 ^ 64) n rest h

number_again : (j limit n : ℕ) (rest : List ℕ) → limit ≤ 128 ^ suc j → limit ≤ 2 ^ 64 → n < limit → number_at (suc j) limit (varint n ++ rest) ≡ Some (n, rest)
unfolding varint
number_again j limit n rest fits small h = ap (below limit) (spelled_again j 9 n rest (omega (arith, h, fits)) (omega (arith, h, small))) ∙ below_low limit n rest h

pub column_again : (j limit : ℕ) → limit ≤ 128 ^ suc j → limit ≤ 2 ^ 64 → (ns rest : List ℕ) → AllBelow limit ns → column (suc j) limit (length ns) (spell_all ns ++ rest) ≡ Some (ns, rest)
column_again j limit fits small [] rest h = refl
column_again j limit fits small (n ∷ ns) rest h =
    ap (λ s. column (suc j) limit (suc (length ns)) s) (append_assoc (varint n) (spell_all ns) rest)
    ∙ (ap (λ x. x >>= λ x. option_map (λ r. (x.0 ∷ r.0, r.1)) (column (suc j) limit (length ns) x.1)) (number_again j limit n (spell_all ns ++ rest) fits small h.0)
    ∙ ap (option_map (λ r. (n ∷ r.0, r.1))) (column_again j limit fits small ns rest h.1))
