-- One turn of the loop that writes a varint.
use Rattle.pm_format.proofs.Common.{ap, append_assoc, arith, length, length-take, List, nat_tests, pow-succ', refl, short_of, suc, sym, take, take-append-le, varint, zero, ℕ, [], ◌%◌, ◌++◌, ◌+◌, ◌/◌}
use Rattle.pm_format.proofs.Common.{◌<◌, ◌^◌, ◌∙◌, ◌∷◌, ◌≡◌, ◌≤◌}

-- what is written so far, with the spelling of the rest in at most k + 1 bytes, is the whole
pub record Completes (whole out : List ℕ) (rest k : ℕ) : Type 0 where
  pub low : rest < 128 ^ suc k
  pub same : out ++ short_of (suc k) rest ≡ whole

pub short_more : (k n : ℕ) → 128 ≤ n → short_of (suc k) n ≡ (n % 128 + 128) ∷ short_of k (n / 128)
short_more k n h = grind (arith, nat_tests)

pub short_last : (k n : ℕ) → n < 128 → short_of (suc k) n ≡ n ∷ []
short_last k n h = grind (arith, nat_tests)

pub low_more : (k n : ℕ) → n < 128 ^ suc (suc k) → n / 128 < 128 ^ suc k
low_more k n h = let e = pow-succ' 128 (suc k) in omega (arith, h, e)

pub completes_more : (whole out : List ℕ) (rest k : ℕ) → 128 ≤ rest → Completes whole out rest k → (j : ℕ) × Completes whole (out ++ (rest % 128 + 128) ∷ []) (rest / 128) j
completes_more whole out rest zero h c = absurd (omega (arith, c.low))
completes_more whole out rest (suc k) h c = (k, record { low = low_more k rest c.low; same = append_assoc out ((rest % 128 + 128) ∷ []) (short_of (suc k) (rest / 128)) ∙ (ap (λ s. out ++ s) (sym (short_more (suc k) rest h)) ∙ c.same) })

pub completes_first : (out : List ℕ) (value : ℕ) → value < 2 ^ 64 → Completes (out ++ varint value) out value 9
unfolding varint
completes_first out value h = record { low = omega (arith, h); same = refl }

-- a front stays where something is put behind
pub take_keeps : {A : Type 0} (n : ℕ) (xs ys zs : List A) → take n xs ≡ ys → n ≡ length ys → take n (xs ++ zs) ≡ ys
take_keeps n xs ys zs e f =
    let h : n ≤ length xs = omega (arith, ap length e, length-take n xs, f) in
    take-append-le n xs zs h ∙ e
