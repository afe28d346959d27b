-- The lanes of XXH3 along the stripes of a list, whatever the block.
use Rattle.tile_hash.proofs.Common.{add-one, add-suc, add-zero, all_stripes, arith, block_count, blocks, cases_eq, eq-eqb, first_lanes, inl, inr, lane, length, List, lit<, ne_eqb, refl, scrambled}
use Rattle.tile_hash.proofs.Common.{stripe_count, stripe_taken, striped, stripes, suc, sym, taken, word64, zero, ℕ, ◌%◌, ◌*◌, ◌++◌, ◌+◌, ◌-◌, ◌/◌, ◌<◌, ◌∙◌, ◌≡◌, ◌≤◌}
use Rattle.tile_hash.proofs.ByteLemmas.{SameBytes, word_within, same_within, same_front}
use Rattle.tile_hash.proofs.StepLemmas.{taken_more, stripes_more, blocks_more}

-- a stripe reads its 64 bytes alone
same_lane : (v b c : List ℕ) (i j place k l : ℕ) → SameBytes 64 b i c j → k < 8 → l < 8 → lane v b i place k l ≡ lane v c j place k l
unfolding lane
same_lane v b c i j place k l same own other =
    let e0 : word64 b (i + 8 * l) ≡ word64 c (j + 8 * l) = word_within 64 (8 * l) b c i j same (omega arith) in
    let e1 : word64 b (i + 8 * k) ≡ word64 c (j + 8 * k) = word_within 64 (8 * k) b c i j same (omega arith) in
    rw (e0, e1) refl

pub same_stripe : (v b c : List ℕ) (i j place : ℕ) → SameBytes 64 b i c j → striped v b i place ≡ striped v c j place
unfolding striped
same_stripe v b c i j place same =
    let e : (k l : ℕ) → k < 8 → l < 8 → lane v b i place k l ≡ lane v c j place k l = λ k l own other. same_lane v b c i j place k l same own other in
    rw (
      e 0 1 (lit< tt) (lit< tt),
      e 1 0 (lit< tt) (lit< tt),
      e 2 3 (lit< tt) (lit< tt),
      e 3 2 (lit< tt) (lit< tt),
      e 4 5 (lit< tt) (lit< tt),
      e 5 4 (lit< tt) (lit< tt),
      e 6 7 (lit< tt) (lit< tt),
      e 7 6 (lit< tt) (lit< tt),
    ) refl

one_same : (v b c : List ℕ) (i j number : ℕ) → SameBytes 64 b i c j → stripe_taken v b i number ≡ stripe_taken v c j number
unfolding stripe_taken
one_same v b c i j number same = rw (same_stripe v b c i j (8 * number) same) refl

-- n stripes read their bytes alone, and of the first one's number what is left by 16
pub same_taken : (v b c : List ℕ) (i j x y n : ℕ) → SameBytes (64 * n) b i c j → x % 16 ≡ y % 16 → taken v b i x n ≡ taken v c j y n
unfolding taken
same_taken v b c i j x y zero same turn = refl
same_taken v b c i j x y (suc n) same turn =
    let number : (x + n) % 16 ≡ (y + n) % 16 = omega arith in
    let before : taken v b i x n ≡ taken v c j y n = same_taken v b c i j x y n (λ k below. same k (omega arith)) turn in
    rw (number, before) (one_same _ b c _ _ _ (same_within (64 * suc n) 64 (64 * n) b c i j same (omega arith)))

-- some stripes and then others
pub taken_on : (v b : List ℕ) (at number n k : ℕ) → taken v b at number (n + k) ≡ taken (taken v b at number n) b (at + 64 * n) (number + n) k
unfolding taken
taken_on v b at number n zero = rw add-zero refl
taken_on v b at number n (suc k) =
    let place : at + 64 * (n + k) ≡ at + 64 * n + 64 * k = omega arith in
    let turn : number + (n + k) ≡ number + n + k = omega arith in
    rw (add-suc n k, taken_on v b at number n k, place, turn) refl

-- bytes behind the stripes change no lane
pub taken_front : (v m x : List ℕ) (n : ℕ) → 64 * n ≤ length m → taken v (m ++ x) 0 0 n ≡ taken v m 0 0 n
taken_front v m x n within = same_taken v (m ++ x) m 0 0 0 0 n (same_front (64 * n) m x 0 (omega arith)) refl

-- the stripes of whole blocks, and of the one that was begun
in_block : (v b : List ℕ) (at number : ℕ) → (number ≡ 15 → ⊥) → stripe_taken v b at number ≡ striped v b at (8 * number)
unfolding stripe_taken
in_block v b at number inner = rw (ne_eqb number 15 inner) refl

at_end : (v b : List ℕ) (at number : ℕ) → number ≡ 15 → stripe_taken v b at number ≡ scrambled (striped v b at (8 * number))
unfolding stripe_taken
at_end v b at number end = rw (eq-eqb number 15 end) refl

none_taken : (b : List ℕ) → taken first_lanes b 0 0 0 ≡ stripes (blocks b (0 / 16)) b (1024 * (0 / 16)) (0 % 16)
unfolding taken stripes blocks
none_taken b = refl

next_taken : (b : List ℕ) (q r n : ℕ) → n ≡ 16 * q + r → r < 16 → taken first_lanes b 0 0 n ≡ stripes (blocks b q) b (1024 * q) r
    → taken first_lanes b 0 0 (n + 1) ≡ stripe_taken (stripes (blocks b q) b (1024 * q) r) b (1024 * q + 64 * r) r
next_taken b q r n e small before =
    let place : 0 + 64 * n ≡ 1024 * q + 64 * r = omega arith in
    let number : (0 + n) % 16 ≡ r = omega arith in
    rw (taken_more first_lanes b 0 0 n, before, place, number) refl

last_of_block : (b : List ℕ) (q n : ℕ) → n ≡ 16 * q + 15 → taken first_lanes b 0 0 n ≡ stripes (blocks b q) b (1024 * q) 15
    → taken first_lanes b 0 0 (n + 1) ≡ stripes (blocks b (q + 1)) b (1024 * (q + 1)) 0
unfolding stripes
last_of_block b q n e before =
    rw (next_taken b q 15 n e (lit< tt) before, at_end _ b (1024 * q + 64 * 15) 15 refl, blocks_more b q, stripes_more (blocks b q) b (1024 * q) 15) refl

pub taken_blocks : (b : List ℕ) (n : ℕ) → taken first_lanes b 0 0 n ≡ stripes (blocks b (n / 16)) b (1024 * (n / 16)) (n % 16)
taken_blocks b zero = none_taken b
taken_blocks b (suc n) =
    let q : ℕ = n / 16 in
    let r : ℕ = n % 16 in
    let parts : n ≡ 16 * q + r = omega arith in
    elim (cases_eq r 15) [
      | inl e ↦
          let over : (n + 1) / 16 ≡ q + 1 = omega arith in
          let none : (n + 1) % 16 ≡ 0 = omega arith in
          rw (← add-one n, over, none) (last_of_block b q n (omega arith) (rw e at (taken_blocks b n)))
      | inr e ↦
          let same : (n + 1) / 16 ≡ q = omega arith in
          let more : (n + 1) % 16 ≡ r + 1 = omega arith in
          rw (← add-one n, same, more, next_taken b q r n parts (omega arith) (taken_blocks b n), in_block _ b (1024 * q + 64 * r) r e, stripes_more (blocks b q) b (1024 * q) r) refl
    ]

-- all stripes that end before the last byte
pub all_taken : (b : List ℕ) → all_stripes b ≡ taken first_lanes b 0 0 ((length b - 1) / 64)
unfolding all_stripes
all_taken b =
    let q : (length b - 1) / 64 / 16 ≡ block_count b = omega arith in
    let r : (length b - 1) / 64 % 16 ≡ stripe_count b = omega arith in
    sym (taken_blocks b ((length b - 1) / 64) ∙ rw (q, r) refl)
