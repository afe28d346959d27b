-- XXH64 of a list that grows piece by piece.
use Rattle.tile_hash.proofs.Common.{add-zero, after_rest, ap, arith, avalanche, begun, Bool, drop, drop-append-le, drop_all, false, HasTaken, lanes_after, length, length-append, List, nat_eq, nat_lt}
use Rattle.tile_hash.proofs.Common.{nat_tests, put_mid, refl, subst, suc, sym, take, take-put_mid, true, word64, xxh64, zero, ℕ, [], ◌%◌, ◌&&◌, ◌*◌, ◌++◌, ◌+◌, ◌-◌, ◌/◌, ◌<◌, ◌^◌, ◌∙◌, ◌≡◌, ◌≤◌}
use Rattle.tile_hash.specs.Xxh64.{striped, first_lanes}
use Rattle.tile_hash.specs.declared.xxh_64.stream.Xxh64Stream.{Xxh64Stream}
use Rattle.tile_hash.proofs.ByteLemmas.{SameBytes, word_within, first_word, same_front, same_behind, same_end}
use Rattle.tile_hash.proofs.StepLemmas.{lanes_more}

-- a stripe reads its 32 bytes alone
pub same_stripe : (v b c : List ℕ) (i j : ℕ) → SameBytes 32 b i c j → striped v b i ≡ striped v c j
unfolding striped
same_stripe v b c i j same =
    let e0 : word64 b i ≡ word64 c j = first_word 32 b c i j same (omega arith) in
    let e1 : word64 b (i + 8) ≡ word64 c (j + 8) = word_within 32 8 b c i j same (omega arith) in
    let e2 : word64 b (i + 16) ≡ word64 c (j + 16) = word_within 32 16 b c i j same (omega arith) in
    let e3 : word64 b (i + 24) ≡ word64 c (j + 24) = word_within 32 24 b c i j same (omega arith) in
    rw (e0, e1, e2, e3) refl

-- bytes behind the stripes change no lane
pub lanes_front : (m x : List ℕ) (n : ℕ) → 32 * n ≤ length m → lanes_after (m ++ x) n ≡ lanes_after m n
unfolding lanes_after
lanes_front m x zero within = refl
lanes_front m x (suc n) within =
    rw (lanes_front m x n (omega arith)) (same_stripe (lanes_after m n) (m ++ x) m (32 * n) (32 * n) (same_front 32 m x (32 * n) (omega arith)))

pub taken_none : (s : Xxh64Stream) → s.lanes ≡ first_lanes → s.total ≡ 0 → s.is_short ≡ true → HasTaken s []
unfolding lanes_after
taken_none s lanes total short = record { total = total; short = short; lanes = lanes; rest = refl }

still_short : (n k : ℕ) → n % 32 + k < 32 → nat_lt n 32 ≡ nat_lt (n + k) 32
still_short n k fits = grind (arith, nat_tests)

now_long : (n k : ℕ) → n % 32 + k ≡ 32 → false ≡ nat_lt (n + k) 32
now_long n k full = grind (arith, nat_tests)

-- bytes that end no stripe
pub taken_kept : (s t : Xxh64Stream) (m x ys : List ℕ) (used k : ℕ) → HasTaken s m → length s.buffer ≡ 32 → used ≡ s.total % 32 → used + length x < 32 → ys ≡ x
    → t ≡ record { lanes = s.lanes; buffer = put_mid used k s.buffer ys; total = (s.total + length x) % 2 ^ 64; is_short = s.is_short } → HasTaken t (m ++ x)
taken_kept s t m x ys used k took room at fits same new =
    let n : ℕ = length m in
    let len : length (m ++ x) ≡ n + length x = length-append m x in
    let sum : s.total ≡ n % 2 ^ 64 = took.total in
    let here : used ≡ n % 32 = omega arith in
    let count : length (m ++ x) / 32 ≡ n / 32 = omega arith in
    let left : length (m ++ x) % 32 ≡ used + length x = omega arith in
    let placed : take (used + length x) (put_mid used k s.buffer ys) ≡ take used s.buffer ++ x =
    rw same (take-put_mid used k s.buffer x (used + length x) refl (omega arith)) in
    let sums : (s.total + length x) % 2 ^ 64 ≡ length (m ++ x) % 2 ^ 64 = omega arith in
    let short : s.is_short ≡ nat_lt (length (m ++ x)) 32 = took.short ∙ still_short n (length x) (omega arith) ∙ ap (λ (k : ℕ). nat_lt k 32) (sym len) in
    let lanes : s.lanes ≡ lanes_after (m ++ x) (length (m ++ x) / 32) = took.lanes ∙ rw count (sym (lanes_front m x (n / 32) (omega arith))) in
    let rest : take (length (m ++ x) % 32) (put_mid used k s.buffer ys) ≡ drop (32 * (length (m ++ x) / 32)) (m ++ x) =
    rw (left, count, placed, here, took.rest) (sym (drop-append-le (32 * (n / 32)) m x (omega arith))) in
    subst (λ (u : Xxh64Stream). HasTaken u (m ++ x)) (sym new) record { total = sums; short = short; lanes = lanes; rest = rest }

-- bytes that end the stripe of those that are kept
pub taken_filled : (s t : Xxh64Stream) (m x ys : List ℕ) (used : ℕ) → HasTaken s m → length s.buffer ≡ 32 → used ≡ s.total % 32 → used + length x ≡ 32 → ys ≡ x
    → t ≡ record { lanes = striped s.lanes (put_mid used (32 - used) s.buffer ys) 0; buffer = put_mid used (32 - used) s.buffer ys; total = (s.total + length x) % 2 ^ 64; is_short = false }
    → HasTaken t (m ++ x)
taken_filled s t m x ys used took room at full same new =
    let n : ℕ = length m in
    let q : ℕ = length m / 32 in
    let b : List ℕ = put_mid used (32 - used) s.buffer ys in
    let len : length (m ++ x) ≡ n + length x = length-append m x in
    let sum : s.total ≡ n % 2 ^ 64 = took.total in
    let here : used ≡ n % 32 = omega arith in
    let count : length (m ++ x) / 32 ≡ q + 1 = omega arith in
    let left : length (m ++ x) % 32 ≡ 0 = omega arith in
    let placed : take 32 b ≡ take used s.buffer ++ x =
    rw same (take-put_mid used (32 - used) s.buffer x 32 (omega arith) (omega arith)) in
    let end : take 32 b ≡ drop (32 * q) (m ++ x) = rw (placed, here, took.rest) (sym (drop-append-le (32 * q) m x (omega arith))) in
    let bytes : SameBytes 32 b 0 (m ++ x) (32 * q) = rw add-zero at (same_end 32 32 (32 * q) b (m ++ x) 0 end (omega arith)) in
    let lanes : striped s.lanes b 0 ≡ lanes_after (m ++ x) (length (m ++ x) / 32) =
    rw (count, lanes_more (m ++ x) q, lanes_front m x q (omega arith), took.lanes) (same_stripe (lanes_after m q) b (m ++ x) 0 (32 * q) bytes) in
    let sums : (s.total + length x) % 2 ^ 64 ≡ length (m ++ x) % 2 ^ 64 = omega arith in
    let rest : take (length (m ++ x) % 32) b ≡ drop (32 * (length (m ++ x) / 32)) (m ++ x) =
    rw (left, count) (sym (drop_all (32 * (q + 1)) (m ++ x) (omega arith))) in
    subst (λ (u : Xxh64Stream). HasTaken u (m ++ x)) (sym new)
    record { total = sums; short = now_long n (length x) (omega arith) ∙ ap (λ (k : ℕ). nat_lt k 32) (sym len); lanes = lanes; rest = rest }

-- the lanes along whole stripes behind others
pub lanes_begin : (s : Xxh64Stream) (m x : List ℕ) → HasTaken s m → length m % 32 ≡ 0 → s.lanes ≡ lanes_after (m ++ x) (length m / 32 + 0)
lanes_begin s m x took whole = took.lanes ∙ rw add-zero (sym (lanes_front m x (length m / 32) (omega arith)))

pub lanes_behind : (v : List ℕ) (m x : List ℕ) (i : ℕ) → length m % 32 ≡ 0 → v ≡ lanes_after (m ++ x) (length m / 32 + i)
    → striped v x (32 * i) ≡ lanes_after (m ++ x) (length m / 32 + (i + 1))
lanes_behind v m x i whole e =
    let next : length m / 32 + (i + 1) ≡ length m / 32 + i + 1 = omega arith in
    let at : 32 * (length m / 32 + i) ≡ length m + 32 * i = omega arith in
    rw (next, lanes_more (m ++ x) (length m / 32 + i), at, ← e)
    (sym (same_stripe v (m ++ x) x (length m + 32 * i) (32 * i) (same_behind 32 m x (32 * i))))

short_or_none : (n k : ℕ) → n % 32 ≡ 0 → k % 32 ≡ 0 → (nat_lt n 32 && nat_eq k 0) ≡ nat_lt (n + k) 32
short_or_none n k a b = grind (arith, nat_tests)

pub taken_whole : (s t : Xxh64Stream) (m x v : List ℕ) → HasTaken s m → length m % 32 ≡ 0 → length x % 32 ≡ 0 → v ≡ lanes_after (m ++ x) (length m / 32 + length x / 32)
    → t ≡ record { lanes = v; buffer = s.buffer; total = (s.total + length x) % 2 ^ 64; is_short = s.is_short && nat_eq (length x) 0 } → HasTaken t (m ++ x)
taken_whole s t m x v took whole even lanes new =
    let n : ℕ = length m in
    let len : length (m ++ x) ≡ n + length x = length-append m x in
    let sum : s.total ≡ n % 2 ^ 64 = took.total in
    let count : length (m ++ x) / 32 ≡ n / 32 + length x / 32 = omega arith in
    let left : length (m ++ x) % 32 ≡ 0 = omega arith in
    let sums : (s.total + length x) % 2 ^ 64 ≡ length (m ++ x) % 2 ^ 64 = omega arith in
    let short : (s.is_short && nat_eq (length x) 0) ≡ nat_lt (length (m ++ x)) 32 = rw (took.short, len) (short_or_none n (length x) whole even) in
    let rest : take (length (m ++ x) % 32) s.buffer ≡ drop (32 * (length (m ++ x) / 32)) (m ++ x) =
    rw left (sym (drop_all (32 * (length (m ++ x) / 32)) (m ++ x) (omega arith))) in
    subst (λ (u : Xxh64Stream). HasTaken u (m ++ x)) (sym new) record { total = sums; short = short; lanes = lanes ∙ rw count refl; rest = rest }

-- the number of bytes counts modulo 2 ^ 64 alone
begun_wrapped : (v : List ℕ) (short : Bool) (n : ℕ) → begun v short (n % 2 ^ 64) ≡ begun v short n
unfolding begun
begun_wrapped v short n = omega arith

pub taken_hash : (s : Xxh64Stream) (m : List ℕ) (used : ℕ) → HasTaken s m → used ≡ s.total % 32 → avalanche (after_rest (begun s.lanes s.is_short s.total) (take used s.buffer)) ≡ xxh64 m
unfolding xxh64
taken_hash s m used took at =
    let sum : s.total ≡ length m % 2 ^ 64 = took.total in
    let here : used ≡ length m % 32 = omega arith in
    rw (here, took.rest, took.lanes, took.short, sum, begun_wrapped) refl
