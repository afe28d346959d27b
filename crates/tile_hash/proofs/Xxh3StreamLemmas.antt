-- XXH3 of a list that grows piece by piece.
use Rattle.tile_hash.proofs.Common.{add-zero, all_lanes, all_stripes, ap, append-nil, append_assoc, arith, cases_eq, drop, drop-append-le, drop-drop, first_lanes, inl, inr, lanes_merged, length}
use Rattle.tile_hash.proofs.Common.{length-append, length-drop, length-take-le, List, lt-leb, mul64, of_long, prime64_1, put_mid, refl, striped, sym, take, take-append-drop, take-put_mid, take_all}
use Rattle.tile_hash.proofs.Common.{take_at, take_rest, taken, xxh3_64, zero-add, ℕ, [], ◌%◌, ◌*◌, ◌++◌, ◌+◌, ◌-◌, ◌/◌, ◌<◌, ◌^◌, ◌∙◌, ◌≡◌, ◌≢◌, ◌≤◌}
use Rattle.tile_hash.specs.Xxh3Stream.{HasTaken}
use Rattle.tile_hash.specs.declared.xxh3.stream.Xxh3Stream.{Xxh3Stream}
use Rattle.tile_hash.proofs.ByteLemmas.{SameBytes, same_end, same_front, same_behind}
use Rattle.tile_hash.proofs.TakenLemmas.{same_taken, taken_on, taken_front, all_taken, same_stripe}

none_yet : taken first_lanes [] 0 0 0 ≡ first_lanes
unfolding taken
none_yet = refl

pub taken_none : (s : Xxh3Stream) → s.lanes ≡ first_lanes → s.stripe ≡ 0 → s.used ≡ 0 → s.done ≡ 0 → s.total ≡ 0 → HasTaken s []
taken_none s lanes stripe used done total = record {
  total = total;
  within = omega arith;
  kept = rw used refl;
  count = 0;
  stripe = stripe;
  lanes = lanes ∙ sym none_yet;
  place = omega arith;
  whole = λ _. used;
  stripes = omega arith;
  long = λ some. absurd (some done);
}

done_used : (done used : ℕ) → (done ≢ 0 → 64 < used) → done ≤ 64 → done ≤ used
done_used done used behind short = elim (cases_eq done 0) [ inl e ↦ omega arith | inr e ↦ omega (arith, behind e) ]

-- bytes for which there is room
pub taken_kept : (s t : Xxh3Stream) (m x ys : List ℕ) (k : ℕ) → HasTaken s m → length s.buffer ≡ 256 → (s.done ≢ 0 → 64 < s.used) → s.done ≤ 64 → s.used + length x ≤ 256 → ys ≡ x
    → t.lanes ≡ s.lanes → t.stripe ≡ s.stripe → t.buffer ≡ put_mid s.used k s.buffer ys → t.used ≡ s.used + length x → t.done ≡ s.done → t.total ≡ (s.total + length x) % 2 ^ 64
    → HasTaken t (m ++ x)
taken_kept s t m x ys k took room behind_done stripe_long fits same lanes stripe buffer used done total =
    let n : ℕ = length m in
    let len : length (m ++ x) ≡ n + length x = length-append m x in
    let sum : s.total ≡ n % 2 ^ 64 = took.total in
    let behind : length (m ++ x) - t.used ≡ n - s.used = omega (arith, took.within) in
    let placed : take t.used t.buffer ≡ take s.used s.buffer ++ x = rw (used, buffer, same) (take-put_mid s.used k s.buffer x (s.used + length x) refl (omega arith)) in
    let fewer : s.done ≤ s.used = done_used s.done s.used behind_done stripe_long in
    record {
      total = omega arith;
      within = omega (arith, took.within);
      kept = rw (placed, behind, took.kept) (sym (drop-append-le (n - s.used) m x (omega arith)));
      count = took.count;
      stripe = stripe ∙ took.stripe;
      lanes = lanes ∙ took.lanes ∙ sym (taken_front first_lanes m x took.count (omega (arith, took.place)));
      place = omega (arith, took.place);
      whole = λ none. omega (arith, took.whole (sym done ∙ none));
      stripes = omega (arith, took.stripes);
      long = λ some. omega (arith, took.long (λ none. some (done ∙ none)));
    }

-- the last stripe and the bytes behind it are the end of all
pub kept_joined : (buffer more last z rest : List ℕ) (count n k : ℕ) → length buffer ≡ 256 → 64 * count ≤ length more → length last ≡ 64
    → last ≡ drop (192 + length (take (64 * count) more)) (buffer ++ take (64 * count) more) → rest ≡ take (length more - 64 * count) (drop (64 * count) more)
    → n ≡ 64 + length more - 64 * count → take n (put_mid 64 k (last ++ z) rest) ≡ drop (192 + 64 * count) (buffer ++ more)
kept_joined buffer more last z rest count n k room within stripe front back e =
    let a : List ℕ = take (64 * count) more in
    let b : List ℕ = drop (64 * count) more in
    let front_len : length a ≡ 64 * count = length-take-le (64 * count) more within in
    let rest_is : rest ≡ b = back ∙ take_rest more (64 * count) in
    let rest_len : n ≡ 64 + length b = omega (arith, length-drop (64 * count) more) in
    let placed : take n (put_mid 64 k (last ++ z) b) ≡ take 64 (last ++ z) ++ b =
    take-put_mid 64 k (last ++ z) b n rest_len (omega (arith, length-append last z)) in
    let whole : (buffer ++ a) ++ b ≡ buffer ++ more = append_assoc buffer a b ∙ ap (λ (x : List ℕ). buffer ++ x) (take-append-drop (64 * count) more) in
    let cut : 192 + 64 * count ≤ length (buffer ++ a) = omega (arith, length-append buffer a) in
    rw (rest_is, placed, take_at last z 64 stripe, front, front_len, ← whole) (sym (drop-append-le (192 + 64 * count) (buffer ++ a) b cut))

-- the stripes that are kept, and those of the bytes behind them
kept_taken : (s : Xxh3Stream) (m x : List ℕ) (took : HasTaken s m) (at number n : ℕ) → s.used ≤ 256 → s.done ≤ s.used → at ≡ s.done → at + 64 * n ≤ s.used → number ≡ s.stripe
    → taken s.lanes s.buffer at number n ≡ taken first_lanes (m ++ x) 0 0 (took.count + n)
kept_taken s m x took at number n room done place within same =
    let c : ℕ = took.count in
    let from : ℕ = length m - s.used in
    let start : from + at ≡ 64 * c = omega (arith, took.place, took.within) in
    let kept : SameBytes (64 * n) s.buffer at m (64 * c) = rw start at (same_end (64 * n) s.used from s.buffer m at took.kept within) in
    let inside : 64 * c + 64 * n ≤ length m = omega (arith, took.place, took.within) in
    let bytes : SameBytes (64 * n) s.buffer at (m ++ x) (64 * c) = λ k below. kept k below ∙ sym (same_front (64 * n) m x (64 * c) inside k below) in
    let turn : number % 16 ≡ c % 16 = omega (arith, took.stripe) in
    let before : s.lanes ≡ taken first_lanes (m ++ x) 0 0 c = took.lanes ∙ sym (taken_front first_lanes m x c (omega arith)) in
    let joined : taken first_lanes (m ++ x) 0 0 (c + n) ≡ taken (taken first_lanes (m ++ x) 0 0 c) (m ++ x) (0 + 64 * c) (0 + c) n = taken_on first_lanes (m ++ x) 0 0 c n in
    rw (joined, ← before, zero-add (64 * c), zero-add c) (same_taken s.lanes s.buffer (m ++ x) at (64 * c) number c n bytes turn)

end_kept : (b m x : List ℕ) (k : ℕ) → length b ≡ 256 → 256 ≤ length m → take 256 b ≡ drop (length m - 256) m → drop k (b ++ x) ≡ drop (length m - 256 + k) (m ++ x)
end_kept b m x k room many held =
    let whole : b ≡ drop (length m - 256) m = sym (take_all 256 b (omega arith)) ∙ held in
    rw (whole, ← drop-append-le (length m - 256) m x (omega arith)) (drop-drop k (length m - 256) (m ++ x))

-- all stripes that end before the last of the bytes behind
pub taken_behind : (s t : Xxh3Stream) (m x lanes : List ℕ) (within count : ℕ) → HasTaken s m → s.used ≡ 256 → s.done ≤ 64 → within ≡ (256 - s.done) / 64 → count ≡ (length x - 1) / 64 → 0 < length x
    → lanes ≡ taken s.lanes s.buffer s.done s.stripe within → t.lanes ≡ taken lanes x 0 (s.stripe + within) count → t.stripe ≡ (s.stripe + within + count) % 16
    → length s.buffer ≡ 256 → t.used ≡ 64 + length x - 64 * count → t.done ≡ 64 → t.total ≡ (s.total + length x) % 2 ^ 64
    → take (64 + length x - 64 * count) t.buffer ≡ drop (192 + 64 * count) (s.buffer ++ x) → HasTaken t (m ++ x)
taken_behind s t m x lanes within count took full short w n some first next stripe room used done total kept =
    let len : length (m ++ x) ≡ length m + length x = length-append m x in
    let even : s.done % 64 ≡ 0 = took.stripes in
    let inner : s.done + 64 * within ≡ 256 = omega arith in
    let outer : 64 * count < length x = omega arith in
    let place : 64 * took.count + s.used ≡ length m + s.done = took.place in
    let before : lanes ≡ taken first_lanes (m ++ x) 0 0 (took.count + within) =
    first ∙ kept_taken s m x took s.done s.stripe within (omega arith) (omega arith) refl (omega arith) refl in
    let edge : 64 * (took.count + within) ≡ length m = omega arith in
    let bytes : SameBytes (64 * count) x 0 (m ++ x) (64 * (took.count + within)) =
    λ k below. rw edge (sym (rw add-zero at (same_behind (64 * count) m x 0 k below))) in
    let turn : (s.stripe + within) % 16 ≡ (took.count + within) % 16 = omega (arith, took.stripe) in
    let joined = taken_on first_lanes (m ++ x) 0 0 (took.count + within) count in
    let all : t.lanes ≡ taken first_lanes (m ++ x) 0 0 (took.count + within + count) =
    next ∙ rw (joined, ← before, zero-add (64 * (took.count + within)), zero-add (took.count + within)) (same_taken lanes x (m ++ x) 0 (64 * (took.count + within)) (s.stripe + within) (took.count + within) count bytes turn) in
    let held : take 256 s.buffer ≡ drop (length m - 256) m = rw full at took.kept in
    let many : 256 ≤ length m = omega (arith, took.within) in
    let end : length (m ++ x) - (64 + length x - 64 * count) ≡ length m - 256 + (192 + 64 * count) = omega arith in
    record {
      total = omega (arith, took.total);
      within = omega (arith, took.within);
      kept = rw (used, end) (kept ∙ end_kept s.buffer m x (192 + 64 * count) room many held);
      count = took.count + within + count;
      stripe = stripe ∙ omega (arith, took.stripe);
      lanes = all;
      place = omega arith;
      whole = λ none. absurd (omega arith);
      stripes = omega arith;
      long = λ _. omega (arith, took.within);
    }

-- the number of bytes counts modulo 2 ^ 64 alone
product_wrapped : (n : ℕ) → mul64 (n % 2 ^ 64) prime64_1 ≡ mul64 n prime64_1
product_wrapped n = omega arith

of_more : (m : List ℕ) → 240 < length m → xxh3_64 m ≡ lanes_merged (striped (all_stripes m) m (length m - 64) 121) (mul64 (length m) prime64_1)
unfolding xxh3_64 of_long all_lanes
of_more m more = rw (lt-leb (length m) 16 (omega arith), lt-leb (length m) 128 (omega arith), lt-leb (length m) 240 (omega arith)) refl

-- the hash of what was taken and what is kept
pub taken_hash : (s : Xxh3Stream) (m lanes : List ℕ) (count : ℕ) → HasTaken s m → s.done ≢ 0 → s.done ≤ 64 → 64 < s.used → s.used ≤ 256 → count ≡ (s.used - 65) / 64
    → lanes ≡ taken s.lanes s.buffer 64 s.stripe count → lanes_merged (striped lanes s.buffer (s.used - 64) 121) (mul64 s.total prime64_1) ≡ xxh3_64 m
taken_hash s m lanes count took some short behind room n run =
    let done : s.done ≡ 64 = omega (arith, took.stripes, some) in
    let all : (length m - 1) / 64 ≡ took.count + count = omega (arith, took.place, took.within) in
    let along : lanes ≡ all_stripes m =
    run ∙ kept_taken s m [] took 64 s.stripe count room (omega arith) (sym done) (omega arith) refl ∙ rw (append-nil, ← all) (sym (all_taken m)) in
    let end : length m - s.used + (s.used - 64) ≡ length m - 64 = omega (arith, took.within) in
    let bytes : SameBytes 64 s.buffer (s.used - 64) m (length m - 64) = rw end at (same_end 64 s.used (length m - s.used) s.buffer m (s.used - 64) took.kept (omega arith)) in
    rw (along, same_stripe (all_stripes m) s.buffer m (s.used - 64) (length m - 64) 121 bytes, took.total, product_wrapped (length m)) (sym (of_more m (took.long some)))
