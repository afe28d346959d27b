-- What is known while tiles are counted.
use Rattle.tile_bridge.proofs.Common.{ap, arith, Bool, bytes_at, bytes_of, drop, drop_all, drop_more, entries, false, get_or_from_slice_get, len, len-entries, length, List, list_any, nat_le}
use Rattle.tile_bridge.proofs.Common.{nat_tests, Option, option_map, overflows, Place, refl, slice_get, Some, sum_by, sum_by-cons, sym, TileSet, true, unwrap_or, ℕ, [], ◌+◌, ◌<◌, ◌^◌, ◌||◌, ◌∙◌, ◌∷◌}
use Rattle.tile_bridge.proofs.Common.{◌≡◌, ◌≤◌}
use Rattle.tile_bridge.proofs.AddLemmas.{Pairs}
use Rattle.tile_bridge.proofs.FillingLemmas.{below_len, there_is}

abbrev pub long_from : Pairs → Bool
long_from es = list_any (λ e. nat_le (2 ^ 32) (length (bytes_of e.1))) es

abbrev pub total_from : Pairs → ℕ
total_from es = sum_by (λ e. length (bytes_of e.1)) es

or_true : (a b : Bool) → b ≡ true → a || b ≡ true
or_true true b h = refl
or_true false b h = h

-- from a number on tiles are left, and the others are short and have so many bytes
pub record IsCounted (tiles : TileSet) (n total : ℕ) : Type 0 where
  pub long : long_from (drop n (entries tiles)) ≡ long_from (entries tiles)
  pub sum : total + total_from (drop n (entries tiles)) ≡ total_from (entries tiles)
  pub low : total < 2 ^ 60

module _ (tiles : TileSet) (n total : ℕ) (bytes : List ℕ) (low : n < len tiles) (is : bytes ≡ bytes_at tiles n) (so : IsCounted tiles n total) where
  entry : (e : Place × Option (List ℕ)) × (slice_get (entries tiles) n ≡ Some e)
  entry = there_is (entries tiles) n (below_len tiles n low)

  has : bytes ≡ bytes_of entry.0.1
  has = is ∙ ap (λ o. unwrap_or (option_map (λ e. bytes_of e.1) o) []) entry.1

  rest : drop n (entries tiles) ≡ entry.0 ∷ drop (n + 1) (entries tiles)
  rest = drop_more (entries tiles) n entry.0 (below_len tiles n low) ∙ ap (λ e. e ∷ drop (n + 1) (entries tiles)) (get_or_from_slice_get (entries tiles) n entry.0 entry.0 entry.1)

  long_rest : long_from (entries tiles) ≡ (nat_le (2 ^ 32) (length bytes) || long_from (drop (n + 1) (entries tiles)))
  long_rest = sym so.long ∙ ap long_from rest ∙ ap (λ b. nat_le (2 ^ 32) (length b) || long_from (drop (n + 1) (entries tiles))) (sym has)

  total_rest : total + length bytes + total_from (drop (n + 1) (entries tiles)) ≡ total_from (entries tiles)
  total_rest =
      let split : total_from (drop n (entries tiles)) ≡ length (bytes_of entry.0.1) + total_from (drop (n + 1) (entries tiles)) = ap total_from rest ∙ sum_by-cons (λ e. length (bytes_of e.1)) entry.0 (drop (n + 1) (entries tiles)) in
      omega (arith, so.sum, split, ap length has)

  pub is_long : 2 ^ 32 ≤ length bytes → overflows tiles ≡ true
  is_long h = ap (λ b. b || (nat_le (2 ^ 32) (length (entries tiles)) || nat_le (2 ^ 60) (total_from (entries tiles)))) (long_rest ∙ ap (λ b. b || long_from (drop (n + 1) (entries tiles))) (at_least h))
    where
      at_least : 2 ^ 32 ≤ length bytes → nat_le (2 ^ 32) (length bytes) ≡ true
      at_least h = grind (arith, nat_tests)

  pub is_much : 2 ^ 60 ≤ total + length bytes → overflows tiles ≡ true
  is_much h = or_true (long_from (entries tiles)) _ (or_true (nat_le (2 ^ 32) (length (entries tiles))) _ (at_least (omega (arith, h, total_rest))))
    where
      at_least : 2 ^ 60 ≤ total_from (entries tiles) → nat_le (2 ^ 60) (total_from (entries tiles)) ≡ true
      at_least h = grind (arith, nat_tests)

  pub counted_more : length bytes < 2 ^ 32 → total + length bytes < 2 ^ 60 → IsCounted tiles (n + 1) (total + length bytes)
  counted_more short low = record {
    long = sym (long_rest ∙ ap (λ b. b || long_from (drop (n + 1) (entries tiles))) (below short));
    sum = total_rest;
    low = low;
  }
    where
      below : length bytes < 2 ^ 32 → nat_le (2 ^ 32) (length bytes) ≡ false
      below h = grind (arith, nat_tests)

pub many : (tiles : TileSet) → 2 ^ 32 ≤ len tiles → overflows tiles ≡ true
many tiles h = or_true (long_from (entries tiles)) _ (ap (λ b. b || nat_le (2 ^ 60) (total_from (entries tiles))) (at_least (omega (arith, h, len-entries tiles))))
  where
    at_least : 2 ^ 32 ≤ length (entries tiles) → nat_le (2 ^ 32) (length (entries tiles)) ≡ true
    at_least h = grind (arith, nat_tests)

pub all_counted : (tiles : TileSet) (n total : ℕ) → len tiles < 2 ^ 32 → len tiles ≤ n → IsCounted tiles n total → overflows tiles ≡ false
all_counted tiles n total few far so =
    let none : drop n (entries tiles) ≡ [] = drop_all n (entries tiles) (omega (arith, far, len-entries tiles)) in
    let long : long_from (entries tiles) ≡ false = sym so.long ∙ ap long_from none in
    let sum : total ≡ total_from (entries tiles) = omega (arith, so.sum, ap total_from none) in
    λ i. long i || (fewer (omega (arith, few, len-entries tiles)) i || less (omega (arith, sum, so.low)) i)
  where
    fewer : length (entries tiles) < 2 ^ 32 → nat_le (2 ^ 32) (length (entries tiles)) ≡ false
    fewer h = grind (arith, nat_tests)

    less : total_from (entries tiles) < 2 ^ 60 → nat_le (2 ^ 60) (total_from (entries tiles)) ≡ false
    less h = grind (arith, nat_tests)
