-- What is known while marks are counted.
use Rattle.tile_streaming.proofs.Common.{ap, AreMarksOf, arith, Bool, bytes_of, entries, false, is_too_long, length, length-map, length_permutation, List, list_any, list_any-IsPermutation, map, Mark, mark_of, nat_le, nat_tests, Option, overflow_of, overflows}
use Rattle.tile_streaming.proofs.Common.{Place, refl, sum_by, sum_by-cons, sum_by-IsPermutation, sym, take, TileSet, true, ℕ, [], ◌%◌, ◌+◌, ◌<◌, ◌^◌, ◌||◌, ◌∙◌, ◌∷◌, ◌≡◌}
use Rattle.tile_streaming.proofs.ReadLemmas.{or_parts}

abbrev size_of : Mark → ℕ
size_of m = m.length

-- the first n marks are short, and are of so many bytes
pub record AreCounted (marks : List Mark) (n total : ℕ) : Type 0 where
  pub short : list_any is_too_long (take n marks) ≡ false
  pub sum : total ≡ sum_by size_of (take n marks)
  pub low : total < 2 ^ 60

abbrev bytes_in : Place × Option (List ℕ) → ℕ
bytes_in e = length (bytes_of e.1)

abbrev long_in : Place × Option (List ℕ) → Bool
long_in e = nat_le (2 ^ 32) (bytes_in e)

-- a number below the limit is what is held of it
pub small_is : (n : ℕ) → nat_le (2 ^ 32) n ≡ false → n % 2 ^ 32 ≡ n
small_is n h = let low : n < 2 ^ 32 = grind (arith, nat_tests) in omega (arith, low)

low_held : (n : ℕ) → nat_le (2 ^ 32) (n % 2 ^ 32) ≡ false
low_held n = let low : n % 2 ^ 32 < 2 ^ 32 = omega arith in grind (arith, nat_tests)

-- a tile is too long exactly where its mark says so
held_long : (n : ℕ) → (nat_le (2 ^ 32) n || nat_le (2 ^ 32) (n % 2 ^ 32)) ≡ nat_le (2 ^ 32) n
held_long n = by (nat_le (2 ^ 32) n) (nat_le (2 ^ 32) (n % 2 ^ 32)) (low_held n)
  where
    by : (a b : Bool) → b ≡ false → (a || b) ≡ a
    by true b h = refl
    by false b h = h

-- marks overflow where their tiles do
any_mapped : (es : List (Place × Option (List ℕ))) → list_any is_too_long (map mark_of es) ≡ list_any long_in es
any_mapped [] = refl
any_mapped (e ∷ es) = λ i. held_long (bytes_in e) i || any_mapped es i

sum_mapped : (es : List (Place × Option (List ℕ))) → list_any long_in es ≡ false → sum_by size_of (map mark_of es) ≡ sum_by bytes_in es
sum_mapped [] none = refl
sum_mapped (e ∷ es) none =
    let parts = or_parts (long_in e) (list_any long_in es) none in
    let rest = sum_mapped es parts.1 in
    sum_by-cons size_of (mark_of e) (map mark_of es)
    ∙ ((λ i. small_is (bytes_in e) parts.0 i + rest i)
    ∙ sym (sum_by-cons bytes_in e es))

pub overflow_same : (tiles : TileSet) (marks : List Mark) → AreMarksOf tiles marks → overflow_of marks ≡ overflows tiles
overflow_same tiles marks are =
    let es = entries tiles in
    let long : list_any is_too_long marks ≡ list_any long_in es = sym (list_any-IsPermutation is_too_long (map mark_of es) marks are.same) ∙ any_mapped es in
    let count : length marks ≡ length es = length_permutation (map mark_of es) marks are.same ∙ length-map es mark_of in
    (λ i. long i || (nat_le (2 ^ 32) (count i) || nat_le (2 ^ 60) (sum_by size_of marks)))
    ∙ by (list_any long_in es) refl
  where
    by : (a : Bool) → list_any long_in (entries tiles) ≡ a → (a || (nat_le (2 ^ 32) (length (entries tiles)) || nat_le (2 ^ 60) (sum_by size_of marks))) ≡ (a || (nat_le (2 ^ 32) (length (entries tiles)) || nat_le (2 ^ 60) (sum_by bytes_in (entries tiles))))
    by true h = refl
    by false h = ap (λ n. nat_le (2 ^ 32) (length (entries tiles)) || nat_le (2 ^ 60) n) (sum_by-IsPermutation size_of (map mark_of (entries tiles)) marks are.same ∙ sum_mapped (entries tiles) h)
