-- Decimal numbers, a digit at a time.
use Rattle.line_words.proofs.Common.{ap, arith, at_most, Bool, digits_behind, drop, false, get_or, if◌then◌else◌, length, List, nat_le, nat_tests, None, Option, option_and_then, refl, Some, suc, sym}
use Rattle.line_words.proofs.Common.{true, ℕ, [], ◌*◌, ◌+◌, ◌-◌, ◌<◌, ◌∙◌, ◌∷◌, ◌≡◌}
use Rattle.std.proofs.Math.Seq.{drop-cons}
use Rattle.std.specs.Char.{is_ascii_digit}

-- digits behind a number above a limit
past : (limit n : ℕ) (word : List ℕ) → limit < n → option_and_then (at_most limit) (digits_behind n word) ≡ None
past limit n [] h = let test : nat_le n limit ≡ false = grind (arith, nat_tests) in rw test refl
past limit n (b ∷ word) h = cased (is_ascii_digit b) (past limit (n * 10 + (b - 48)) word (omega arith))
  where
    cased : (t : Bool) → option_and_then (at_most limit) (digits_behind (n * 10 + (b - 48)) word) ≡ None → option_and_then (at_most limit) (if t then digits_behind (n * 10 + (b - 48)) word else None) ≡ None
    cased true g = g
    cased false g = refl

digit : (limit n b : ℕ) (word : List ℕ) (m : Option ℕ) → option_and_then (at_most limit) (digits_behind n (b ∷ [])) ≡ m
    → option_and_then (at_most limit) (digits_behind n (b ∷ word)) ≡ option_and_then (λ k. option_and_then (at_most limit) (digits_behind k word)) m
digit limit n b word m h = cased (is_ascii_digit b) (nat_le (n * 10 + (b - 48)) limit) refl h
  where
    cased : (t u : Bool) → nat_le (n * 10 + (b - 48)) limit ≡ u → option_and_then (at_most limit) (if t then Some (n * 10 + (b - 48)) else None) ≡ m
        → option_and_then (at_most limit) (if t then digits_behind (n * 10 + (b - 48)) word else None) ≡ option_and_then (λ k. option_and_then (at_most limit) (digits_behind k word)) m
    cased false u e f = ap (option_and_then (λ k. option_and_then (at_most limit) (digits_behind k word))) f
    cased true true e f = let s : Some (n * 10 + (b - 48)) ≡ m = rw e at f in ap (option_and_then (λ k. option_and_then (at_most limit) (digits_behind k word))) s
    cased true false e f = let s : None ≡ m = rw e at f in past limit (n * 10 + (b - 48)) word (grind (arith, nat_tests)) ∙ ap (option_and_then (λ k. option_and_then (at_most limit) (digits_behind k word))) s

pub digit_refused : (limit n i : ℕ) (word : List ℕ) (whole : Option ℕ) → i < length word → option_and_then (at_most limit) (digits_behind n (get_or word i 0 ∷ [])) ≡ None
    → option_and_then (at_most limit) (digits_behind n (drop i word)) ≡ whole → whole ≡ None
digit_refused limit n i word whole l h w =
    sym w ∙ (ap (λ ds. option_and_then (at_most limit) (digits_behind n ds)) (drop-cons word i 0 l) ∙ digit limit n (get_or word i 0) (drop (suc i) word) None h)
