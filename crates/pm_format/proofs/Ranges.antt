-- Ranges of bytes that lie one behind another.
use Rattle.pm_format.proofs.Common.{ap, arith, drop, drop_at, length, length-append, List, nat_le, nat_lt, nat_tests, range_of, refl, Some, take, take_at, true, ℕ, ◌++◌, ◌+◌, ◌<◌, ◌^◌, ◌∙◌, ◌≡◌}

-- a piece between two others is the range of its place and length
pub range_at : (b before x behind : List ℕ) → b ≡ before ++ (x ++ behind) → length b < 2 ^ 64 → range_of b (length before) (length x) ≡ Some x
range_at b before x behind e fits =
    let size : length b ≡ length before + (length x + length behind) = ap length e ∙ (length-append before (x ++ behind) ∙ ap (λ n. length before + n) (length-append x behind)) in
    let within : nat_le (length before + length x) (length b) ≡ true = grind (arith, nat_tests) in
    let low : nat_lt (length before + length x) (2 ^ 64) ≡ true = grind (arith, nat_tests) in
    let piece : take (length x) (drop (length before) b) ≡ x = ap (λ z. take (length x) (drop (length before) z)) e ∙ (ap (take (length x)) (drop_at before (x ++ behind) (length before) refl) ∙ take_at x behind (length x) refl) in
    rw (within, low, piece) refl
