-- The values of digits, and the bytes of pairs of them.
use Rattle.std.specs.Prelude.{◌≡◌, ℕ, ◌+◌, ◌*◌, ◌/◌, ◌%◌, ◌^◌, List, [], ◌∷◌, bit_and, true, unwrap_or}
use Rattle.hex_pairs.specs.Common.{hex_digit_value, is_hex_digit}

-- the value of a digit of either case
abbrev pub digit_value : ℕ → ℕ
digit_value d = unwrap_or (hex_digit_value d) 0

-- all are digits
abbrev pub AreDigits : List ℕ → Type 0
AreDigits [] = Unit {0}
AreDigits (d ∷ digits) = (is_hex_digit d ≡ true) × AreDigits digits

-- the bytes of digits, two for each
abbrev pub paired : List ℕ → List ℕ
paired [] = []
paired (d ∷ []) = []
paired (high ∷ low ∷ digits) = (digit_value high * 16 + digit_value low) ∷ paired digits

-- the lower four bits of a byte, and nine times its upper two
abbrev pub lane_value : ℕ → ℕ
lane_value d = (bit_and d 15 + (d / 2 ^ 6 + d / 2 ^ 6 * 2 ^ 3 % 2 ^ 8) % 2 ^ 8) % 2 ^ 8
