-- What the tables hold.
use Rattle.std.specs.Prelude.{ℕ, ◌*◌, Option, Some, None}
use Rattle.hex_pairs.specs.Common.{hex_digit_value}

-- what a value counts for in its place, or a number that no byte reaches
abbrev pub in_place : ℕ → Option ℕ → ℕ
in_place weight (Some v) = weight * v
in_place weight None = 256

abbrev pub high_of : ℕ → ℕ
high_of c = in_place 16 (hex_digit_value c)

abbrev pub low_of : ℕ → ℕ
low_of c = in_place 1 (hex_digit_value c)
