-- The two digits of a byte.
use Rattle.std.specs.Prelude.{ℕ, ◌/◌, ◌%◌, slice_index}
use Rattle.hex_pairs.specs.Common.{lower_digits}

abbrev pub high_digit : ℕ → ℕ
high_digit b = slice_index lower_digits (b / 16)

abbrev pub low_digit : ℕ → ℕ
low_digit b = slice_index lower_digits (b % 16)
