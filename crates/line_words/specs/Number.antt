-- Decimal numbers as words.
use Rattle.std.specs.Prelude.{◌≡◌, ℕ, zero, suc, ◌+◌, ◌-◌, ◌*◌, ◌<◌, ℤ, pos, negsuc, List, [], ◌∷◌, nat_eq, nat_le, if◌then◌else◌, Option, Some, None, codes, refl}
use Rattle.std.specs.Char.{is_ascii_digit}
use Rattle.line_words.specs.Common.{option_and_then, option_map}

-- the number of digits that stand behind those of another number
abbrev pub digits_behind : ℕ → List ℕ → Option ℕ
digits_behind n [] = Some n
digits_behind n (b ∷ word) = if is_ascii_digit b then digits_behind (n * 10 + (b - 48)) word else None

-- digits, the first of them not 0 where there are others
abbrev pub natural_of : List ℕ → Option ℕ
natural_of [] = None
natural_of (b ∷ []) = digits_behind 0 (b ∷ [])
natural_of (b ∷ c ∷ word) = if nat_eq b 48 then None else digits_behind 0 (b ∷ c ∷ word)

abbrev pub at_most : ℕ → ℕ → Option ℕ
at_most limit n = if nat_le n limit then Some n else None

-- the number from 0 to a limit that a word spells
abbrev pub number_to : ℕ → List ℕ → Option ℕ
number_to limit word = option_and_then (at_most limit) (natural_of word)

-- the negative number of this size
abbrev pub negative : ℕ → Option ℤ
negative zero = None
negative (suc n) = Some (negsuc n)

-- the number from -limit to limit - 1 that a word spells, `-` in front of a negative one
abbrev pub integer_below : ℕ → List ℕ → Option ℤ
integer_below limit [] = None
integer_below limit (b ∷ word) = if nat_eq b 45 then option_and_then negative (number_to limit word) else option_map pos (number_to (limit - 1) (b ∷ word))

-- from -limit to limit - 1
abbrev pub IsBelow : ℕ → ℤ → Type 0
IsBelow limit (pos n) = n < limit
IsBelow limit (negsuc n) = n < limit

pub twelve : number_to 12 (codes "12") ≡ Some 12
twelve = refl

pub above_limit : number_to 11 (codes "12") ≡ None
above_limit = refl

pub leading_zero : number_to 12 (codes "02") ≡ None
leading_zero = refl

pub no_digit : number_to 12 (codes "1-") ≡ None
no_digit = refl

pub least : integer_below 128 (codes "-128") ≡ Some (negsuc 127)
least = refl

pub past_greatest : integer_below 128 (codes "128") ≡ None
past_greatest = refl

pub negative_zero : integer_below 128 (codes "-0") ≡ None
negative_zero = refl
