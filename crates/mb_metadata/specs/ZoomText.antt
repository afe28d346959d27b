-- The number that a text spells, and that of a zoom.
use Rattle.std.specs.Prelude.{◌≡◌, ℕ, codes, ◌&&◌, ◌^◌, List, [], Option, Some, None, cond, length, nat_lt, option_and_then, refl}
use Rattle.mb_metadata.specs.Common.{all_ascii_digits, Names, text_at}
use Rattle.std.specs.Str.Parse.{digits_value, without_leading_plus}

-- decimal digits, one or more, of a number of so many bits
abbrev pub digits_within : ℕ → List ℕ → Option ℕ
digits_within bits ds = cond (nat_lt 0 (length ds) && all_ascii_digits ds && nat_lt (digits_value 10 ds) (2 ^ bits)) (Some (digits_value 10 ds)) None

-- the same behind a plus, if there is one; no other text spells a number
unfoldable pub number_within : ℕ → List ℕ → Option ℕ
number_within bits text = digits_within bits (without_leading_plus text)

-- a zoom is a number of eight bits
abbrev pub zoom_of : List ℕ → Option ℕ
zoom_of = number_within 8

-- the zoom that metadata has under a name; none where there is no text, or one that spells none
abbrev pub zoom_at : Names → List ℕ → Option ℕ
zoom_at names name = option_and_then zoom_of (text_at names name)

pub one_digit : zoom_of (codes "7") ≡ Some 7
unfolding number_within
one_digit = refl

pub zeros_in_front : zoom_of (codes "+0014") ≡ Some 14
unfolding number_within
zeros_in_front = refl

pub above_a_byte : zoom_of (codes "256") ≡ None
unfolding number_within
above_a_byte = refl

pub no_digit : zoom_of (codes "x") ≡ None
unfolding number_within
no_digit = refl

pub no_text : zoom_of [] ≡ None
unfolding number_within
no_text = refl

pub a_blank : zoom_of (codes " 3") ≡ None
unfolding number_within
a_blank = refl
