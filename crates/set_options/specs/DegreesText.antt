-- Ten millionths of a degree as decimals: the shortest text that says them exactly.
use Rattle.std.specs.Prelude.{◌≡◌, ℕ, zero, suc, ◌≤◌, ◌*◌, ◌/◌, ◌%◌, ◌++◌, ℤ, pos, negsuc, List, [], Some, nat_eq, cond, codes, unsigned_abs, refl}
use Rattle.set_options.specs.Common.{decimal, digits}
use Rattle.std.specs.Int.{is_negative}
use Rattle.set_options.specs.Degrees.{degrees_of}

-- the digits of a number of ten millionths, as many as there are places at most, up to the last one that isn't 0
abbrev pub fraction_text : ℕ → ℕ → List ℕ
fraction_text zero part = []
fraction_text (suc places) part = cond (nat_eq part 0) [] (decimal (part * 10 / 10000000) ++ fraction_text places (part * 10 % 10000000))

-- whole degrees, and a point with what is left behind it, if anything is
abbrev pub size_text : ℕ → List ℕ
size_text n = cond (nat_eq (n % 10000000) 0) (decimal (n / 10000000)) (decimal (n / 10000000) ++ (codes "." ++ fraction_text 7 (n % 10000000)))

-- `-` in front of a negative number
abbrev pub degrees_text : ℤ → List ℕ
degrees_text z = cond (is_negative z) (codes "-" ++ size_text (unsigned_abs z)) (size_text (unsigned_abs z))

-- no more than 180 degrees
abbrev pub IsWithin : ℤ → Type 0
IsWithin (pos n) = n ≤ 1800000000
IsWithin (negsuc n) = suc n ≤ 1800000000

pub whole_degrees : degrees_text (negsuc 849999999) ≡ codes "-85"
unfolding digits
whole_degrees = refl

pub no_degree : degrees_text (pos 0) ≡ codes "0"
unfolding digits
no_degree = refl

pub zeros_in_front : degrees_text (pos 1) ≡ codes "0.0000001"
unfolding digits
zeros_in_front = refl

pub no_zeros_behind : degrees_text (negsuc 4999999) ≡ codes "-0.5"
unfolding digits
no_zeros_behind = refl

-- such a text is read as the number that it was made of
pub northern_end : degrees_of (degrees_text (pos 850511290)) ≡ Some (pos 850511290)
unfolding digits
northern_end = refl

pub western_end : degrees_of (degrees_text (negsuc 1799999999)) ≡ Some (negsuc 1799999999)
unfolding digits
western_end = refl
