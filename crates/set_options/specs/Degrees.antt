-- Degrees in decimal, as whole ten millionths.
use Rattle.std.specs.Prelude.{◌≡◌, ℕ, zero, suc, ◌+◌, ◌-◌, ◌*◌, ◌&&◌, ℤ, pos, negsuc, List, [], ◌∷◌, length, nat_eq, nat_le, cond, Option, Some, None, codes, refl}
use Rattle.set_options.specs.Common.{is_ascii_digit, list_all, option_and_then, option_map}

-- no more than 180 degrees
abbrev pub within : ℕ → Option ℕ
within n = cond (nat_le n 1800000000) (Some n) None

-- a digit behind a number, where no more than 180 degrees come of it
abbrev pub with_digit : ℕ → ℕ → Option ℕ
with_digit n b = cond (is_ascii_digit b) (within (n * 10 + (b - 48))) None

-- digits past the ten millionths: the first of them rounds, up from 5 on
abbrev pub rounded : ℕ → List ℕ → Option ℕ
rounded n [] = Some n
rounded n (b ∷ word) = cond (list_all is_ascii_digit (b ∷ word)) (within (cond (nat_le 53 b) (n + 1) n)) None

-- digits behind the point, so many of them to come; those that aren't there are zeros
abbrev pub behind_point : ℕ → ℕ → List ℕ → Option ℕ
behind_point zero n word = rounded n word
behind_point (suc places) n [] = option_and_then (λ m. behind_point places m []) (with_digit n 48)
behind_point (suc places) n (b ∷ word) = option_and_then (λ m. behind_point places m word) (with_digit n b)

-- digits, and a point with digits behind it or none
abbrev pub whole : ℕ → List ℕ → Option ℕ
whole n [] = behind_point 7 n []
whole n (b ∷ word) = cond (nat_eq b 46) (behind_point 7 n word) (option_and_then (λ m. whole m word) (with_digit n b))

-- at least a digit, and at most 40 signs
abbrev pub magnitude : List ℕ → Option ℕ
magnitude [] = None
magnitude (b ∷ word) = cond (is_ascii_digit b && nat_le (length word) 39) (whole 0 (b ∷ word)) None

abbrev pub minus : ℕ → ℤ
minus zero = pos 0
minus (suc n) = negsuc n

-- the ten millionths of a degree that a word spells, `-` or `+` in front of them or none
abbrev pub degrees_of : List ℕ → Option ℤ
degrees_of [] = None
degrees_of (b ∷ word) =
    cond (nat_eq b 45) (option_map minus (magnitude word))
    (option_map pos (magnitude (cond (nat_eq b 43) word (b ∷ word))))

pub a_half : degrees_of (codes "-0.5") ≡ Some (negsuc 4999999)
a_half = refl

pub whole_degrees : degrees_of (codes "+180") ≡ Some (pos 1800000000)
whole_degrees = refl

-- the nearest ten millionth, away from 0 where two are as near
pub nearest : degrees_of (codes "-85.05112877980659") ≡ Some (negsuc 850511287)
nearest = refl

pub away : degrees_of (codes "0.00000005") ≡ Some (pos 1)
away = refl

pub nothing_left : degrees_of (codes "-0.00000004") ≡ Some (pos 0)
nothing_left = refl

pub a_point_behind : degrees_of (codes "007.") ≡ Some (pos 70000000)
a_point_behind = refl

pub past_the_world : degrees_of (codes "180.1") ≡ None
past_the_world = refl

pub just_past_the_world : degrees_of (codes "180.00000005") ≡ None
just_past_the_world = refl

pub an_exponent : degrees_of (codes "1e2") ≡ None
an_exponent = refl

pub no_digit : degrees_of (codes ".5") ≡ None
no_digit = refl

pub two_points : degrees_of (codes "1.2.3") ≡ None
two_points = refl

pub a_sign_behind : degrees_of (codes "1.00000001x") ≡ None
a_sign_behind = refl
