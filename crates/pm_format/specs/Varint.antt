-- Varints: seven bits a byte, the low part first, the top bit says that another byte follows.
use Rattle.std.specs.Prelude.{◌≡◌, ℕ, zero, suc, ◌+◌, ◌*◌, ◌/◌, ◌%◌, ◌^◌, ◌<◌, ◌≤◌, ◌⊎◌, List, [], ◌∷◌, length, Option, Some, None, nat_lt, if◌then◌else◌, option_map, refl}

-- what a list of bytes stands for
abbrev pub spelled_value : List ℕ → ℕ
spelled_value [] = 0
spelled_value (b ∷ bs) = b % 128 + 128 * spelled_value bs

-- all bytes but the last are 128 or more
abbrev pub IsSpelling : List ℕ → Type 0
IsSpelling [] = ⊥
IsSpelling (b ∷ []) = b < 128
IsSpelling (b ∷ c ∷ bs) = (128 ≤ b) × (b < 256) × IsSpelling (c ∷ bs)

-- a spelling of a u64, padded or not
pub record SpellsU64 (s : List ℕ) (value : ℕ) : Type 0 where
  pub form : IsSpelling s
  pub short : length s ≤ 10
  pub stands : spelled_value s ≡ value
  pub fits : value < 2 ^ 64

-- the last byte isn't 0
abbrev pub EndsAboveZero : List ℕ → Type 0
EndsAboveZero [] = ⊥
EndsAboveZero (b ∷ []) = 0 < b
EndsAboveZero (b ∷ c ∷ bs) = EndsAboveZero (c ∷ bs)

-- a spelling without padding
abbrev pub IsShort : List ℕ → Type 0
IsShort s = (s ≡ 0 ∷ []) ⊎ EndsAboveZero s

-- the spelling of at most this many bytes in front, its value, and what follows it
abbrev pub spelled : ℕ → List ℕ → Option (ℕ × List ℕ)
spelled zero bs = None
spelled (suc k) [] = None
spelled (suc k) (b ∷ bs) = if nat_lt b 128 then Some (b, bs) else option_map (λ r. (b % 128 + 128 * r.0, r.1)) (spelled k bs)

abbrev pub below : ℕ → Option (ℕ × List ℕ) → Option (ℕ × List ℕ)
below limit None = None
below limit (Some r) = if nat_lt r.0 limit then Some r else None

-- a number in at most this many bytes and below the limit
abbrev pub number_at : ℕ → ℕ → List ℕ → Option (ℕ × List ℕ)
number_at bytes limit bs = below limit (spelled bytes bs)

unfoldable pub u64_at : List ℕ → Option (ℕ × List ℕ)
u64_at bs = number_at 10 (2 ^ 64) bs

unfoldable pub u32_at : List ℕ → Option (ℕ × List ℕ)
u32_at bs = number_at 5 (2 ^ 32) bs

-- the one spelling without padding
abbrev pub short_of : ℕ → ℕ → List ℕ
short_of zero n = []
short_of (suc k) n = if nat_lt n 128 then n ∷ [] else (n % 128 + 128) ∷ short_of k (n / 128)

unfoldable pub varint : ℕ → List ℕ
varint n = short_of 10 n

-- rows: 80 00 is 0 from two bytes; 16258 is 82 7f
pub padded_zero : u64_at (128 ∷ 0 ∷ 9 ∷ []) ≡ Some (0, 9 ∷ [])
unfolding u64_at
padded_zero = refl

pub sixteen_thousand : varint 16258 ≡ 130 ∷ 127 ∷ []
unfolding varint
sixteen_thousand = refl

pub too_long : u64_at (255 ∷ 255 ∷ 255 ∷ 255 ∷ 255 ∷ 255 ∷ 255 ∷ 255 ∷ 255 ∷ 2 ∷ []) ≡ None
unfolding u64_at
too_long = refl

pub greatest : u64_at (255 ∷ 255 ∷ 255 ∷ 255 ∷ 255 ∷ 255 ∷ 255 ∷ 255 ∷ 255 ∷ 1 ∷ []) ≡ Some (18446744073709551615, [])
unfolding u64_at
greatest = refl

pub greatest_u32 : u32_at (255 ∷ 255 ∷ 255 ∷ 255 ∷ 15 ∷ []) ≡ Some (4294967295, [])
unfolding u32_at
greatest_u32 = refl

pub above_u32 : u32_at (255 ∷ 255 ∷ 255 ∷ 255 ∷ 16 ∷ []) ≡ None
unfolding u32_at
above_u32 = refl
