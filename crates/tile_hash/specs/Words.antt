-- Numbers of 64 bits, as the xxHash specification writes them: sums and products are modulo 2 ^ 64, and words
-- are read low byte first.
use Rattle.std.specs.Prelude.{ℕ, ◌+◌, ◌*◌, ◌/◌, ◌%◌, ◌^◌, List, [], ◌∷◌, slice_index, bit_xor}
use Rattle.tile_hash.specs.Common.{from_le_bytes, rotate_left, w32, w64}

abbrev pub add64 : ℕ → ℕ → ℕ
add64 x y = (x + y) % 2 ^ 64

abbrev pub mul64 : ℕ → ℕ → ℕ
mul64 x y = (x * y) % 2 ^ 64

-- x turned left by k bits
unfoldable pub rotl : ℕ → ℕ → ℕ
rotl x k = rotate_left w64 x k

-- x without its k lowest bits, xored to x
unfoldable pub xor_shifted : ℕ → ℕ → ℕ
xor_shifted x k = bit_xor x (x / 2 ^ k)

-- the 8 bytes from byte i on, and the 4
unfoldable pub word64 : List ℕ → ℕ → ℕ
word64 b i = from_le_bytes w64
    (slice_index b i ∷ slice_index b (i + 1) ∷ slice_index b (i + 2) ∷ slice_index b (i + 3)
    ∷ slice_index b (i + 4) ∷ slice_index b (i + 5) ∷ slice_index b (i + 6) ∷ slice_index b (i + 7) ∷ [])

unfoldable pub word32 : List ℕ → ℕ → ℕ
word32 b i = from_le_bytes w32
    (slice_index b i ∷ slice_index b (i + 1) ∷ slice_index b (i + 2) ∷ slice_index b (i + 3) ∷ [])

-- the primes of the xxHash specification
abbrev pub prime64_1 : ℕ
prime64_1 = 0x9E3779B185EBCA87

abbrev pub prime64_2 : ℕ
prime64_2 = 0xC2B2AE3D27D4EB4F

abbrev pub prime64_3 : ℕ
prime64_3 = 0x165667B19E3779F9

abbrev pub prime64_4 : ℕ
prime64_4 = 0x85EBCA77C2B2AE63

abbrev pub prime64_5 : ℕ
prime64_5 = 0x27D4EB2F165667C5

abbrev pub prime32_1 : ℕ
prime32_1 = 0x9E3779B1

abbrev pub prime32_2 : ℕ
prime32_2 = 0x85EBCA77

abbrev pub prime32_3 : ℕ
prime32_3 = 0xC2B2AE3D
