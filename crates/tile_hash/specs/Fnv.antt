-- FNV-1a with 64 bits (draft-eastlake-fnv).
use Rattle.std.specs.Prelude.{ℕ, List, [], ◌∷◌, bit_xor}
use Rattle.tile_hash.specs.Words.{mul64}

abbrev pub offset_basis : ℕ
offset_basis = 14695981039346656037

abbrev pub fnv_prime : ℕ
fnv_prime = 1099511628211

-- a byte is xored to the hash, and the hash is then multiplied by the prime
abbrev pub byte_hashed : ℕ → ℕ → ℕ
byte_hashed hash byte = mul64 (bit_xor hash byte) fnv_prime

-- the hash after these bytes, from one before them
unfoldable pub hashed_from : ℕ → List ℕ → ℕ
hashed_from hash [] = hash
hashed_from hash (byte ∷ bytes) = hashed_from (byte_hashed hash byte) bytes

abbrev pub fnv1a : List ℕ → ℕ
fnv1a bytes = hashed_from offset_basis bytes
