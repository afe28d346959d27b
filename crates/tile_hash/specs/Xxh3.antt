-- XXH3 with 64 bits and seed 0, as a function of the whole list (the xxHash specification, "XXH3 algorithm overview").
use Rattle.std.specs.Prelude.{ℕ, zero, suc, ◌+◌, ◌-◌, ◌*◌, ◌/◌, ◌%◌, ◌^◌, nat_le, List, [], ◌∷◌, length, slice_index, bit_xor, bit_or, if◌then◌else◌}
use Rattle.tile_hash.specs.Common.{swap_bytes, w64}
use Rattle.tile_hash.specs.Words.{add64, mul64, rotl, xor_shifted, word32, word64, prime64_1, prime64_2, prime64_3, prime64_4, prime64_5, prime32_1, prime32_2, prime32_3}
use Rattle.tile_hash.specs.Xxh64.{avalanche}
use Rattle.tile_hash.specs.Secret.{secret}

-- a word of 8 bytes of the secret
unfoldable pub secret64 : ℕ → ℕ
secret64 i = word64 secret i

-- the last mixing of the bits of XXH3
unfoldable pub finished : ℕ → ℕ
finished h = xor_shifted (mul64 (xor_shifted h 37) 0x165667919E3779F9) 32

-- the low half of the product of 128 bits, xored with the high half
unfoldable pub folded : ℕ → ℕ → ℕ
folded x y = bit_xor (mul64 x y) (x * y / 2 ^ 64)

-- 16 bytes at byte i with 16 bytes of the secret at byte j
unfoldable pub mix : List ℕ → ℕ → ℕ → ℕ
mix b i j = folded (bit_xor (word64 b i) (secret64 j)) (bit_xor (word64 b (i + 8)) (secret64 (j + 8)))

-- ---- up to 16 bytes

unfoldable pub of_none : ℕ
of_none = avalanche (bit_xor (secret64 56) (secret64 64))

-- the first, the middle and the last byte, and the length
unfoldable pub combined : List ℕ → ℕ
combined b =
    bit_or (bit_or (bit_or (slice_index b 0 * 2 ^ 16) (slice_index b (length b / 2) * 2 ^ 24)) (slice_index b (length b - 1))) (length b * 2 ^ 8)

unfoldable pub of_three : List ℕ → ℕ
of_three b = avalanche (bit_xor (combined b) (bit_xor (word32 secret 0) (word32 secret 4)))

unfoldable pub turned : ℕ → ℕ
turned k = bit_xor (bit_xor k (rotl k 49)) (rotl k 24)

unfoldable pub remixed : ℕ → ℕ → ℕ
remixed k n = mul64 (bit_xor k (add64 (k / 2 ^ 35) n)) 0x9FB21C651E98DF25

unfoldable pub keyed : List ℕ → ℕ
keyed b = bit_xor (word32 b (length b - 4) + word32 b 0 * 2 ^ 32) (bit_xor (secret64 8) (secret64 16))

unfoldable pub of_eight : List ℕ → ℕ
of_eight b = xor_shifted (remixed (mul64 (turned (keyed b)) 0x9FB21C651E98DF25) (length b)) 28

unfoldable pub low_word : List ℕ → ℕ
low_word b = bit_xor (word64 b 0) (bit_xor (secret64 24) (secret64 32))

unfoldable pub high_word : List ℕ → ℕ
high_word b = bit_xor (word64 b (length b - 8)) (bit_xor (secret64 40) (secret64 48))

unfoldable pub of_sixteen : List ℕ → ℕ
of_sixteen b =
    finished (add64 (add64 (add64 (length b) (swap_bytes w64 (low_word b))) (high_word b)) (folded (low_word b) (high_word b)))

unfoldable pub of_short : List ℕ → ℕ
of_short b =
    if nat_le (length b) 0 then of_none
    else if nat_le (length b) 3 then of_three b
    else if nat_le (length b) 8 then of_eight b
    else of_sixteen b

-- ---- 17 to 128 bytes: pairs of 16 bytes from both ends, one pair for each 32 bytes begun

unfoldable pub pair : List ℕ → ℕ → ℕ
pair b i = add64 (mix b (16 * i) (32 * i)) (mix b (length b - 16 - 16 * i) (32 * i + 16))

unfoldable pub pairs : List ℕ → ℕ → ℕ
pairs b zero = mul64 (length b) prime64_1
pairs b (suc i) = add64 (pairs b i) (pair b i)

unfoldable pub of_middle : List ℕ → ℕ
of_middle b = finished (pairs b ((length b + 31) / 32))

-- ---- 129 to 240 bytes: eight times 16 bytes, then the others with the secret from byte 3 on, then the last 16 bytes

unfoldable pub first_mixes : List ℕ → ℕ → ℕ
first_mixes b zero = mul64 (length b) prime64_1
first_mixes b (suc i) = add64 (first_mixes b i) (mix b (16 * i) (16 * i))

unfoldable pub more_mixes : List ℕ → ℕ → ℕ
more_mixes b zero = finished (first_mixes b 8)
more_mixes b (suc i) = add64 (more_mixes b i) (mix b (16 * (i + 8)) (16 * i + 3))

unfoldable pub of_upper : List ℕ → ℕ
of_upper b = finished (add64 (more_mixes b (length b / 16 - 8)) (mix b (length b - 16) 119))

-- ---- above 240 bytes: eight lanes over stripes of 64 bytes, 16 stripes to a block

abbrev pub first_lanes : List ℕ
first_lanes = prime32_3 ∷ prime64_1 ∷ prime64_2 ∷ prime64_3 ∷ prime64_4 ∷ prime32_2 ∷ prime64_5 ∷ prime32_1 ∷ []

-- the product of the two halves of a number
unfoldable pub halves : ℕ → ℕ
halves k = (k % 2 ^ 32) * (k / 2 ^ 32)

-- lane i gets its neighbour's word, that of lane j, and the product of the halves of its own word with the secret
unfoldable pub lane : List ℕ → List ℕ → ℕ → ℕ → ℕ → ℕ → ℕ
lane v b at place i j =
    add64 (add64 (slice_index v i) (word64 b (at + 8 * j))) (halves (bit_xor (word64 b (at + 8 * i)) (secret64 (place + 8 * i))))

-- the lanes after the stripe at this byte, with the secret from this place on
unfoldable pub striped : List ℕ → List ℕ → ℕ → ℕ → List ℕ
striped v b at place =
    lane v b at place 0 1 ∷ lane v b at place 1 0 ∷ lane v b at place 2 3 ∷ lane v b at place 3 2
    ∷ lane v b at place 4 5 ∷ lane v b at place 5 4 ∷ lane v b at place 6 7 ∷ lane v b at place 7 6 ∷ []

-- the lanes after the first n stripes of the block at this byte
unfoldable pub stripes : List ℕ → List ℕ → ℕ → ℕ → List ℕ
stripes v b at zero = v
stripes v b at (suc n) = striped (stripes v b at n) b (at + 64 * n) (8 * n)

-- a lane at the end of a block
unfoldable pub scrambled_lane : List ℕ → ℕ → ℕ
scrambled_lane v i = mul64 (bit_xor (xor_shifted (slice_index v i) 47) (secret64 (128 + 8 * i))) prime32_1

unfoldable pub scrambled : List ℕ → List ℕ
scrambled v =
    scrambled_lane v 0 ∷ scrambled_lane v 1 ∷ scrambled_lane v 2 ∷ scrambled_lane v 3
    ∷ scrambled_lane v 4 ∷ scrambled_lane v 5 ∷ scrambled_lane v 6 ∷ scrambled_lane v 7 ∷ []

-- the lanes after the first n blocks of 1024 bytes
unfoldable pub blocks : List ℕ → ℕ → List ℕ
blocks b zero = first_lanes
blocks b (suc n) = scrambled (stripes (blocks b n) b (1024 * n) 16)

-- how many whole blocks and, behind them, whole stripes lie before the last byte
abbrev pub block_count : List ℕ → ℕ
block_count b = (length b - 1) / 1024

abbrev pub stripe_count : List ℕ → ℕ
stripe_count b = (length b - 1) % 1024 / 64

unfoldable pub all_stripes : List ℕ → List ℕ
all_stripes b = stripes (blocks b (block_count b)) b (1024 * block_count b) (stripe_count b)

-- then the last 64 bytes, with the secret from byte 121 on
unfoldable pub all_lanes : List ℕ → List ℕ
all_lanes b = striped (all_stripes b) b (length b - 64) 121

-- two lanes with the secret, folded
unfoldable pub lanes_folded : List ℕ → ℕ → ℕ
lanes_folded v i =
    folded (bit_xor (slice_index v (2 * i)) (secret64 (11 + 16 * i))) (bit_xor (slice_index v (2 * i + 1)) (secret64 (19 + 16 * i)))

unfoldable pub lanes_merged : List ℕ → ℕ → ℕ
lanes_merged v h = finished (add64 (add64 (add64 (add64 h (lanes_folded v 0)) (lanes_folded v 1)) (lanes_folded v 2)) (lanes_folded v 3))

unfoldable pub of_long : List ℕ → ℕ
of_long b = lanes_merged (all_lanes b) (mul64 (length b) prime64_1)

unfoldable pub xxh3_64 : List ℕ → ℕ
xxh3_64 b =
    if nat_le (length b) 16 then of_short b
    else if nat_le (length b) 128 then of_middle b
    else if nat_le (length b) 240 then of_upper b
    else of_long b
