-- XXH64 with seed 0, as a function of the whole list (the xxHash specification, "XXH64 algorithm description").
use Rattle.std.specs.Prelude.{ℕ, zero, suc, ◌+◌, ◌-◌, ◌*◌, ◌/◌, ◌%◌, ◌^◌, Bool, nat_lt, List, [], ◌∷◌, length, drop, slice_index, bit_xor, if◌then◌else◌}
use Rattle.tile_hash.specs.Words.{add64, mul64, rotl, xor_shifted, word32, word64, prime64_1, prime64_2, prime64_3, prime64_4, prime64_5}

-- a lane after a word
unfoldable pub round : ℕ → ℕ → ℕ
round lane word = mul64 (rotl (add64 lane (mul64 word prime64_2)) 31) prime64_1

-- the four lanes at the start
abbrev pub first_lanes : List ℕ
first_lanes = add64 prime64_1 prime64_2 ∷ prime64_2 ∷ 0 ∷ (2 ^ 64 - prime64_1) ∷ []

-- the lanes after the stripe of 32 bytes at this byte
unfoldable pub striped : List ℕ → List ℕ → ℕ → List ℕ
striped v b at =
    round (slice_index v 0) (word64 b at) ∷ round (slice_index v 1) (word64 b (at + 8))
    ∷ round (slice_index v 2) (word64 b (at + 16)) ∷ round (slice_index v 3) (word64 b (at + 24)) ∷ []

-- the lanes after the first n stripes
unfoldable pub lanes_after : List ℕ → ℕ → List ℕ
lanes_after b zero = first_lanes
lanes_after b (suc n) = striped (lanes_after b n) b (32 * n)

-- the hash with a lane merged into it
unfoldable pub merged : ℕ → ℕ → ℕ
merged h lane = add64 (mul64 (bit_xor h (round 0 lane)) prime64_1) prime64_4

-- the lanes as one number
unfoldable pub joined : List ℕ → ℕ
joined v = add64 (add64 (add64 (rotl (slice_index v 0) 1) (rotl (slice_index v 1) 7)) (rotl (slice_index v 2) 12)) (rotl (slice_index v 3) 18)

unfoldable pub converged : List ℕ → ℕ
converged v = merged (merged (merged (merged (joined v) (slice_index v 0)) (slice_index v 1)) (slice_index v 2)) (slice_index v 3)

-- the hash of these lanes, or of fewer than 32 bytes, with the length added
unfoldable pub begun : List ℕ → Bool → ℕ → ℕ
begun v is_short n = add64 (if is_short then prime64_5 else converged v) n

-- the hash after a word of 8 bytes, of 4 bytes, and after a byte
unfoldable pub word_taken : ℕ → ℕ → ℕ
word_taken h word = add64 (mul64 (rotl (bit_xor h (round 0 word)) 27) prime64_1) prime64_4

unfoldable pub half_taken : ℕ → ℕ → ℕ
half_taken h half = add64 (mul64 (rotl (bit_xor h (mul64 half prime64_1)) 23) prime64_2) prime64_3

unfoldable pub byte_taken : ℕ → ℕ → ℕ
byte_taken h byte = mul64 (rotl (bit_xor h (mul64 byte prime64_5)) 11) prime64_1

-- the hash after the first n words of 8 bytes
unfoldable pub after_words : ℕ → List ℕ → ℕ → ℕ
after_words h b zero = h
after_words h b (suc n) = word_taken (after_words h b n) (word64 b (8 * n))

-- the hash after n bytes that begin at this byte
unfoldable pub after_bytes : ℕ → List ℕ → ℕ → ℕ → ℕ
after_bytes h b at zero = h
after_bytes h b at (suc n) = byte_taken (after_bytes h b at n) (slice_index b (at + n))

-- of what is behind the stripes the whole words of 8 bytes come first,
unfoldable pub after_whole_words : ℕ → List ℕ → ℕ
after_whole_words h rest = after_words h rest (length rest / 8)

-- then one word of 4 bytes, if four are left,
unfoldable pub after_half : ℕ → List ℕ → ℕ
after_half h rest =
    if nat_lt (length rest % 8) 4 then after_whole_words h rest
    else half_taken (after_whole_words h rest) (word32 rest (8 * (length rest / 8)))

-- then the bytes that are left
unfoldable pub after_rest : ℕ → List ℕ → ℕ
after_rest h rest = after_bytes (after_half h rest) rest (4 * (length rest / 4)) (length rest % 4)

-- the last mixing of the bits
unfoldable pub avalanche : ℕ → ℕ
avalanche h = xor_shifted (mul64 (xor_shifted (mul64 (xor_shifted h 33) prime64_2) 29) prime64_3) 32

unfoldable pub xxh64 : List ℕ → ℕ
xxh64 b = avalanche (after_rest (begun (lanes_after b (length b / 32)) (nat_lt (length b) 32) (length b)) (drop (32 * (length b / 32)) b))
