-- Published values, computed from the definitions: the digests of no bytes and of "hello", and those of other lengths
-- that the program xxhsum gives.
use Rattle.std.specs.Prelude.{◌≡◌, ℕ, ◌%◌, List, [], codes, map, refl}
use Rattle.std.specs.List.{range_with_len}
use Rattle.tile_hash.specs.Words.{rotl, xor_shifted, word32, word64}
use Rattle.tile_hash.specs.Fnv.{fnv1a, hashed_from}
use Rattle.tile_hash.specs.Xxh64 as X
use Rattle.tile_hash.specs.Xxh64.{xxh64, round, merged, joined, converged, lanes_after, begun, word_taken, half_taken, byte_taken, after_words, after_bytes, after_whole_words, after_half, after_rest, avalanche}
use Rattle.tile_hash.specs.Xxh3.{xxh3_64, secret64, finished, folded, mix, of_none, combined, of_three, turned, remixed, keyed, of_eight, low_word, high_word, of_sixteen, of_short, pair, pairs, of_middle, first_mixes, more_mixes, of_upper, halves, lane, striped, stripes, scrambled_lane, scrambled, blocks, all_stripes, all_lanes, lanes_folded, lanes_merged, of_long}

-- the bytes i % 251 for i below n
abbrev counted : ℕ → List ℕ
counted n = map (λ i. i % 251) (range_with_len 0 n)

fnv1a_of_hello : fnv1a (codes "hello") ≡ 11831194018420276491
unfolding hashed_from
fnv1a_of_hello = refl

xxh64_of_none : xxh64 [] ≡ 0xEF46DB3751D8E999
unfolding rotl xor_shifted word32 word64 round merged joined converged X.striped lanes_after begun word_taken half_taken byte_taken after_words after_bytes after_whole_words after_half after_rest avalanche xxh64
xxh64_of_none = refl

xxh64_of_hello : xxh64 (codes "hello") ≡ 0x26C7827D889F6DA3
unfolding rotl xor_shifted word32 word64 round merged joined converged X.striped lanes_after begun word_taken half_taken byte_taken after_words after_bytes after_whole_words after_half after_rest avalanche xxh64
xxh64_of_hello = refl

xxh64_of_79 : xxh64 (counted 79) ≡ 0x5306130D1BA4B651
unfolding rotl xor_shifted word32 word64 round merged joined converged X.striped lanes_after begun word_taken half_taken byte_taken after_words after_bytes after_whole_words after_half after_rest avalanche xxh64
xxh64_of_79 = refl

xxh3_of_none : xxh3_64 [] ≡ 0x2D06800538D394C2
unfolding rotl xor_shifted word32 word64 avalanche secret64 finished folded of_none combined of_three turned remixed keyed of_eight low_word high_word of_sixteen of_short xxh3_64
xxh3_of_none = refl

xxh3_of_2 : xxh3_64 (counted 2) ≡ 0xD6645FC3051A9457
unfolding rotl xor_shifted word32 word64 avalanche secret64 finished folded of_none combined of_three turned remixed keyed of_eight low_word high_word of_sixteen of_short xxh3_64
xxh3_of_2 = refl

xxh3_of_hello : xxh3_64 (codes "hello") ≡ 0x9555E8555C62DCFD
unfolding rotl xor_shifted word32 word64 avalanche secret64 finished folded of_none combined of_three turned remixed keyed of_eight low_word high_word of_sixteen of_short xxh3_64
xxh3_of_hello = refl

xxh3_of_12 : xxh3_64 (counted 12) ≡ 0x5ACE6A511C10894B
unfolding rotl xor_shifted word32 word64 avalanche secret64 finished folded of_none combined of_three turned remixed keyed of_eight low_word high_word of_sixteen of_short xxh3_64
xxh3_of_12 = refl

xxh3_of_100 : xxh3_64 (counted 100) ≡ 0x004E4F921A64BD1C
unfolding rotl xor_shifted word32 word64 secret64 finished folded mix pair pairs of_middle xxh3_64
xxh3_of_100 = refl

xxh3_of_200 : xxh3_64 (counted 200) ≡ 0xF42A8864FEAF0703
unfolding rotl xor_shifted word32 word64 secret64 finished folded mix first_mixes more_mixes of_upper xxh3_64
xxh3_of_200 = refl

xxh3_of_300 : xxh3_64 (counted 300) ≡ 0xFDDA6967CF021DBC
unfolding rotl xor_shifted word32 word64 secret64 finished folded halves lane striped stripes scrambled_lane scrambled blocks all_stripes all_lanes lanes_folded lanes_merged of_long xxh3_64
xxh3_of_300 = refl

xxh3_of_1025 : xxh3_64 (counted 1025) ≡ 0xE95C42288F28186E
unfolding rotl xor_shifted word32 word64 secret64 finished folded halves lane striped stripes scrambled_lane scrambled blocks all_stripes all_lanes lanes_folded lanes_merged of_long xxh3_64
xxh3_of_1025 = refl
