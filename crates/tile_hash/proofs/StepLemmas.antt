-- One more turn of each loop.
use Rattle.tile_hash.proofs.Common.{add-one, add64, after_bytes, after_words, blocks, byte_hashed, byte_taken, drop, drop-cons, drop_all, first_mixes, hashed_from, lanes_after, length, List, mix}
use Rattle.tile_hash.proofs.Common.{more_mixes, pair, pairs, refl, scrambled, slice_index, stripe_taken, striped, stripes, taken, word64, word_taken, ℕ, ◌%◌, ◌*◌, ◌+◌, ◌<◌, ◌≡◌, ◌≤◌}
use Rattle.tile_hash.specs.Xxh64 as X

-- what the bytes behind the first i make of the hash stays the same
pub hashed_step : (bytes : List ℕ) (hash i : ℕ) → i < length bytes
    → hashed_from (byte_hashed hash (slice_index bytes i)) (drop (i + 1) bytes) ≡ hashed_from hash (drop i bytes)
unfolding hashed_from
hashed_step bytes hash i within = rw (add-one, drop-cons bytes i 0) refl

pub hashed_done : (bytes : List ℕ) (hash i : ℕ) → length bytes ≤ i → hashed_from hash (drop i bytes) ≡ hash
unfolding hashed_from
hashed_done bytes hash i past = rw (drop_all i bytes past) refl

pub lanes_more : (b : List ℕ) (n : ℕ) → lanes_after b (n + 1) ≡ X.striped (lanes_after b n) b (32 * n)
unfolding lanes_after
lanes_more b n = rw add-one refl

pub words_more : (h : ℕ) (b : List ℕ) (n : ℕ) → after_words h b (n + 1) ≡ word_taken (after_words h b n) (word64 b (8 * n))
unfolding after_words
words_more h b n = rw add-one refl

pub bytes_more : (h : ℕ) (b : List ℕ) (at n : ℕ) → after_bytes h b at (n + 1) ≡ byte_taken (after_bytes h b at n) (slice_index b (at + n))
unfolding after_bytes
bytes_more h b at n = rw add-one refl

pub pairs_more : (b : List ℕ) (n : ℕ) → pairs b (n + 1) ≡ add64 (pairs b n) (pair b n)
unfolding pairs
pairs_more b n = rw add-one refl

pub first_more : (b : List ℕ) (n : ℕ) → first_mixes b (n + 1) ≡ add64 (first_mixes b n) (mix b (16 * n) (16 * n))
unfolding first_mixes
first_more b n = rw add-one refl

pub mixes_more : (b : List ℕ) (n : ℕ) → more_mixes b (n + 1) ≡ add64 (more_mixes b n) (mix b (16 * (n + 8)) (16 * n + 3))
unfolding more_mixes
mixes_more b n = rw add-one refl

pub stripes_more : (v b : List ℕ) (at n : ℕ) → stripes v b at (n + 1) ≡ striped (stripes v b at n) b (at + 64 * n) (8 * n)
unfolding stripes
stripes_more v b at n = rw add-one refl

pub blocks_more : (b : List ℕ) (n : ℕ) → blocks b (n + 1) ≡ scrambled (stripes (blocks b n) b (1024 * n) 16)
unfolding blocks
blocks_more b n = rw add-one refl

pub taken_more : (v b : List ℕ) (at number n : ℕ) → taken v b at number (n + 1) ≡ stripe_taken (taken v b at number n) b (at + 64 * n) ((number + n) % 16)
unfolding taken
taken_more v b at number n = rw add-one refl
