-- XXH3 of bytes that come in pieces: the lanes are taken along the stripes, whatever the block.
use Rattle.std.specs.Prelude.{◌≡◌, ◌≢◌, ℕ, zero, suc, ◌+◌, ◌-◌, ◌*◌, ◌%◌, ◌^◌, ◌<◌, ◌≤◌, nat_eq, List, length, take, drop, if◌then◌else◌}
use Rattle.tile_hash.specs.Xxh3.{striped, scrambled, first_lanes}
use Rattle.tile_hash.specs.declared.xxh3.stream.Xxh3Stream.{Xxh3Stream}

-- the lanes after the stripe at this byte, which has this number in its block: the last one ends it
unfoldable pub stripe_taken : List ℕ → List ℕ → ℕ → ℕ → List ℕ
stripe_taken v b at number =
    if nat_eq number 15 then scrambled (striped v b at (8 * number)) else striped v b at (8 * number)

-- the lanes after n stripes from this byte on, the first of which has this number, counted over blocks
unfoldable pub taken : List ℕ → List ℕ → ℕ → ℕ → ℕ → List ℕ
taken v b at number zero = v
taken v b at number (suc n) = stripe_taken (taken v b at number n) b (at + 64 * n) ((number + n) % 16)

-- the pieces that the stream was given are these bytes together: it has taken some stripes, the last of which it keeps
-- with the bytes behind it
pub record HasTaken (s : Xxh3Stream) (bytes : List ℕ) : Type 0 where
  pub total : s.total ≡ length bytes % 2 ^ 64
  pub within : s.used ≤ length bytes
  pub kept : take s.used s.buffer ≡ drop (length bytes - s.used) bytes
  pub count : ℕ
  pub stripe : s.stripe ≡ count % 16
  pub lanes : s.lanes ≡ taken first_lanes bytes 0 0 count
  pub place : 64 * count + s.used ≡ length bytes + s.done
  pub whole : s.done ≡ 0 → s.used ≡ length bytes
  pub stripes : s.done % 64 ≡ 0
  pub long : s.done ≢ 0 → 240 < length bytes
