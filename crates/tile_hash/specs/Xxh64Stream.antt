-- XXH64 of bytes that come in pieces.
use Rattle.std.specs.Prelude.{◌≡◌, ℕ, ◌*◌, ◌/◌, ◌%◌, ◌^◌, nat_lt, List, length, take, drop}
use Rattle.tile_hash.specs.Xxh64.{lanes_after}
use Rattle.tile_hash.specs.declared.xxh_64.stream.Xxh64Stream.{Xxh64Stream}

-- the pieces that the stream was given are these bytes together
pub record HasTaken (s : Xxh64Stream) (bytes : List ℕ) : Type 0 where
  pub total : s.total ≡ length bytes % 2 ^ 64
  pub short : s.is_short ≡ nat_lt (length bytes) 32
  pub lanes : s.lanes ≡ lanes_after bytes (length bytes / 32)
  pub rest : take (length bytes % 32) s.buffer ≡ drop (32 * (length bytes / 32)) bytes
