-- The digest of bytes that come in pieces.
use Rattle.std.specs.Prelude.{◌≡◌, ℕ, List}
use Rattle.tile_hash.specs.Common.{Holds}
use Rattle.tile_hash.specs.Fnv.{fnv1a}
use Rattle.tile_hash.specs.Xxh64Stream as Xxh64Stream
use Rattle.tile_hash.specs.Xxh3Stream as Xxh3Stream
use Rattle.tile_hash.specs.declared.algorithm.HashAlgorithm.{HashAlgorithm}
use Rattle.tile_hash.specs.declared.algorithm.HashAlgorithm.TheVariants as algorithm
use Rattle.tile_hash.specs.declared.hash_stream.HashStream.{HashStream}
use Rattle.tile_hash.specs.declared.hash_stream.Hasher.{Hasher}
use Rattle.tile_hash.specs.declared.hash_stream.Hasher.TheVariants.{Md5, Fnv1a, Fnv1aDecimal, Xxh64, Xxh3}

-- the algorithm of a hasher
abbrev pub algorithm_of : Hasher → HashAlgorithm
algorithm_of (Md5 _) = algorithm.Md5
algorithm_of (Fnv1a _) = algorithm.Fnv1a
algorithm_of (Fnv1aDecimal _) = algorithm.Fnv1aDecimal
algorithm_of (Xxh64 _) = algorithm.Xxh64
algorithm_of (Xxh3 _) = algorithm.Xxh3

-- the pieces that a hasher was given are these bytes together
abbrev pub Took : Hasher → List ℕ → Type 0
Took (Md5 s) bytes = Holds s bytes
Took (Fnv1a hash) bytes = hash ≡ fnv1a bytes
Took (Fnv1aDecimal hash) bytes = hash ≡ fnv1a bytes
Took (Xxh64 s) bytes = Xxh64Stream.HasTaken s bytes
Took (Xxh3 s) bytes = Xxh3Stream.HasTaken s bytes

-- the stream is of this algorithm, and the pieces that it was given are these bytes together
unfoldable pub HasTaken : HashAlgorithm → HashStream → List ℕ → Type 0
HasTaken a s bytes = (a ≡ algorithm_of s.hasher) × Took s.hasher bytes
