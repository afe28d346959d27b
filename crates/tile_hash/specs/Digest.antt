-- The text of the bytes under an algorithm, and the algorithms' names.
use Rattle.std.specs.Prelude.{ℕ, List, codes}
use Rattle.tile_hash.specs.Common.{decimal, encode_upper, md5, to_be_bytes, w64}
use Rattle.tile_hash.specs.Fnv.{fnv1a}
use Rattle.tile_hash.specs.Xxh64.{xxh64}
use Rattle.tile_hash.specs.Xxh3.{xxh3_64}
use Rattle.tile_hash.specs.declared.algorithm.HashAlgorithm.{HashAlgorithm}
use Rattle.tile_hash.specs.declared.algorithm.HashAlgorithm.TheVariants.{Md5, Fnv1a, Fnv1aDecimal, Xxh64, Xxh3}

-- a number of 64 bits in 16 upper-case hexadecimal digits
abbrev pub word_text : ℕ → List ℕ
word_text n = encode_upper (to_be_bytes w64 n)

abbrev pub digest : HashAlgorithm → List ℕ → List ℕ
digest Md5 bytes = encode_upper (md5 bytes)
digest Fnv1a bytes = word_text (fnv1a bytes)
digest Fnv1aDecimal bytes = decimal (fnv1a bytes)
digest Xxh64 bytes = word_text (xxh64 bytes)
digest Xxh3 bytes = word_text (xxh3_64 bytes)

abbrev pub name_of : HashAlgorithm → List ℕ
name_of Md5 = codes "md5"
name_of Fnv1a = codes "fnv1a"
name_of Fnv1aDecimal = codes "fnv1a-decimal"
name_of Xxh64 = codes "xxh64"
name_of Xxh3 = codes "xxh3"
