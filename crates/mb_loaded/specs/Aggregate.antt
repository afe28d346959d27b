-- The hash of all tiles of a set.
use Rattle.std.specs.Prelude.{ℕ, ◌++◌, List, [], ◌∷◌, Option, Some, None, flat_map}
use Rattle.mb_loaded.specs.Common.{digest, entries, Fnv1a, Fnv1aDecimal, HashAlgorithm, Place, TileSet}
use Rattle.std.specs.Fmt.{decimal}

-- null adds no bytes
abbrev pub bytes_of : Option (List ℕ) → List ℕ
bytes_of None = []
bytes_of (Some bytes) = bytes

-- the numbers of a place in decimal, and the bytes there
abbrev pub tile_text : Place × Option (List ℕ) → List ℕ
tile_text e = decimal e.0.zoom ++ (decimal e.0.column ++ (decimal e.0.row ++ bytes_of e.1))

-- the algorithm whose digests are the same number in hexadecimal
abbrev pub in_hexadecimal : HashAlgorithm → HashAlgorithm
in_hexadecimal Fnv1aDecimal = Fnv1a
in_hexadecimal a = a

-- the digest of the texts of these tiles, in hexadecimal; that of no bytes where there are none
abbrev pub hash_of : HashAlgorithm → List (Place × Option (List ℕ)) → List ℕ
hash_of a [] = digest a []
hash_of a (e ∷ es) = digest (in_hexadecimal a) (flat_map tile_text (e ∷ es))

-- the hash of all tiles of a set
unfoldable pub aggregate : HashAlgorithm → TileSet → List ℕ
aggregate a tiles = hash_of a (entries tiles)
