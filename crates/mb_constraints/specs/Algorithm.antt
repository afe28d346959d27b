-- The algorithm of a set's digests, which its metadata may name.
use Rattle.std.specs.Prelude.{ℕ, codes, List, [], ◌∷◌, Option, Some, None, find, is_some, map, unwrap_or}
use Rattle.mb_constraints.specs.Common.{bytes_eq, Cell, HashAlgorithm, MbtError, name_of, to_ascii_lowercase, unless, UnsupportedHashAlgorithm}
use Rattle.mb_lists.specs.Metadata.{stored_text}
use Rattle.tile_hash.specs.declared.algorithm.HashAlgorithm.TheVariants.{Md5, Fnv1a, Fnv1aDecimal, Xxh64, Xxh3}

abbrev pub algorithms : List HashAlgorithm
algorithms = Md5 ∷ Fnv1a ∷ Fnv1aDecimal ∷ Xxh64 ∷ Xxh3 ∷ []

-- the algorithm of a name, ASCII case aside
abbrev pub algorithm_named : List ℕ → Option HashAlgorithm
algorithm_named name = find (λ a. bytes_eq (map to_ascii_lowercase name) (name_of a)) algorithms

-- the name that the metadata has for it
abbrev pub stored_algorithm : List (List Cell) → Option (List ℕ)
stored_algorithm metadata = stored_text (codes "hash_algorithm") metadata

-- the algorithm of a stored name, MD5 where there is none
abbrev pub algorithm_by : Option (List ℕ) → HashAlgorithm
algorithm_by None = Md5
algorithm_by (Some name) = unwrap_or (algorithm_named name) Md5

abbrev pub algorithm_of : List (List Cell) → HashAlgorithm
algorithm_of metadata = algorithm_by (stored_algorithm metadata)

-- the stored name is that of none
abbrev pub unknown_name : Option (List ℕ) → Option MbtError
unknown_name None = None
unknown_name (Some name) = unless (is_some (algorithm_named name)) (UnsupportedHashAlgorithm name)

abbrev pub algorithm_unknown : List (List Cell) → Option MbtError
algorithm_unknown metadata = unknown_name (stored_algorithm metadata)
