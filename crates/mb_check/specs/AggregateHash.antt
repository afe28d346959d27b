-- The stored hash of all tiles of a set, and the computed one.
use Rattle.std.specs.Prelude.{ℕ, List, cond, Option, Some, None, Result, Ok, Err}
use Rattle.std.specs.Str.{bytes_eq}
use Rattle.mb_check.specs.Common.{agg_hash, aggregate, HashAlgorithm, MbtError, State}
use Rattle.mb_tables.specs.declared.error.MbtError.TheVariants.{AggHashMismatch, AggHashValueNotFound}

-- the algorithm of the set
abbrev pub algorithm_answer : State → Result HashAlgorithm MbtError
algorithm_answer s = Ok s.algorithm

-- the stored hash; none where there is none, or null
abbrev pub stored_answer : State → Result (Option (List ℕ)) MbtError
stored_answer s = Ok (agg_hash s.metadata)

-- the hash of all tiles by an algorithm
abbrev pub hash_answer : HashAlgorithm → State → Result (List ℕ) MbtError
hash_answer a s = Ok (aggregate a s.tiles)

-- the same by the algorithm of the set
abbrev pub own_hash_answer : State → Result (List ℕ) MbtError
own_hash_answer s = hash_answer s.algorithm s

-- the stored hash, which is there and the computed one
abbrev pub checked_by : Option (List ℕ) → List ℕ → Result (List ℕ) MbtError
checked_by None computed = Err AggHashValueNotFound
checked_by (Some stored) computed = cond (bytes_eq stored computed) (Ok computed) (Err (AggHashMismatch computed stored))

abbrev pub checked_answer : State → Result (List ℕ) MbtError
checked_answer s = checked_by (agg_hash s.metadata) (aggregate s.algorithm s.tiles)
