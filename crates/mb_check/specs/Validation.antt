-- What a validation answers, and what it leaves.
use Rattle.std.specs.Prelude.{◌≡◌, ℕ, codes, List, [], Result, Ok}
use Rattle.mb_check.specs.AggregateHash.{checked_answer, own_hash_answer}
use Rattle.mb_check.specs.Updated.{IsUpdated}
use Rattle.mb_check.specs.declared.validation.AggHashType.{AggHashType}
use Rattle.mb_check.specs.declared.validation.AggHashType.TheVariants.{Verify, Update, Off}
use Rattle.mb_check.specs.Common.{MbtError, State, Tables}

abbrev pub hash_type_words : AggHashType → List ℕ
hash_type_words Verify = codes "verify"
hash_type_words Update = codes "update"
hash_type_words Off = codes "off"

-- nothing more than loading is tested
abbrev pub rows_answer : State → Result (Unit {0}) MbtError
rows_answer s = Ok tt

-- the hash of all tiles that was checked or stored, and no text where neither is wanted
abbrev pub validated : AggHashType → State → Result (List ℕ) MbtError
validated Verify s = checked_answer s
validated Update s = own_hash_answer s
validated Off s = Ok []

-- the tables hold the computed hash where it is to be stored, and are as they were otherwise
abbrev pub IsLeft : AggHashType → Tables → Tables → Type 0
IsLeft Update old new = IsUpdated old new
IsLeft _ old new = new ≡ old
