-- Answers from the descriptions of a store's tables alone.
use Rattle.std.specs.Prelude.{◌≡◌, ℕ, Bool, true, List, Option, Some, None, Result, Ok, Err, option_copied}
use Rattle.mb_access.specs.Common.{Answers, Bor, InvalidDataFormat, layout_of, MbtError, MbtType, missing_index, Tables}
use Rattle.mb_tables.specs.declared.description.TableDesc.{TableDesc}

-- the answer that is due of descriptions: of those that a store tells, and of some where it tells nothing
pub record IsDescribed {A : Type 0} (f : List TableDesc → Result A MbtError) (tells : Bool)
    (told : Tables) (answer : Result A MbtError) : Type 0 where
  pub tables : List TableDesc
  pub is_told : tells ≡ true → tables ≡ told.descriptions
  pub answers : Answers (f tables) answer

-- the name of the table that has no index on places, where its layout is known
abbrev pub missing_by : List TableDesc → Option MbtType → Result (Option (List ℕ)) MbtError
missing_by ds None = Err InvalidDataFormat
missing_by ds (Some layout) = Ok (missing_index ds layout)

abbrev pub missing_answer : List TableDesc → Result (Option (List ℕ)) MbtError
missing_answer ds = missing_by ds (layout_of ds)

-- an answer with a name as its bytes
abbrev pub read_name : Result (Option (Bor (List ℕ))) MbtError → Result (Option (List ℕ)) MbtError
read_name (Ok name) = Ok (option_copied name)
read_name (Err e) = Err e
