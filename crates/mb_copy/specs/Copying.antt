-- What a copy from one store into another answers, and what it leaves.
use Rattle.std.specs.Prelude.{◌≡◌, ◌⊎◌, Bool, true, false, List, [], ◌∷◌, None, Result, Ok}
use Rattle.mb_copy.specs.Common.{Answers, begun, contains_key, created, fresh, is_free, MakesChanges, MbtError, Place, set_tables, State, state_of, Tables}
use Rattle.mb_copy.specs.Chosen.{tiles_to_put}
use Rattle.mb_copy.specs.Copied.{copied}
use Rattle.mb_copy.specs.CopyOrder.{copy_answer, into_answer, invalid, made_state, may_copy, may_copy_over, mode_missing}
use Rattle.mb_copy.specs.HeldCopied.{held_copied}
use Rattle.mb_copy.specs.Target.{made_type}
use Rattle.mb_copy.specs.declared.copier.MbtilesCopier.{MbtilesCopier}
use Rattle.mb_load.specs.Committed.{IsCommitted}
use Rattle.mb_tables.specs.declared.description.TableDesc.{TableDesc}

-- whether anything is described
abbrev pub has_any : List TableDesc → Bool
has_any [] = false
has_any (d ∷ ds) = true

-- the answer of a copy of a set into a destination: by its tables, and by whether it describes anything, as it tells
-- them, or as its answers could be of
pub record IsPutInto (c : MbtilesCopier) (source : State) (tells : Bool) (told : Tables) (answer : Result (Unit {0}) MbtError) : Type 0 where
  pub target : Tables
  pub described : Bool
  pub is_target : tells ≡ true → target ≡ told
  pub is_described : tells ≡ true → described ≡ has_any told.descriptions
  pub answers : Answers (into_answer c source described target) answer

-- the answer of a copy from a store
pub record IsAnswered (c : MbtilesCopier) (source_tells : Bool) (source_told : Tables) (tells : Bool) (told : Tables) (answer : Result (Unit {0}) MbtError) : Type 0 where
  pub source : Tables
  pub is_source : source_tells ≡ true → source ≡ source_told
  pub target : Tables
  pub described : Bool
  pub is_target : tells ≡ true → target ≡ told
  pub is_described : tells ≡ true → described ≡ has_any told.descriptions
  pub answers : Answers (begun (copy_answer c described target) source) answer

-- the tables of a destination after the copy of a set over what they held, or into what was made for it
pub record IsPut (c : MbtilesCopier) (made : Bool) (source base : State) (old new : Tables) : Type 0 where
  -- they load again, as the set with the copies
  pub again : state_of new ≡ Ok (copied c made source base)
  -- under each key that was put stands its row, with the digest of its bytes where the layout has one; all
  -- other rows are as before
  pub rows : IsCommitted (held_copied c made source (fresh base)) old new
  -- one commit made of them exactly what the set with the copies asks for, also of rows without a place or a name
  pub commits : MakesChanges (held_copied c made source (fresh base)) old new
  -- the places that were put
  pub places : (p : Place) → contains_key (held_copied c made source (fresh base)).edited.places p ≡ contains_key (tiles_to_put c source.tiles base) p

-- of a destination that is described: no test refused what it holds
pub record IsOver (c : MbtilesCopier) (source : State) (old new : Tables) : Type 0 where
  pub base : State
  pub loaded : state_of old ≡ Ok base
  pub passed : may_copy_over c source base ≡ None
  pub put : IsPut c false source base old new

-- of one that describes nothing: its tables are made
pub record IsAnew (c : MbtilesCopier) (source : State) (old new : Tables) : Type 0 where
  pub none : old.descriptions ≡ []
  pub passed : may_copy c source (made_state c source) ≡ None
  pub put : IsPut c true source (made_state c source) (created old (set_tables (made_type c source.layout))) new

abbrev pub IsCopied : MbtilesCopier → State → Bool → Tables → Tables → Type 0
IsCopied c source true old new = (mode_missing c ≡ None) × IsOver c source old new
IsCopied c source false old new = IsAnew c source old new

-- the same of a source that tells its tables or not: then of some tables that its answers could be of
pub record IsCopiedBy (c : MbtilesCopier) (tells : Bool) (told old new : Tables) : Type 0 where
  pub tables : Tables
  pub is_told : tells ≡ true → tables ≡ told
  pub source : State
  pub loaded : state_of tables ≡ Ok source
  pub valid : invalid c.validate source ≡ None
  pub copied : IsCopied c source (has_any old.descriptions) old new

-- the tables of a destination after a refusal: as they were; or made, where there were none and then memory ran out
-- or the store failed
pub record AreMade (c : MbtilesCopier) (source : State) (old new : Tables) (e : MbtError) : Type 0 where
  pub free : is_free e ≡ true
  pub none : old.descriptions ≡ []
  pub made : new ≡ created old (set_tables (made_type c source.layout))

abbrev pub IsLeft : MbtilesCopier → State → Tables → Tables → MbtError → Type 0
IsLeft c source old new e = (new ≡ old) ⊎ AreMade c source old new e

pub record AreMadeBy (c : MbtilesCopier) (tells : Bool) (told old new : Tables) (e : MbtError) : Type 0 where
  pub tables : Tables
  pub is_told : tells ≡ true → tables ≡ told
  pub source : State
  pub loaded : state_of tables ≡ Ok source
  pub made : AreMade c source old new e

abbrev pub IsLeftBy : MbtilesCopier → Bool → Tables → Tables → Tables → MbtError → Type 0
IsLeftBy c tells told old new e = (new ≡ old) ⊎ AreMadeBy c tells told old new e
