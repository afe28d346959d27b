-- A set that tiles are put into.
use Rattle.std.specs.Prelude.{◌≡◌, Bool, true, false, Result, Ok, Err}
use Rattle.tile_import.specs.Common.{Held, is_editable, IsLoadedFrom, MbtError, NamesAlgorithm, nothing_edited, State, Tables}
use Rattle.mb_tables.specs.declared.error.MbtError.TheVariants.{UnsupportedCopyOperation}

-- a set as it was loaded from tables
pub record IsBase (t : Tables) (h : Held) : Type 0 where
  pub loaded : IsLoadedFrom t h
  pub clean : h.edited ≡ nothing_edited
  pub named : NamesAlgorithm h.state

-- a state into which tiles can be put, or the refusal
abbrev pub unless_numbered : State → Bool → Result State MbtError
unless_numbered s true = Ok s
unless_numbered s false = Err UnsupportedCopyOperation

abbrev pub editable : State → Result State MbtError
editable s = unless_numbered s (is_editable s.layout)

abbrev pub state_in : Result Held MbtError → Result State MbtError
state_in (Ok h) = Ok h.state
state_in (Err e) = Err e
