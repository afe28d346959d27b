-- A loaded set: its present state, and what was edited since it was loaded.
use Rattle.mb_loaded.specs.Common.{cell_cmp, empty, FinMap, nat_cmp, place_cmp, slice_cmp}
use Rattle.mb_loaded.specs.State.{State}

-- the places, the ids of contents and the names that were edited
pub record Edited : Type 0 where
  pub places : FinMap place_cmp (Unit {0})
  pub ids : FinMap cell_cmp (Unit {0})
  pub names : FinMap (slice_cmp nat_cmp) (Unit {0})

abbrev pub nothing_edited : Edited
nothing_edited = record { places = empty; ids = empty; names = empty }

pub record Held : Type 0 where
  pub state : State
  pub edited : Edited

-- a set as it was loaded
abbrev pub fresh : State → Held
fresh s = record { state = s; edited = nothing_edited }
