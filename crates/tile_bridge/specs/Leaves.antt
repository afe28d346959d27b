-- What a conversion leaves, whichever way it ends.
use Rattle.std.specs.Prelude.{ℕ, ◌≡◌, ◌⊎◌, Bool, true, List, Option, Result, OnOk, IfOk}
use Rattle.tile_bridge.specs.Common.{aggregate, Coord, Options, State, Tables}
use Rattle.tile_bridge.specs.Base.{IsBaseAfter}
use Rattle.tile_bridge.specs.Convert.{HasPlaces, IsEmpty, SetCauses, SetLeaves}
use Rattle.tile_bridge.specs.Stores.{IsDue}
use Rattle.tile_bridge.specs.declared.error.ConvertError.{ConvertError}
use Rattle.tile_bridge.specs.declared.options.ConvertOptions.{ConvertOptions}
use Rattle.tile_bridge.specs.declared.report.ConvertReport.{ConvertReport}

-- the base holds this state after its patches
abbrev pub IsBaseOf : ConvertOptions → List Bool → List Tables → State → Tables → Tables → Type 0
IsBaseOf o tells told s old new = (after : IsBaseAfter o tells told old new) × (after.final ≡ s)

-- the conversion ended before anything was written
pub record IsUntouched (result : Result ConvertReport ConvertError) (old new : Option (List ℕ)) (base base_now : Tables) : Type 0 where
  pub refused : OnOk result ⊥
  pub medium : new ≡ old
  pub store : base_now ≡ base

-- The set was at hand, and the medium empty. The options are those that the state gives to which base and patches come.
-- The base holds this state, where it tells; the medium holds the archive of this state and these options, or no part
-- of it; and the report is of both.
pub record IsOfSet (gives : State → Options → Type 0) (due : Option (Result State ConvertError)) (o : ConvertOptions) (base_tells : Bool) (tells : List Bool) (told : List Tables) (coords : List Coord)
    (result : Result ConvertReport ConvertError) (old new : Option (List ℕ)) (base base_now : Tables) : Type 0 where
  pub state : State
  pub options : Options
  pub is_due : IsDue due state
  pub given : gives state options
  pub empty : IsEmpty old
  pub ended : SetCauses old result
  pub medium : SetLeaves options state.tiles coords result old new
  pub aggregate_is : IfOk result (λ r. r.aggregate ≡ aggregate state.algorithm state.tiles)
  pub places : IfOk result (HasPlaces options state.tiles old)
  pub store : base_tells ≡ true → IsBaseOf o tells told state base base_now

abbrev pub Leaves : (State → Options → Type 0) → Option (Result State ConvertError) → ConvertOptions → Bool → List Bool → List Tables → List Coord → Result ConvertReport ConvertError → Option (List ℕ) → Option (List ℕ) → Tables → Tables → Type 0
Leaves gives due o base_tells tells told coords result old new base base_now =
    IsUntouched result old new base base_now ⊎ IsOfSet gives due o base_tells tells told coords result old new base base_now
