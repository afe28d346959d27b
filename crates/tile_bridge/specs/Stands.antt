-- What the answer of a conversion says of the counts of faults of its medium and its stores.
use Rattle.std.specs.Prelude.{ℕ, ◌≡◌, ◌≢◌, List, slice_index, Result, Ok, Err}
use Rattle.tile_bridge.specs.declared.error.ConvertError.{ConvertError}
use Rattle.tile_bridge.specs.declared.error.ConvertError.TheVariants.{MediumFault, OutOfMemory, Store, StoreFault}

-- an error leaves that of the medium as it is, but for a fault of the medium and running out of memory
abbrev pub MediumStandsAt : ℕ → ℕ → ConvertError → Type 0
MediumStandsAt before now MediumFault = Unit {0}
MediumStandsAt before now OutOfMemory = Unit {0}
MediumStandsAt before now e = now ≡ before

abbrev pub MediumStands : {A : Type 0} → ℕ → ℕ → Result A ConvertError → Type 0
MediumStands before now (Ok x) = now ≡ before
MediumStands before now (Err e) = MediumStandsAt before now e

-- all counts stand but the one at this place
abbrev pub OthersStand : ℕ → List ℕ → List ℕ → Type 0
OthersStand place before now = (k : ℕ) → k ≢ place → slice_index now k ≡ slice_index before k

-- an error leaves those of the stores as they are, but for that of the store that is refused or failed, and for want
-- of memory
abbrev pub StoresStandAt : List ℕ → List ℕ → ConvertError → Type 0
StoresStandAt before now (Store place e) = OthersStand place before now
StoresStandAt before now (StoreFault place) = OthersStand place before now
StoresStandAt before now OutOfMemory = Unit {0}
StoresStandAt before now e = now ≡ before

abbrev pub StoresStand : {A : Type 0} → List ℕ → List ℕ → Result A ConvertError → Type 0
StoresStand before now (Ok x) = now ≡ before
StoresStand before now (Err e) = StoresStandAt before now e

-- the error of the store at a place
abbrev pub IsAt : ℕ → ConvertError → Type 0
IsAt place (Store k e) = k ≡ place
IsAt place (StoreFault k) = k ≡ place
IsAt place OutOfMemory = Unit {0}
IsAt place _ = ⊥
