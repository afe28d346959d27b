-- What the answer of a conversion that holds no contents says of the counts of faults of its medium and its stores.
use Rattle.std.specs.Prelude.{ℕ, ◌≡◌, List, Result, Ok, Err}
use Rattle.tile_bridge.specs.Stands as convert
use Rattle.tile_bridge.specs.declared.error.ConvertError.TheVariants.{OutOfMemory, Store, StoreFault}
use Rattle.tile_streaming.specs.declared.error.StreamError.{StreamError}
use Rattle.tile_streaming.specs.declared.error.StreamError.TheVariants.{Convert, StoreChanged}

-- those of `convert`; a store that changed didn't fail
abbrev pub MediumStandsAt : ℕ → ℕ → StreamError → Type 0
MediumStandsAt before now (Convert e) = convert.MediumStandsAt before now e
MediumStandsAt before now StoreChanged = now ≡ before

abbrev pub MediumStands : {A : Type 0} → ℕ → ℕ → Result A StreamError → Type 0
MediumStands before now (Ok x) = now ≡ before
MediumStands before now (Err e) = MediumStandsAt before now e

abbrev pub StoresStandAt : List ℕ → List ℕ → StreamError → Type 0
StoresStandAt before now (Convert e) = convert.StoresStandAt before now e
StoresStandAt before now StoreChanged = now ≡ before

abbrev pub StoresStand : {A : Type 0} → List ℕ → List ℕ → Result A StreamError → Type 0
StoresStand before now (Ok x) = now ≡ before
StoresStand before now (Err e) = StoresStandAt before now e

-- the same of the base alone, once it is read: it stands, but where it is refused or fails, and for want of memory
abbrev pub BaseStandsAt : ℕ → ℕ → StreamError → Type 0
BaseStandsAt before now (Convert (Store place e)) = Unit {0}
BaseStandsAt before now (Convert (StoreFault place)) = Unit {0}
BaseStandsAt before now (Convert OutOfMemory) = Unit {0}
BaseStandsAt before now e = now ≡ before

abbrev pub BaseStands : {A : Type 0} → ℕ → ℕ → Result A StreamError → Type 0
BaseStands before now (Ok x) = now ≡ before
BaseStands before now (Err e) = BaseStandsAt before now e
