-- A base of which marks are held, and its patches one after another.
use Rattle.std.specs.Prelude.{ℕ, ◌≡◌, ◌⊎◌, Bool, true, cond, List, None, Ok, Option, Result, Some, Err}
use Rattle.mb_edit.specs.PatchingOrder.{may_patch}
use Rattle.mb_edit.specs.Step.{state_patched, step}
use Rattle.mb_load.specs.LoadedFrom.{IsLoadable, NamesAlgorithm}
use Rattle.mb_store.specs.declared.store.StoreError.{StoreError}
use Rattle.mb_store.specs.declared.store.StoreError.TheVariants as stores
use Rattle.mb_tables.specs.declared.error.MbtError.TheVariants.{IdCollision}
use Rattle.tile_bridge.specs.Outcome.{at_place}
use Rattle.tile_bridge.specs.Patching.{HoldsState}
use Rattle.tile_bridge.specs.Stores.{due_patches}
use Rattle.tile_bridge.specs.declared.error.ConvertError.TheVariants.{OutOfMemory, Store, StoreFault}
use Rattle.tile_streaming.specs.Collisions.{collided}
use Rattle.tile_streaming.specs.Common.{ConvertError, HashAlgorithm, IsDue, MbtError, refusal_at, Rose, State, state_of, Tables}
use Rattle.tile_streaming.specs.Overlaid.{StandsFor}
use Rattle.tile_streaming.specs.declared.overlaid.Overlaid.{Overlaid}
use Rattle.tile_streaming.specs.declared.rest.Rest.{Rest}

-- A set is the base: the state that its store tells, where it does.
pub record IsBegun (tells : Bool) (told : Tables) (x : Overlaid) : Type 0 where
  pub state : State
  pub is_told : tells ≡ true → state_of told ≡ Ok state
  pub stands : StandsFor tells told x state

-- a set is a state after a patch whose store tells its tables or not
pub record IsNext (force patch_tells : Bool) (patch_told : Tables) (tells : Bool) (told : Tables) (s : State) (x : Overlaid) : Type 0 where
  pub patch : State
  pub of : HoldsState patch_tells patch_told patch
  pub whole : IsLoadable patch
  pub named : NamesAlgorithm patch
  pub may : may_patch force s patch ≡ None
  pub stands : StandsFor tells told x (state_patched s patch)

-- a set is a state after all patches: the one that is due, where all of them tell
pub record IsAfter (force : Bool) (patch_tells : List Bool) (patch_told : List Tables) (tells : Bool) (told : Tables) (s : State) (x : Overlaid) : Type 0 where
  pub state : State
  pub is_due : IsDue (due_patches force 1 s patch_tells patch_told) state
  pub stands : StandsFor tells told x state

-- what is due where the base tells
abbrev pub if_told : Bool → Option (Result State ConvertError) → Option (Result State ConvertError)
if_told tells due = cond tells due None

-- what is due of a patch at a place that is loaded
abbrev pub due_step : Bool → ℕ → State → State → Option (Result State ConvertError)
due_step force place s patch = Some (at_place place (step force s patch))

-- What the count of faults of the base is where a patch that is loaded isn't put: it rose where the base failed.
abbrev pub BaseEnds : ℕ → ℕ → ℕ → ConvertError → Type 0
BaseEnds place before now (Store k e) = (k ≡ place) × (now ≡ before)
BaseEnds place before now (StoreFault k) = (k ≡ 0) × Rose before now
BaseEnds place before now OutOfMemory = Unit {0}
BaseEnds place before now _ = ⊥

-- The same of the base and of the patch at a place: one of them failed, or neither did.
abbrev pub PatchEnds : ℕ → ℕ → ℕ → ℕ → ℕ → ConvertError → Type 0
PatchEnds place base base_now patch patch_now (Store k e) = (k ≡ place) × (base_now ≡ base)
PatchEnds place base base_now patch patch_now (StoreFault k) = ((k ≡ place) × (base_now ≡ base) × Rose patch patch_now) ⊎ ((k ≡ 0) × (patch_now ≡ patch) × Rose base base_now)
PatchEnds place base base_now patch patch_now OutOfMemory = Unit {0}
PatchEnds place base base_now patch patch_now _ = ⊥

-- the conversion's word for the error of a look-up in the base
abbrev pub of_base : StoreError → ConvertError
of_base stores.Fault = StoreFault 0
of_base stores.OutOfMemory = OutOfMemory

-- Contents of the patch at a place collide: the refusal names the digest that is due, where the base tells.
abbrev pub NamesFirst : ℕ → Bool → Tables → Rest → HashAlgorithm → Option (List ℕ) → List (List ℕ) → ConvertError → Type 0
NamesFirst place tells t rest a known put (Store k (IdCollision id)) = (k ≡ place) × (tells ≡ true → collided t rest a known put ≡ Some id)
NamesFirst place tells t rest a known put (StoreFault k) = Unit {0}
NamesFirst place tells t rest a known put OutOfMemory = Unit {0}
NamesFirst place tells t rest a known put _ = ⊥

-- The refusal of a patch at a place, where what is held over the base refuses it: the same, but for a digest that
-- collides, which may be another one.
abbrev pub NamesAnother : ℕ → Bool → Tables → Rest → HashAlgorithm → List (List ℕ) → MbtError → ConvertError → Type 0
NamesAnother place tells t rest a put (IdCollision id) r = NamesFirst place tells t rest a (Some id) put r
NamesAnother place tells t rest a put e r = r ≡ refusal_at place e
