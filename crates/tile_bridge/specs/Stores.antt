-- What the stores of a conversion come to.
use Rattle.std.specs.Prelude.{ℕ, ◌≡◌, ◌≤◌, Bool, false, cond, List, ◌∷◌, map, All, slice_index, Option, Some, None, Result, IfSome, Ok, Err}
use Rattle.tile_bridge.specs.Common.{is_free, list_all, MbtError, Rose, State, state_of, Tables}
use Rattle.mb_tables.specs.declared.error.MbtError.TheVariants as errors
use Rattle.tile_bridge.specs.Outcome.{all_patched, at_place, one_patched}
use Rattle.tile_bridge.specs.declared.error.ConvertError.{ConvertError}
use Rattle.tile_bridge.specs.declared.error.ConvertError.TheVariants.{IndexEntryOverflow, OutOfMemory, Store, StoreFault}

-- the state is the one that is due, where the stores tell
abbrev pub IsDue : Option (Result State ConvertError) → State → Type 0
IsDue due s = IfSome due (λ d. d ≡ Ok s)

-- the refusal is the one that is due, where the stores tell
abbrev pub IsRefused : Option (Result State ConvertError) → ConvertError → Type 0
IsRefused due e = IfSome due (λ d. d ≡ Err e)

-- a refusal of the set is the one that is due, and no other comes but a store's fault and running out of memory
abbrev pub Refuses : Option (Result State ConvertError) → ConvertError → Type 0
Refuses due (Store place e) = IsRefused due (Store place e) × (is_free e ≡ false)
Refuses due IndexEntryOverflow = IsRefused due IndexEntryOverflow
Refuses due (StoreFault place) = Unit {0}
Refuses due OutOfMemory = Unit {0}
Refuses due _ = ⊥

-- what is due of the store at a place, where it tells
abbrev pub due_at : ℕ → Bool → Tables → Option (Result State ConvertError)
due_at place tells t = cond tells (Some (at_place place (state_of t))) None

-- one of the counts rose
abbrev pub RoseAt : ℕ → List ℕ → List ℕ → Type 0
RoseAt place before now = Rose (slice_index before place) (slice_index now place)

-- the conversion's word for the refusal of the store at a place
abbrev pub refusal_at : ℕ → MbtError → ConvertError
refusal_at place errors.StoreFault = StoreFault place
refusal_at place errors.OutOfMemory = OutOfMemory
refusal_at place e = Store place e

-- what is due of the patch at a place on a state, where it tells
abbrev pub due_patch : Bool → ℕ → State → Bool → Tables → Option (Result State ConvertError)
due_patch force place s tells t = cond tells (Some (one_patched force place s t)) None

-- what is due of patches, the first of them at this place, where all of them tell
abbrev pub due_patches : Bool → ℕ → State → List Bool → List Tables → Option (Result State ConvertError)
due_patches force place s tells ts = cond (list_all (λ t. t) tells) (Some (all_patched force place s ts)) None

-- none of the counts fell
abbrev pub NoneFell : List ℕ → List ℕ → Type 0
NoneFell before now = (place : ℕ) → slice_index before place ≤ slice_index now place

-- Stores that were only read: they hold what they held, none of their counts of faults fell, and where no call of
-- them fails the counts stand.
pub record AreOnlyRead {P : Type 0} (tell : P → Bool) (tables : P → Tables) (failed : P → ℕ) (calm : P → Type 0) (old new : List P) : Type 0 where
  pub told : map tables new ≡ map tables old
  pub tells : map tell new ≡ map tell old
  pub faults : NoneFell (map failed old) (map failed new)
  pub steady : All calm old → All calm new × (map failed new ≡ map failed old)

-- One of the stores at a place failed, and the patches were let go: in a state of theirs in which they were only read
-- the count at this place had risen. The base, at place 0, has no count.
pub record HasFailed {P : Type 0} (tell : P → Bool) (tables : P → Tables) (failed : P → ℕ) (calm : P → Type 0) (old : List P) (place : ℕ) : Type 0 where
  pub now : List P
  pub read : AreOnlyRead tell tables failed calm old now
  pub rose : RoseAt place (0 ∷ map failed old) (0 ∷ map failed now)

-- a store's fault, or running out of memory
abbrev pub IsStoreError : ConvertError → Type 0
IsStoreError (StoreFault place) = Unit {0}
IsStoreError OutOfMemory = Unit {0}
IsStoreError _ = ⊥
