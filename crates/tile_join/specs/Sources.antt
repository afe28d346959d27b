-- Several sources in their order, the first one with number 0.
use Rattle.std.specs.Prelude.{◌≡◌, ◌≢◌, ◌≤◌, ℕ, ◌+◌, All, List, [], ◌∷◌, map, slice_index, Option, Some, None, Result, Ok, Err}
use Rattle.tile_join.specs.Common.{option_map, Rose, StandsAtError}
use Rattle.tile_join.specs.declared.error.JoinError.{JoinError}
use Rattle.tile_join.specs.declared.error.JoinError.TheVariants.{Archive, MediumFault, OutOfMemory}

-- the bytes of all of them, where all tell
abbrev pub all_told : List (Option (List ℕ)) → Option (List (List ℕ))
all_told [] = Some []
all_told (None ∷ ts) = None
all_told (Some b ∷ ts) = option_map (λ bs. b ∷ bs) (all_told ts)

-- none of the counts fell
abbrev pub NoneFell : List ℕ → List ℕ → Type 0
NoneFell before now = (k : ℕ) → slice_index before k ≤ slice_index now k

-- the count with this number rose
abbrev pub RoseAt : ℕ → List ℕ → List ℕ → Type 0
RoseAt k before now = Rose (slice_index before k) (slice_index now k)

-- all counts stand but the one with this number
abbrev pub OthersStand : ℕ → List ℕ → List ℕ → Type 0
OthersStand k before now = (j : ℕ) → j ≢ k → slice_index now j ≡ slice_index before j

-- counts together
abbrev pub total : List ℕ → ℕ
total [] = 0
total (n ∷ ns) = n + total ns

-- Sources that were only read: they tell what they told, none of their counts of faults fell, and where no call of
-- them fails, that stays, and so do the counts.
pub record AreOnlyRead {B V : Type 0} (tells : B → Option (List ℕ)) (texts : B → V) (failed : B → ℕ) (steady : B → Type 0) (old new : List B) : Type 0 where
  pub told : map tells new ≡ map tells old
  pub versions : map texts new ≡ map texts old
  pub faults : NoneFell (map failed old) (map failed new)
  pub calm : All steady old → All steady new × (map failed new ≡ map failed old)

-- An error leaves their counts of faults as they are, but for that of the source that it is of, at a fault of it, and
-- for lack of memory.
abbrev pub SourcesStandAt : List ℕ → List ℕ → JoinError → Type 0
SourcesStandAt before now (Archive k e) = OthersStand k before now × StandsAtError (slice_index before k) (slice_index now k) e
SourcesStandAt before now OutOfMemory = Unit {0}
SourcesStandAt before now e = now ≡ before

abbrev pub SourcesStand : {A : Type 0} → List ℕ → List ℕ → Result A JoinError → Type 0
SourcesStand before now (Ok x) = now ≡ before
SourcesStand before now (Err e) = SourcesStandAt before now e

-- and that of the medium, but for a fault of the medium and lack of memory
abbrev pub MediumStandsAt : ℕ → ℕ → JoinError → Type 0
MediumStandsAt before now MediumFault = Unit {0}
MediumStandsAt before now OutOfMemory = Unit {0}
MediumStandsAt before now e = now ≡ before

abbrev pub MediumStands : {A : Type 0} → ℕ → ℕ → Result A JoinError → Type 0
MediumStands before now (Ok x) = now ≡ before
MediumStands before now (Err e) = MediumStandsAt before now e

-- the same of one source
abbrev pub SourceStandsAt : ℕ → ℕ → JoinError → Type 0
SourceStandsAt before now (Archive k e) = StandsAtError before now e
SourceStandsAt before now OutOfMemory = Unit {0}
SourceStandsAt before now e = now ≡ before

abbrev pub SourceStands : {A : Type 0} → ℕ → ℕ → Result A JoinError → Type 0
SourceStands before now (Ok x) = now ≡ before
SourceStands before now (Err e) = SourceStandsAt before now e
