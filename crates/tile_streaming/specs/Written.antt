-- The archive of marks: what is left of it, and why it isn't there.
use Rattle.std.specs.Prelude.{ℕ, ◌≡◌, ◌⊎◌, Bool, true, false, List, Option, Result, Ok, Err, IfSome}
use Rattle.tile_streaming.specs.Common.{archive, ArchivePlaces, IsHidden, Options, places_of, Rose, TookAll}
use Rattle.mb_store.specs.declared.store.StoreError.{StoreError}
use Rattle.mb_store.specs.declared.store.StoreError.TheVariants as stores
use Rattle.tile_bridge.specs.declared.error.ConvertError.TheVariants.{MediumFault, OutOfMemory, StoreFault}
use Rattle.tile_streaming.specs.Adding.{adds_of, AreRead}
use Rattle.tile_streaming.specs.Finding.{fits}
use Rattle.tile_streaming.specs.Stored.{Stored}
use Rattle.tile_streaming.specs.declared.error.StreamError.{StreamError}
use Rattle.tile_streaming.specs.declared.error.StreamError.TheVariants.{Convert, StoreChanged}
use Rattle.tile_streaming.specs.declared.mark.Mark.{Mark}

-- why a row isn't found: a fault of the store, only where its count rose, lack of memory, or what
-- is said of a changed store
abbrev pub FindCauses : {A : Type 0} → Type 0 → ℕ → ℕ → Result A StreamError → Type 0
FindCauses changed store store_now (Ok _) = Unit {0}
FindCauses changed store store_now (Err StoreChanged) = changed
FindCauses changed store store_now (Err (Convert (StoreFault place))) = (place ≡ 0) × Rose store store_now
FindCauses changed store store_now (Err (Convert OutOfMemory)) = Unit {0}
FindCauses changed store store_now (Err (Convert _)) = ⊥

-- why bytes aren't added: a fault of the medium, only where its count rose, or lack of memory
abbrev pub AddsCauses : {A : Type 0} → ℕ → ℕ → Result A StreamError → Type 0
AddsCauses medium medium_now (Ok _) = Unit {0}
AddsCauses medium medium_now (Err (Convert MediumFault)) = Rose medium medium_now
AddsCauses medium medium_now (Err (Convert OutOfMemory)) = Unit {0}
AddsCauses medium medium_now (Err _) = ⊥

-- no such contents are stored for a mark, where that is told
abbrev pub IsChanged : Bool → Stored → Mark → Type 0
IsChanged tells stored m = tells ≡ true → IfSome (stored m.id) (λ bytes. fits m bytes ≡ false)

-- Why a step ends: a fault of the store or of the medium, only where its count rose, lack of memory,
-- or a store that changed.
abbrev pub StepCauses : {A : Type 0} → Type 0 → ℕ → ℕ → ℕ → ℕ → Result A StreamError → Type 0
StepCauses changed store store_now medium medium_now (Ok _) = Unit {0}
StepCauses changed store store_now medium medium_now (Err StoreChanged) = changed
StepCauses changed store store_now medium medium_now (Err (Convert (StoreFault place))) = (place ≡ 0) × Rose store store_now
StepCauses changed store store_now medium medium_now (Err (Convert MediumFault)) = Rose medium medium_now
StepCauses changed store store_now medium medium_now (Err (Convert OutOfMemory)) = Unit {0}
StepCauses changed store store_now medium medium_now (Err (Convert _)) = ⊥

-- the bytes are the archive of what was read for the marks
pub record IsOfRead (o : Options) (tells : Bool) (stored : Stored) (marks : List Mark) (b : List ℕ) : Type 0 where
  pub contents : List (List ℕ)
  pub read : AreRead tells stored marks contents
  pub whole : b ≡ archive o (adds_of marks contents)

-- the places are those of the archive of what was read for the marks, and of what the writer took that for
pub record HasWritten (o : Options) (tells : Bool) (stored : Stored) (marks : List Mark) (old new : Option (List ℕ)) (p : ArchivePlaces) : Type 0 where
  pub contents : List (List ℕ)
  pub read : AreRead tells stored marks contents
  pub whole : IfSome new (λ b. b ≡ archive o (adds_of marks contents))
  pub taken : List (ℕ × List ℕ)
  pub took : TookAll old (adds_of marks contents) taken
  pub places : p ≡ places_of o taken

-- What a medium that was empty holds: the archive, or after a refusal no part of it. Once a store failed or
-- changed no reader opens it.
abbrev pub WrittenLeaves : Options → Bool → Stored → List Mark → Option (List ℕ) → Option (List ℕ) → Result ArchivePlaces StreamError → Type 0
WrittenLeaves o tells stored marks old new (Ok p) = HasWritten o tells stored marks old new p
WrittenLeaves o tells stored marks old new (Err StoreChanged) = IfSome new IsHidden
WrittenLeaves o tells stored marks old new (Err (Convert (StoreFault place))) = IfSome new IsHidden
WrittenLeaves o tells stored marks old new (Err _) = IfSome new (λ b. IsHidden b ⊎ IsOfRead o tells stored marks b)

-- the conversion's word for the refusal of a row that is looked for
abbrev pub of_find_error : StoreError → StreamError
of_find_error stores.Fault = Convert (StoreFault 0)
of_find_error stores.OutOfMemory = Convert OutOfMemory
