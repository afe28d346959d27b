-- Why adding runs ends as it does, by the counts of faults of the sources and of the medium.
use Rattle.tile_join.proofs.Common.{arith, Archive, Err, JoinError, length, List, MediumStandsAt, of_add_error, of_read, OutOfMemory, Piece, PieceCauses, PmtError, RangeCauses, ReadFails, refl, Rose, slice_index, SourcesStandAt}
use Rattle.tile_join.proofs.Common.{subst, sym, WriteCauses, ℕ, ◌<◌, ◌∙◌, ◌≡◌, ◌≤◌}
use Rattle.pm_format.specs.declared.error.PmtError.TheVariants as errors
use Rattle.pm_format.specs.declared.error.ReadCause.TheVariants as causes
use Rattle.tile_extract.specs.Faults as faults
use Rattle.tile_extract.specs.declared.error.ExtractError.{ExtractError}
use Rattle.tile_extract.specs.declared.error.ExtractError.TheVariants as extract

-- a run that isn't read
pub read_causes : (p : Piece) (first before now : List ℕ) (old new : ℕ) (x : JoinError) → before ≡ first → p.source < length first → PieceCauses {A = List ℕ} p before now (Err x) → WriteCauses {A = Unit {0}} first now old new (Err x)
read_causes p first before now old new (Archive k e) same low c =
    (subst (λ j. j < length first) (sym c.0) low, subst (λ l. ReadFails (slice_index l k) (slice_index now k) e) same c.1)
read_causes p first before now old new OutOfMemory same low c = tt
read_causes p first before now old new x same low c = absurd c

pub read_medium : (p : Piece) (before now : List ℕ) (old new : ℕ) (x : JoinError) → PieceCauses {A = List ℕ} p before now (Err x) → new ≡ old → MediumStandsAt old new x
read_medium p before now old new (Archive k e) c same = same
read_medium p before now old new OutOfMemory c same = tt
read_medium p before now old new x c same = absurd c

-- one that isn't added
pub add_causes : (before now : List ℕ) (first old new : ℕ) (x : ExtractError) (y : JoinError) → y ≡ of_add_error x → first ≤ old → (x ≡ extract.MediumFault → Rose old new) → WriteCauses {A = Unit {0}} before now first new (Err y)
add_causes before now first old new x y word le rose = subst (λ y. WriteCauses {A = Unit {0}} before now first new (Err y)) (sym word) (by x rose)
  where
    by : (x : ExtractError) → (x ≡ extract.MediumFault → Rose old new) → WriteCauses {A = Unit {0}} before now first new (Err (of_add_error x))
    by extract.IndexEntryOverflow rose = tt
    by extract.MediumFault rose = let r = rose refl in omega (arith, le, r)
    by extract.OutOfMemory rose = tt
    by x rose = tt

pub add_stands : (before now : List ℕ) (x : ExtractError) (y : JoinError) → y ≡ of_add_error x → now ≡ before → SourcesStandAt before now y
add_stands before now x y word same = subst (SourcesStandAt before now) (sym word) (by x)
  where
    by : (x : ExtractError) → SourcesStandAt before now (of_add_error x)
    by extract.IndexEntryOverflow = same
    by extract.MediumFault = same
    by x = tt

pub add_medium : (first old new : ℕ) (x : ExtractError) (y : JoinError) → y ≡ of_add_error x → old ≡ first → faults.MediumStandsAt old new x → MediumStandsAt first new y
add_medium first old new x y word same stands = subst (MediumStandsAt first new) (sym word) (by x stands)
  where
    by : (x : ExtractError) → faults.MediumStandsAt old new x → MediumStandsAt first new (of_add_error x)
    by extract.IndexEntryOverflow s = s ∙ same
    by extract.MediumFault s = tt
    by x s = tt

-- a read of one source
pub range_fails : (k : ℕ) (p : Piece) (before now : List ℕ) (x y : ℕ) (e : PmtError) → k ≡ p.source → slice_index before p.source ≡ x → slice_index now p.source ≡ y → RangeCauses {A = List ℕ} x y (Err e) → PieceCauses {A = List ℕ} p before now (Err (of_read k e))
range_fails k p before now x y e number first last c = by e c
  where
    at : (e : PmtError) → ReadFails x y e → (k ≡ p.source) × ReadFails (slice_index before k) (slice_index now k) e
    at e c = (number, subst (λ j. ReadFails (slice_index before j) (slice_index now j) e) (sym number) (subst (λ m. ReadFails m (slice_index now p.source) e) (sym first) (subst (λ m. ReadFails x m e) (sym last) c)))

    by : (e : PmtError) → RangeCauses {A = List ℕ} x y (Err e) → PieceCauses {A = List ℕ} p before now (Err (of_read k e))
    by errors.OutOfMemory c = tt
    by (errors.Reading causes.Fault) c = at (errors.Reading causes.Fault) c
    by (errors.Reading causes.PastEnd) c = at (errors.Reading causes.PastEnd) c
    by (errors.UnexpectedNumberOfBytesReturned asked got) c = at (errors.UnexpectedNumberOfBytesReturned asked got) c
    by errors.InvalidEntry c = absurd c
    by e c = absurd c
