-- Adds written one after another.
use Rattle.tile_bridge.proofs.Common.{Add, add_to, AddFits, adds_distinct, All, ap, arith, Bool, bytes_at, CanBeWritten, Err, false, few_took, filled_took, get_or, get_or-map, IfOk, IsErrAnd, length}
use Rattle.tile_bridge.proofs.Common.{length-map, List, low_took, Ok, Option, Options, places_of, PmtError, refl, Result, shown, sorted_took, subst, sym, take, TileSet, Took, took_fits_at, TookAll}
use Rattle.tile_bridge.proofs.Common.{WriteCauses, ℕ, [], ◌+◌, ◌<◌, ◌∙◌, ◌≡◌, ◌≢◌, ◌≤◌}
use Rattle.pm_format.specs.Faults.{FaultsStand}
use Rattle.pm_format.specs.declared.compression.Compression.TheVariants as compression
use Rattle.pm_format.specs.declared.error.PmtError.TheVariants as errors
use Rattle.pm_format.specs.declared.error.ReadCause.TheVariants as causes
use Rattle.pm_writer.proofs.InTurn.{added_at}
use Rattle.pm_writer.proofs.Few.{archive_fits}
use Rattle.pm_writer.specs.Causes.{AddCauses, FinishCauses}
use Rattle.pm_writer.specs.declared.places.ArchivePlaces.{ArchivePlaces}
use Rattle.std.proofs.Common.{OnOk}

-- the add of a number, as it is seen
shown_at : (tiles : TileSet) (adds : List Add) (i : ℕ) (a : Add) → i < length adds → a ≡ get_or adds i a → get_or (shown tiles adds) i (a.id, bytes_at tiles a.index) ≡ (a.id, bytes_at tiles a.index)
shown_at tiles adds i a far is = get_or-map (λ (a : Add). (a.id, bytes_at tiles a.index)) adds i a (a.id, bytes_at tiles a.index) far ∙ sym (ap (λ x. (x.id, bytes_at tiles x.index)) is)

far_shown : (tiles : TileSet) (adds : List Add) (i : ℕ) → i < length adds → i < length (shown tiles adds)
far_shown tiles adds i far = omega (arith, far, length-map {B = ℕ × List ℕ} adds (λ (a : Add). (a.id, bytes_at tiles a.index)))

-- what it is taken for fits behind what those before it were taken for
pub fits_at : (told : Option (List ℕ)) (o : Options) (tiles : TileSet) (adds : List Add) (i : ℕ) (a : Add) (ts : List (ℕ × List ℕ)) (taken : List ℕ) → i < length adds → a ≡ get_or adds i a → CanBeWritten o (shown tiles adds) → TookAll told (take i (shown tiles adds)) ts
    → Took told (bytes_at tiles a.index) taken → AddFits o ts a.id taken
fits_at told o tiles adds i a ts taken far at can all took =
    let here = shown_at tiles adds i a far at in
    subst (λ x. AddFits o ts x.0 taken) here (took_fits_at told o (shown tiles adds) ts i (a.id, bytes_at tiles a.index) taken (far_shown tiles adds i far) can.few all (subst (λ x. Took told x.1 taken) (sym here) took))

-- what can be written can be written as it is taken
pub written_took : (told : Option (List ℕ)) (o : Options) (gs ts : List (ℕ × List ℕ)) → TookAll told gs ts → CanBeWritten o gs → CanBeWritten o ts
written_took told o gs ts all can = record {
  options = can.options;
  rising = sorted_took told gs ts all ∙ can.rising;
  low = low_took told gs ts all can.low;
  filled = filled_took told gs ts all can.filled;
  few = few_took told o gs ts all can.few;
}

-- and with it one more add is there
pub added_to : (tiles : TileSet) (adds : List Add) (i : ℕ) (a : Add) → i < length adds → a ≡ get_or adds i a → All (λ a. a.1 ≢ []) (shown tiles adds) → add_to (take i (shown tiles adds)) a.id (bytes_at tiles a.index) ≡ take (i + 1) (shown tiles adds)
added_to tiles adds i a far at filled =
    ap (λ x. add_to (take i (shown tiles adds)) x.0 x.1) (sym (shown_at tiles adds i a far at))
    ∙ added_at (shown tiles adds) i (a.id, bytes_at tiles a.index) (far_shown tiles adds i far) (filled i (a.id, bytes_at tiles a.index) (far_shown tiles adds i far))

-- a refused add, whose data fits, is a fault or running out of memory
pub add_refused : {A : Type 0} (size : ℕ) (fits : Type 0) (start before now : ℕ) (failed : Bool) (e : PmtError) (r : Result A PmtError) → failed ≡ false → fits → start ≤ before → AddCauses compression.None failed size fits before now (Err e) → IsErrAnd r (λ x. x ≡ e) → WriteCauses {A = A} start now r
add_refused size fits start before now failed e (Ok x) alive fit order cause is = tt
add_refused size fits start before now failed e (Err x) alive fit order cause is = subst IsWriteError (sym is) (by_case e cause)
  where
    IsWriteError : PmtError → Type 0
    IsWriteError e = WriteCauses {A = Unit {0}} start now (Err e)

    by_case : (e : PmtError) → AddCauses compression.None failed size fits before now (Err e) → IsWriteError e
    by_case errors.Failed c = absurd (cc)
    by_case (errors.UnsupportedCompression refused) c = absurd (c.2 refl)
    by_case errors.IndexEntryOverflow c = absurd (c.2 fit)
    by_case (errors.Reading causes.Fault) c = omega (arith, order, c.4)
    by_case errors.OutOfMemory c = tt
    by_case _ c = absurd c

-- a finished archive of few adds: a fault, or running out of memory
pub finish_refused : {A : Type 0} (o : Options) (adds : List (ℕ × List ℕ)) (start before now : ℕ) (failed : Bool) (r : Result A PmtError) → failed ≡ false → CanBeWritten o adds → start ≤ before → FinishCauses o adds failed before now r → WriteCauses start now r
finish_refused o adds start before now failed (Ok x) alive can order c = tt
finish_refused o adds start before now failed (Err errors.Failed) alive can order c = absurd (cc)
finish_refused o adds start before now failed (Err (errors.OverlappingEntries id)) alive can order c = absurd (omega (arith, c.1.twice, adds_distinct adds can.rising id))
finish_refused o adds start before now failed (Err errors.IndexEntryOverflow) alive can order c = absurd (c.2 (archive_fits o adds can.options can.few))
finish_refused o adds start before now failed (Err (errors.Reading causes.Fault)) alive can order c = omega (arith, order, c.2)
finish_refused o adds start before now failed (Err errors.OutOfMemory) alive can order c = tt
finish_refused o adds start before now failed (Err _) alive can order c = absurd c

-- the places of a finished archive are those of what its adds were taken for
pub placed : (told : Option (List ℕ)) (o : Options) (gs ts : List (ℕ × List ℕ)) (r : Result ArchivePlaces PmtError) → TookAll told gs ts → IfOk r (λ p. p ≡ places_of o ts) → IfOk r (λ p. (taken : List (ℕ × List ℕ)) × TookAll told gs taken × (p ≡ places_of o taken))
placed told o gs ts (Ok p) all is = (ts, all, is)
placed told o gs ts (Err e) all is = tt

-- the count of faults after a call behind others, where it succeeds
pub at_ok : {A : Type 0} (before mid now : ℕ) (r : Result A PmtError) → mid ≡ before → FaultsStand mid now r → OnOk r (now ≡ before)
at_ok before mid now (Ok x) same h = h ∙ same
at_ok before mid now (Err e) same h = tt
