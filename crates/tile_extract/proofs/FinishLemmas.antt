-- The archive of parts, finished or refused.
use Rattle.tile_extract.proofs.Common.{adds_distinct, archive, ArchivePlaces, arith, Bool, ComesTo, Entry, Err, false, FinishCauses, Header, IfSome, inl, inr, is_some, IsHiddenOr}
use Rattle.tile_extract.proofs.Common.{IsWritten, List, None, of_write_error, Ok, one_told, Option, Options, PartsAdded, PartsOverflow, places_of, PmtError, ShowsNone, Some, sym}
use Rattle.tile_extract.proofs.Common.{true≢false, WriteCauses, WriterState, WritesParts, ℕ, ◌∙◌, ◌≡◌, ◌≤◌}
use Rattle.pm_format.specs.declared.error.PmtError.TheVariants as errors
use Rattle.pm_format.specs.declared.error.ReadCause.TheVariants as causes
use Rattle.tile_extract.proofs.AddedLemmas.{sorted_by}
use Rattle.tile_extract.proofs.PartsLemmas.{comes_as}

-- an archive that is finished, or not
pub finished : (o : Options) (h : Header) (source : Option (List ℕ)) (ps : List Entry) (mid told : Option (List ℕ)) (s : WriterState) (failed : Bool) (before now : ℕ) (p : ArchivePlaces) (a : PartsAdded o h source ps mid s) → is_some told ≡ is_some mid
    → IfSome told (λ b. b ≡ archive o a.more) → p ≡ places_of o a.more → FinishCauses o a.more failed before now (Ok p) → IsWritten o h source ps told p
finished o h source ps mid told s failed before now p a same one places c = record {
  adds = a.more;
  rises = a.rises;
  ids = a.ids;
  fits = c.1;
  one = one;
  places = places;
  are = one_told (λ b. ComesTo mid o h b ps (Ok a.more)) (λ b. ComesTo told o h b ps (Ok a.more)) source (λ b is. comes_as mid told o h b ps (Ok a.more) same is) a.are;
}

pub finish_shows : (o : Options) (h : Header) (source : Option (List ℕ)) (ps : List Entry) (mid told : Option (List ℕ)) (s : WriterState) (a : PartsAdded o h source ps mid s) → is_some told ≡ is_some mid → IfSome told (IsHiddenOr (archive o a.more)) → IfSome told (ShowsNone o h source ps)
finish_shows o h source ps mid told s a same shown = by_told told (one_told (λ b. ComesTo mid o h b ps (Ok a.more)) (λ b. ComesTo told o h b ps (Ok a.more)) source (λ b is. comes_as mid told o h b ps (Ok a.more) same is) a.are) shown
  where
    by_told : (told : Option (List ℕ)) → IfSome source (λ b. ComesTo told o h b ps (Ok a.more)) → IfSome told (IsHiddenOr (archive o a.more)) → IfSome told (ShowsNone o h source ps)
    by_told None are shown = tt
    by_told (Some b) are shown = elim shown [ inl hidden ↦ inl hidden | inr whole ↦ inr (record { adds = a.more; rises = a.rises; ids = a.ids; one = whole; are = are }) ]

pub finish_refused : (o : Options) (h : Header) (source : Option (List ℕ)) (ps : List Entry) (mid told : Option (List ℕ)) (s : WriterState) (failed : Bool) (before now : ℕ) (e : PmtError) (a : PartsAdded o h source ps mid s) → is_some told ≡ is_some mid → failed ≡ false
    → FinishCauses {A = ArchivePlaces} o a.more failed before now (Err e) → WritesParts o h source ps told (Err (of_write_error e))
finish_refused o h source ps mid told s failed before now errors.Failed a same alive c = tt
finish_refused o h source ps mid told s failed before now (errors.OverlappingEntries id) a same alive c = tt
finish_refused o h source ps mid told s failed before now errors.IndexEntryOverflow a same alive c = one_told (λ b. ComesTo mid o h b ps (Ok a.more)) (PartsOverflow told o h ps) source (λ b is. inr (a.more, comes_as mid told o h b ps (Ok a.more) same is, c.2)) a.are
finish_refused o h source ps mid told s failed before now (errors.Reading causes.Fault) a same alive c = tt
finish_refused o h source ps mid told s failed before now errors.OutOfMemory a same alive c = tt
finish_refused o h source ps mid told s failed before now e a same alive c = absurd c

pub finish_causes : (o : Options) (h : Header) (source : Option (List ℕ)) (ps : List Entry) (mid : Option (List ℕ)) (s : WriterState) (failed : Bool) (first last old before now : ℕ) (e : PmtError) (a : PartsAdded o h source ps mid s) → failed ≡ false → old ≤ before
    → FinishCauses {A = ArchivePlaces} o a.more failed before now (Err e) → WriteCauses {A = ArchivePlaces} first last old now (Err (of_write_error e))
finish_causes o h source ps mid s failed first last old before now errors.Failed a alive le c = absurd (true≢false (sym c ∙ alive))
finish_causes o h source ps mid s failed first last old before now (errors.OverlappingEntries id) a alive le c = absurd (omega (arith, c.1.twice, adds_distinct a.more (sorted_by 0 a.more a.rises) id))
finish_causes o h source ps mid s failed first last old before now errors.IndexEntryOverflow a alive le c = tt
finish_causes o h source ps mid s failed first last old before now (errors.Reading causes.Fault) a alive le c = omega (arith, le, c.2)
finish_causes o h source ps mid s failed first last old before now errors.OutOfMemory a alive le c = tt
finish_causes o h source ps mid s failed first last old before now e a alive le c = absurd c
