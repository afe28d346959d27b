-- The archive of the parts of a source, finished or refused.
use Rattle.tile_extract.proofs.Common.{Added, Adds, PartAnswers, ap, Archive, archive, archive_map, ArchivePlaces, AreAt, AreKept, arith, both_told, canon_is, ComesTo, TilePart, covering, cut, Due}
use Rattle.tile_extract.proofs.Common.{entries_sorted, Entry, Err, ExtractError, find, from_entries, get, get-from_entries, Header, held, IfSome, IndexEntryOverflow, inl, inr, IntoBytes}
use Rattle.tile_extract.proofs.Common.{IntoLeaves, is_some, IsCollected, IsDone, IsExtract, IsHidden, IsLate, IsWritten, PartUncompared, length, List, MayBeTile, MediumFault, nat_cmp, nat_cmp_total}
use Rattle.tile_extract.proofs.Common.{None, Ok, one_told, Option, Options, part_options, options_of, options_opened, options_with, OutOfMemory, Overflows, PartsOverflow, PartsRefuse, places_read}
use Rattle.tile_extract.proofs.Common.{PmtError, put_parts, refl, Result, Rises, ShowsNone, ShowsNoPart, Some, sorted_formed, subst, sym, tile_found, tile_in, true, walked, Within, WriteCauses}
use Rattle.tile_extract.proofs.Common.{WritesParts, ℕ, [], ◌∙◌, ◌≡◌}
use Rattle.pm_format.specs.declared.error.PmtError.TheVariants as errors
use Rattle.pm_format.specs.declared.error.ReadCause.TheVariants as causes
use Rattle.pm_format.specs.WellFormed.{WellFormed}
use Rattle.pm_writer.proofs.PlacesRead.{places_are}
use Rattle.tile_extract.proofs.AddedLemmas.{sorted_by}
use Rattle.tile_extract.proofs.CutLemmas.{cut_held}
use Rattle.tile_extract.proofs.LyingLemmas.{found_lies}
use Rattle.tile_extract.proofs.PartsLemmas.{comes_as}
use Rattle.tile_extract.proofs.PlanLemmas.{Found, source_of}
use Rattle.tile_extract.proofs.TileLemmas.{all_held, put_is}

-- what is found of a source, and the parts of its tiles
pub record Planned (part : TilePart) (most : ℕ) (h : Header) (es : List Entry) (text : List ℕ) (ps : List Entry) (b : List ℕ) : Type 0 where
  pub found : Found b h es text
  pub collected : IsCollected (walked Within 6 h b part.intervals 0 None es) part.intervals most ps

module _ (part : TilePart) (most : ℕ) (h : Header) (es : List Entry) (text : List ℕ) (ps : List Entry) where
  -- the options of the new archive
  abbrev opts : Options
  opts = part_options h text part

  abbrev due_of : (b : List ℕ) → Planned part most h es text ps b → Due b part most
  due_of b p = record { source = source_of b h es text p.found; fine = p.collected.fine; few = p.collected.few }

  added_as : (told held : Option (List ℕ)) (b : List ℕ) (p : Planned part most h es text ps b) (r : Result Adds ExtractError) → is_some held ≡ is_some told → ComesTo told opts h b ps r → Added held b part most (due_of b p) r
  added_as told held b p r same is = subst (λ l. ComesTo held opts h b l r) p.collected.are (comes_as told held opts h b ps r same is)

  -- the options and the tiles of a source
  abbrev IsOf : Options → Adds → List ℕ → Type 0
  IsOf o adds s = (options_of s part ≡ Some o) × ((id : ℕ) → find nat_cmp id adds ≡ cut (archive_map s) part id)

  is_of : (b : List ℕ) (adds : Adds) → AreKept part.intervals most ps → Planned part most h es text ps b → put_parts opts h b ps [] ≡ Ok adds → IsOf opts adds b
  is_of b adds order p is = (
    ap (options_opened b part) p.found.opens ∙ ap (options_with h part) p.found.metadata,
    λ id. sym (tile_found adds id) ∙ ap (λ l. tile_in l id) (put_is opts h b ps [] adds is) ∙ all_held h b ps id order.ordered ∙ ap (λ l. held h b (covering id l)) p.collected.are ∙ sym (cut_held b (h, es) part id p.found.opens p.collected.fine),
  )

  told_of : (source : Option (List ℕ)) (adds : Adds) → AreKept part.intervals most ps → IfSome source (Planned part most h es text ps) → IfSome source (λ b. put_parts opts h b ps [] ≡ Ok adds) → IfSome source (IsOf opts adds)
  told_of source adds order p is = both_told (Planned part most h es text ps) (λ b. put_parts opts h b ps [] ≡ Ok adds) (IsOf opts adds) source source refl (λ b plan put. is_of b adds order plan put) p is

  is_extract : (source : Option (List ℕ)) (adds : Adds) (w : List ℕ) → AreKept part.intervals most ps → Rises 0 adds → AreAt ps adds → IfSome source (IsOf opts adds) → w ≡ archive opts adds → IsExtract source part most w
  is_extract source adds w kept rises at of is =
      let has : (id : ℕ) → get (from_entries {R = nat_cmp} adds) id ≡ find nat_cmp id adds = λ id. get-from_entries nat_cmp_total adds id in
      record {
        options = opts;
        least = refl;
        greatest = refl;
        tiles = from_entries adds;
        few = omega (arith, at.few, kept.few, ap length (entries_sorted adds (sorted_by 0 adds rises)));
        within = λ id bytes found. found_lies part.intervals adds id bytes (at.within part.intervals kept.within) (sym (has id) ∙ found);
        one = is ∙ canon_is opts adds (from_entries adds) (sorted_by 0 adds rises) has;
        of = one_told (IsOf opts adds) (λ s. (options_of s part ≡ Some opts) × ((id : ℕ) → get (from_entries {R = nat_cmp} adds) id ≡ cut (archive_map s) part id)) source (λ s p. (p.0, λ id. has id ∙ p.1 id)) of;
      }

  -- an archive that is finished
  done_bytes : (source : Option (List ℕ)) (p : ArchivePlaces) (b : List ℕ) → AreKept part.intervals most ps → IfSome source (Planned part most h es text ps) → (w : IsWritten opts h source ps (Some b) p) → b ≡ archive opts w.adds → IsDone source part most p b
  unfolding is_extract
  done_bytes source p b order plan w is = record {
    extract = is_extract source w.adds b order w.rises w.ids (told_of source w.adds order plan w.are) is;
    formed = subst (λ x. WellFormed x opts true) (sym is) (sorted_formed opts w.adds w.fits (sorted_by 0 w.adds w.rises));
    places = ap places_read is ∙ places_are opts w.adds w.fits ∙ ap Some (sym w.places);
  }

  done_answers : (source told held : Option (List ℕ)) (p : ArchivePlaces) → is_some held ≡ is_some told → IfSome source (Planned part most h es text ps) → IsWritten opts h source ps told p → IfSome source (λ b. PartAnswers held b part most (Ok p))
  done_answers source told held p tells plan w =
      both_told (Planned part most h es text ps) (λ b. ComesTo told opts h b ps (Ok w.adds)) (λ b. PartAnswers held b part most (Ok p)) source source refl
      (λ b l put. record { due = due_of b l; adds = w.adds; are = added_as told held b l (Ok w.adds) tells put; fits = w.fits; places = w.places }) plan w.are

  -- one that isn't
  is_late : (told held : Option (List ℕ)) (b : List ℕ) (e : PmtError) → is_some held ≡ is_some told → Planned part most h es text ps b → PartsRefuse (ComesTo told opts h b ps) (Archive e) → IsLate held b part most e
  is_late told held b (errors.Reading causes.Fault) tells p is = tt
  is_late told held b (errors.UnexpectedNumberOfBytesReturned asked got) tells p is = is
  is_late told held b e tells p is = (due_of b p, added_as told held b p (Err (Archive e)) tells is)

  late_overflow : (told held : Option (List ℕ)) (b : List ℕ) → is_some held ≡ is_some told → Planned part most h es text ps b → PartsOverflow told opts h ps b → Overflows held b part most
  late_overflow told held b tells p (inl is) = (due_of b p, inl (added_as told held b p (Err IndexEntryOverflow) tells is))
  late_overflow told held b tells p (inr is) = (due_of b p, inr (is.0, added_as told held b p (Ok is.0) tells is.1, is.2))

  lates : (source told held : Option (List ℕ)) (e : PmtError) → is_some held ≡ is_some told → IfSome source (Planned part most h es text ps) → IfSome source (λ b. PartsRefuse (ComesTo told opts h b ps) (Archive e)) → IfSome source (λ b. IsLate held b part most e)
  lates source told held e tells p is =
      both_told (Planned part most h es text ps) (λ b. PartsRefuse (ComesTo told opts h b ps) (Archive e)) (λ b. IsLate held b part most e) source source refl (λ b l r. is_late told held b e tells l r) p is

  late_answers : (source told held : Option (List ℕ)) (first now old new : ℕ) (x : ExtractError) → is_some held ≡ is_some told → IfSome source (Planned part most h es text ps) → WriteCauses {A = ArchivePlaces} first now old new (Err x) → WritesParts opts h source ps told (Err x)
      → IfSome source (λ b. PartAnswers held b part most (Err x))
  late_answers source told held first now old new (Archive e) tells p cause is = one_told (λ b. IsLate held b part most e) (λ b. PartAnswers held b part most (Err (Archive e))) source (λ b l. inr l) (lates source told held e tells p is.0)
  late_answers source told held first now old new IndexEntryOverflow tells p cause is =
      both_told (Planned part most h es text ps) (PartsOverflow told opts h ps) (λ b. PartAnswers held b part most (Err IndexEntryOverflow)) source source refl (λ b l o. late_overflow told held b tells l o) p is
  late_answers source told held first now old new MediumFault tells p cause is = one_told (Planned part most h es text ps) (λ b. PartAnswers held b part most (Err MediumFault)) source (λ b l. tt) p
  late_answers source told held first now old new OutOfMemory tells p cause is = one_told (Planned part most h es text ps) (λ b. PartAnswers held b part most (Err OutOfMemory)) source (λ b l. tt) p
  late_answers source told held first now old new x tells p cause is = absurd cause

  -- what is refused once the archive is begun is a tile
  tile_error : (first now old new : ℕ) (e : PmtError) → WriteCauses {A = ArchivePlaces} first now old new (Err (Archive e)) → MayBeTile e
  tile_error first now old new (errors.Reading causes.Fault) cause = tt
  tile_error first now old new (errors.Reading causes.PastEnd) cause = tt
  tile_error first now old new (errors.UnexpectedNumberOfBytesReturned asked got) cause = tt
  tile_error first now old new e cause = absurd cause

  late_uncompared : (source told held : Option (List ℕ)) (first now old new before after : ℕ) (x : ExtractError) → is_some held ≡ is_some told → IfSome source (Planned part most h es text ps) → WriteCauses {A = ArchivePlaces} first now old new (Err x)
      → WritesParts opts h source ps told (Err x) → PartUncompared source held part most before after (Err x)
  late_uncompared source told held first now old new before after (Archive e) tells p cause is = inr (tile_error first now old new e cause, lates source told held e tells p is.0)
  late_uncompared source told held first now old new before after IndexEntryOverflow tells p cause is = tt
  late_uncompared source told held first now old new before after MediumFault tells p cause is = tt
  late_uncompared source told held first now old new before after OutOfMemory tells p cause is = tt
  late_uncompared source told held first now old new before after x tells p cause is = absurd cause

  no_part : (source : Option (List ℕ)) (b : List ℕ) → AreKept part.intervals most ps → IfSome source (Planned part most h es text ps) → ShowsNone opts h source ps b → ShowsNoPart source part most b
  no_part source b order p (inl hidden) = inl hidden
  no_part source b order p (inr a) = inr (is_extract source a.adds b order a.rises a.ids (told_of source a.adds order p a.are) a.one)

  late_hidden : (source told : Option (List ℕ)) (e : PmtError) → MayBeTile e → IfSome source (Planned part most h es text ps) → IfSome source (λ b. PartsRefuse (ComesTo told opts h b ps) (Archive e)) → IfSome told IsHidden → IntoLeaves source part most (Err (Archive e)) told
  late_hidden source None e tile p is hidden = tt
  late_hidden source (Some b) e tile p is hidden = inr (tile, lates source (Some b) (Some b) e refl p is, hidden)

  late_leaves : (source told : Option (List ℕ)) (first now old new : ℕ) (x : ExtractError) → AreKept part.intervals most ps → IfSome source (Planned part most h es text ps) → WriteCauses {A = ArchivePlaces} first now old new (Err x) → WritesParts opts h source ps told (Err x)
      → IfSome told (ShowsNone opts h source ps) → IntoLeaves source part most (Err x) told
  late_leaves source told first now old new (Archive e) order p cause is shown = late_hidden source told e (tile_error first now old new e cause) p is.0 is.1
  late_leaves source told first now old new IndexEntryOverflow order p cause is shown = one_told (ShowsNone opts h source ps) (IntoBytes source part most (Err IndexEntryOverflow)) told (λ b s. no_part source b order p s) shown
  late_leaves source told first now old new MediumFault order p cause is shown = one_told (ShowsNone opts h source ps) (IntoBytes source part most (Err MediumFault)) told (λ b s. no_part source b order p s) shown
  late_leaves source told first now old new OutOfMemory order p cause is shown = one_told (ShowsNone opts h source ps) (IntoBytes source part most (Err OutOfMemory)) told (λ b s. no_part source b order p s) shown
  late_leaves source told first now old new x order p cause is shown = absurd cause

  -- the same in the words of the code: the options, and what the source tells later
  pub ok_answers : (source again told held : Option (List ℕ)) (o : Options) (p : ArchivePlaces) → o ≡ opts → again ≡ source → is_some held ≡ is_some told → IfSome source (Planned part most h es text ps) → WritesParts o h again ps told (Ok p) → IfSome source (λ b. PartAnswers held b part most (Ok p))
  ok_answers source again told held o p same kept tells plan w = done_answers source told held p tells plan (subst (λ s. IsWritten opts h s ps told p) kept (subst (λ q. IsWritten q h again ps told p) same w))

  pub ok_leaves : (source again told : Option (List ℕ)) (o : Options) (p : ArchivePlaces) → o ≡ opts → again ≡ source → AreKept part.intervals most ps → IfSome source (Planned part most h es text ps) → WritesParts o h again ps told (Ok p) → IntoLeaves source part most (Ok p) told
  ok_leaves source again told o p same kept order plan w =
      by_told told (subst (λ s. IsWritten opts h s ps told p) kept (subst (λ q. IsWritten q h again ps told p) same w))
    where
      by_told : (told : Option (List ℕ)) → IsWritten opts h source ps told p → IntoLeaves source part most (Ok p) told
      by_told None v = tt
      by_told (Some b) v = done_bytes source p b order plan v v.one

  pub err_answers : (source again told held : Option (List ℕ)) (first now old new : ℕ) (o : Options) (x : ExtractError) → o ≡ opts → again ≡ source → is_some held ≡ is_some told → IfSome source (Planned part most h es text ps) → WriteCauses {A = ArchivePlaces} first now old new (Err x)
      → WritesParts o h again ps told (Err x) → IfSome source (λ b. PartAnswers held b part most (Err x))
  err_answers source again told held first now old new o x same kept tells plan cause w =
      late_answers source told held first now old new x tells plan cause (subst (λ s. WritesParts opts h s ps told (Err x)) kept (subst (λ q. WritesParts q h again ps told (Err x)) same w))

  pub err_leaves : (source again told : Option (List ℕ)) (first now old new : ℕ) (o : Options) (x : ExtractError) → o ≡ opts → again ≡ source → AreKept part.intervals most ps → IfSome source (Planned part most h es text ps) → WriteCauses {A = ArchivePlaces} first now old new (Err x)
      → WritesParts o h again ps told (Err x) → IfSome told (ShowsNone o h again ps) → IntoLeaves source part most (Err x) told
  err_leaves source again told first now old new o x same kept order plan cause w shown =
      late_leaves source told first now old new x order plan cause (subst (λ s. WritesParts opts h s ps told (Err x)) kept (subst (λ q. WritesParts q h again ps told (Err x)) same w))
      (subst (λ s. IfSome told (ShowsNone opts h s ps)) kept (subst (λ q. IfSome told (ShowsNone q h again ps)) same shown))

  pub err_uncompared : (source again told held : Option (List ℕ)) (first now old new before after : ℕ) (o : Options) (x : ExtractError) → o ≡ opts → again ≡ source → is_some held ≡ is_some told → IfSome source (Planned part most h es text ps)
      → WriteCauses {A = ArchivePlaces} first now old new (Err x) → WritesParts o h again ps told (Err x) → PartUncompared source held part most before after (Err x)
  err_uncompared source again told held first now old new before after o x same kept tells plan cause w =
      late_uncompared source told held first now old new before after x tells plan cause (subst (λ s. WritesParts opts h s ps told (Err x)) kept (subst (λ q. WritesParts q h again ps told (Err x)) same w))
