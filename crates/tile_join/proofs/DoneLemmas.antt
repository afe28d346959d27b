-- The archive of the runs of sources, finished or refused.
use Rattle.tile_join.proofs.Common.{Adds, ap, Archive, archive, ArchivePlaces, arith, canon_is, ComesTo, entries_sorted, Err, gathered, Gathered, gathered_of, Header, header_of, IfSome, IndexEntryOverflow, inl, inr, is_some, IsHidden, IsPlanned, IsWritten}
use Rattle.tile_join.proofs.Common.{JoinError, length, List, map, MediumFault, None, Ok, Option, Options, OutOfMemory, Piece, piece_count, PiecesOverflow, PiecesRefuse, places_read, PmtError, put_pieces, Read, ReaderState, ReadFails, refl, Result, Rises, ShowsNone, slice_index, Some}
use Rattle.tile_join.proofs.Common.{sorted_formed, subst, sym, true, WriteCauses, WritesPieces, ℕ, [], ◌∙◌, ◌≡◌, ◌≤◌}
use Rattle.pm_format.specs.WellFormed.{WellFormed}
use Rattle.pm_format.specs.declared.error.PmtError.TheVariants as errors
use Rattle.pm_format.specs.declared.error.ReadCause.TheVariants as causes
use Rattle.pm_writer.proofs.PlacesRead.{places_are}
use Rattle.std.specs.Cmp.{nat_cmp_total}
use Rattle.std.specs.FinMap.{find, from_entries, get, get-from_entries}
use Rattle.tile_extract.proofs.AddedLemmas.{sorted_by}
use Rattle.tile_join.proofs.PieceLemmas.{comes_as}
use Rattle.tile_join.proofs.SourceLemmas.{if_both, if_told}
use Rattle.tile_join.proofs.Common.{tile_found, ◌+◌}
use Rattle.tile_join.proofs.JoinedLemmas.{sources_tiles}
use Rattle.tile_join.proofs.PutLemmas.{put_spot}
use Rattle.tile_join.specs.Causes.{Uncompared}
use Rattle.tile_join.specs.Common.{ArchiveFits, IsArchivable, MayBeTile, nat_cmp, places_of}
use Rattle.tile_join.specs.Join.{Added, IntoBytes, IntoLeaves, IsDone, IsJoin, IsLate, JoinAnswers, joined, Overflows, read_options, ShowsNoPart}

-- in the words of the code: the options, the readers and the runs that it has, and what the sources tell later
pub as_planned : (P : Options → List Header → Option (List (List ℕ)) → List Piece → Type 0) (source again : Option (List (List ℕ))) (o q : Options) (readers shown : List ReaderState) (ps runs : List Piece) → q ≡ o → shown ≡ readers → runs ≡ ps → again ≡ source
    → P q (map header_of shown) again runs → P o (map header_of readers) source ps
as_planned P source again o q readers shown ps runs same is are tell p =
    subst (λ x. P x (map header_of readers) source ps) same (subst (λ x. P q (map header_of x) source ps) is (subst (λ x. P q (map header_of shown) source x) are (subst (λ x. P q (map header_of shown) x runs) tell p)))

-- the adds of runs are the tiles of the maps, each over those before it
joined_is : (bs : List (List ℕ)) (most : ℕ) (g : Gathered) (o : Options) (adds : Adds) → gathered most bs ≡ Ok g → put_pieces o g.headers bs g.pieces [] ≡ Ok adds → (id : ℕ) → find nat_cmp id adds ≡ joined bs id
joined_is bs most g o adds gathers put id =
    let s = sources_tiles most bs g id gathers in
    sym (tile_found adds id) ∙ put_spot o g.headers bs (0 + length bs) 0 g.pieces adds id (joined bs id) s.ordered put s.tile

module _ (most : ℕ) (o : Options) (readers : List ReaderState) (ps : List Piece) where
  abbrev hs : List Header
  hs = map header_of readers

  abbrev Planned : List (List ℕ) → Type 0
  Planned bs = IsPlanned bs most o readers ps

  added_as : (told held : Option (List ℕ)) (bs : List (List ℕ)) (p : Planned bs) (r : Result Adds JoinError) → is_some held ≡ is_some told → ComesTo told o hs bs ps r → Added held bs most p.due r
  added_as told held bs p r same is =
      subst (λ g. ComesTo held (read_options bs most p.due.read) g.headers bs g.pieces r) (sym p.found) (subst (λ q. ComesTo held q hs bs ps r) p.options (comes_as told held o hs bs ps r same is))

  -- the options and the tiles of sources
  abbrev IsOf : Adds → List (List ℕ) → Type 0
  IsOf adds bs = ((r : Read bs most) × (o ≡ read_options bs most r)) × ((id : ℕ) → find nat_cmp id adds ≡ joined bs id)

  told_of : (source : Option (List (List ℕ))) (adds : Adds) → IfSome source Planned → IfSome source (λ bs. put_pieces o hs bs ps [] ≡ Ok adds) → IfSome source (IsOf adds)
  told_of source adds p is =
      if_both Planned (λ bs. put_pieces o hs bs ps [] ≡ Ok adds) (IsOf adds) source (λ bs plan put. ((plan.due.read, plan.options), joined_is bs most (gathered_of readers ps) o adds (plan.due.read.gathers ∙ ap Ok plan.found) put)) p is

  is_join : (source : Option (List (List ℕ))) (adds : Adds) (w : List ℕ) → piece_count ps ≤ most → Rises 0 adds → length adds ≤ piece_count ps → IfSome source (IsOf adds) → w ≡ archive o adds → IsJoin source most w
  is_join source adds w kept rises few of is =
      let has : (id : ℕ) → get (from_entries {R = nat_cmp} adds) id ≡ find nat_cmp id adds = λ id. get-from_entries nat_cmp_total adds id in
      record {
        options = o;
        tiles = from_entries adds;
        few = omega (arith, few, kept, ap length (entries_sorted adds (sorted_by 0 adds rises)));
        one = is ∙ canon_is o adds (from_entries adds) (sorted_by 0 adds rises) has;
        of = if_told (IsOf adds) (λ bs. ((r : Read bs most) × (o ≡ read_options bs most r)) × ((id : ℕ) → get (from_entries {R = nat_cmp} adds) id ≡ joined bs id)) source (λ bs told p. (p.0, λ id. has id ∙ p.1 id)) of;
      }

  -- an archive that is finished
  done_bytes : (source : Option (List (List ℕ))) (p : ArchivePlaces) (b : List ℕ) → piece_count ps ≤ most → IfSome source Planned → (w : IsWritten o hs source ps (Some b) p) → b ≡ archive o w.adds → IsDone source most p b
  unfolding is_join
  done_bytes source p b kept plan w is = record {
    join = is_join source w.adds b kept w.rises w.few (told_of source w.adds plan w.are) is;
    formed = subst (λ x. WellFormed x o true) (sym is) (sorted_formed o w.adds w.fits (sorted_by 0 w.adds w.rises));
    places = ap places_read is ∙ places_are o w.adds w.fits ∙ ap Some (sym w.places);
  }

  pub done_answers : (told held : Option (List ℕ)) (sources : Option (List (List ℕ))) (p : ArchivePlaces) → is_some held ≡ is_some told → IfSome sources Planned → IsWritten o hs sources ps told p → IfSome sources (λ bs. JoinAnswers held bs most (Ok p))
  done_answers told held sources p tells plan w =
      if_both Planned (λ bs. ComesTo told o hs bs ps (Ok w.adds)) (λ bs. JoinAnswers held bs most (Ok p)) sources
      (λ bs l put. record { due = l.due; adds = w.adds; are = added_as told held bs l (Ok w.adds) tells put; fits = subst (λ q. IsArchivable q w.adds) l.options w.fits; places = w.places ∙ ap (λ q. places_of q w.adds) l.options }) plan w.are

  -- one that isn't
  is_late : (told held : Option (List ℕ)) (bs : List (List ℕ)) (k : ℕ) (e : PmtError) → is_some held ≡ is_some told → Planned bs → PiecesRefuse (ComesTo told o hs bs ps) (Archive k e) → IsLate held bs most k e
  is_late told held bs k (errors.Reading causes.Fault) tells p is = tt
  is_late told held bs k (errors.UnexpectedNumberOfBytesReturned asked got) tells p is = is
  is_late told held bs k e tells p is = (p.due, added_as told held bs p (Err (Archive k e)) tells is)

  late_overflow : (told held : Option (List ℕ)) (bs : List (List ℕ)) → is_some held ≡ is_some told → Planned bs → PiecesOverflow told o hs ps bs → Overflows held bs most
  late_overflow told held bs tells p (inl is) = (p.due, inl (added_as told held bs p (Err IndexEntryOverflow) tells is))
  late_overflow told held bs tells p (inr is) = (p.due, inr (is.0, added_as told held bs p (Ok is.0) tells is.1, λ fits. is.2 (subst (λ q. ArchiveFits q is.0) (sym p.options) fits)))

  lates : (source : Option (List (List ℕ))) (told held : Option (List ℕ)) (k : ℕ) (e : PmtError) → is_some held ≡ is_some told → IfSome source Planned → IfSome source (λ bs. PiecesRefuse (ComesTo told o hs bs ps) (Archive k e)) → IfSome source (λ bs. IsLate held bs most k e)
  lates source told held k e tells p is = if_both Planned (λ bs. PiecesRefuse (ComesTo told o hs bs ps) (Archive k e)) (λ bs. IsLate held bs most k e) source (λ bs l r. is_late told held bs k e tells l r) p is

  pub late_answers : (source : Option (List (List ℕ))) (told held : Option (List ℕ)) (before now : List ℕ) (old new : ℕ) (x : JoinError) → is_some held ≡ is_some told → IfSome source Planned → WriteCauses {A = ArchivePlaces} before now old new (Err x)
      → WritesPieces o hs source ps told (Err x) → IfSome source (λ bs. JoinAnswers held bs most (Err x))
  late_answers source told held before now old new (Archive k e) tells p cause is = if_told (λ bs. IsLate held bs most k e) (λ bs. JoinAnswers held bs most (Err (Archive k e))) source (λ bs at l. inr l) (lates source told held k e tells p is.0)
  late_answers source told held before now old new IndexEntryOverflow tells p cause is =
      if_both Planned (PiecesOverflow told o hs ps) (λ bs. JoinAnswers held bs most (Err IndexEntryOverflow)) source (λ bs l f. late_overflow told held bs tells l f) p is
  late_answers source told held before now old new MediumFault tells p cause is = if_told Planned (λ bs. JoinAnswers held bs most (Err MediumFault)) source (λ bs at l. tt) p
  late_answers source told held before now old new OutOfMemory tells p cause is = if_told Planned (λ bs. JoinAnswers held bs most (Err OutOfMemory)) source (λ bs at l. tt) p
  late_answers source told held before now old new x tells p cause is = absurd cause

  -- what is refused once the archive is begun is a tile
  tile_error : (x y : ℕ) (e : PmtError) → ReadFails x y e → MayBeTile e
  tile_error x y (errors.Reading causes.Fault) cause = tt
  tile_error x y (errors.Reading causes.PastEnd) cause = tt
  tile_error x y (errors.UnexpectedNumberOfBytesReturned asked got) cause = tt
  tile_error x y e cause = absurd cause

  pub late_uncompared : (source : Option (List (List ℕ))) (told held : Option (List ℕ)) (before now : List ℕ) (old new first last : ℕ) (x : JoinError) → is_some held ≡ is_some told → IfSome source Planned → WriteCauses {A = ArchivePlaces} before now old new (Err x)
      → WritesPieces o hs source ps told (Err x) → Uncompared source held most first last (Err x)
  late_uncompared source told held before now old new first last (Archive k e) tells p cause is = inr (tile_error (slice_index before k) (slice_index now k) e cause.1, lates source told held k e tells p is.0)
  late_uncompared source told held before now old new first last IndexEntryOverflow tells p cause is = tt
  late_uncompared source told held before now old new first last MediumFault tells p cause is = tt
  late_uncompared source told held before now old new first last OutOfMemory tells p cause is = tt
  late_uncompared source told held before now old new first last x tells p cause is = absurd cause

  no_part : (source : Option (List (List ℕ))) (b : List ℕ) → piece_count ps ≤ most → IfSome source Planned → ShowsNone o hs source ps b → ShowsNoPart source most b
  no_part source b kept p (inl hidden) = inl hidden
  no_part source b kept p (inr a) = inr (is_join source a.adds b kept a.rises a.few (told_of source a.adds p a.are) a.one)

  late_hidden : (source : Option (List (List ℕ))) (told : Option (List ℕ)) (k : ℕ) (e : PmtError) → MayBeTile e → IfSome source Planned → IfSome source (λ bs. PiecesRefuse (ComesTo told o hs bs ps) (Archive k e)) → IfSome told IsHidden → IntoLeaves source most (Err (Archive k e)) told
  late_hidden source None k e tile p is hidden = tt
  late_hidden source (Some b) k e tile p is hidden = inr (tile, lates source (Some b) (Some b) k e refl p is, hidden)

  pub late_leaves : (source : Option (List (List ℕ))) (told : Option (List ℕ)) (before now : List ℕ) (old new : ℕ) (x : JoinError) → piece_count ps ≤ most → IfSome source Planned → WriteCauses {A = ArchivePlaces} before now old new (Err x)
      → WritesPieces o hs source ps told (Err x) → IfSome told (ShowsNone o hs source ps) → IntoLeaves source most (Err x) told
  late_leaves source told before now old new (Archive k e) kept p cause is shown = late_hidden source told k e (tile_error (slice_index before k) (slice_index now k) e cause.1) p is.0 is.1
  late_leaves source told before now old new IndexEntryOverflow kept p cause is shown = if_told (ShowsNone o hs source ps) (IntoBytes source most (Err IndexEntryOverflow)) told (λ b at s. no_part source b kept p s) shown
  late_leaves source told before now old new MediumFault kept p cause is shown = if_told (ShowsNone o hs source ps) (IntoBytes source most (Err MediumFault)) told (λ b at s. no_part source b kept p s) shown
  late_leaves source told before now old new OutOfMemory kept p cause is shown = if_told (ShowsNone o hs source ps) (IntoBytes source most (Err OutOfMemory)) told (λ b at s. no_part source b kept p s) shown
  late_leaves source told before now old new x kept p cause is shown = absurd cause

  pub done_leaves : (source : Option (List (List ℕ))) (told : Option (List ℕ)) (p : ArchivePlaces) → piece_count ps ≤ most → IfSome source Planned → IsWritten o hs source ps told p → IntoLeaves source most (Ok p) told
  done_leaves source None p kept plan w = tt
  done_leaves source (Some b) p kept plan w = done_bytes source p b kept plan w w.one
