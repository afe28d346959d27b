-- The tiles of parts in order, added to an archive that is begun.
use Rattle.std.specs.Prelude.{◌≡◌, ◌≢◌, ◌⊎◌, ◌+◌, ◌≤◌, ℕ, ◌^◌, Bool, true, false, List, [], ◌∷◌, ◌++◌, length, nat_lt, ◌&&◌, Option, Some, None, Result, Ok, Err, IfSome}
use Rattle.tile_extract.specs.Common.{add_to, AllLieIn, archive, ArchiveFits, ArchivePlaces, data_end, Entry, Header, in_intervals, IsArchivable, IsHidden, Options, places_of, PmtError, range_of}
use Rattle.tile_extract.specs.Common.{Rose, tile_count, Writes}
use Rattle.pm_format.specs.declared.error.PmtError.TheVariants as errors
use Rattle.pm_format.specs.declared.error.ReadCause.TheVariants as causes
use Rattle.pm_writer.specs.Took.{Took}
use Rattle.pm_writer.specs.declared.state.WriterState.{WriterState}
pub use Rattle.pm_walk.specs.Parts.{ids_of}
use Rattle.pm_walk.specs.declared.error.WalkError.{WalkError}
use Rattle.pm_walk.specs.declared.error.WalkError.TheVariants as walk
use Rattle.tile_extract.specs.declared.error.ExtractError.{ExtractError}
use Rattle.tile_extract.specs.declared.error.ExtractError.TheVariants.{Archive, IndexEntryOverflow, MediumFault, OutOfMemory, TooManyTiles}

-- an add is an id and bytes
abbrev pub Adds : Type 0
Adds = List (ℕ × List ℕ)

-- whether bytes can be added: fewer than 2^32, and the data doesn't end past u64
unfoldable pub has_room : Options → Adds → ℕ → List ℕ → Bool
has_room o done id bytes = nat_lt (length bytes) (2 ^ 32) && nat_lt (data_end o (add_to done id bytes)) (2 ^ 64)

-- the same bytes at ids in order
abbrev pub put_all : Options → List ℕ → Adds → List ℕ → Result Adds ExtractError
put_all o bytes done [] = Ok done
put_all o bytes done (id ∷ ids) = elim (has_room o done id bytes) [ true ↦ put_all o bytes (add_to done id bytes) ids | false ↦ Err IndexEntryOverflow ]

abbrev pub put_next : (Adds → Result Adds ExtractError) → Result Adds ExtractError → Result Adds ExtractError
put_next f (Ok done) = f done
put_next f (Err e) = Err e

-- the contents of each part, read where the header says, at its ids
abbrev pub put_parts : Options → Header → List ℕ → List Entry → Adds → Result Adds ExtractError
put_parts o h b [] done = Ok done
put_parts o h b (p ∷ ps) done = elim (range_of b (h.data_offset + p.offset) p.length) [
  | None ↦ Err (Archive (errors.Reading causes.PastEnd))
  | Some bytes ↦ put_next (put_parts o h b ps) (put_all o bytes done (ids_of p))
]

-- The same where each of the data is taken for some data: what putting bytes at ids may come to.
abbrev pub ByRoom : Bool → Type 0 → Type 0 → Type 0
ByRoom true there over = there
ByRoom false there over = over

abbrev pub PutsAll : (List ℕ → List ℕ → Type 0) → Options → List ℕ → Adds → List ℕ → Result Adds ExtractError → Type 0
PutsAll takes o bytes done [] r = r ≡ Ok done
PutsAll takes o bytes done (id ∷ ids) r = (taken : List ℕ) × takes bytes taken × ByRoom (has_room o done id taken) (PutsAll takes o bytes (add_to done id taken) ids r) (r ≡ Err IndexEntryOverflow)

abbrev pub PutsNext : (Adds → Type 0) → Result Adds ExtractError → Result Adds ExtractError → Type 0
PutsNext next r (Ok done) = next done
PutsNext next r (Err e) = r ≡ Err e

abbrev pub PutsFound : (List ℕ → Type 0) → Result Adds ExtractError → Option (List ℕ) → Type 0
PutsFound next r None = r ≡ Err (Archive (errors.Reading causes.PastEnd))
PutsFound next r (Some bytes) = next bytes

abbrev pub PutsParts : (List ℕ → List ℕ → Type 0) → Options → Header → List ℕ → List Entry → Adds → Result Adds ExtractError → Type 0
PutsParts takes o h b [] done r = r ≡ Ok done
PutsParts takes o h b (p ∷ ps) done r =
    PutsFound (λ bytes. (mid : Result Adds ExtractError) × PutsAll takes o bytes done (ids_of p) mid × PutsNext (λ more. PutsParts takes o h b ps more r) r mid) r (range_of b (h.data_offset + p.offset) p.length)

-- What parts come to on a medium: one result where it tells its bytes, and else that of some data of the same lengths,
-- for which the contents are taken.
abbrev pub ComesTo : Option (List ℕ) → Options → Header → List ℕ → List Entry → Result Adds ExtractError → Type 0
ComesTo (Some held) o h b ps r = put_parts o h b ps [] ≡ r
ComesTo None o h b ps r = PutsParts (Took None) o h b ps [] r

-- adds by strictly rising id, from an id on
abbrev pub Rises : ℕ → Adds → Type 0
Rises low [] = Unit {0}
Rises low (a ∷ adds) = (low ≤ a.0) × Rises (a.0 + 1) adds

-- adds by strictly rising id that all end before an id, as do others from there on behind them
abbrev pub EndsBy : Adds → ℕ → Type 0
EndsBy adds end = (more : Adds) → Rises end more → Rises 0 (adds ++ more)

-- What adding the same bytes at ids leaves, each taken for some data. A fault and running out of memory may come in
-- the place of each answer.
abbrev pub Puts : Options → List ℕ → Adds → List ℕ → Option (List ℕ) → WriterState → Result Unit ExtractError → Type 0
Puts o bytes done ids told s (Ok x) = (more : Adds) × PutsAll (Took told) o bytes done ids (Ok more) × Writes o told s more
Puts o bytes done ids told s (Err IndexEntryOverflow) = PutsAll (Took told) o bytes done ids (Err IndexEntryOverflow)
Puts o bytes done ids told s (Err MediumFault) = Unit {0}
Puts o bytes done ids told s (Err OutOfMemory) = Unit {0}
Puts o bytes done ids told s (Err e) = ⊥

-- Over told bytes of the source: a refusal is that of the parts. A fault may come in its place, and a wrong
-- number of bytes never does.
abbrev pub PartsRefuse : (Result Adds ExtractError → Type 0) → ExtractError → Type 0
PartsRefuse comes (Archive (errors.Reading causes.Fault)) = Unit {0}
PartsRefuse comes (Archive (errors.UnexpectedNumberOfBytesReturned asked got)) = ⊥
PartsRefuse comes (Archive e) = comes (Err (Archive e))
PartsRefuse comes IndexEntryOverflow = comes (Err IndexEntryOverflow)
PartsRefuse comes MediumFault = Unit {0}
PartsRefuse comes OutOfMemory = Unit {0}
PartsRefuse comes e = ⊥

-- the ids of adds lie in intervals
abbrev pub AddsLieIn : List (ℕ × ℕ) → Adds → Type 0
AddsLieIn is [] = Unit {0}
AddsLieIn is (a ∷ adds) = (in_intervals a.0 is ≡ true) × AddsLieIn is adds

-- adds at the ids of parts alone, no more than these have
pub record AreAt (ps : List Entry) (adds : Adds) : Type 0 where
  pub few : length adds ≤ tile_count ps
  pub within : (is : List (ℕ × ℕ)) → AllLieIn is ps → AddsLieIn is adds

-- what adding parts leaves: adds that they come to, where the source tells, and in any case such as rise
pub record PartsAdded (o : Options) (h : Header) (source : Option (List ℕ)) (ps : List Entry) (told : Option (List ℕ)) (s : WriterState) : Type 0 where
  pub more : Adds
  pub writes : Writes o told s more
  pub rises : Rises 0 more
  pub ids : AreAt ps more
  pub are : IfSome source (λ b. ComesTo told o h b ps (Ok more))

abbrev pub PartsPut : Options → Header → Option (List ℕ) → List Entry → Option (List ℕ) → WriterState → Result Unit ExtractError → Type 0
PartsPut o h source ps told s (Ok x) = PartsAdded o h source ps told s
PartsPut o h source ps told s (Err e) = IfSome source (λ b. PartsRefuse (ComesTo told o h b ps) e)

-- the extraction's words for a refusal of the writer, and of the reader
abbrev pub of_write_error : PmtError → ExtractError
of_write_error errors.OutOfMemory = OutOfMemory
of_write_error errors.IndexEntryOverflow = IndexEntryOverflow
of_write_error e = MediumFault

abbrev pub of_read_error : PmtError → ExtractError
of_read_error errors.OutOfMemory = OutOfMemory
of_read_error e = Archive e

-- and of a walk that may come to so many tiles
abbrev pub of_walk_error : ℕ → WalkError → ExtractError
of_walk_error most (walk.Archive e) = of_read_error e
of_walk_error most (walk.InvalidTileId id) = Archive (errors.InvalidTileId id)
of_walk_error most (walk.TooDeep id) = Archive (errors.InvalidTileId id)
of_walk_error most walk.TooManyTiles = TooManyTiles most

-- bytes that are the archive of the adds of parts
pub record IsArchiveOf (o : Options) (h : Header) (source : Option (List ℕ)) (ps : List Entry) (whole : List ℕ) : Type 0 where
  pub adds : Adds
  pub rises : Rises 0 adds
  pub ids : AreAt ps adds
  pub one : whole ≡ archive o adds
  pub are : IfSome source (λ b. put_parts o h b ps [] ≡ Ok adds)

-- no part of it is shown
abbrev pub ShowsNone : Options → Header → Option (List ℕ) → List Entry → List ℕ → Type 0
ShowsNone o h source ps b = IsHidden b ⊎ IsArchiveOf o h source ps b

-- what writing parts comes to
pub record IsWritten (o : Options) (h : Header) (source : Option (List ℕ)) (ps : List Entry) (told : Option (List ℕ)) (p : ArchivePlaces) : Type 0 where
  pub adds : Adds
  pub rises : Rises 0 adds
  pub ids : AreAt ps adds
  pub fits : IsArchivable o adds
  pub one : IfSome told (λ b. b ≡ archive o adds)
  pub places : p ≡ places_of o adds
  pub are : IfSome source (λ b. ComesTo told o h b ps (Ok adds))

-- the data of parts would end past u64, or their archive doesn't fit
abbrev pub PartsOverflow : Option (List ℕ) → Options → Header → List Entry → List ℕ → Type 0
PartsOverflow told o h ps b = ComesTo told o h b ps (Err IndexEntryOverflow) ⊎ ((adds : Adds) × ComesTo told o h b ps (Ok adds) × (ArchiveFits o adds → ⊥))

abbrev pub WritesParts : Options → Header → Option (List ℕ) → List Entry → Option (List ℕ) → Result ArchivePlaces ExtractError → Type 0
WritesParts o h source ps told (Ok p) = IsWritten o h source ps told p
WritesParts o h source ps told (Err IndexEntryOverflow) = IfSome source (PartsOverflow told o h ps)
WritesParts o h source ps told (Err (Archive e)) = IfSome source (λ b. PartsRefuse (ComesTo told o h b ps) (Archive e)) × IfSome told IsHidden
WritesParts o h source ps told (Err e) = Unit {0}

-- Told or not, why: a fault of the source or the medium comes where its count of faults rose, other numbers of bytes
-- only where they differ, and no other refusal comes.
abbrev pub WriteCauses : {A : Type 0} → ℕ → ℕ → ℕ → ℕ → Result A ExtractError → Type 0
WriteCauses before now old new (Ok x) = Unit {0}
WriteCauses before now old new (Err (Archive (errors.Reading causes.Fault))) = Rose before now
WriteCauses before now old new (Err (Archive (errors.Reading causes.PastEnd))) = Unit {0}
WriteCauses before now old new (Err (Archive (errors.UnexpectedNumberOfBytesReturned asked got))) = asked ≢ got
WriteCauses before now old new (Err IndexEntryOverflow) = Unit {0}
WriteCauses before now old new (Err MediumFault) = Rose old new
WriteCauses before now old new (Err OutOfMemory) = Unit {0}
WriteCauses before now old new (Err e) = ⊥
