-- The tiles of runs in order, each from its source, added to an archive that is begun.
use Rattle.std.specs.Prelude.{◌≡◌, ◌≢◌, ◌⊎◌, ◌+◌, ◌≤◌, ◌<◌, ℕ, List, [], ◌∷◌, get_or, length, slice_get, slice_index, Option, Some, None, Result, Ok, Err, IfSome}
use Rattle.pm_format.specs.declared.error.PmtError.TheVariants as errors
use Rattle.pm_format.specs.declared.error.ReadCause.TheVariants as causes
use Rattle.tile_extract.specs.declared.error.ExtractError.{ExtractError}
use Rattle.tile_extract.specs.declared.error.ExtractError.TheVariants as extract
use Rattle.tile_join.specs.Common.{Adds, archive, ArchiveFits, ArchivePlaces, Header, ids_of, IsArchivable, IsHidden, Options, places_of, PmtError, put_all, PutsAll, range_of, Rises, Rose, Took, WriterState, Writes}
use Rattle.tile_join.specs.declared.error.JoinError.{JoinError}
use Rattle.tile_join.specs.declared.error.JoinError.TheVariants.{Archive, IndexEntryOverflow, MediumFault, OutOfMemory}
use Rattle.tile_join.specs.declared.piece.Piece.{Piece}

-- the contents of a run, where its source has them: in the bytes of sources with these headers
abbrev pub look_in : List ℕ → Piece → Option Header → Option (List ℕ)
look_in b p None = None
look_in b p (Some h) = range_of b (h.data_offset + p.entry.offset) p.entry.length

abbrev pub looked : List Header → List (List ℕ) → Piece → Option (List ℕ)
looked hs bs p = look_in (get_or bs p.source []) p (slice_get hs p.source)

-- they are read, or they pass the end
abbrev pub as_read : Option (List ℕ) → Result (List ℕ) PmtError
as_read None = Err (errors.Reading causes.PastEnd)
as_read (Some bytes) = Ok bytes

abbrev pub past_end : Piece → JoinError
past_end p = Archive p.source (errors.Reading causes.PastEnd)

-- how many tiles runs have
abbrev pub piece_count : List Piece → ℕ
piece_count [] = 0
piece_count (p ∷ ps) = p.entry.run_length + piece_count ps

-- the contents of each run, at its ids
abbrev pub put_next : (Adds → Result Adds JoinError) → Result Adds ExtractError → Result Adds JoinError
put_next f (Ok done) = f done
put_next f (Err e) = Err IndexEntryOverflow

abbrev pub put_pieces : Options → List Header → List (List ℕ) → List Piece → Adds → Result Adds JoinError
put_pieces o hs bs [] done = Ok done
put_pieces o hs bs (p ∷ ps) done = elim (looked hs bs p) [
  | None ↦ Err (past_end p)
  | Some bytes ↦ put_next (put_pieces o hs bs ps) (put_all o bytes done (ids_of p.entry))
]

-- The same where each of the data is taken for some data: what putting contents at ids may come to.
abbrev pub PutsNext : (Adds → Type 0) → Result Adds JoinError → Result Adds ExtractError → Type 0
PutsNext next r (Ok done) = next done
PutsNext next r (Err e) = r ≡ Err IndexEntryOverflow

abbrev pub PutsFound : (List ℕ → Type 0) → Piece → Result Adds JoinError → Option (List ℕ) → Type 0
PutsFound next p r None = r ≡ Err (past_end p)
PutsFound next p r (Some bytes) = next bytes

abbrev pub PutsPieces : (List ℕ → List ℕ → Type 0) → Options → List Header → List (List ℕ) → List Piece → Adds → Result Adds JoinError → Type 0
PutsPieces takes o hs bs [] done r = r ≡ Ok done
PutsPieces takes o hs bs (p ∷ ps) done r =
    PutsFound (λ bytes. (mid : Result Adds ExtractError) × PutsAll takes o bytes done (ids_of p.entry) mid × PutsNext (λ more. PutsPieces takes o hs bs ps more r) r mid) p r (looked hs bs p)

-- What runs come to on a medium: one result where it tells its bytes, and else that of some data of the same lengths,
-- for which the contents are taken.
abbrev pub ComesTo : Option (List ℕ) → Options → List Header → List (List ℕ) → List Piece → Result Adds JoinError → Type 0
ComesTo (Some held) o hs bs ps r = put_pieces o hs bs ps [] ≡ r
ComesTo None o hs bs ps r = PutsPieces (Took None) o hs bs ps [] r

-- Over told bytes of all sources: a refusal is that of the runs. A fault may come in its place, and a wrong number of
-- bytes never does.
abbrev pub PiecesRefuse : (Result Adds JoinError → Type 0) → JoinError → Type 0
PiecesRefuse comes (Archive k (errors.Reading causes.Fault)) = Unit {0}
PiecesRefuse comes (Archive k (errors.UnexpectedNumberOfBytesReturned asked got)) = ⊥
PiecesRefuse comes (Archive k e) = comes (Err (Archive k e))
PiecesRefuse comes IndexEntryOverflow = comes (Err IndexEntryOverflow)
PiecesRefuse comes MediumFault = Unit {0}
PiecesRefuse comes OutOfMemory = Unit {0}
PiecesRefuse comes e = ⊥

-- what adding runs leaves: adds that they come to, where the sources tell, and in any case such as rise
pub record PiecesAdded (o : Options) (hs : List Header) (sources : Option (List (List ℕ))) (ps : List Piece) (told : Option (List ℕ)) (s : WriterState) : Type 0 where
  pub more : Adds
  pub writes : Writes o told s more
  pub rises : Rises 0 more
  pub few : length more ≤ piece_count ps
  pub are : IfSome sources (λ bs. ComesTo told o hs bs ps (Ok more))

abbrev pub PiecesPut : Options → List Header → Option (List (List ℕ)) → List Piece → Option (List ℕ) → WriterState → Result Unit JoinError → Type 0
PiecesPut o hs sources ps told s (Ok x) = PiecesAdded o hs sources ps told s
PiecesPut o hs sources ps told s (Err e) = IfSome sources (λ bs. PiecesRefuse (ComesTo told o hs bs ps) e)

-- bytes that are the archive of the adds of runs
pub record IsArchiveOf (o : Options) (hs : List Header) (sources : Option (List (List ℕ))) (ps : List Piece) (whole : List ℕ) : Type 0 where
  pub adds : Adds
  pub rises : Rises 0 adds
  pub few : length adds ≤ piece_count ps
  pub one : whole ≡ archive o adds
  pub are : IfSome sources (λ bs. put_pieces o hs bs ps [] ≡ Ok adds)

-- no part of it is shown
abbrev pub ShowsNone : Options → List Header → Option (List (List ℕ)) → List Piece → List ℕ → Type 0
ShowsNone o hs sources ps b = IsHidden b ⊎ IsArchiveOf o hs sources ps b

-- what writing runs comes to
pub record IsWritten (o : Options) (hs : List Header) (sources : Option (List (List ℕ))) (ps : List Piece) (told : Option (List ℕ)) (p : ArchivePlaces) : Type 0 where
  pub adds : Adds
  pub rises : Rises 0 adds
  pub few : length adds ≤ piece_count ps
  pub fits : IsArchivable o adds
  pub one : IfSome told (λ b. b ≡ archive o adds)
  pub places : p ≡ places_of o adds
  pub are : IfSome sources (λ bs. ComesTo told o hs bs ps (Ok adds))

-- the data of runs would end past u64, or their archive doesn't fit
abbrev pub PiecesOverflow : Option (List ℕ) → Options → List Header → List Piece → List (List ℕ) → Type 0
PiecesOverflow told o hs ps bs = ComesTo told o hs bs ps (Err IndexEntryOverflow) ⊎ ((adds : Adds) × ComesTo told o hs bs ps (Ok adds) × (ArchiveFits o adds → ⊥))

abbrev pub WritesPieces : Options → List Header → Option (List (List ℕ)) → List Piece → Option (List ℕ) → Result ArchivePlaces JoinError → Type 0
WritesPieces o hs sources ps told (Ok p) = IsWritten o hs sources ps told p
WritesPieces o hs sources ps told (Err IndexEntryOverflow) = IfSome sources (PiecesOverflow told o hs ps)
WritesPieces o hs sources ps told (Err (Archive k e)) = IfSome sources (λ bs. PiecesRefuse (ComesTo told o hs bs ps) (Archive k e)) × IfSome told IsHidden
WritesPieces o hs sources ps told (Err e) = Unit {0}

-- Told or not, why: a fault of a source or the medium comes where its count of faults rose, other numbers of bytes only
-- where they differ, and no other refusal comes.
abbrev pub ReadFails : ℕ → ℕ → PmtError → Type 0
ReadFails before now (errors.Reading causes.Fault) = Rose before now
ReadFails before now (errors.Reading causes.PastEnd) = Unit {0}
ReadFails before now (errors.UnexpectedNumberOfBytesReturned asked got) = asked ≢ got
ReadFails before now e = ⊥

abbrev pub WriteCauses : {A : Type 0} → List ℕ → List ℕ → ℕ → ℕ → Result A JoinError → Type 0
WriteCauses before now old new (Ok x) = Unit {0}
WriteCauses before now old new (Err (Archive k e)) = (k < length before) × ReadFails (slice_index before k) (slice_index now k) e
WriteCauses before now old new (Err IndexEntryOverflow) = Unit {0}
WriteCauses before now old new (Err MediumFault) = Rose old new
WriteCauses before now old new (Err OutOfMemory) = Unit {0}
WriteCauses before now old new (Err e) = ⊥

-- the join's words for a refusal of the writer, and for one of its adds
abbrev pub of_write_error : PmtError → JoinError
of_write_error errors.OutOfMemory = OutOfMemory
of_write_error errors.IndexEntryOverflow = IndexEntryOverflow
of_write_error e = MediumFault

abbrev pub of_add_error : ExtractError → JoinError
of_add_error extract.IndexEntryOverflow = IndexEntryOverflow
of_add_error extract.MediumFault = MediumFault
of_add_error e = OutOfMemory

-- what is read of one run
abbrev pub PieceCauses : {A : Type 0} → Piece → List ℕ → List ℕ → Result A JoinError → Type 0
PieceCauses p before now (Ok x) = Unit {0}
PieceCauses p before now (Err (Archive k e)) = (k ≡ p.source) × ReadFails (slice_index before k) (slice_index now k) e
PieceCauses p before now (Err OutOfMemory) = Unit {0}
PieceCauses p before now (Err e) = ⊥

abbrev pub PieceRead : Option (List ℕ) → Piece → Result (List ℕ) JoinError → Type 0
PieceRead range p (Ok bytes) = range ≡ Some bytes
PieceRead range p (Err (Archive k (errors.Reading causes.Fault))) = Unit {0}
PieceRead range p (Err (Archive k (errors.Reading causes.PastEnd))) = (k ≡ p.source) × (range ≡ None)
PieceRead range p (Err OutOfMemory) = Unit {0}
PieceRead range p (Err e) = ⊥
