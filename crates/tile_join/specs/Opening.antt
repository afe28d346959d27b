-- What is found before the tiles are written: the sources, the text of the last one, and that they are alike and few.
use Rattle.std.specs.Prelude.{◌≡◌, ◌<◌, ℕ, get_or, List, [], length, slice_get, slice_index, Option, Some, Result, Ok, Err, IfSome}
use Rattle.pm_format.specs.declared.error.PmtError.TheVariants as errors
use Rattle.pm_format.specs.declared.error.ReadCause.TheVariants as causes
use Rattle.pm_reader.specs.declared.state.ReaderState.{ReaderState}
use Rattle.tile_join.specs.Common.{Header, IsEmpty, IsMetadataRefused, IsUtf8, metadata_read, Options, PmtError, ReadCauses, Rose}
use Rattle.tile_join.specs.Gather.{gathered_of}
use Rattle.tile_join.specs.Headers.{options_for}
use Rattle.tile_join.specs.Join.{Due, last_of}
use Rattle.tile_join.specs.declared.error.JoinError.{JoinError}
use Rattle.tile_join.specs.declared.error.JoinError.TheVariants.{Archive, Different, MediumFault, MediumNotEmpty, OutOfMemory, TooManyTiles}
use Rattle.tile_join.specs.declared.piece.Piece.{Piece}

-- the test of the medium, by what it tells and by its counts of faults
abbrev pub MediumTested : Option (List ℕ) → ℕ → ℕ → Result Unit JoinError → Type 0
MediumTested held old new (Ok x) = IsEmpty held
MediumTested held old new (Err (MediumNotEmpty n)) = (0 < n) × IfSome held (λ b. n ≡ length b)
MediumTested held old new (Err MediumFault) = Rose old new
MediumTested held old new (Err e) = ⊥

-- the text of the last of the sources with these headers
pub record IsLastText (bs : List (List ℕ)) (hs : List Header) (text : List ℕ) : Type 0 where
  pub last : Header
  pub lasts : slice_get hs (last_of bs) ≡ Some last
  pub metadata : metadata_read (get_or bs (last_of bs) []) last ≡ Ok text
  pub utf8 : IsUtf8 text

-- or why it isn't read
pub record IsLastRefused (bs : List (List ℕ)) (hs : List Header) (k : ℕ) (e : PmtError) : Type 0 where
  pub number : k ≡ last_of bs
  pub last : Header
  pub lasts : slice_get hs (last_of bs) ≡ Some last
  pub refused : IsMetadataRefused (metadata_read (get_or bs (last_of bs) []) last) e

abbrev pub TextRefused : List (List ℕ) → List Header → JoinError → Type 0
TextRefused bs hs (Archive k (errors.Reading causes.Fault)) = Unit {0}
TextRefused bs hs (Archive k (errors.UnexpectedNumberOfBytesReturned asked got)) = ⊥
TextRefused bs hs (Archive k errors.OutOfMemory) = ⊥
TextRefused bs hs (Archive k e) = IsLastRefused bs hs k e
TextRefused bs hs OutOfMemory = Unit {0}
TextRefused bs hs e = ⊥

abbrev pub TextRead : List (List ℕ) → List Header → Result (List ℕ) JoinError → Type 0
TextRead bs hs (Ok text) = IsLastText bs hs text
TextRead bs hs (Err e) = TextRefused bs hs e

-- told or not, why the last one's text isn't read, by the counts of faults of all
abbrev pub TextCauses : List ℕ → List ℕ → JoinError → Type 0
TextCauses before now (Archive k e) = (k < length before) × ReadCauses (slice_index before k) (slice_index now k) e
TextCauses before now OutOfMemory = Unit {0}
TextCauses before now e = ⊥

-- told or not, why a source or what is found of them all is refused, by the counts of faults of all
abbrev pub PlanCauses : ℕ → List ℕ → List ℕ → JoinError → Type 0
PlanCauses most before now (Archive k e) = (k < length before) × ReadCauses (slice_index before k) (slice_index now k) e
PlanCauses most before now (Different k) = k < length before
PlanCauses most before now (TooManyTiles n) = n ≡ most
PlanCauses most before now OutOfMemory = Unit {0}
PlanCauses most before now e = ⊥

-- what is to be written: by these options, from these readers
pub record IsPlanned (bs : List (List ℕ)) (most : ℕ) (o : Options) (readers : List ReaderState) (pieces : List Piece) : Type 0 where
  pub due : Due bs most
  pub found : due.read.found ≡ gathered_of readers pieces
  pub options : o ≡ options_for due.read.last due.read.found.headers due.read.text
