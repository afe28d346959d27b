-- Marks whose contents are read again and added to an archive.
use Rattle.std.specs.Prelude.{ℕ, ◌≡◌, ◌<◌, Bool, true, List, [], ◌∷◌, length, Option, Some, None}
use Rattle.tile_streaming.specs.Common.{add_to, cons_option, is_gzip, Options, Took, TookAll, Writes, WriterState, xxh3_64}
use Rattle.tile_streaming.specs.Stored.{Stored}
use Rattle.tile_streaming.specs.declared.mark.Mark.{Mark}

-- What was read for a mark: bytes of its length, and unless they are none, of its digest, and with its beginning; then
-- they are stored, where that is told.
pub record IsRead (tells : Bool) (stored : Stored) (m : Mark) (bytes : List ℕ) : Type 0 where
  pub size : length bytes ≡ m.length
  pub digest : 0 < m.length → xxh3_64 bytes ≡ m.digest
  pub gzip : 0 < m.length → is_gzip bytes ≡ m.gzip
  pub same : 0 < m.length → tells ≡ true → stored m.id ≡ Some bytes

-- what was read for each of the marks
abbrev pub AreRead : Bool → Stored → List Mark → List (List ℕ) → Type 0
AreRead tells stored [] [] = Unit {0}
AreRead tells stored (m ∷ marks) (bytes ∷ contents) = IsRead tells stored m bytes × AreRead tells stored marks contents
AreRead tells stored _ _ = ⊥

-- the contents have the lengths of the marks
abbrev pub HaveLengths : List Mark → List (List ℕ) → Type 0
HaveLengths [] [] = Unit {0}
HaveLengths (m ∷ marks) (bytes ∷ contents) = (length bytes ≡ m.length) × HaveLengths marks contents
HaveLengths _ _ = ⊥

-- the adds of marks and contents: one for each content of at least one byte
abbrev pub add_for : Mark → List ℕ → Option (ℕ × List ℕ)
add_for m [] = None
add_for m (byte ∷ bytes) = Some (m.id, byte ∷ bytes)

abbrev pub adds_of : List Mark → List (List ℕ) → List (ℕ × List ℕ)
adds_of (m ∷ marks) (bytes ∷ contents) = cons_option (add_for m bytes) (adds_of marks contents)
adds_of _ _ = []

-- Bytes were added under an id: the writer means what they were taken for.
pub record IsTaken (o : Options) (adds : List (ℕ × List ℕ)) (id : ℕ) (bytes : List ℕ) (old new : Option (List ℕ)) (state : WriterState) : Type 0 where
  pub taken : List ℕ
  pub took : Took old bytes taken
  pub writes : Writes o new state (add_to adds id taken)

-- the contents of one mark were read and added
pub record IsAddedFor (o : Options) (adds : List (ℕ × List ℕ)) (tells : Bool) (stored : Stored) (m : Mark) (old new : Option (List ℕ)) (state : WriterState) : Type 0 where
  pub bytes : List ℕ
  pub read : IsRead tells stored m bytes
  pub added : IsTaken o adds m.id bytes old new state

-- The contents of marks were read and added: the writer means what they were taken for.
pub record AreAdded (o : Options) (tells : Bool) (stored : Stored) (marks : List Mark) (old new : Option (List ℕ)) (state : WriterState) : Type 0 where
  pub contents : List (List ℕ)
  pub read : AreRead tells stored marks contents
  pub taken : List (ℕ × List ℕ)
  pub took : TookAll old (adds_of marks contents) taken
  pub writes : Writes o new state taken
