-- One source that is read: the contents of a run, or the metadata of the last one.
use Rattle.tile_join.proofs.Common.{ap, Archive, as_read, Err, get_or, header_of, JoinError, length, List, look_in, looked, map, None, of_read, Ok, Option, option_map, Piece, PieceRead, PmtError, range_read, ReaderState}
use Rattle.tile_join.proofs.Common.{refl, Result, slice_get, slice_get-get_or, slice_get-map, slice_index, Some, subst, sym, ReadCauses, ℕ, [], ◌+◌, ◌<◌, ◌∙◌, ◌≡◌}
use Rattle.pm_format.specs.declared.error.PmtError.TheVariants as errors
use Rattle.pm_format.specs.declared.error.ReadCause.TheVariants as causes
use Rattle.pm_reader.specs.Answers.{Gives}
use Rattle.pm_reader.specs.Metadata.{MetadataAnswers, MetadataCauses, metadata_read}
use Rattle.tile_join.specs.Common.{range_of}
use Rattle.tile_join.specs.Join.{last_of}
use Rattle.tile_join.specs.Opening.{TextCauses, TextRead, TextRefused}

-- the header of the reader with a number
pub header_at : (readers : List ReaderState) (n : ℕ) (s : ReaderState) → n < length readers → s ≡ get_or readers n s → slice_get (map header_of readers) n ≡ Some (header_of s)
header_at readers n s low is = slice_get-map header_of readers n ∙ ap (option_map header_of) (slice_get-get_or readers n s low ∙ ap Some (sym is))

-- the number of the source that an error names
pub names : (k : ℕ) (e : PmtError) (j : ℕ) (z : PmtError) → ◌≡◌ {A = Result ℕ JoinError} (Err (of_read k e)) (Err (Archive j z)) → j ≡ k
names k errors.OutOfMemory j z is = absurd (cc)
names k e j z is = cc

-- what is read of a run
read_range : (range : Option (List ℕ)) (p : Piece) (k : ℕ) (r : Result (List ℕ) PmtError) → k ≡ p.source → Gives (as_read range) r → (bytes : List ℕ) → r ≡ Ok bytes → PieceRead range p (Ok bytes)
read_range None p k r number g bytes is = absurd (let at : Gives (as_read None) (Ok bytes) = subst (Gives (as_read None)) is g in cc)
read_range (Some x) p k r number g bytes is = let at : Gives (as_read (Some x)) (Ok bytes) = subst (Gives (as_read (Some x))) is g in cc

refuse_range : (range : Option (List ℕ)) (p : Piece) (k : ℕ) (e : PmtError) → k ≡ p.source → Gives (as_read range) (Err e) → PieceRead range p (Err (of_read k e))
refuse_range range p k errors.OutOfMemory number g = tt
refuse_range range p k (errors.Reading causes.Fault) number g = tt
refuse_range None p k (errors.Reading causes.PastEnd) number g = (number, refl)
refuse_range (Some x) p k (errors.Reading causes.PastEnd) number g = absurd (cc)
refuse_range range p k (errors.UnexpectedNumberOfBytesReturned asked got) number g = absurd g
refuse_range None p k e number g = absurd (cc)
refuse_range (Some x) p k e number g = absurd (cc)

-- the text of the last one
pub text_ok : (readers : List ReaderState) (bs : List (List ℕ)) (n : ℕ) (s : ReaderState) (text : List ℕ) → n ≡ last_of bs → n < length readers → s ≡ get_or readers n s → MetadataAnswers (metadata_read (get_or bs n []) (header_of s)) (Ok text) → TextRead bs (map header_of readers) (Ok text)
text_ok readers bs n s text number low is m = record {
  last = header_of s;
  lasts = ap (slice_get (map header_of readers)) (sym number) ∙ header_at readers n s low is;
  metadata = ap (λ k. metadata_read (get_or bs k []) (header_of s)) (sym number) ∙ m.0;
  utf8 = m.1;
}

pub text_err : (readers : List ReaderState) (bs : List (List ℕ)) (n : ℕ) (s : ReaderState) (e : PmtError) → n ≡ last_of bs → n < length readers → s ≡ get_or readers n s → MetadataAnswers (metadata_read (get_or bs n []) (header_of s)) (Err e) → TextRefused bs (map header_of readers) (of_read n e)
text_err readers bs n s e number low is m = by e m
  where
    lasts : slice_get (map header_of readers) (last_of bs) ≡ Some (header_of s)
    lasts = ap (slice_get (map header_of readers)) (sym number) ∙ header_at readers n s low is

    range : metadata_read (get_or bs (last_of bs) []) (header_of s) ≡ metadata_read (get_or bs n []) (header_of s)
    range = ap (λ k. metadata_read (get_or bs k []) (header_of s)) (sym number)

    by : (e : PmtError) → MetadataAnswers (metadata_read (get_or bs n []) (header_of s)) (Err e) → TextRefused bs (map header_of readers) (of_read n e)
    by errors.OutOfMemory m = tt
    by (errors.Reading causes.Fault) m = tt
    by (errors.UnexpectedNumberOfBytesReturned asked got) m = m
    by errors.InvalidMetadataUtf8Encoding m = record { number = number; last = header_of s; lasts = lasts; refused = (m.0, range ∙ m.1, m.2) }
    by (errors.SourceModified a b) m = absurd m
    by errors.BudgetSpent m = absurd m
    by e m = record { number = number; last = header_of s; lasts = lasts; refused = range ∙ m }

-- why it isn't read
pub text_causes : (k : ℕ) (before now : List ℕ) (x y : ℕ) (e : PmtError) → k < length before → slice_index before k ≡ x → slice_index now k ≡ y → MetadataCauses {A = List ℕ} x y (Err e) → TextCauses before now (of_read k e)
text_causes k before now x y e low first last c = by e c
  where
    at : (e : PmtError) → ReadCauses x y e → (k < length before) × ReadCauses (slice_index before k) (slice_index now k) e
    at e c = (low, subst (λ m. ReadCauses m (slice_index now k) e) (sym first) (subst (λ m. ReadCauses x m e) (sym last) c))

    by : (e : PmtError) → MetadataCauses {A = List ℕ} x y (Err e) → TextCauses before now (of_read k e)
    by errors.OutOfMemory c = tt
    by errors.InvalidMetadataUtf8Encoding c = at errors.InvalidMetadataUtf8Encoding tt
    by (errors.Reading causes.Fault) c = at (errors.Reading causes.Fault) c
    by (errors.Reading causes.PastEnd) c = at (errors.Reading causes.PastEnd) tt
    by (errors.UnexpectedNumberOfBytesReturned asked got) c = at (errors.UnexpectedNumberOfBytesReturned asked got) c
    by e c = absurd c

-- a run's contents in the words of the code
range_as_read : (b : List ℕ) (from len : ℕ) → range_read b from len ≡ as_read (range_of b from len)
range_as_read b from len = by (range_of b from len)
  where
    by : (o : Option (List ℕ)) → (elim o as (λ _. Result (List ℕ) PmtError) [ None ↦ Err (errors.Reading causes.PastEnd) | Some bytes ↦ Ok bytes ]) ≡ as_read o
    by None = refl
    by (Some x) = refl

looked_at : (readers : List ReaderState) (bs : List (List ℕ)) (p : Piece) (s : ReaderState) (off len : ℕ) → p.source < length readers → s ≡ get_or readers p.source s → off ≡ p.entry.offset → len ≡ p.entry.length
    → range_read (get_or bs p.source []) ((header_of s).data_offset + off) len ≡ as_read (looked (map header_of readers) bs p)
looked_at readers bs p s off len low is o l =
    ap (λ n. range_read (get_or bs p.source []) ((header_of s).data_offset + n) len) o ∙ ap (λ n. range_read (get_or bs p.source []) ((header_of s).data_offset + p.entry.offset) n) l
    ∙ range_as_read (get_or bs p.source []) ((header_of s).data_offset + p.entry.offset) p.entry.length
    ∙ ap (λ h. as_read (look_in (get_or bs p.source []) p h)) (sym (header_at readers p.source s low is))

pub piece_ok : (readers : List ReaderState) (bs : List (List ℕ)) (p : Piece) (s : ReaderState) (off len : ℕ) (bytes : List ℕ) → p.source < length readers → s ≡ get_or readers p.source s → off ≡ p.entry.offset → len ≡ p.entry.length
    → Gives (range_read (get_or bs p.source []) ((header_of s).data_offset + off) len) (Ok bytes) → PieceRead (looked (map header_of readers) bs p) p (Ok bytes)
piece_ok readers bs p s off len bytes low is o l g =
    read_range (looked (map header_of readers) bs p) p p.source (Ok bytes) refl (subst (λ r. Gives r (Ok bytes)) (looked_at readers bs p s off len low is o l) g) bytes refl

pub piece_err : (readers : List ReaderState) (bs : List (List ℕ)) (p : Piece) (s : ReaderState) (off len : ℕ) (e : PmtError) → p.source < length readers → s ≡ get_or readers p.source s → off ≡ p.entry.offset → len ≡ p.entry.length
    → Gives (range_read (get_or bs p.source []) ((header_of s).data_offset + off) len) (Err e) → PieceRead (looked (map header_of readers) bs p) p (Err (of_read p.source e))
piece_err readers bs p s off len e low is o l g =
    refuse_range (looked (map header_of readers) bs p) p p.source e refl (subst (λ r. Gives r (Err e)) (looked_at readers bs p s off len low is o l) g)
