-- What an extraction answers and leaves, by what is found of the source.
use Rattle.tile_extract.proofs.Common.{PartAnswers, ap, Archive, arith, CollectCauses, CollectRefuses, TilePart, Entry, Err, ExtractError, Header, IfSome, inl, inr, IntoBytes, IntoCauses}
use Rattle.tile_extract.proofs.Common.{IntoLeaves, InvalidZoom, IsEarly, IsEmpty, IsUtf8, List, MediumNotEmpty, metadata_read, None, Ok, one_told, opened, Option, OutOfMemory, PmtError, ReadCauses}
use Rattle.tile_extract.proofs.Common.{Refuses, slice_index, Source, TooManyTiles, walked, Within, ℕ, [], ◌≡◌, ◌≤◌}
use Rattle.pm_format.specs.declared.error.PmtError.TheVariants as errors
use Rattle.pm_format.specs.declared.error.ReadCause.TheVariants as causes

-- an error that comes before the archive is begun
abbrev pub ComesEarly : List ℕ → TilePart → ℕ → ExtractError → Type 0
ComesEarly b part most (Archive e) = IsEarly b part e
ComesEarly b part most (TooManyTiles n) = PartAnswers None b part most (Err (TooManyTiles n))
ComesEarly b part most OutOfMemory = Unit {0}
ComesEarly b part most e = ⊥

-- what is found of a source that tells its bytes
pub record Found (b : List ℕ) (h : Header) (es : List Entry) (text : List ℕ) : Type 0 where
  pub opens : opened b ≡ Ok (h, es)
  pub metadata : metadata_read b h ≡ Ok text
  pub utf8 : IsUtf8 text

abbrev pub source_of : (b : List ℕ) (h : Header) (es : List Entry) (text : List ℕ) → Found b h es text → Source b
source_of b h es text f = record { found = (h, es); opens = f.opens; text = text; metadata = f.metadata; utf8 = f.utf8 }

pub collect_early : (b : List ℕ) (part : TilePart) (most before now : ℕ) (h : Header) (es : List Entry) (text : List ℕ) (x : ExtractError) → Found b h es text → CollectCauses most before now x
    → CollectRefuses (walked Within 6 h b part.intervals 0 None es) part.intervals most x → ComesEarly b part most x
collect_early b part most before now h es text (Archive errors.OutOfMemory) f cause is = absurd cause
collect_early b part most before now h es text (Archive e) f cause is = walk_early e cause is
  where
    walk_early : (e : PmtError) → CollectCauses most before now (Archive e) → Refuses (walked Within 6 h b part.intervals 0 None es) e → IsEarly b part e
    walk_early (errors.Reading causes.Fault) cause is = tt
    walk_early (errors.UnexpectedNumberOfBytesReturned asked got) cause is = is
    walk_early errors.OutOfMemory cause is = absurd cause
    walk_early e cause is = inr (inr (source_of b h es text f, is))
collect_early b part most before now h es text (TooManyTiles n) f cause is = (is.0, (source_of b h es text f, is.1, is.2))
collect_early b part most before now h es text OutOfMemory f cause is = tt
collect_early b part most before now h es text x f cause is = absurd is

pub collect_causes : (most first before now old new : ℕ) (x : ExtractError) → first ≤ before → CollectCauses most before now x → IntoCauses most first now old new (Err x)
collect_causes most first before now old new (Archive e) le c = read_causes e c
  where
    read_causes : (e : PmtError) → CollectCauses most before now (Archive e) → ReadCauses first now e
    read_causes errors.InvalidEntry c = tt
    read_causes (errors.Reading causes.PastEnd) c = tt
    read_causes (errors.Reading causes.Fault) c = omega (arith, le, c)
    read_causes (errors.UnexpectedNumberOfBytesReturned asked got) c = c
    read_causes e c = absurd c
collect_causes most first before now old new (TooManyTiles n) le c = c
collect_causes most first before now old new OutOfMemory le c = tt
collect_causes most first before now old new x le c = absurd c

-- an early error answers, and leaves the medium empty
pub early_answers : (held : Option (List ℕ)) (b : List ℕ) (part : TilePart) (most : ℕ) (x : ExtractError) → ComesEarly b part most x → PartAnswers held b part most (Err x)
early_answers held b part most (Archive e) is = inl is
early_answers held b part most (TooManyTiles n) is = is
early_answers held b part most OutOfMemory is = tt
early_answers held b part most x is = absurd is

early_bytes : (source : Option (List ℕ)) (part : TilePart) (most before now old new : ℕ) (x : ExtractError) (b : List ℕ) → IntoCauses most before now old new (Err x) → IfSome source (λ s. ComesEarly s part most x) → b ≡ [] → IntoBytes source part most (Err x) b
early_bytes source part most before now old new (Archive e) b cause is empty = inl (is, empty)
early_bytes source part most before now old new (TooManyTiles n) b cause is empty = empty
early_bytes source part most before now old new (InvalidZoom z n) b cause is empty = absurd cause
early_bytes source part most before now old new (MediumNotEmpty n) b cause is empty = absurd cause
early_bytes source part most before now old new x b cause is empty = inl (ap (λ l. slice_index l 97) empty)

pub early_leaves : (source : Option (List ℕ)) (part : TilePart) (most before now old new : ℕ) (x : ExtractError) (held : Option (List ℕ)) → IntoCauses most before now old new (Err x) → IfSome source (λ s. ComesEarly s part most x) → IsEmpty held → IntoLeaves source part most (Err x) held
early_leaves source part most before now old new x held cause is empty = one_told (λ b. b ≡ []) (IntoBytes source part most (Err x)) held (λ b e. early_bytes source part most before now old new x b cause is e) empty
