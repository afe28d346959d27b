-- What can be extracted is.
use Rattle.tile_extract.proofs.Common.{AreApart, Coord, EndsWell, subtree}
use Rattle.tile_extract.proofs.Common.{add_to, Added, Adds, and_from, PartAnswers, ap, Archive, ArchiveFits, ArchivePlaces, AreOrdered, arith, Bool, PartCanExtract, PartCauses, TilePart, part_count, data_end, drop}
use Rattle.tile_extract.proofs.Common.{Due, PartEndsWell, entries, entries_sorted, Entry, Err, ExtractError, false, find, from_entries, get, get-from_entries, has_room, Header, ids_of, if◌then◌else◌}
use Rattle.tile_extract.proofs.Common.{IndexEntryOverflow, inl, inr, InvalidZoom, IsDoneOrWanting, IsEarly, IsLate, IsMetadataRefused, IsSome, IsUtf8, length, length-take, List}
use Rattle.tile_extract.proofs.Common.{MediumFault, MediumNotEmpty, met_of, metadata_read, nat_cmp, nat_cmp-IsAntisymmetric, nat_cmp_total, nat_le, nat_lt, None, none-some, not, Ok, Opened, opened}
use Rattle.tile_extract.proofs.Common.{Option, Options, part_options, OutOfMemory, parts_met, PmtError, put_all, put_next, put_parts, range_of, ReadCauses, refl, Result, Rose, same_map, Some, Source}
use Rattle.tile_extract.proofs.Common.{subst, sym, T, take, tile_found, to_lt, TooManyTiles, true, ℕ, [], ◌&&◌, ◌+◌, ◌<◌, ◌^◌, ◌∙◌, ◌∷◌, ◌≡◌, ◌≤◌, ◌⊎◌}
use Rattle.pm_format.specs.declared.error.PmtError.TheVariants as errors
use Rattle.pm_format.specs.declared.error.ReadCause.TheVariants as causes
use Rattle.pm_writer.proofs.AddedBytes.{end_more}
use Rattle.pm_walk.specs.declared.error.WalkError.TheVariants as walk
use Rattle.tile_extract.proofs.AddedLemmas.{ends_nothing, ok_is, sorted_by}
use Rattle.tile_extract.proofs.CutLemmas.{cut_held, parts_in_order}
use Rattle.tile_extract.proofs.IntervalLemmas.{apart}
use Rattle.tile_extract.proofs.SoundLemmas.{AreThere, GoesWell, archive_well, parts_there}
use Rattle.tile_extract.proofs.TileLemmas.{add_all, add_each, bytes_at, all_held, all_rise}

-- adds end the data no earlier
to_later : (o : Options) (done : Adds) (id : ℕ) (bytes : List ℕ) → data_end o done ≤ data_end o (add_to done id bytes)
to_later o done id [] = omega arith
to_later o done id (byte ∷ bytes) = omega (arith, end_more o done id (byte ∷ bytes))

each_later : (o : Options) (bytes ids : List ℕ) (done : Adds) → data_end o done ≤ data_end o (add_each bytes done ids)
each_later o bytes [] done = omega arith
each_later o bytes (id ∷ ids) done = omega (arith, to_later o done id bytes, each_later o bytes ids (add_to done id bytes))

all_later : (o : Options) (h : Header) (b : List ℕ) (ps : List Entry) (done : Adds) → data_end o done ≤ data_end o (add_all h b ps done)
all_later o h b [] done = omega arith
all_later o h b (p ∷ ps) done = omega (arith, each_later o (bytes_at h b p) (ids_of p) done, all_later o h b ps (add_each (bytes_at h b p) done (ids_of p)))

-- where all fit, there is room for each
room_by : (o : Options) (done : Adds) (id : ℕ) (bytes : List ℕ) → length bytes < 2 ^ 32 → data_end o (add_to done id bytes) < 2 ^ 64 → has_room o done id bytes ≡ true
unfolding has_room
room_by o done id bytes short ends = and_from (nat_lt (length bytes) (2 ^ 32)) (nat_lt (data_end o (add_to done id bytes)) (2 ^ 64)) (to_lt (length bytes) (2 ^ 32) short) (to_lt (data_end o (add_to done id bytes)) (2 ^ 64) ends)

each_put : (o : Options) (bytes ids : List ℕ) (done : Adds) → length bytes < 2 ^ 32 → data_end o (add_each bytes done ids) < 2 ^ 64 → put_all o bytes done ids ≡ Ok (add_each bytes done ids)
each_put o bytes [] done short ends = refl
each_put o bytes (id ∷ ids) done short ends =
    let more = each_later o bytes ids (add_to done id bytes) in
    ap (λ t. elim t as (λ _. Result Adds ExtractError) [ true ↦ put_all o bytes (add_to done id bytes) ids | false ↦ Err IndexEntryOverflow ]) (room_by o done id bytes short (omega (arith, more, ends)))
    ∙ each_put o bytes ids (add_to done id bytes) short ends

range_short : (b : List ℕ) (at len : ℕ) (bytes : List ℕ) → range_of b at len ≡ Some bytes → length bytes ≤ len
range_short b at len bytes is = by_test (nat_le (at + len) (length b) && nat_lt (at + len) (2 ^ 64)) is
  where
    by_test : (t : Bool) → (if t then Some (take len (drop at b)) else None) ≡ Some bytes → length bytes ≤ len
    by_test false is = absurd (none-some bytes is)
    by_test true is = let same : take len (drop at b) ≡ bytes = cc in subst (λ l. length l ≤ len) same (omega (arith, length-take len (drop at b)))

all_put : (o : Options) (h : Header) (b : List ℕ) (ps : List Entry) (done : Adds) → AreThere h b ps → data_end o (add_all h b ps done) < 2 ^ 64 → put_parts o h b ps done ≡ Ok (add_all h b ps done)
all_put o h b [] done there ends = refl
all_put o h b (p ∷ ps) done there ends = by_range (range_of b (h.data_offset + p.offset) p.length) (λ mid e. all_put o h b ps mid there.2 e) refl there.0 ends
  where
    by_range : (r : Option (List ℕ)) → ((mid : Adds) → data_end o (add_all h b ps mid) < 2 ^ 64 → put_parts o h b ps mid ≡ Ok (add_all h b ps mid)) → range_of b (h.data_offset + p.offset) p.length ≡ r → IsSome r → data_end o (add_all h b ps (add_each (elim r as (λ _. List ℕ) [ None ↦ [] | Some bytes ↦ bytes ]) done (ids_of p))) < 2 ^ 64
        → (elim r as (λ _. Result Adds ExtractError) [ None ↦ Err (Archive (errors.Reading causes.PastEnd)) | Some bytes ↦ put_next (put_parts o h b ps) (put_all o bytes done (ids_of p)) ])
        ≡ Ok (add_all h b ps (add_each (elim r as (λ _. List ℕ) [ None ↦ [] | Some bytes ↦ bytes ]) done (ids_of p)))
    by_range None next range some ends = absurd (subst (λ t. T (not t)) some tt)
    by_range (Some bytes) next range some ends =
        let more = all_later o h b ps (add_each bytes done (ids_of p)) in
        let short = range_short b (h.data_offset + p.offset) p.length bytes range in
        ap (put_next (put_parts o h b ps)) (each_put o bytes (ids_of p) done (omega (arith, short, there.1)) (omega (arith, more, ends)))
        ∙ next (add_each bytes done (ids_of p)) ends

-- the parts of a sound archive are added one after another
module _ (b : List ℕ) (part : TilePart) (most : ℕ) (order : AreApart 0 part.intervals) (can : PartCanExtract b part most) where
  abbrev head : Header
  head = can.sound.found.0

  abbrev pieces : List Entry
  pieces = parts_met b can.sound.found part

  abbrev opts : Options
  opts = part_options head can.text part

  abbrev all : Adds
  all = add_all head b pieces []

  well : GoesWell head b (met_of b can.sound.found part)
  well = archive_well b can.sound part

  in_order : AreOrdered 0 pieces None
  in_order = parts_in_order b can.sound.found part order well.fine

  entries_are : entries can.tiles ≡ all
  entries_are =
      let sorted = sorted_by 0 all (all_rise head b pieces 0 [] in_order ends_nothing) in
      let same : (id : ℕ) → get can.tiles id ≡ find nat_cmp id all = λ id. can.are id ∙ cut_held b can.sound.found part id can.sound.opens well.fine ∙ sym (all_held head b pieces id in_order) ∙ tile_found all id in
      ap entries (same_map nat_cmp_total nat_cmp-IsAntisymmetric can.tiles (from_entries all) (λ id. same id ∙ sym (get-from_entries nat_cmp_total all id))) ∙ entries_sorted all sorted

  put : put_parts opts head b pieces [] ≡ Ok all
  put = all_put opts head b pieces [] (parts_there head b part.intervals (met_of b can.sound.found part).entries well.there) (subst (λ l. data_end opts l < 2 ^ 64) entries_are can.ends)

  -- what another reading of the archive finds
  same_found : (o : Opened) → opened b ≡ Ok o → o ≡ can.sound.found
  same_found o opens = ok_is o can.sound.found (sym opens ∙ can.sound.opens)

  same_text : (o : Opened) (text : List ℕ) → opened b ≡ Ok o → metadata_read b o.0 ≡ Ok text → text ≡ can.text
  same_text o text opens is = ok_is text can.text (sym is ∙ ap (λ p. metadata_read b p.0) (same_found o opens) ∙ can.metadata)

  put_again : (d : Due b part most) → Added (Some []) b part most d (Ok all)
  put_again d =
      ap (λ t. put_parts (part_options d.source.found.0 t part) d.source.found.0 b (parts_met b d.source.found part) []) (same_text d.source.found d.source.text d.source.opens d.source.metadata)
      ∙ ap (λ o. put_parts (part_options o.0 can.text part) o.0 b (parts_met b o part) []) (same_found d.source.found d.source.opens) ∙ put

  -- no refusal comes
  no_metadata : (r : Result (List ℕ) PmtError) (e : PmtError) → r ≡ Ok can.text → IsMetadataRefused r e → ⊥
  no_metadata r errors.InvalidMetadataUtf8Encoding is refused = refused.2 (subst IsUtf8 (ok_is can.text refused.0 (sym is ∙ refused.1)) can.utf8)
  no_metadata r e is refused = let bad : Ok can.text ≡ Err e = sym is ∙ refused in absurd (cc)

  no_early : (e : PmtError) → (e ≡ errors.Reading causes.Fault → ⊥) → IsEarly b part e → ⊥
  no_early (errors.Reading causes.Fault) fault is = fault refl
  no_early (errors.UnexpectedNumberOfBytesReturned asked got) fault is = is
  no_early errors.OutOfMemory fault is = is
  no_early e fault (inl is) = let bad : Ok can.sound.found ≡ Err e = sym can.sound.opens ∙ is in absurd (cc)
  no_early e fault (inr (inl is)) = no_metadata (metadata_read b is.0.0) e (ap (λ p. metadata_read b p.0) (same_found is.0 is.1) ∙ can.metadata) is.2
  no_early e fault (inr (inr is)) =
      none-some (walk.Archive e) (sym (ap (λ o. (met_of b o part).refusal) (same_found is.0.found is.0.opens) ∙ well.fine) ∙ is.1)

  no_late : (e : PmtError) → (e ≡ errors.Reading causes.Fault → ⊥) → IsLate (Some []) b part most e → ⊥
  no_late (errors.Reading causes.Fault) fault is = fault refl
  no_late (errors.UnexpectedNumberOfBytesReturned asked got) fault is = is
  no_late e fault is = let bad : Ok all ≡ Err (Archive e) = sym (put_again is.0) ∙ is.1 in absurd (cc)

  no_overflow : (d : Due b part most) → (Added (Some []) b part most d (Err IndexEntryOverflow) ⊎ ((adds : Adds) × Added (Some []) b part most d (Ok adds) × (ArchiveFits (part_options d.source.found.0 d.source.text part) adds → ⊥))) → ⊥
  no_overflow d (inl is) = let bad : Ok all ≡ Err IndexEntryOverflow = sym (put_again d) ∙ is in absurd (cc)
  no_overflow d (inr is) =
      let same : is.0 ≡ all = ok_is is.0 all (sym is.1 ∙ put_again d) in
      let fits : ArchiveFits opts is.0 = subst (ArchiveFits opts) (sym same) (subst (ArchiveFits opts) entries_are can.fits) in
      is.2 (subst (λ o. ArchiveFits (part_options o.0 d.source.text part) is.0) (sym (same_found d.source.found d.source.opens)) (subst (λ t. ArchiveFits (part_options head t part) is.0) (sym (same_text d.source.found d.source.text d.source.opens d.source.metadata)) fits))

  no_many : (s : Source b) → most < part_count b s.found part → ⊥
  no_many s more = let few : part_count b s.found part ≤ most = subst (λ o. part_count b o part ≤ most) (sym (same_found s.found s.opens)) can.few in omega (arith, few, more)

  no_fault : (before now : ℕ) (e : PmtError) → (Rose before now → ⊥) → ReadCauses before now e → e ≡ errors.Reading causes.Fault → ⊥
  no_fault before now e calm cause is = calm (subst (ReadCauses before now) is cause)

  ends_well : (result : Result ArchivePlaces ExtractError) (before now old new : ℕ) → PartCauses part most (Some []) before now old new result → PartAnswers (Some []) b part most result → (Rose before now → ⊥) → (Rose old new → ⊥) → IsDoneOrWanting result
  ends_well (Ok p) before now old new cause is calm quiet = tt
  ends_well (Err (InvalidZoom tile asked)) before now old new cause is calm quiet = cause.2 can.zoom
  ends_well (Err (MediumNotEmpty n)) before now old new cause is calm quiet = omega (arith, cause.1, cause.2)
  ends_well (Err (Archive e)) before now old new cause is calm quiet =
      let fault = no_fault before now e calm cause.2 in
      elim is [ inl early ↦ no_early e fault early | inr late ↦ no_late e fault late ]
  ends_well (Err (TooManyTiles n)) before now old new cause is calm quiet = no_many is.1.0 is.1.2
  ends_well (Err IndexEntryOverflow) before now old new cause is calm quiet = no_overflow is.0 is.1
  ends_well (Err MediumFault) before now old new cause is calm quiet = quiet cause.1
  ends_well (Err OutOfMemory) before now old new cause is calm quiet = tt

pub parts_end_well : (b : List ℕ) (part : TilePart) (most : ℕ) (result : Result ArchivePlaces ExtractError) → PartEndsWell b part most result
parts_end_well b part most result before now old new order can cause is calm quiet = ends_well b part most order can result before now old new cause is calm quiet

-- the same of a tile and its descendants
pub all_end_well : (b : List ℕ) (c : Coord) (m most : ℕ) (result : Result ArchivePlaces ExtractError) → EndsWell b c m most result
all_end_well b c m most result before now old new can cause is calm quiet = ends_well b (subtree c m) most (apart c m) can result before now old new cause is calm quiet
