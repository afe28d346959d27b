-- From a sound archive each part of few enough tiles can be extracted.
use Rattle.tile_extract.proofs.Common.{AreApart, CanExtract, Coord, count_met, IsValid, subtree}
use Rattle.tile_extract.proofs.Common.{add_to, Adds, All, AllSized, ArchiveFits, AreOrdered, arith, Bool, PartCanExtract, TilePart, part_count, data_end, drop, entries, entries_sorted, Entry, false}
use Rattle.tile_extract.proofs.Common.{from_entries, get-from_entries, Header, ids_of, if◌then◌else◌, IsUtf8, HasZooms, length, length-append, length-take, List, met_of, metadata_read}
use Rattle.tile_extract.proofs.Common.{nat_cmp, nat_cmp_total, nat_le, nat_lt, None, Ok, Options, part_options, parts_met, range_with_len, Some, Sound, subst, suc, sum_by, sym, take, tile_count}
use Rattle.tile_extract.proofs.Common.{tile_found, true, zero, ℕ, [], ◌&&◌, ◌*◌, ◌++◌, ◌+◌, ◌<◌, ◌^◌, ◌∙◌, ◌∷◌, ◌≡◌, ◌≤◌}
use Rattle.std.proofs.lemmas.List.Sums.{sum_by-cons}
use Rattle.pm_writer.proofs.Few.{archive_fits, data_length}
use Rattle.pm_writer.specs.Few.{AreFew}
use Rattle.tile_extract.proofs.AddedLemmas.{ends_nothing, sorted_by}
use Rattle.tile_extract.proofs.CutLemmas.{cut_held, parts_in_order}
use Rattle.tile_extract.proofs.FitLemmas.{options_fit}
use Rattle.tile_extract.proofs.IntervalLemmas.{apart}
use Rattle.tile_extract.proofs.SoundLemmas.{AreThere, archive_well, parts_there}
use Rattle.tile_extract.proofs.TileLemmas.{add_all, add_each, all_held, all_rise, bytes_at}

-- so many adds at most, each of fewer than 2^32 bytes
record AreBounded (adds : Adds) (most : ℕ) : Type 0 where
  pub sized : AllSized adds
  pub count : length adds ≤ most

sized_more : (adds : Adds) (id : ℕ) (bytes : List ℕ) → length bytes < 2 ^ 32 → AllSized adds → AllSized (adds ++ (id, bytes) ∷ [])
sized_more [] id bytes short s = (short, tt)
sized_more (a ∷ adds) id bytes short s = (s.0, sized_more adds id bytes short s.1)

to_bounded : (done : Adds) (id : ℕ) (bytes : List ℕ) (count : ℕ) → length bytes < 2 ^ 32 → AreBounded done count → AreBounded (add_to done id bytes) (count + 1)
to_bounded done id [] count short d = record { sized = d.sized; count = omega (arith, d.count) }
to_bounded done id (byte ∷ bytes) count short d = record {
  sized = sized_more done id (byte ∷ bytes) short d.sized;
  count = omega (arith, d.count, length-append done ((id, byte ∷ bytes) ∷ []));
}

each_bounded : (bytes : List ℕ) (n id : ℕ) (done : Adds) (count : ℕ) → length bytes < 2 ^ 32 → AreBounded done count → AreBounded (add_each bytes done (range_with_len id n)) (count + n)
each_bounded bytes zero id done count short d = record { sized = d.sized; count = omega (arith, d.count) }
each_bounded bytes (suc n) id done count short d =
    let r = each_bounded bytes n (id + 1) (add_to done id bytes) (count + 1) short (to_bounded done id bytes count short d) in
    record { sized = r.sized; count = omega (arith, r.count) }

bytes_short : (h : Header) (b : List ℕ) (p : Entry) → p.length < 2 ^ 32 → length (bytes_at h b p) < 2 ^ 32
bytes_short h b p short = by_test (nat_le (h.data_offset + p.offset + p.length) (length b) && nat_lt (h.data_offset + p.offset + p.length) (2 ^ 64))
  where
    by_test : (t : Bool) → length (elim (if t then Some (take p.length (drop (h.data_offset + p.offset) b)) else None) as (λ _. List ℕ) [ None ↦ [] | Some bytes ↦ bytes ]) < 2 ^ 32
    by_test false = omega arith
    by_test true = omega (arith, short, length-take p.length (drop (h.data_offset + p.offset) b))

all_bounded : (h : Header) (b : List ℕ) (ps : List Entry) (done : Adds) (count : ℕ) → AreThere h b ps → AreBounded done count → AreBounded (add_all h b ps done) (count + tile_count ps)
all_bounded h b [] done count there d = record { sized = d.sized; count = omega (arith, d.count) }
all_bounded h b (p ∷ ps) done count there d =
    let one = each_bounded (bytes_at h b p) p.run_length p.tile_id done count (bytes_short h b p there.1) d in
    let r = all_bounded h b ps (add_each (bytes_at h b p) done (ids_of p)) (count + p.run_length) there.2 one in
    record { sized = r.sized; count = omega (arith, r.count) }

-- their bytes together
sized_total : (adds : Adds) → AllSized adds → sum_by (λ a. length a.1) adds ≤ length adds * 4294967295
sized_total [] s = omega arith
sized_total (a ∷ adds) s = omega (arith, s.0, sized_total adds s.1, sum_by-cons (λ (a : ℕ × List ℕ). length a.1) a adds)

few_of : (o : Options) (adds : Adds) (count : ℕ) → length o.metadata < 2 ^ 63 → count ≤ 2 ^ 28 → AreBounded adds count → AreFew o adds
few_of o adds count short few d = record { metadata = short; sized = d.sized; count = omega (arith, few, d.count); total = omega (arith, few, d.count, sized_total adds d.sized) }

-- an archive of few tiles keeps within its bounds
pub part_can : (b : List ℕ) (part : TilePart) (most : ℕ) (s : Sound b) (text : List ℕ) → All (λ byte. byte < 256) b → AreApart 0 part.intervals → HasZooms part → metadata_read b s.found.0 ≡ Ok text → IsUtf8 text → length text < 2 ^ 63
    → part_count b s.found part ≤ most → part_count b s.found part ≤ 2 ^ 28 → PartCanExtract b part most
part_can b part most s text bytes order_is zoom metadata utf8 short limit few =
    let well = archive_well b s part in
    let order : AreOrdered 0 (parts_met b s.found part) None = parts_in_order b s.found part order_is well.fine in
    let o : Options = part_options s.found.0 text part in
    let fit = options_fit b s.found text part bytes s.opens zoom in
    let all : Adds = add_all s.found.0 b (parts_met b s.found part) [] in
    let same : entries (from_entries {R = nat_cmp} all) ≡ all = entries_sorted all (sorted_by 0 all (all_rise s.found.0 b (parts_met b s.found part) 0 [] order ends_nothing)) in
    let there = parts_there s.found.0 b part.intervals (met_of b s.found part).entries well.there in
    let bounds = all_bounded s.found.0 b (parts_met b s.found part) [] 0 there (record { sized = tt; count = omega arith }) in
    let are_few : AreFew o all = few_of o all (0 + part_count b s.found part) short (omega (arith, few)) bounds in
    record {
      zoom = zoom;
      sound = s;
      text = text;
      metadata = metadata;
      utf8 = utf8;
      few = limit;
      tiles = from_entries all;
      are = λ id. get-from_entries nat_cmp_total all id ∙ sym (tile_found all id) ∙ all_held s.found.0 b (parts_met b s.found part) id order ∙ sym (cut_held b s.found part id s.opens well.fine);
      ends = subst (λ l. data_end o l < 2 ^ 64) (sym same) (omega (arith, short, are_few.total, data_length all));
      fits = subst (ArchiveFits o) (sym same) (archive_fits o all fit are_few);
    }

-- the same of a tile and its descendants
pub few_can : (b : List ℕ) (c : Coord) (m most : ℕ) (s : Sound b) (text : List ℕ) → All (λ byte. byte < 256) b → IsValid c m → metadata_read b s.found.0 ≡ Ok text → IsUtf8 text → length text < 2 ^ 63
    → count_met b s.found c m ≤ most → count_met b s.found c m ≤ 2 ^ 28 → CanExtract b c m most
few_can b c m most s text bytes zoom metadata utf8 short limit few = part_can b (subtree c m) most s text bytes (apart c m) zoom metadata utf8 short limit few
