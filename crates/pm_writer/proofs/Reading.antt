-- The archive, read by its root and the directories below it.
use Rattle.pm_writer.proofs.Common.{AllRead, ap, archive, arith, below_layout, blocks, Bool, contents_from, Distinct, entries_of_adds, Entry, Err, false, Header, hops_by, length, List, MatchOption}
use Rattle.pm_writer.proofs.Common.{nat_eq, nat_le, nat_tests, None, Ok, Option, Options, OptionsFit, place_in, PmtError, range_of, refl, Result, Rising, scan, Some, sorted, sorted_in, subst, sym}
use Rattle.pm_writer.proofs.Common.{tile_by, tile_in, true, unsorted, ℕ, [], ◌+◌, ◌-◌, ◌<◌, ◌^◌, ◌∙◌, ◌∷◌, ◌≡◌, ◌≤◌}
use Rattle.pm_format.specs.declared.error.PmtError.TheVariants as errors
use Rattle.pm_format.specs.declared.error.ReadCause.TheVariants as causes
use Rattle.pm_format.specs.LookUp.{data_of}
use Rattle.pm_writer.proofs.ContentRanges.{content_range}
use Rattle.pm_writer.proofs.Found.{Answer, entries_apart, flat_answer, run_in, scan_is}
use Rattle.pm_writer.proofs.Levels.{deep, hop_here, hop_none, tile_here, tile_none, tower_hops, tower_tile}
use Rattle.pm_writer.proofs.Ordered.{AllRun, Apart, run_blocks}
use Rattle.pm_writer.proofs.Parts.{archive_laid, before_length, before_of, below_of, head_of, layout_of}
use Rattle.pm_writer.proofs.Towers.{archive_tower, few_levels, laying_of, levels_of, through_six}

-- a directory of tile entries, whose answer's range is the tile
data_found : (n : ℕ) (h : Header) (b : List ℕ) (es : List Entry) (t : ℕ) (tile : Option (List ℕ)) → MatchOption (scan es t) (tile ≡ None) (λ e. (1 ≤ e.run_length) × (data_of h b e ≡ Ok tile)) → tile_by n h b es t ≡ Ok tile
data_found n h b es t tile m = go (scan es t) refl m
  where
    go : (o : Option Entry) → scan es t ≡ o → MatchOption o (tile ≡ None) (λ e. (1 ≤ e.run_length) × (data_of h b e ≡ Ok tile)) → tile_by n h b es t ≡ Ok tile
    go None q m = tile_none n h b es t q ∙ ap Ok (sym m)
    go (Some e) q m = let some : nat_eq e.run_length 0 ≡ false = (let r = m.0 in grind (arith, nat_tests)) in tile_here n h b es t e q some ∙ m.1

-- every entry has a run
runs_kept : (e : Entry) (es : List Entry) → 1 ≤ e.run_length → AllRun es → AllRun (sorted_in e es)
runs_kept e [] r a = (r, tt)
runs_kept e (f ∷ es) r a = go (nat_le e.tile_id f.tile_id) refl (runs_kept e es r a.1)
  where
    go : (b : Bool) → nat_le e.tile_id f.tile_id ≡ b → AllRun (sorted_in e es) → AllRun (sorted_in e (f ∷ es))
    go true q k = rw q (r, a)
    go false q k = rw q (a.0, k)

runs_sorted : (es : List Entry) → AllRun es → AllRun (sorted es)
runs_sorted [] a = tt
runs_sorted (e ∷ es) a = runs_kept e (sorted es) a.0 (runs_sorted es a.1)

pub all_run : (adds : List (ℕ × List ℕ)) → AllRun (entries_of_adds adds)
all_run adds = runs_sorted (unsorted (place_in (contents_from [] adds)) adds) (run_blocks (place_in (contents_from [] adds)) (blocks adds))

pub rising_apart : (es : List Entry) → Apart es → AllRun es → Rising es
rising_apart [] w a = tt
rising_apart (e ∷ []) w a = tt
rising_apart (e ∷ f ∷ es) w a = (omega (arith, w.0, a.0), rising_apart (f ∷ es) w.1 a.1)

-- the tile that an entry's range holds
data_is : (h : Header) (b : List ℕ) (e : Entry) (x : List ℕ) → range_of b (h.data_offset + e.offset) e.length ≡ Some x → data_of h b e ≡ Ok (Some x)
data_is h b e x r = go (range_of b (h.data_offset + e.offset) e.length) r
  where
    go : (o : Option (List ℕ)) → o ≡ Some x → (elim o as (λ z. Result (Option (List ℕ)) PmtError) [ None ↦ Err (errors.Reading causes.PastEnd) | Some bytes ↦ Ok (Some bytes) ]) ≡ Ok (Some x)
    go None q = absurd (cc)
    go (Some y) q = ap Ok q

pub data_for : (o : Options) (adds : List (ℕ × List ℕ)) (t : ℕ) → OptionsFit o → Distinct adds → length (archive o adds) < 2 ^ 64
    → MatchOption (scan (entries_of_adds adds) t) (tile_in adds t ≡ None) (λ e. (1 ≤ e.run_length) × (data_of (head_of o adds) (archive o adds) e ≡ Ok (tile_in adds t)))
data_for o adds t f dist fits = go (scan (entries_of_adds adds) t) (flat_answer adds t dist (all_run adds))
  where
    go : (s : Option Entry) → MatchOption s (tile_in adds t ≡ None) (Answer adds t) → MatchOption s (tile_in adds t ≡ None) (λ e. (1 ≤ e.run_length) × (data_of (head_of o adds) (archive o adds) e ≡ Ok (tile_in adds t)))
    go None a = a
    go (Some e) a =
        let b = archive o adds in
        let range = content_range b (before_of o adds) (contents_from [] adds) (below_of o adds) a.bytes (archive_laid o adds) fits a.had in
        let place : 16384 + length o.metadata + e.offset ≡ length (before_of o adds) + place_in (contents_from [] adds) a.bytes = omega (arith, a.offset, before_length o adds f) in
        let found : range_of b (16384 + length o.metadata + e.offset) e.length ≡ Some a.bytes = ap (λ k. range_of b k e.length) place ∙ (ap (range_of b (length (before_of o adds) + place_in (contents_from [] adds) a.bytes)) a.size ∙ range) in
        (a.some, data_is (head_of o adds) b e a.bytes found ∙ ap Ok (sym a.tile))

tile_runs : (es : List Entry) (t : ℕ) → AllRun es → MatchOption (scan es t) (Unit {0}) (λ e. 1 ≤ e.run_length)
tile_runs es t a = go (scan es t) refl
  where
    go : (o : Option Entry) → scan es t ≡ o → MatchOption o (Unit {0}) (λ e. 1 ≤ e.run_length)
    go None q = tt
    go (Some e) q = run_in e es a (scan_is es t e a q).0

pub archive_read : (o : Options) (adds : List (ℕ × List ℕ)) (t : ℕ) → OptionsFit o → Distinct adds → AllRead (below_layout (layout_of o adds)) → length (archive o adds) < 2 ^ 64 → tile_by 6 (head_of o adds) (archive o adds) (layout_of o adds).root t ≡ Ok (tile_in adds t)
archive_read o adds t f dist read fits =
    let es = entries_of_adds adds in
    let ts = levels_of o.max_leaf_entries es (layout_of o adds) (laying_of o adds f) in
    let n = 6 - length ts in
    let all = through_six o.max_leaf_entries es (layout_of o adds) (laying_of o adds f) in
    ap (λ k. tile_by k (head_of o adds) (archive o adds) (layout_of o adds).root t) (sym all)
    ∙ (tower_tile n (head_of o adds) (archive o adds) ts (layout_of o adds).root es t (archive_tower o adds f read fits) (rising_apart es (entries_apart adds dist (all_run adds)) (all_run adds))
    ∙ data_found n (head_of o adds) (archive o adds) es t (tile_in adds t) (data_for o adds t f dist fits))

-- a directory of tile entries leads to no other
no_hop : (n : ℕ) (h : Header) (b : List ℕ) (es : List Entry) (t : ℕ) → MatchOption (scan es t) (Unit {0}) (λ e. 1 ≤ e.run_length) → hops_by n h b es t ≡ 0
no_hop n h b es t m = go (scan es t) refl m
  where
    go : (o : Option Entry) → scan es t ≡ o → MatchOption o (Unit {0}) (λ e. 1 ≤ e.run_length) → hops_by n h b es t ≡ 0
    go None q m = hop_none n h b es t q
    go (Some e) q m = let some : nat_eq e.run_length 0 ≡ false = grind (arith, nat_tests) in hop_here n h b es t e q some

-- at most two directories below the root are read
pub archive_hops : (o : Options) (adds : List (ℕ × List ℕ)) (t : ℕ) → OptionsFit o → Distinct adds → AllRead (below_layout (layout_of o adds)) → length (archive o adds) < 2 ^ 64 → hops_by 6 (head_of o adds) (archive o adds) (layout_of o adds).root t ≤ 2
archive_hops o adds t f dist read fits =
    let es = entries_of_adds adds in
    let ts = levels_of o.max_leaf_entries es (layout_of o adds) (laying_of o adds f) in
    let n = 6 - length ts in
    let few = few_levels o.max_leaf_entries es (layout_of o adds) (laying_of o adds f) in
    let all = through_six o.max_leaf_entries es (layout_of o adds) (laying_of o adds f) in
    let through = tower_hops n (head_of o adds) (archive o adds) ts (layout_of o adds).root es t (archive_tower o adds f read fits) (rising_apart es (entries_apart adds dist (all_run adds)) (all_run adds)) in
    let none = no_hop n (head_of o adds) (archive o adds) es t (tile_runs es t (all_run adds)) in
    let most : hops_by (deep ts n) (head_of o adds) (archive o adds) (layout_of o adds).root t ≤ 2 = omega (arith, through, none, few) in
    subst (λ k. hops_by k (head_of o adds) (archive o adds) (layout_of o adds).root t ≤ 2) all most
