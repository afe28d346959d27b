-- The bounds of the entries, from those of the adds.
use Rattle.pm_writer.proofs.Common.{AddsFilled, AllLow, AllRead, AllSized, ap, archive, arith, below_layout, Block, blocks, Bool, ConsistsOf, content_between, contents_from, DirFits, Distinct}
use Rattle.pm_writer.proofs.Common.{entries_at, entries_of_adds, Entry, entry, false, flat_map, HeaderFits, ids_of, if◌then◌else◌, inl, inr, IsArchivable, IsIn, length, length-append, List, lit<}
use Rattle.pm_writer.proofs.Common.{longest_run, MAX_TILE_ID, nat_eq, Options, OptionsFit, parts_of, place_in, refl, rising, runs, subst, suc, sum_by, sum_by-cons, sym, true, unsorted, zero, ℕ, []}
use Rattle.pm_writer.proofs.Common.{◌++◌, ◌+◌, ◌-◌, ◌/◌, ◌<◌, ◌^◌, ◌∙◌, ◌∷◌, ◌≡◌, ◌≤◌}
use Rattle.pm_writer.proofs.Parted.{in_append}
use Rattle.pm_writer.proofs.Parts.{archive_laid, before_length, before_of, below_of, head_of, layout_of, root_fits, tiles_of}
use Rattle.pm_writer.proofs.Runs.{le_or, runs_none, runs_short, runs_long}
use Rattle.pm_writer.proofs.ContentLemmas.{all_had, Filled, contents_filled}
use Rattle.pm_writer.proofs.Ordered.{NotFalling, AllRun, Apart, falling_sorted}
use Rattle.pm_writer.proofs.Found.{IsAdd, unsorted_has, had_add, run_in, entries_apart}
use Rattle.pm_writer.proofs.Reading.{all_run}
use Rattle.pm_writer.proofs.Formed.{archive_directories, ends_low, entries_are, formed, of_entry}

capped : (limit n offset len id count : ℕ) (e : Entry) → IsIn e (runs limit n offset len id count) → e.run_length ≤ limit
capped limit zero offset len id count e i = absurd i
capped limit (suc n) offset len id count e i = elim (le_or count 0) [
  | inl z ↦ let zero_is : count ≡ 0 = omega (arith, z) in absurd (subst (IsIn e) (ap (runs limit (suc n) offset len id) zero_is ∙ runs_none limit (suc n) offset len id) i)
  | inr pos ↦ elim (le_or count limit) [
    | inl h ↦ only h (subst (IsIn e) (runs_short limit n offset len id count pos h) i)
    | inr h ↦ more (capped limit n offset len (id + limit) (count - limit) e) (subst (IsIn e) (runs_long limit n offset len id count h) i)
  ]
]
  where
    only : count ≤ limit → IsIn e (entry id offset len count ∷ []) → e.run_length ≤ limit
    only h (inl s) = omega (arith, h, ap (λ z. z.run_length) s)
    only h (inr j) = absurd j

    more : (IsIn e (runs limit n offset len (id + limit) (count - limit)) → e.run_length ≤ limit) → IsIn e (entry id offset len limit ∷ runs limit n offset len (id + limit) (count - limit)) → e.run_length ≤ limit
    more again (inl s) = omega (arith, ap (λ z. z.run_length) s)
    more again (inr j) = again j

capped_all : (place : List ℕ → ℕ) (bs : List Block) (e : Entry) → IsIn e (flat_map (entries_at place) bs) → e.run_length ≤ longest_run
capped_all place [] e i = absurd i
capped_all place (b ∷ bs) e i = elim (in_append e (entries_at place b) (flat_map (entries_at place) bs) i) [
  | inl j ↦ capped longest_run (b.count / longest_run + 1) (place b.bytes) (length b.bytes) b.first b.count e j
  | inr j ↦ capped_all place bs e j
]

run_low : (adds : List (ℕ × List ℕ)) (e : Entry) → IsIn e (entries_of_adds adds) → e.run_length ≤ longest_run
run_low adds e i = capped_all (place_in (contents_from [] adds)) (blocks adds) e (unsorted_has e (unsorted (place_in (contents_from [] adds)) adds) i)

add_sized : (adds : List (ℕ × List ℕ)) (t : ℕ) (x : List ℕ) → AllSized adds → IsAdd adds t x → length x < 2 ^ 32
add_sized [] t x s i = absurd i
add_sized (a ∷ adds) t x s (inl q) = omega (arith, s.0, ap length q.1)
add_sized (a ∷ adds) t x s (inr i) = add_sized adds t x s.1 i

-- what each entry meets
record EntryFits (e : Entry) : Type 0 where
  id : e.tile_id < 2 ^ 64
  size : e.length < 2 ^ 32
  run : e.run_length < 2 ^ 32
  offset : e.offset + 1 < 2 ^ 64
  end : e.offset + e.length < 2 ^ 64

fits_all : (last : ℕ) (es : List Entry) → NotFalling es → ((e : Entry) → IsIn e es → EntryFits e) → ((e : Entry) → IsIn e es → last ≤ e.tile_id) → DirFits last es
fits_all last [] n f l = tt
fits_all last (e ∷ []) n f l = let k = f e (inl refl) in (l e (inl refl), k.id, k.size, k.run, k.offset, k.end, tt)
fits_all last (e ∷ g ∷ es) n f l = let k = f e (inl refl) in (l e (inl refl), k.id, k.size, k.run, k.offset, k.end, fits_all e.tile_id (g ∷ es) n.1 (λ d i. f d (inr i)) (later e g es n))
  where
    least : (g d : Entry) (es : List Entry) → NotFalling (g ∷ es) → IsIn d es → g.tile_id ≤ d.tile_id
    least g d [] n i = absurd i
    least g d (h ∷ es) n (inl s) = omega (arith, n.0, ap (λ z. z.tile_id) s)
    least g d (h ∷ es) n (inr i) = omega (arith, n.0, least h d es n.1 i)

    later : (e g : Entry) (es : List Entry) → NotFalling (e ∷ g ∷ es) → (d : Entry) → IsIn d (g ∷ es) → e.tile_id ≤ d.tile_id
    later e g es n d i = least e d (g ∷ es) n i

entry_fits : (adds : List (ℕ × List ℕ)) (e : Entry) → AllLow adds → AllSized adds → length (tiles_of adds) + 1 < 2 ^ 64 → IsIn e (entries_of_adds adds) → EntryFits e
entry_fits adds e low sized total i =
    let g = of_entry adds e i in
    let r = run_in e (entries_of_adds adds) (all_run adds) i in
    let b = content_between g.bytes (contents_from [] adds) (had_add (contents_from [] adds) adds e.tile_id g.bytes (all_had [] adds) g.add) in
    let whole = ap length b.parts ∙ (length-append b.before (g.bytes ++ b.behind) ∙ ap (λ n. length b.before + n) (length-append g.bytes b.behind)) in
    record {
      id = omega (arith, ends_low adds e low i, r);
      size = omega (arith, add_sized adds e.tile_id g.bytes sized g.add, g.size);
      run = omega (arith, run_low adds e i);
      offset = omega (arith, whole, g.offset, b.place, total);
      end = omega (arith, whole, g.offset, b.place, g.size, total);
    }

pub entries_fit : (adds : List (ℕ × List ℕ)) → AllLow adds → AllSized adds → length (tiles_of adds) + 1 < 2 ^ 64 → DirFits 0 (entries_of_adds adds)
entries_fit adds low sized total = fits_all 0 (entries_of_adds adds) (falling_sorted (unsorted (place_in (contents_from [] adds)) adds)) (λ e i. entry_fits adds e low sized total i) (λ e i. omega arith)

past : (e g : Entry) (es : List Entry) → Apart (e ∷ g ∷ es) → (d : Entry) → IsIn d (g ∷ es) → e.tile_id + e.run_length ≤ d.tile_id
past e g es w d (inl s) = omega (arith, w.0, ap (λ z. z.tile_id) s)
past e g [] w d (inr i) = absurd i
past e g (f ∷ es) w d (inr i) = omega (arith, w.0, past g f es w.1 d i)

-- there are no more entries than ids
count_low : (limit low : ℕ) (es : List Entry) → Apart es → AllRun es → ((e : Entry) → IsIn e es → e.tile_id + e.run_length ≤ limit) → ((e : Entry) → IsIn e es → low ≤ e.tile_id) → low ≤ limit → length es + low ≤ limit
count_low limit low [] w a u l h = omega (arith, h)
count_low limit low (e ∷ []) w a u l h = (let k = u e (inl refl) in let m = l e (inl refl) in omega (arith, k, m, a.0))
count_low limit low (e ∷ g ∷ es) w a u l h =
    let k = u e (inl refl) in
    let m = l e (inl refl) in
    let again = count_low limit (e.tile_id + e.run_length) (g ∷ es) w.1 a.1 (λ d i. u d (inr i)) (past e g es w) k in
    omega (arith, again, m, a.0)

pub entries_few : (adds : List (ℕ × List ℕ)) → Distinct adds → AllLow adds → length (entries_of_adds adds) < 2 ^ 64
entries_few adds dist low = (let k = count_low (MAX_TILE_ID + 1) 0 (entries_of_adds adds) (entries_apart adds dist (all_run adds)) (all_run adds) (λ e i. ends_low adds e low i) (λ e i. omega arith) (omega arith) in omega (arith, k))

pub total_low : (o : Options) (adds : List (ℕ × List ℕ)) → OptionsFit o → length (archive o adds) < 2 ^ 64 → (16384 + length o.metadata + length (tiles_of adds) + length (below_of o adds) < 2 ^ 64) × (length (tiles_of adds) + 1 < 2 ^ 64)
total_low o adds f fits =
    let whole = ap length (archive_laid o adds) in
    let front = before_length o adds f in
    let a = length-append (before_of o adds) (tiles_of adds ++ below_of o adds) in
    let b = length-append (tiles_of adds) (below_of o adds) in
    (omega (arith, fits, whole, front, a, b), omega (arith, fits, whole, front, a, b))

-- the runs together are no more than the ids
sum_low : (limit low : ℕ) (es : List Entry) → Apart es → AllRun es → ((e : Entry) → IsIn e es → e.tile_id + e.run_length ≤ limit) → ((e : Entry) → IsIn e es → low ≤ e.tile_id) → low ≤ limit → sum_by (λ e. e.run_length) es + low ≤ limit
sum_low limit low [] w a u l h = omega (arith, h)
sum_low limit low (e ∷ []) w a u l h = (let k = u e (inl refl) in let m = l e (inl refl) in omega (arith, k, m, sum_by-cons (λ e. e.run_length) e []))
sum_low limit low (e ∷ g ∷ es) w a u l h =
    let k = u e (inl refl) in
    let m = l e (inl refl) in
    let again = sum_low limit (e.tile_id + e.run_length) (g ∷ es) w.1 a.1 (λ d i. u d (inr i)) (past e g es w) k in
    omega (arith, again, m, sum_by-cons (λ e. e.run_length) e (g ∷ es))

pub runs_few : (adds : List (ℕ × List ℕ)) → Distinct adds → AllLow adds → sum_by (λ e. e.run_length) (entries_of_adds adds) < 2 ^ 64
runs_few adds dist low = (let k = sum_low (MAX_TILE_ID + 1) 0 (entries_of_adds adds) (entries_apart adds dist (all_run adds)) (all_run adds) (λ e i. ends_low adds e low i) (λ e i. omega arith) (omega arith) in omega (arith, k))

contents_few : (cs : List (List ℕ)) → Filled cs → length cs ≤ length (flat_map (λ c. c) cs)
contents_few [] f = omega arith
contents_few (c ∷ cs) f = omega (arith, f.0, contents_few cs f.1, length-append c (flat_map (λ c. c) cs))

low_choice : (b : Bool) (n : ℕ) → n < 2 ^ 64 → (if b then 0 else n) < 2 ^ 64
low_choice true n h = lit< tt
low_choice false n h = h

pub header_fits : (o : Options) (adds : List (ℕ × List ℕ)) → OptionsFit o → AddsFilled adds → Distinct adds → AllLow adds → length (archive o adds) < 2 ^ 64 → HeaderFits (head_of o adds)
header_fits o adds of filled dist low fits =
    let t = total_low o adds of fits in
    let es = entries_are o adds of in
    record {
      version = lit< tt;
      root_offset = lit< tt;
      root_length = omega (arith, root_fits o adds of);
      metadata_offset = lit< tt;
      metadata_length = omega (arith, t.0);
      leaf_offset = low_choice (nat_eq (length (layout_of o adds).leaves) 0) (16384 + length o.metadata + length (tiles_of adds)) (omega (arith, t.0));
      leaf_length = omega (arith, t.0);
      data_offset = omega (arith, t.0);
      data_length = omega (arith, t.0);
      n_addressed_tiles = subst (λ z. sum_by (λ e. e.run_length) z < 2 ^ 64) (sym es) (runs_few adds dist low);
      n_tile_entries = subst (λ z. length z < 2 ^ 64) (sym es) (entries_few adds dist low);
      n_tile_contents = omega (arith, t.0, contents_few (contents_from [] adds) (contents_filled [] adds tt filled));
      min_zoom = of.min_zoom;
      max_zoom = of.max_zoom;
      min_longitude = of.min_longitude;
      min_latitude = of.min_latitude;
      max_longitude = of.max_longitude;
      max_latitude = of.max_latitude;
      center_zoom = of.center_zoom;
      center_longitude = of.center_longitude;
      center_latitude = of.center_latitude;
    }

-- the root and the directories below it are read again
pub all_again : (o : Options) (adds : List (ℕ × List ℕ)) → IsArchivable o adds → AllRead ((layout_of o adds).root ∷ below_layout (layout_of o adds))
all_again o adds a = archive_directories o adds a.options (entries_fit adds a.low a.sized (total_low o adds a.options a.ends).1) (entries_few adds a.distinct a.low) a.short a.ends

pub whole_formed : (o : Options) (adds : List (ℕ × List ℕ)) → IsArchivable o adds → ConsistsOf (archive o adds) o (rising (ids_of adds)) (parts_of o adds)
whole_formed o adds a = formed o adds a.options (header_fits o adds a.options a.filled a.distinct a.low a.ends) a.filled a.distinct a.low (all_again o adds a) a.ends
