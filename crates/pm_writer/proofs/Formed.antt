-- The archive is well formed.
use Rattle.pm_writer.proofs.Common.{AddsFilled, AllAtMost, AllIn, AllLeaves, AllLow, AllNamed, AllRead, AllShort, AllSome, AllTiles, ap, append-nil, archive, archive_opens, arith, below_layout, Block}
use Rattle.pm_writer.proofs.Common.{blocks, Bool, bytes_eq, ConsistsOf, contents_from, dir_bytes, DirFits, Distinct, end_of, entries_at, entries_of_adds, Entry, entry, false, filter, flat_map, Has}
use Rattle.pm_writer.proofs.Common.{has_equal, has_front, has_later, HeaderFits, ids_of, InContents, inl, inr, IsFlat, IsIn, IsNamed, IsSome, joined, Layout, length, length-append, List, list_any}
use Rattle.pm_writer.proofs.Common.{lit<, longest_run, MAX_TILE_ID, NamesLeaves, NamesUppers, nat_eq, nat_tests, None, not, onto, Option, Options, OptionsFit, parts_of, place_here, place_in}
use Rattle.pm_writer.proofs.Common.{place_later, put_new, range_of, refl, rising, root_of, runs, same_or, Some, SoundDirectory, subst, suc, sum_by, sum_by-append, sum_by-cons, sym, tile_entries, true}
use Rattle.pm_writer.proofs.Common.{unsorted, zero, ℕ, [], ◌&&◌, ◌*◌, ◌++◌, ◌+◌, ◌-◌, ◌/◌, ◌<◌, ◌^◌, ◌∙◌, ◌∷◌, ◌≡◌, ◌≢◌, ◌≤◌, ◌⊎◌}
use Rattle.pm_writer.proofs.Parts.{archive_laid, before_length, before_of, below_of, head_of, layout_of, root_fits, tiles_of}
use Rattle.pm_writer.proofs.Runs.{le_or, runs_none, runs_short, runs_long}
use Rattle.pm_writer.proofs.Blocks.{single, longer, enough}
use Rattle.pm_writer.proofs.ContentLemmas.{contents_filled, Filled, all_had}
use Rattle.pm_writer.proofs.Ordered.{AllRun, same_sorted}
use Rattle.pm_writer.proofs.SoundTiles.{run_left, run_right, tiles_sound}
use Rattle.pm_writer.proofs.Levels.{tower_sound}
use Rattle.pm_writer.proofs.Towers.{all_read, archive_tower, laying_of, levels_of, through_six}
use Rattle.pm_writer.proofs.Found.{IsAdd, Given, given_of, had_add, run_in, add_covered, tile_of_add, entries_apart}
use Rattle.pm_writer.proofs.Laying.{IsLaidAs, LeavesOf}
use Rattle.pm_writer.proofs.ContentRanges.{content_range}
use Rattle.pm_writer.proofs.Reading.{all_run}

-- the runs count the adds
runs_sum : (limit n offset len id count : ℕ) → count ≤ n * limit → sum_by (λ e. e.run_length) (runs limit n offset len id count) ≡ count
runs_sum limit zero offset len id count fits = omega (arith, fits)
runs_sum limit (suc n) offset len id count fits = elim (le_or count 0) [
  | inl z ↦ (let zero_is : count ≡ 0 = omega (arith, z) in ap (sum_by (λ e. e.run_length)) (ap (runs limit (suc n) offset len id) zero_is ∙ runs_none limit (suc n) offset len id) ∙ sym zero_is)
  | inr pos ↦ elim (le_or count limit) [
    | inl h ↦ ap (sum_by (λ e. e.run_length)) (runs_short limit n offset len id count pos h) ∙ omega (arith, sum_by-cons (λ e. e.run_length) (entry id offset len count) [])
    | inr h ↦ ap (sum_by (λ e. e.run_length)) (runs_long limit n offset len id count h) ∙ omega (arith, h, sum_by-cons (λ e. e.run_length) (entry id offset len limit) (runs limit n offset len (id + limit) (count - limit)), runs_sum limit n offset len (id + limit) (count - limit) (omega (arith, h, fits)))
  ]
]

blocks_sum : (place : List ℕ → ℕ) (bs : List Block) → sum_by (λ e. e.run_length) (flat_map (entries_at place) bs) ≡ sum_by (λ b. b.count) bs
blocks_sum place [] = refl
blocks_sum place (b ∷ bs) = sum_by-append (λ e. e.run_length) (entries_at place b) (flat_map (entries_at place) bs) ∙ omega (arith, blocks_sum place bs, runs_sum longest_run (b.count / longest_run + 1) (place b.bytes) (length b.bytes) b.first b.count (enough b.count longest_run (lit< tt)), sum_by-cons (λ b. b.count) b bs)

onto_sum : (a : ℕ × List ℕ) (bs : List Block) → sum_by (λ b. b.count) (onto a bs) ≡ suc (sum_by (λ b. b.count) bs)
onto_sum a [] = refl
onto_sum a (b ∷ bs) = go (nat_eq (a.0 + 1) b.first && bytes_eq a.1 b.bytes) refl
  where
    go : (c : Bool) → (nat_eq (a.0 + 1) b.first && bytes_eq a.1 b.bytes) ≡ c → sum_by (λ b. b.count) (onto a (b ∷ bs)) ≡ suc (sum_by (λ b. b.count) (b ∷ bs))
    go true q = let o : onto a (b ∷ bs) ≡ longer a b ∷ bs = rw q refl in ap (sum_by (λ b. b.count)) o ∙ omega (arith, sum_by-cons (λ b. b.count) b bs, sum_by-cons (λ b. b.count) (longer a b) bs)
    go false q = let o : onto a (b ∷ bs) ≡ single a ∷ b ∷ bs = rw q refl in ap (sum_by (λ b. b.count)) o ∙ omega (arith, sum_by-cons (λ b. b.count) (single a) (b ∷ bs))

adds_sum : (adds : List (ℕ × List ℕ)) → sum_by (λ b. b.count) (blocks adds) ≡ length adds
adds_sum [] = refl
adds_sum (a ∷ adds) = onto_sum a (blocks adds) ∙ ap suc (adds_sum adds)

pub addressed : (adds : List (ℕ × List ℕ)) → length adds ≡ sum_by (λ e. e.run_length) (entries_of_adds adds)
addressed adds = sym (same_sorted (λ e. e.run_length) (unsorted (place_in (contents_from [] adds)) adds) ∙ (blocks_sum (place_in (contents_from [] adds)) (blocks adds) ∙ adds_sum adds))

-- the tile entries of all directories are the entries
filter_all : (es : List Entry) → AllRun es → filter (λ e. not (nat_eq e.run_length 0)) es ≡ es
filter_all [] a = refl
filter_all (e ∷ es) a = let q : nat_eq e.run_length 0 ≡ false = (let r = a.0 in grind (arith, nat_tests)) in rw (q, filter_all es a.1) refl

filter_root : (place : ℕ) (ls : List (List Entry)) → filter (λ e. not (nat_eq e.run_length 0)) (root_of place ls) ≡ []
filter_root place [] = refl
filter_root place (l ∷ ls) = filter_root (place + length (dir_bytes l)) ls

entries_laid : (most : ℕ) (es : List Entry) (l : Layout) → IsLaidAs most es l → AllRun es → filter (λ e. not (nat_eq e.run_length 0)) l.root ++ joined l.leaves ≡ es
entries_laid most es l (inl w) a = ap (λ z. filter (λ e. not (nat_eq e.run_length 0)) z ++ joined l.leaves) w.root ∙ (ap (λ z. filter (λ e. not (nat_eq e.run_length 0)) es ++ joined z) w.leaves ∙ (append-nil (filter (λ e. not (nat_eq e.run_length 0)) es) ∙ filter_all es a))
entries_laid most es l (inr (inl w)) a = ap (λ z. filter (λ e. not (nat_eq e.run_length 0)) z ++ joined l.leaves) w.root ∙ (ap (λ z. z ++ joined l.leaves) (filter_root 0 l.leaves) ∙ w.of.joins)
entries_laid most es l (inr (inr w)) a = ap (λ z. filter (λ e. not (nat_eq e.run_length 0)) z ++ joined l.leaves) w.root ∙ (ap (λ z. z ++ joined l.leaves) (filter_root (end_of l.leaves) l.uppers) ∙ w.of.joins)

pub entries_are : (o : Options) (adds : List (ℕ × List ℕ)) → OptionsFit o → tile_entries (parts_of o adds) ≡ entries_of_adds adds
entries_are o adds f = entries_laid o.max_leaf_entries (entries_of_adds adds) (layout_of o adds) (laying_of o adds f) (all_run adds)

-- ranges of contents
in_contents : (cs : List (List ℕ)) (at : ℕ) (e : Entry) (x : List ℕ) → Has cs x → e.offset ≡ at + place_in cs x → e.length ≡ length x → InContents cs at e
in_contents [] at e x h p s = absurd (cc)
in_contents (c ∷ cs) at e x h p s = elim (same_or c x) [
  | inl q ↦ inl (omega (arith, p, place_here c x cs q.1), s ∙ ap length (sym q.1))
  | inr q ↦ elim (has_front c x cs h) [
    | inl r ↦ absurd (q.1 (sym r))
    | inr r ↦ inr (in_contents cs (at + length c) e x r (omega (arith, p, place_later c x cs q.1)) s)
  ]
]

all_in : (cs : List (List ℕ)) (es : List Entry) → ((e : Entry) → IsIn e es → InContents cs 0 e) → AllIn cs es
all_in cs [] h = tt
all_in cs (e ∷ es) h = (h e (inl refl), all_in cs es (λ d i. h d (inr i)))

-- the content of an entry
pub of_entry : (adds : List (ℕ × List ℕ)) (e : Entry) → IsIn e (entries_of_adds adds) → Given (place_in (contents_from [] adds)) adds e.tile_id e
of_entry adds e i = given_of adds e.tile_id e i (omega arith, (let r = run_in e (entries_of_adds adds) (all_run adds) i in omega (arith, r)))

ranges_are : (adds : List (ℕ × List ℕ)) → AllIn (contents_from [] adds) (entries_of_adds adds)
ranges_are adds = all_in (contents_from [] adds) (entries_of_adds adds) (λ e i.
    let g = of_entry adds e i in
    in_contents (contents_from [] adds) 0 e g.bytes (had_add (contents_from [] adds) adds e.tile_id g.bytes (all_had [] adds) g.add) (omega (arith, g.offset)) g.size)

-- contents stand once
abbrev pub NoRepeat : List (List ℕ) → Type 0
NoRepeat [] = Unit {0}
NoRepeat (c ∷ cs) = (list_any (bytes_eq c) cs ≡ false) × NoRepeat cs

not_in_push : (c x : List ℕ) (cs : List (List ℕ)) → list_any (bytes_eq c) cs ≡ false → c ≢ x → list_any (bytes_eq c) (cs ++ x ∷ []) ≡ false
not_in_push c x [] h n = elim (same_or c x) [ inl s ↦ absurd (n s.1) | inr s ↦ rw (s.0) refl ]
not_in_push c x (d ∷ cs) h n = elim (same_or c d) [
  | inl s ↦ absurd (let q : list_any (bytes_eq c) (d ∷ cs) ≡ true = rw (s.0) refl in cc)
  | inr s ↦ rw (s.0) (not_in_push c x cs (let q : list_any (bytes_eq c) (d ∷ cs) ≡ list_any (bytes_eq c) cs = rw (s.0) refl in sym q ∙ h) n)
]

no_repeat_push : (cs : List (List ℕ)) (x : List ℕ) → NoRepeat cs → list_any (bytes_eq x) cs ≡ false → NoRepeat (cs ++ x ∷ [])
no_repeat_push [] x n h = (refl, tt)
no_repeat_push (c ∷ cs) x n h = elim (same_or x c) [
  | inl s ↦ absurd (let q : list_any (bytes_eq x) (c ∷ cs) ≡ true = rw (s.0) refl in cc)
  | inr s ↦ (not_in_push c x cs n.0 (λ e. s.1 (sym e)), no_repeat_push cs x n.1 (let q : list_any (bytes_eq x) (c ∷ cs) ≡ list_any (bytes_eq x) cs = rw (s.0) refl in sym q ∙ h))
]

no_repeat_put : (cs : List (List ℕ)) (x : List ℕ) → NoRepeat cs → NoRepeat (put_new cs x)
no_repeat_put cs x n = go (list_any (bytes_eq x) cs) refl
  where
    go : (b : Bool) → list_any (bytes_eq x) cs ≡ b → NoRepeat (put_new cs x)
    go true q = rw q n
    go false q = rw q (no_repeat_push cs x n q)

pub no_repeat : (seen : List (List ℕ)) (adds : List (ℕ × List ℕ)) → NoRepeat seen → NoRepeat (contents_from seen adds)
no_repeat seen [] n = n
no_repeat seen (a ∷ adds) n = no_repeat (put_new seen a.1) adds (no_repeat_put seen a.1 n)

-- every content is that of an add
from_push : (cs : List (List ℕ)) (x y : List ℕ) → Has (cs ++ x ∷ []) y → Has cs y ⊎ (y ≡ x)
from_push [] x y h = elim (has_front x y [] h) [ inl e ↦ inr e | inr g ↦ absurd (cc) ]
from_push (c ∷ cs) x y h = elim (has_front c y (cs ++ x ∷ []) h) [
  | inl e ↦ inl (has_equal c y cs e)
  | inr g ↦ elim (from_push cs x y g) [ inl k ↦ inl (has_later c y cs k) | inr e ↦ inr e ]
]

from_put : (cs : List (List ℕ)) (x y : List ℕ) → Has (put_new cs x) y → Has cs y ⊎ (y ≡ x)
from_put cs x y h = go (list_any (bytes_eq x) cs) refl
  where
    go : (b : Bool) → list_any (bytes_eq x) cs ≡ b → Has cs y ⊎ (y ≡ x)
    go true q = inl (let s : put_new cs x ≡ cs = rw q refl in subst (λ z. Has z y) s h)
    go false q = from_push cs x y (let s : put_new cs x ≡ cs ++ x ∷ [] = rw q refl in subst (λ z. Has z y) s h)

from_add : (seen : List (List ℕ)) (adds : List (ℕ × List ℕ)) (y : List ℕ) → Has (contents_from seen adds) y → Has seen y ⊎ ((t : ℕ) × IsAdd adds t y)
from_add seen [] y h = inl h
from_add seen (a ∷ adds) y h = elim (from_add (put_new seen a.1) adds y h) [
  | inl g ↦ elim (from_put seen a.1 y g) [ inl k ↦ inl k | inr e ↦ inr (a.0, inl (refl, sym e)) ]
  | inr g ↦ inr (g.0, inr g.1)
]

named_by : (es : List Entry) (e : Entry) (at len : ℕ) → IsIn e es → e.offset ≡ at → e.length ≡ len → IsNamed es at len
named_by [] e at len i p q = absurd i
named_by (d ∷ es) e at len (inl s) p q = inl (ap (λ z. z.offset) (sym s) ∙ p, ap (λ z. z.length) (sym s) ∙ q)
named_by (d ∷ es) e at len (inr i) p q = inr (named_by es e at len i p q)

all_named : (es : List Entry) (at : ℕ) (cs : List (List ℕ)) → NoRepeat cs → Filled cs → ((c : List ℕ) → Has cs c → IsNamed es (at + place_in cs c) (length c)) → AllNamed es at cs
all_named es at [] n f h = tt
all_named es at (c ∷ cs) n f h = (
  (λ e. absurd (omega (arith, f.0, ap length e))),
  (let z : at + place_in (c ∷ cs) c ≡ at = omega (arith, place_here c c cs refl) in subst (λ k. IsNamed es k (length c)) z (h c (has_equal c c cs refl))),
  all_named es (at + length c) cs n.1 f.1 (λ d g.
      let differ : c ≢ d = λ e. (let k : Has cs c = subst (Has cs) (sym e) g in absurd (let m = n.0 in cc)) in
      let z : at + place_in (c ∷ cs) d ≡ at + length c + place_in cs d = omega (arith, place_later c d cs differ) in
      subst (λ k. IsNamed es k (length d)) z (h d (has_later c d cs g))),
)

named_are : (adds : List (ℕ × List ℕ)) → AddsFilled adds → Distinct adds → AllNamed (entries_of_adds adds) 0 (contents_from [] adds)
named_are adds filled dist = all_named (entries_of_adds adds) 0 (contents_from [] adds) (no_repeat [] adds tt) (contents_filled [] adds tt filled) (λ c h. each c (from_add [] adds c h))
  where
    each : (c : List ℕ) → (Has [] c ⊎ ((t : ℕ) × IsAdd adds t c)) → IsNamed (entries_of_adds adds) (0 + place_in (contents_from [] adds) c) (length c)
    each c (inl h) = absurd (cc)
    each c (inr (t, i)) =
        let v = add_covered adds t c i in
        let g = given_of adds t v.0 v.1 v.2 in
        let same : g.bytes ≡ c = (let p = sym (tile_of_add adds t g.bytes (dist t) g.add) ∙ tile_of_add adds t c (dist t) i in cc) in
        named_by (entries_of_adds adds) v.0 (0 + place_in (contents_from [] adds) c) (length c) v.1 (omega (arith, g.offset, ap (place_in (contents_from [] adds)) same)) (g.size ∙ ap length same)

all_tiles : (es : List Entry) → AllRun es → AllTiles es
all_tiles [] a = tt
all_tiles (e ∷ es) a = ((λ z. (let r = a.0 in omega (arith, r, z))), all_tiles es a.1)

all_leaves : (ls : List (List Entry)) → AllSome ls → AllRun (joined ls) → AllLeaves ls
all_leaves [] s a = tt
all_leaves (l ∷ ls) s a = (s.0, all_tiles l (run_left l (joined ls) a), all_leaves ls s.1 (run_right l (joined ls) a))

kinds_are : (o : Options) (adds : List (ℕ × List ℕ)) → OptionsFit o → IsFlat (parts_of o adds) ⊎ (NamesLeaves (parts_of o adds) ⊎ NamesUppers (parts_of o adds))
kinds_are o adds f = go (laying_of o adds f)
  where
    leaves : LeavesOf o.max_leaf_entries (entries_of_adds adds) (layout_of o adds) → AllLeaves (layout_of o adds).leaves
    leaves w = all_leaves (layout_of o adds).leaves w.some (subst AllRun (sym w.joins) (all_run adds))

    go : IsLaidAs o.max_leaf_entries (entries_of_adds adds) (layout_of o adds) → IsFlat (parts_of o adds) ⊎ (NamesLeaves (parts_of o adds) ⊎ NamesUppers (parts_of o adds))
    go (inl w) = inl (record { tiles = subst AllTiles (sym w.root) (all_tiles (entries_of_adds adds) (all_run adds)); leaves = w.leaves; uppers = w.uppers })
    go (inr (inl w)) = inr (inl (record { root = w.root; leaves = leaves w.of; uppers = w.uppers }))
    go (inr (inr w)) = inr (inr (record { root = w.root; named = w.names; leaves = leaves w.of; uppers = w.some }))

pub bounded_are : (o : Options) (adds : List (ℕ × List ℕ)) → OptionsFit o → AllAtMost o.max_leaf_entries (layout_of o adds).leaves
bounded_are o adds f = go (laying_of o adds f)
  where
    go : IsLaidAs o.max_leaf_entries (entries_of_adds adds) (layout_of o adds) → AllAtMost o.max_leaf_entries (layout_of o adds).leaves
    go (inl w) = subst (AllAtMost o.max_leaf_entries) (sym w.leaves) tt
    go (inr (inl w)) = w.of.most_of
    go (inr (inr w)) = w.of.most_of

add_low : (adds : List (ℕ × List ℕ)) (t : ℕ) (x : List ℕ) → AllLow adds → IsAdd adds t x → t ≤ MAX_TILE_ID
add_low [] t x l i = absurd i
add_low (a ∷ adds) t x l (inl s) = omega (arith, l.0, s.0)
add_low (a ∷ adds) t x l (inr i) = add_low adds t x l.1 i

pub ends_low : (adds : List (ℕ × List ℕ)) (e : Entry) → AllLow adds → IsIn e (entries_of_adds adds) → e.tile_id + e.run_length ≤ (MAX_TILE_ID + 1)
ends_low adds e l i =
    let r = run_in e (entries_of_adds adds) (all_run adds) i in
    let g = given_of adds (e.tile_id + e.run_length - 1) e i (omega (arith, r), omega (arith, r)) in
    omega (arith, add_low adds (e.tile_id + e.run_length - 1) g.bytes l g.add, r)

some_is : (o : Option (List ℕ)) (x : List ℕ) → o ≡ Some x → IsSome o
some_is None x e = absurd (cc)
some_is (Some y) x e = refl

entry_range : (o : Options) (adds : List (ℕ × List ℕ)) (e : Entry) → OptionsFit o → length (archive o adds) < 2 ^ 64 → IsIn e (entries_of_adds adds) → IsSome (range_of (archive o adds) ((head_of o adds).data_offset + e.offset) e.length)
entry_range o adds e f fits i =
    let g = of_entry adds e i in
    let b = archive o adds in
    let range = content_range b (before_of o adds) (contents_from [] adds) (below_of o adds) g.bytes (archive_laid o adds) fits (had_add (contents_from [] adds) adds e.tile_id g.bytes (all_had [] adds) g.add) in
    let place : 16384 + length o.metadata + e.offset ≡ length (before_of o adds) + place_in (contents_from [] adds) g.bytes = omega (arith, g.offset, before_length o adds f) in
    some_is (range_of b (16384 + length o.metadata + e.offset) e.length) g.bytes (ap (λ k. range_of b k e.length) place ∙ (ap (range_of b (length (before_of o adds) + place_in (contents_from [] adds) g.bytes)) g.size ∙ range))

sound_are : (o : Options) (adds : List (ℕ × List ℕ)) → OptionsFit o → Distinct adds → AllLow adds → AllRead (below_layout (layout_of o adds)) → length (archive o adds) < 2 ^ 64
    → SoundDirectory 6 (head_of o adds) (archive o adds) 0 (MAX_TILE_ID + 1) (layout_of o adds).root
sound_are o adds f dist low read fits =
    let es = entries_of_adds adds in
    let ts = levels_of o.max_leaf_entries es (layout_of o adds) (laying_of o adds f) in
    let n = 6 - length ts in
    let all = through_six o.max_leaf_entries es (layout_of o adds) (laying_of o adds f) in
    let tiles = tiles_sound n (head_of o adds) (archive o adds) 0 (MAX_TILE_ID + 1) es (entries_apart adds dist (all_run adds)) (all_run adds) (λ e i. omega arith) (λ e i. ends_low adds e low i) (λ e i. entry_range o adds e f fits i) in
    subst (λ k. SoundDirectory k (head_of o adds) (archive o adds) 0 (MAX_TILE_ID + 1) (layout_of o adds).root) all
    (tower_sound n (head_of o adds) (archive o adds) 0 (MAX_TILE_ID + 1) ts (layout_of o adds).root es (archive_tower o adds f read fits) tiles)

-- the root and the directories below it are read again
pub archive_directories : (o : Options) (adds : List (ℕ × List ℕ)) → OptionsFit o → DirFits 0 (entries_of_adds adds) → length (entries_of_adds adds) < 2 ^ 64 → AllShort (below_layout (layout_of o adds)) → length (archive o adds) < 2 ^ 64
    → AllRead ((layout_of o adds).root ∷ below_layout (layout_of o adds))
archive_directories o adds f fit many short fits =
    all_read o.max_leaf_entries (entries_of_adds adds) (layout_of o adds) (laying_of o adds f) fit many short
    (omega (arith, fits, ap length (archive_laid o adds), length-append (before_of o adds) (tiles_of adds ++ below_of o adds), length-append (tiles_of adds) (below_of o adds)))

pub formed : (o : Options) (adds : List (ℕ × List ℕ)) → OptionsFit o → HeaderFits (head_of o adds) → AddsFilled adds → Distinct adds → AllLow adds → AllRead ((layout_of o adds).root ∷ below_layout (layout_of o adds)) → length (archive o adds) < 2 ^ 64
    → ConsistsOf (archive o adds) o (rising (ids_of adds)) (parts_of o adds)
unfolding archive
formed o adds f hf filled dist low read fits = record {
  bytes = refl;
  small = root_fits o adds f;
  opens = archive_opens o (rising (ids_of adds)) (parts_of o adds) hf (root_fits o adds f) read.0;
  sound = sound_are o adds f dist low read.1 fits;
  kinds = kinds_are o adds f;
  bounded = bounded_are o adds f;
  read = read;
  ranges = subst (AllIn (contents_from [] adds)) (sym (entries_are o adds f)) (ranges_are adds);
  named = subst (λ z. AllNamed z 0 (contents_from [] adds)) (sym (entries_are o adds f)) (named_are adds filled dist);
}
