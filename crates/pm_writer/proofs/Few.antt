-- Few and short adds have an archive that can be written.
use Rattle.pm_writer.proofs.Common.{add_to, AddFits, AllAtMost, AllShort, AllSized, AllSome, ap, ArchiveFits, AreFew, arith, below_layout, Bool, bytes_eq, contents_from, cut, data_of, dir_bytes, drop}
use Rattle.pm_writer.proofs.Common.{drop_all, end_of, entries_of_adds, Entry, false, fits_root, flat_map, flat_push, inl, inr, joined, laid, Layout, length, length-append, length-drop, length-map}
use Rattle.pm_writer.proofs.Common.{length_starts, length_steps, List, list_any, map, mul-le-mul_right, nat_tests, None, Options, OptionsFit, pieces, put_new, refl, root_of, spell_all, stands_in_root}
use Rattle.pm_writer.proofs.Common.{starts_from, steps_from, subst, suc, sum_by, sum_by-append, sum_by-cons, sym, true, uppers_by, varint, zero, ℕ, [], ◌*◌, ◌++◌, ◌+◌, ◌/◌, ◌<◌, ◌^◌, ◌∙◌, ◌∷◌, ◌≡◌}
use Rattle.pm_writer.proofs.Common.{◌≤◌}
use Rattle.pm_writer.proofs.CuttingLemmas.{root_length, short_both}
use Rattle.pm_writer.proofs.Formed.{addressed}
use Rattle.pm_writer.proofs.Laying.{IsLaidAs, cut_most, laid_as, laid_flat, laid_leaves, laid_uppers}
use Rattle.pm_writer.proofs.Ordered.{AllRun}
use Rattle.pm_writer.proofs.Parts.{archive_laid, before_length, before_of, below_of, tiles_of}
use Rattle.pm_writer.proofs.Reading.{all_run}
use Rattle.pm_writer.proofs.Runs.{le_or}
use Rattle.pm_writer.proofs.Towers.{few_directories, parts_length}
use Rattle.pm_writer.proofs.Trying.{at_once, cut_nil, not_yet, short_length}
use Rattle.pm_writer.proofs.Walking.{cut_joined, cut_some}

spelled_length : (ns : List ℕ) → length (spell_all ns) ≤ 10 * length ns
unfolding varint
spelled_length [] = omega arith
spelled_length (n ∷ ns) = omega (arith, short_length 10 n, spelled_length ns, length-append (varint n) (spell_all ns))

-- no number takes more than ten bytes
pub dir_length : (es : List Entry) → length (dir_bytes es) ≤ 10 + 40 * length es
unfolding dir_bytes varint
dir_length es =
    let n = varint (length es) in
    let a = spell_all (steps_from 0 es) in
    let b = spell_all (map (λ e. e.run_length) es) in
    let c = spell_all (map (λ e. e.length) es) in
    let d = spell_all (starts_from None es) in
    omega (
      arith,
      short_length 10 (length es),
      spelled_length (steps_from 0 es),
      spelled_length (map (λ e. e.run_length) es),
      spelled_length (map (λ e. e.length) es),
      spelled_length (starts_from None es),
      length_steps 0 es,
      length_starts None es,
      length-map es (λ (e : Entry). e.run_length),
      length-map es (λ (e : Entry). e.length),
      length-append n (a ++ (b ++ (c ++ d))),
      length-append a (b ++ (c ++ d)),
      length-append b (c ++ d),
      length-append c d,
    )

-- each directory but the last has as many entries as were asked for
cut_count : (n size : ℕ) (es : List Entry) → 1 ≤ size → length (cut n size es) * size < length es + size
cut_count zero size es h = omega (arith, h)
cut_count (suc n) size [] h = omega (arith, h)
cut_count (suc n) size (e ∷ es) h = elim (le_or (length (e ∷ es)) size) [
  | inl g ↦ let k : length (cut n size (drop size (e ∷ es))) ≡ 0 = ap length (ap (cut n size) (drop_all size (e ∷ es) g) ∙ cut_nil n size) in rw k (omega (arith, h))
  | inr g ↦ omega (arith, g, length-drop size (e ∷ es), cut_count n size (drop size (e ∷ es)) h)
]

-- a size whose root doesn't fit is small
tried_low : (place size : ℕ) (es : List Entry) → 1 ≤ size → fits_root (root_of place (pieces size es)) ≡ false → 406 * size < length es
tried_low place size es h q =
    let ls = pieces size es in
    let long : 16257 < length (dir_bytes (root_of place ls)) = grind (arith, nat_tests) in
    let many : 407 ≤ length ls = omega (arith, long, dir_length (root_of place ls), root_length place ls) in
    let more = mul-le-mul_right size many in
    omega (arith, more, cut_count (length es) size es h)

found_low : (n place size : ℕ) (es : List Entry) → 1 ≤ size → size ≤ 13000000 → length es < 2 ^ 32 → AllAtMost 13000000 (uppers_by n place size es)
found_low zero place size es h low few = cut_most 13000000 (length es) size es low
found_low (suc n) place size es h low few = go (fits_root (root_of place (pieces size es))) refl (found_low n place (size + size / 5) es (omega (arith, h)))
  where
    go : (b : Bool) → fits_root (root_of place (pieces size es)) ≡ b → (size + size / 5 ≤ 13000000 → length es < 2 ^ 32 → AllAtMost 13000000 (uppers_by n place (size + size / 5) es)) → AllAtMost 13000000 (uppers_by (suc n) place size es)
    go true q again = subst (AllAtMost 13000000) (sym (at_once (suc n) place size es q)) (cut_most 13000000 (length es) size es low)
    go false q again = subst (AllAtMost 13000000) (sym (not_yet n place size es q)) (again (let t = tried_low place size es h q in omega (arith, t, few)) few)

low_short : (most : ℕ) (ls : List (List Entry)) → most ≤ 13000000 → AllAtMost most ls → AllShort ls
low_short most [] h a = tt
low_short most (l ∷ ls) h a = (let d = dir_length l in omega (arith, d, a.0, h), low_short most ls h a.1)

-- the bytes of directories, none of which is empty
level_length : (ls : List (List Entry)) → AllSome ls → end_of ls ≤ 50 * length (joined ls)
level_length [] s = omega arith
level_length ([] ∷ ls) s = absurd (s.0 refl)
level_length ((e ∷ l) ∷ ls) s =
    omega (arith, dir_length (e ∷ l), level_length ls s.1, length-append (dir_bytes (e ∷ l)) (flat_map dir_bytes ls), length-append l (joined ls))

-- the directories of few entries
record AreShort (n : ℕ) (l : Layout) : Type 0 where
  short : AllShort (below_layout l)
  all : end_of (below_layout l) ≤ 100 * n

-- of a layout whose upper directories have few entries too
short_of_laid : (most : ℕ) (es : List Entry) (l : Layout) → IsLaidAs most es l → most ≤ 65536 → AllAtMost 13000000 l.uppers → AreShort (length es) l
short_of_laid most es l (inl w) m u = record {
  short = short_both l.leaves l.uppers (subst AllShort (sym w.leaves) tt) (subst AllShort (sym w.uppers) tt);
  all = omega (arith, parts_length l, ap end_of w.leaves, ap end_of w.uppers);
}
short_of_laid most es l (inr (inl w)) m u = record {
  short = short_both l.leaves l.uppers (low_short most l.leaves (omega (arith, m)) w.of.most_of) (low_short 13000000 l.uppers (omega arith) u);
  all = omega (arith, parts_length l, level_length l.leaves w.of.some, ap length w.of.joins, ap end_of w.uppers);
}
short_of_laid most es l (inr (inr w)) m u = record {
  short = short_both l.leaves l.uppers (low_short most l.leaves (omega (arith, m)) w.of.most_of) (low_short 13000000 l.uppers (omega arith) u);
  all = omega (arith, parts_length l, level_length l.leaves w.of.some, level_length l.uppers w.some, ap length w.of.joins, ap length w.names, root_length 0 l.leaves, few_directories l.leaves w.of.some);
}

uppers_low : (size : ℕ) (es : List Entry) → 5 ≤ size → size ≤ 65536 → length es < 2 ^ 32 → AllAtMost 13000000 (laid size es).uppers
uppers_low size es h most few = flat (stands_in_root es) refl
  where
    ls : List (List Entry)
    ls = pieces size es

    below : (b : Bool) → stands_in_root es ≡ false → fits_root (root_of 0 ls) ≡ b → AllAtMost 13000000 (laid size es).uppers
    below true q r = subst (λ l. AllAtMost 13000000 l.uppers) (sym (laid_leaves size es q r)) tt
    below false q r =
        let some = few_directories ls (cut_some (length es) size es (omega (arith, h))) in
        let joins = ap length (cut_joined (length es) size es (omega (arith, h)) (omega arith)) in
        subst (λ l. AllAtMost 13000000 l.uppers) (sym (laid_uppers size es q r)) (found_low (length (root_of 0 ls)) (end_of ls) size (root_of 0 ls) (omega (arith, h)) (omega (arith, most)) (omega (arith, root_length 0 ls, some, joins, few)))

    flat : (b : Bool) → stands_in_root es ≡ b → AllAtMost 13000000 (laid size es).uppers
    flat true q = subst (λ l. AllAtMost 13000000 l.uppers) (sym (laid_flat size es q)) tt
    flat false q = below (fits_root (root_of 0 ls)) q refl

laid_short : (size : ℕ) (es : List Entry) → 5 ≤ size → size ≤ 65536 → length es < 2 ^ 32 → AreShort (length es) (laid size es)
laid_short size es h most few = short_of_laid size es (laid size es) (laid_as size es h) most (uppers_low size es h most few)

entries_low : (es : List Entry) → AllRun es → length es ≤ sum_by (λ e. e.run_length) es
entries_low [] a = omega arith
entries_low (e ∷ es) a = omega (arith, a.0, entries_low es a.1, sum_by-cons (λ e. e.run_length) e es)

pub entries_few : (adds : List (ℕ × List ℕ)) → length (entries_of_adds adds) ≤ length adds
entries_few adds = omega (arith, entries_low (entries_of_adds adds) (all_run adds), addressed adds)

-- contents take no more bytes than the adds
contents_length : (seen : List (List ℕ)) (adds : List (ℕ × List ℕ)) → length (flat_map (λ c. c) (contents_from seen adds)) ≤ length (flat_map (λ c. c) seen) + sum_by (λ a. length a.1) adds
contents_length seen [] = omega arith
contents_length seen (a ∷ adds) = omega (arith, contents_length (put_new seen a.1) adds, one (list_any (bytes_eq a.1) seen) refl, sum_by-cons (λ (a : ℕ × List ℕ). length a.1) a adds)
  where
    one : (b : Bool) → list_any (bytes_eq a.1) seen ≡ b → length (flat_map (λ c. c) (put_new seen a.1)) ≤ length (flat_map (λ c. c) seen) + length a.1
    one true q = rw q (omega arith)
    one false q = rw q (omega (arith, ap length (flat_push seen a.1), length-append (flat_map (λ c. c) seen) a.1))

pub data_length : (adds : List (ℕ × List ℕ)) → length (data_of adds) ≤ sum_by (λ a. length a.1) adds
data_length adds = omega (arith, contents_length [] adds)

-- so `finalize` doesn't refuse them
pub archive_fits : (o : Options) (adds : List (ℕ × List ℕ)) → OptionsFit o → AreFew o adds → ArchiveFits o adds
archive_fits o adds f few =
    let s = laid_short o.max_leaf_entries (entries_of_adds adds) (omega (arith, f.least_leaf)) f.most_leaf (omega (arith, entries_few adds, few.count)) in
    let whole = ap length (archive_laid o adds) in
    (s.short, omega (arith, few.metadata, few.total, few.count, entries_few adds, s.all, data_length adds, whole, before_length o adds f, length-append (before_of o adds) (tiles_of adds ++ below_of o adds), length-append (tiles_of adds) (below_of o adds)))

sized_in : (before after : List (ℕ × List ℕ)) (a : ℕ × List ℕ) → AllSized (before ++ a ∷ after) → length a.1 < 2 ^ 32
sized_in [] after a s = s.0
sized_in (b ∷ before) after a s = sized_in before after a s.1

add_length : (adds : List (ℕ × List ℕ)) (id : ℕ) (bytes : List ℕ) → length (data_of (add_to adds id bytes)) ≤ sum_by (λ a. length a.1) adds + length bytes
add_length adds id [] = omega (arith, data_length adds)
add_length adds id (b ∷ bytes) = omega (arith, data_length (adds ++ (id, b ∷ bytes) ∷ []), sum_by-append (λ (a : ℕ × List ℕ). length a.1) adds ((id, b ∷ bytes) ∷ []), sum_by-cons (λ (a : ℕ × List ℕ). length a.1) (id, b ∷ bytes) [])

-- and neither does an add
pub add_fits : (o : Options) (before after : List (ℕ × List ℕ)) (id : ℕ) (bytes : List ℕ) → AreFew o (before ++ (id, bytes) ∷ after) → AddFits o before id bytes
add_fits o before after id bytes few = (
  sized_in before after (id, bytes) few.sized,
  omega (arith, few.metadata, few.total, add_length before id bytes, sum_by-append (λ (a : ℕ × List ℕ). length a.1) before ((id, bytes) ∷ after), sum_by-cons (λ (a : ℕ × List ℕ). length a.1) (id, bytes) after),
)
