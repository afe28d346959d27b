-- The parts of the archive of adds, as they are assembled.
use Rattle.pm_writer.proofs.Common.{AllShort, ap, archive, ArchiveFits, AreDirectories, arith, below_layout, Bool, contents_from, data_end, data_of, Directories, DirFits, Distinct, entries_of_adds}
use Rattle.pm_writer.proofs.Common.{Entry, header_of, header_with, ids_of, if◌then◌else◌, IsArchivable, IsStateOf, laid, leaf_part, length, length-append, List, nat_eq, Options, options_with}
use Rattle.pm_writer.proofs.Common.{OptionsFit, parts_of, places_of, places_with, rising, subst, sum_by, sym, tile_entries, WriterState, ℕ, [], ◌++◌, ◌+◌, ◌<◌, ◌^◌, ◌∙◌, ◌≡◌, ◌≤◌}
use Rattle.pm_writer.specs.declared.places.ArchivePlaces.{ArchivePlaces}
use Rattle.pm_writer.specs.declared.settings.Settings.{Settings}
use Rattle.pm_writer.proofs.Bounds.{entries_fit, runs_few}
use Rattle.pm_writer.proofs.Formed.{entries_are}
use Rattle.pm_writer.proofs.Parts.{archive_laid, before_length, before_of, layout_of}

-- what building the directories asks
pub state_fits : (o : Options) (s : WriterState) (adds : List (ℕ × List ℕ)) (es : List Entry) → IsStateOf o s adds → es ≡ entries_of_adds adds → DirFits 0 es
state_fits o s adds es i e = subst (DirFits 0) (sym e) (entries_fit adds i.means.rest.low i.means.rest.sized (omega (arith, i.ends)))

pub state_runs : (o : Options) (s : WriterState) (adds : List (ℕ × List ℕ)) (es : List Entry) → IsStateOf o s adds → es ≡ entries_of_adds adds → Distinct adds → sum_by (λ e. e.run_length) es < 2 ^ 64
state_runs o s adds es i e d = subst (λ z. sum_by (λ e. e.run_length) z < 2 ^ 64) (sym e) (runs_few adds d i.means.rest.low)

-- the most entries of a leaf that the writer was told
pub most_is : (o : Options) (s : WriterState) (adds : List (ℕ × List ℕ)) → IsStateOf o s adds → s.settings.max_leaf_entries ≡ o.max_leaf_entries
most_is o s adds i = sym (ap (λ z. z.max_leaf_entries) i.of.settings)

pub archive_length : (o : Options) (adds : List (ℕ × List ℕ)) → OptionsFit o → length (archive o adds) ≡ data_end o adds + length (leaf_part (parts_of o adds))
archive_length o adds f =
    let front = before_length o adds f in
    let a = length-append (before_of o adds) (data_of adds ++ leaf_part (parts_of o adds)) in
    let b = length-append (data_of adds) (leaf_part (parts_of o adds)) in
    omega (arith, ap length (archive_laid o adds), front, a, b)

-- the directories' bytes that were built are those of the archive
pub below_built : (o : Options) (adds : List (ℕ × List ℕ)) (es : List Entry) (most : ℕ) (d : Directories) → es ≡ entries_of_adds adds → most ≡ o.max_leaf_entries → AreDirectories d (laid most es) → AreDirectories d (layout_of o adds)
below_built o adds es most d e m a = subst (λ z. AreDirectories d (laid z (entries_of_adds adds))) m (subst (λ z. AreDirectories d (laid most z)) e a)

-- where the archive ends
pub ends_by : (o : Options) (s : WriterState) (adds : List (ℕ × List ℕ)) (total : ℕ) → IsStateOf o s adds → total ≡ s.adds.contents.total → s.data_offset + total ≡ data_end o adds
ends_by o s adds total i t = omega (arith, i.of.place, i.means.contents.total, t)

pub archivable : (o : Options) (s : WriterState) (adds : List (ℕ × List ℕ)) → IsStateOf o s adds → Distinct adds → AllShort (below_layout (layout_of o adds)) → length (archive o adds) < 2 ^ 64 → IsArchivable o adds
archivable o s adds i d short long = record {
  options = i.of.fit;
  filled = i.means.rest.filled;
  low = i.means.rest.low;
  sized = i.means.rest.sized;
  distinct = d;
  short = short;
  ends = long;
}

-- an archive that ends past u64 doesn't fit
pub too_long : (o : Options) (adds : List (ℕ × List ℕ)) → 2 ^ 64 ≤ length (archive o adds) → ArchiveFits o adds → ⊥
too_long o adds h f = omega (arith, h, f.1)

made : ℕ → ℕ → ℕ → ℕ → ℕ → ℕ → ℕ → ℕ → ℕ → ℕ → ℕ → ArchivePlaces
made a b c d e u f g h i j = record { length = a; root_length = b; leaf_offset = c; leaf_length = d; leaves = e; uppers = u; data_offset = f; data_length = g; addressed = h; entries = i; contents = j }

made_equal : (x y : ArchivePlaces) → x.length ≡ y.length → x.root_length ≡ y.root_length → x.leaf_offset ≡ y.leaf_offset → x.leaf_length ≡ y.leaf_length → x.leaves ≡ y.leaves → x.uppers ≡ y.uppers → x.data_offset ≡ y.data_offset → x.data_length ≡ y.data_length
    → x.addressed ≡ y.addressed → x.entries ≡ y.entries → x.contents ≡ y.contents → x ≡ y
unfolding made
made_equal x y a b c d e u f g h i j = same
  where
    same : made x.length x.root_length x.leaf_offset x.leaf_length x.leaves x.uppers x.data_offset x.data_length x.addressed x.entries x.contents ≡ made y.length y.root_length y.leaf_offset y.leaf_length y.leaves y.uppers y.data_offset y.data_length y.addressed y.entries y.contents
    same = cc

-- the places that were found are those of the archive
pub places_are : (o : Options) (s : WriterState) (adds : List (ℕ × List ℕ)) (es : List Entry) (d : Directories) (total addressed entries contents : ℕ) → IsStateOf o s adds → es ≡ entries_of_adds adds → AreDirectories d (layout_of o adds)
    → total ≡ s.adds.contents.total → addressed ≡ sum_by (λ e. e.run_length) es → entries ≡ length es → contents ≡ length (contents_from [] adds) → places_with d s.data_offset total addressed entries contents ≡ places_of o adds
places_are o s adds es d total addressed entries contents i e a t m k n =
    let f = i.of.fit in
    let end = ends_by o s adds total i t in
    let whole : s.data_offset + total + length d.below.items ≡ length (archive o adds) = omega (arith, archive_length o adds f, end, ap length a.below) in
    let contained : total ≡ length (data_of adds) = omega (arith, t, i.means.contents.total) in
    let tiles : addressed ≡ sum_by (λ e. e.run_length) (tile_entries (parts_of o adds)) = m ∙ ap (sum_by (λ e. e.run_length)) (e ∙ sym (entries_are o adds f)) in
    let number : entries ≡ length (tile_entries (parts_of o adds)) = k ∙ ap length (e ∙ sym (entries_are o adds f)) in
    let offset = ap (λ z. if nat_eq z 0 then 0 else (s.data_offset + total)) a.leaves ∙ ap (λ z. if nat_eq (length (parts_of o adds).leaves) 0 then 0 else z) end in
    made_equal (places_with d s.data_offset total addressed entries contents) (places_of o adds) whole (ap length a.root) offset (ap length a.below) a.leaves a.uppers i.of.place contained tiles number n

-- so is the header
pub header_is : (o : Options) (adds : List (ℕ × List ℕ)) (s : Settings) (p : ArchivePlaces) (metadata : ℕ) (clustered : Bool) → o ≡ options_with s o.metadata → p ≡ places_of o adds → metadata ≡ length o.metadata → clustered ≡ rising (ids_of adds)
    → header_with s p metadata clustered ≡ header_of o (rising (ids_of adds)) (parts_of o adds)
header_is o adds s p metadata clustered e q m c =
    ap (λ z. header_with s z metadata clustered) q
    ∙ (ap (λ z. header_with s (places_of o adds) z clustered) m
    ∙ (ap (λ z. header_with s (places_of o adds) (length o.metadata) z) c
    ∙ ap (λ k. header_of k (rising (ids_of adds)) (parts_of o adds)) (sym e)))
