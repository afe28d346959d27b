-- The tile entries that the archive of adds has.
use Rattle.pm_writer.proofs.Common.{ap, archive, arith, Covers, entries_by, entries_of_adds, entries_opened, entries_read, Entry, false, flat_map, Gives, Header, IfOk, IsArchivable, IsIn, length}
use Rattle.pm_writer.proofs.Common.{List, nat_eq, nat_tests, Opened, opened, Options, PmtError, refl, Result, RisingAdds, subst, suc, sym, tile_in, Tiles, zero, ℕ, [], ◌-◌, ◌∙◌, ◌∷◌, ◌≡◌, ◌≤◌}
use Rattle.pm_writer.proofs.Bounds.{all_again}
use Rattle.pm_writer.proofs.Counting.{no_less}
use Rattle.pm_writer.proofs.Formed.{entries_are}
use Rattle.pm_writer.proofs.Giving.{one_each}
use Rattle.pm_writer.proofs.Levels.{tower_entries}
use Rattle.pm_writer.proofs.Ordered.{AllRun}
use Rattle.pm_writer.proofs.Parts.{head_of, layout_of}
use Rattle.pm_writer.proofs.Reading.{all_run}
use Rattle.pm_writer.proofs.Towers.{archive_tower, laying_of, levels_of, through_six}
use Rattle.pm_writer.proofs.Whole.{opens}

-- a tile entry is one of its own
one_entry : (n : ℕ) (h : Header) (b : List ℕ) (e : Entry) → nat_eq e.run_length 0 ≡ false → entries_by n h b e ≡ e ∷ []
one_entry zero h b e q = rw q refl
one_entry (suc n) h b e q = rw q refl

tiles_alone : (n : ℕ) (h : Header) (b : List ℕ) (es : List Entry) → AllRun es → flat_map (entries_by n h b) es ≡ es
tiles_alone n h b [] a = refl
tiles_alone n h b (e ∷ es) a =
    let q : nat_eq e.run_length 0 ≡ false = (let r = a.0 in grind (arith, nat_tests)) in
    let one = one_entry n h b e q in
    let rest = tiles_alone n h b es a.1 in
    rw (one, rest) refl

-- they are the entries of the adds
pub archive_entries : (o : Options) (adds : List (ℕ × List ℕ)) → IsArchivable o adds → entries_read (archive o adds) ≡ entries_of_adds adds
archive_entries o adds a =
    let es = entries_of_adds adds in
    let ts = levels_of o.max_leaf_entries es (layout_of o adds) (laying_of o adds a.options) in
    let n = 6 - length ts in
    let all = through_six o.max_leaf_entries es (layout_of o adds) (laying_of o adds a.options) in
    ap (entries_opened (archive o adds)) (opens o adds a)
    ∙ (ap (λ k. flat_map (entries_by k (head_of o adds) (archive o adds)) (layout_of o adds).root) (sym all)
    ∙ (tower_entries n (head_of o adds) (archive o adds) ts (layout_of o adds).root es (archive_tower o adds a.options (all_again o adds a).1 a.ends)
    ∙ tiles_alone n (head_of o adds) (archive o adds) es (all_run adds)))

-- as many as its header says
pub entries_counted : (o : Options) (adds : List (ℕ × List ℕ)) → IsArchivable o adds → IfOk (opened (archive o adds)) (λ found. found.0.n_tile_entries ≡ length (entries_read (archive o adds)))
entries_counted o adds a =
    let count : (head_of o adds).n_tile_entries ≡ length (entries_read (archive o adds)) = ap length (entries_are o adds a.options) ∙ sym (ap length (archive_entries o adds a)) in
    let P : Result Opened PmtError → Type 0 = λ z. IfOk z (λ found. found.0.n_tile_entries ≡ length (entries_read (archive o adds))) in
    subst P (sym (opens o adds a)) count

pub one_each_read : (o : Options) (adds : List (ℕ × List ℕ)) (fs : List Entry) (bytes : List ℕ) → IsArchivable o adds → RisingAdds adds → Tiles fs → Gives fs bytes (tile_in adds)
    → (f d e : Entry) → IsIn f fs → IsIn d (entries_read (archive o adds)) → IsIn e (entries_read (archive o adds)) → Covers f d.tile_id → Covers f e.tile_id → d.tile_id ≡ e.tile_id
one_each_read o adds fs bytes a r w g f d e i j k =
    let same = archive_entries o adds a in
    one_each adds fs bytes r w g f d e i (subst (IsIn d) same j) (subst (IsIn e) same k)

pub no_less_read : (o : Options) (adds : List (ℕ × List ℕ)) (fs : List Entry) (bytes : List ℕ) → IsArchivable o adds → RisingAdds adds → Tiles fs → Gives fs bytes (tile_in adds) → length (entries_read (archive o adds)) ≤ length fs
no_less_read o adds fs bytes a r w g = subst (λ z. length z ≤ length fs) (sym (archive_entries o adds a)) (no_less adds fs bytes r w g)
