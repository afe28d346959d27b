-- The places of an archive, read from its bytes.
use Rattle.pm_writer.proofs.Common.{AllSome, ap, archive, arith, Bool, dir_bytes, end_of, entries_of_adds, Entry, false, filter, flat_map, flat_map-append, Header, inl, inr, IsArchivable, joined}
use Rattle.pm_writer.proofs.Common.{Layout, length, List, nat_eq, nat_tests, Options, places_of, places_opened, places_read, refl, root_of, Some, subst, suc, sym, true, zero, ℕ, [], ◌++◌, ◌+◌, ◌∙◌}
use Rattle.pm_writer.proofs.Common.{◌∷◌, ◌≡◌, ◌≢◌}
use Rattle.pm_writer.specs.DirectoriesRead.{directories_by, has_leaves, has_tiles, leaves_among, uppers_among, with_below}
use Rattle.pm_writer.proofs.Bounds.{all_again}
use Rattle.pm_writer.proofs.Laying.{IsLaidAs}
use Rattle.pm_writer.proofs.Levels.{AllFound, Tower}
use Rattle.pm_writer.proofs.Ordered.{AllRun}
use Rattle.pm_writer.proofs.Parts.{head_of, layout_of}
use Rattle.pm_writer.proofs.Reading.{all_run}
use Rattle.pm_writer.proofs.SoundTiles.{run_left, run_right}
use Rattle.pm_writer.proofs.Towers.{archive_tower, laying_of, levels_of}
use Rattle.pm_writer.proofs.Whole.{opens}

-- tile entries lead to no directory
none_below : (n : ℕ) (h : Header) (b : List ℕ) (es : List Entry) → AllRun es → flat_map (directories_by n h b) es ≡ []
none_below n h b [] a = refl
none_below zero h b (e ∷ es) a = none_below zero h b es a.1
none_below (suc n) h b (e ∷ es) a = let q : nat_eq e.run_length 0 ≡ false = (let r = a.0 in grind (arith, nat_tests)) in rw q (none_below (suc n) h b es a.1)

-- a directory and those below it
abbrev and_below : ℕ → Header → List ℕ → List Entry → List (List Entry)
and_below n h b l = l ∷ flat_map (directories_by n h b) l

-- the entries that name directories lead to them
level_directories : (n : ℕ) (h : Header) (b : List ℕ) (place : ℕ) (ls : List (List Entry)) → AllFound h b place ls → flat_map (directories_by (suc n) h b) (root_of place ls) ≡ flat_map (and_below n h b) ls
level_directories n h b place [] f = refl
level_directories n h b place (l ∷ ls) f =
    ap (λ r. with_below (directories_by n h b) r ++ flat_map (directories_by (suc n) h b) (root_of (place + length (dir_bytes l)) ls)) f.0
    ∙ ap (λ z. and_below n h b l ++ z) (level_directories n h b (place + length (dir_bytes l)) ls f.1)

leaves_alone : (n : ℕ) (h : Header) (b : List ℕ) (ls : List (List Entry)) → AllRun (joined ls) → flat_map (and_below n h b) ls ≡ ls
leaves_alone n h b [] a = refl
leaves_alone n h b (l ∷ ls) a =
    ap (λ z. l ∷ (z ++ flat_map (and_below n h b) ls)) (none_below n h b l (run_left l (joined ls) a)) ∙ ap (λ z. l ∷ z) (leaves_alone n h b ls (run_right l (joined ls) a))

-- which directories have tile entries, and which have leaf entries
tiles_leaf : (l : List Entry) → AllRun l → has_leaves l ≡ false
tiles_leaf [] a = refl
tiles_leaf (e ∷ l) a = let q : nat_eq e.run_length 0 ≡ false = (let r = a.0 in grind (arith, nat_tests)) in rw q (tiles_leaf l a.1)

tiles_some : (l : List Entry) → l ≢ [] → AllRun l → has_tiles l ≡ true
tiles_some [] s a = absurd (s refl)
tiles_some (e ∷ l) s a = let q : nat_eq e.run_length 0 ≡ false = (let r = a.0 in grind (arith, nat_tests)) in rw q refl

-- no entry has a run
abbrev AllNames : List Entry → Type 0
AllNames [] = Unit {0}
AllNames (e ∷ es) = (e.run_length ≡ 0) × AllNames es

names_none : (l : List Entry) → AllNames l → has_tiles l ≡ false
names_none [] a = refl
names_none (e ∷ l) a = let q : nat_eq e.run_length 0 ≡ true = (let r = a.0 in grind (arith, nat_tests)) in rw q (names_none l a.1)

names_some : (l : List Entry) → l ≢ [] → AllNames l → has_leaves l ≡ true
names_some [] s a = absurd (s refl)
names_some (e ∷ l) s a = let q : nat_eq e.run_length 0 ≡ true = (let r = a.0 in grind (arith, nat_tests)) in rw q refl

root_names : (place : ℕ) (ls : List (List Entry)) → AllNames (root_of place ls)
root_names place [] = tt
root_names place (l ∷ ls) = (refl, root_names (place + length (dir_bytes l)) ls)

names_left : (xs ys : List Entry) → AllNames (xs ++ ys) → AllNames xs
names_left [] ys a = tt
names_left (x ∷ xs) ys a = (a.0, names_left xs ys a.1)

names_right : (xs ys : List Entry) → AllNames (xs ++ ys) → AllNames ys
names_right [] ys a = a
names_right (x ∷ xs) ys a = names_right xs ys a.1

-- leaves are counted as such
leaves_are : (ls : List (List Entry)) → AllSome ls → AllRun (joined ls) → (leaves_among ls ≡ length ls) × (uppers_among ls ≡ 0)
leaves_are [] s a = (refl, refl)
leaves_are (l ∷ ls) s a =
    let t = tiles_some l s.0 (run_left l (joined ls) a) in
    let n = tiles_leaf l (run_left l (joined ls) a) in
    let rest = leaves_are ls s.1 (run_right l (joined ls) a) in
    ((rw t (ap suc rest.0)), (rw n rest.1))

-- and upper directories as these, beside what lies below them
filter_both : (f : List Entry → Bool) (xs ys : List (List Entry)) → length (filter f (xs ++ ys)) ≡ length (filter f xs) + length (filter f ys)
filter_both f [] ys = omega arith
filter_both f (x ∷ xs) ys = go (f x) refl (filter_both f xs ys)
  where
    go : (t : Bool) → f x ≡ t → length (filter f (xs ++ ys)) ≡ length (filter f xs) + length (filter f ys) → length (filter f (x ∷ (xs ++ ys))) ≡ length (filter f (x ∷ xs)) + length (filter f ys)
    go true q again = rw q (omega (arith, again))
    go false q again = rw q again

uppers_are : (n : ℕ) (h : Header) (b : List ℕ) (us : List (List Entry)) → AllSome us → AllNames (joined us)
    → (leaves_among (flat_map (and_below n h b) us) ≡ leaves_among (flat_map (directories_by n h b) (joined us))) × (uppers_among (flat_map (and_below n h b) us) ≡ length us + uppers_among (flat_map (directories_by n h b) (joined us)))
uppers_are n h b [] s a = (refl, omega arith)
uppers_are n h b (u ∷ us) s a =
    let named = names_left u (joined us) a in
    let t = names_none u named in
    let m = names_some u s.0 named in
    let below = flat_map (directories_by n h b) u in
    let behind = flat_map (and_below n h b) us in
    let rest = uppers_are n h b us s.1 (names_right u (joined us) a) in
    let all : flat_map (directories_by n h b) (u ++ joined us) ≡ below ++ flat_map (directories_by n h b) (joined us) = flat_map-append (directories_by n h b) u (joined us) in
    let no : leaves_among (u ∷ (below ++ behind)) ≡ leaves_among (below ++ behind) = rw t refl in
    let one : uppers_among (u ∷ (below ++ behind)) ≡ suc (uppers_among (below ++ behind)) = rw m refl in (
      omega (arith, no, filter_both has_tiles below behind, filter_both has_tiles below (flat_map (directories_by n h b) (joined us)), ap leaves_among all, rest.0),
      omega (arith, one, filter_both has_leaves below behind, filter_both has_leaves below (flat_map (directories_by n h b) (joined us)), ap uppers_among all, rest.1),
    )

-- the directories that a layout's root leads to
abbrev led_to : Header → List ℕ → Layout → List (List Entry)
led_to h b l = flat_map (directories_by 6 h b) l.root

counted : (most : ℕ) (es : List Entry) (l : Layout) (w : IsLaidAs most es l) (h : Header) (b : List ℕ) → AllRun es → Tower h b (levels_of most es l w) l.root es → (leaves_among (led_to h b l) ≡ length l.leaves) × (uppers_among (led_to h b l) ≡ length l.uppers)
counted most es l (inl w) h b a t =
    let none : led_to h b l ≡ [] = ap (flat_map (directories_by 6 h b)) t ∙ none_below 6 h b es a in
    (ap leaves_among none ∙ sym (ap length w.leaves), ap uppers_among none ∙ sym (ap length w.uppers))
counted most es l (inr (inl w)) h b a t =
    let runs : AllRun (joined l.leaves) = subst AllRun (sym t.3) a in
    let all : led_to h b l ≡ l.leaves = ap (flat_map (directories_by 6 h b)) t.0 ∙ (level_directories 5 h b 0 l.leaves t.2 ∙ leaves_alone 5 h b l.leaves runs) in
    let n = leaves_are l.leaves t.1 runs in
    (ap leaves_among all ∙ n.0, ap uppers_among all ∙ (n.1 ∙ sym (ap length w.uppers)))
counted most es l (inr (inr w)) h b a t =
    let us = l.uppers in
    let ls = l.leaves in
    let runs : AllRun (joined ls) = subst AllRun (sym t.3.3) a in
    let all : led_to h b l ≡ flat_map (and_below 5 h b) us = ap (flat_map (directories_by 6 h b)) t.0 ∙ level_directories 5 h b (end_of ls) us t.2 in
    let below : flat_map (directories_by 5 h b) (joined us) ≡ ls = ap (flat_map (directories_by 5 h b)) t.3.0 ∙ (level_directories 4 h b 0 ls t.3.2 ∙ leaves_alone 4 h b ls runs) in
    let u = uppers_are 5 h b us t.1 (subst AllNames (sym t.3.0) (root_names 0 ls)) in
    let n = leaves_are ls t.3.1 runs in (
      ap leaves_among all ∙ (u.0 ∙ (ap leaves_among below ∙ n.0)),
      ap uppers_among all ∙ (u.1 ∙ omega (arith, ap uppers_among below, n.1)),
    )

pub places_are : (o : Options) (adds : List (ℕ × List ℕ)) → IsArchivable o adds → places_read (archive o adds) ≡ Some (places_of o adds)
places_are o adds a =
    let h = head_of o adds in
    let b = archive o adds in
    let l = layout_of o adds in
    let n = counted o.max_leaf_entries (entries_of_adds adds) l (laying_of o adds a.options) h b (all_run adds) (archive_tower o adds a.options (all_again o adds a).1 a.ends) in
    ap (places_opened b) (opens o adds a)
    ∙ (ap (λ k. Some (record (places_of o adds) { leaves = k; uppers = uppers_among (led_to h b l) })) n.0
    ∙ ap (λ k. Some (record (places_of o adds) { uppers = k })) n.1)
