-- The directories of a layout, read from the bytes of an archive.
use Rattle.pm_writer.proofs.Common.{AllRead, AllShort, AllSome, ap, append-nil, append_assoc, archive, arith, below_layout, dir_bytes, dir_of, directory_again, DirFits, end_of, entries_of_adds, Entry}
use Rattle.pm_writer.proofs.Common.{false, flat_map, flat_map-append, Header, inl, inr, joined, Layout, length, length-append, List, nat_eq, nat_tests, Options, OptionsFit, refl, root_of, Some, subst}
use Rattle.pm_writer.proofs.Common.{sym, ℕ, [], ◌++◌, ◌+◌, ◌-◌, ◌<◌, ◌^◌, ◌∙◌, ◌∷◌, ◌≡◌, ◌≤◌}
use Rattle.pm_writer.proofs.CuttingLemmas.{fits_zero, level_fits, root_length, short_left, short_right}
use Rattle.pm_writer.proofs.Laying.{IsLaidAs, laid_as}
use Rattle.pm_writer.proofs.Levels.{AllFound, Tower, all_found, deep, deep_is}
use Rattle.pm_writer.proofs.Parts.{archive_laid, before_length, before_of, head_of, layout_of, tiles_of}

-- a part of a directory fits as it does
fits_right : (low : ℕ) (es fs : List Entry) → DirFits low (es ++ fs) → DirFits 0 fs
fits_right low [] fs f = fits_zero low fs f
fits_right low (e ∷ es) fs f = fits_right e.tile_id es fs f.6

fits_left : (low : ℕ) (es fs : List Entry) → DirFits low (es ++ fs) → DirFits low es
fits_left low [] fs f = tt
fits_left low (e ∷ es) fs f = (f.0, f.1, f.2, f.3, f.4, f.5, fits_left e.tile_id es fs f.6)

-- each directory is read again
read_again : (l : List Entry) → DirFits 0 l → length l < 2 ^ 64 → dir_of (dir_bytes l) ≡ Some l
read_again l f many = ap dir_of (sym (append-nil (dir_bytes l))) ∙ directory_again l [] many f

level_read : (low : ℕ) (ls : List (List Entry)) → DirFits low (joined ls) → length (joined ls) < 2 ^ 64 → AllRead ls
level_read low [] f many = tt
level_read low (l ∷ ls) f many =
    let n = length-append l (joined ls) in
    (read_again l (fits_zero low l (fits_left low l (joined ls) f)) (omega (arith, n, many)), level_read 0 ls (fits_right low l (joined ls) f) (omega (arith, n, many)))

pub few_directories : (ls : List (List Entry)) → AllSome ls → length ls ≤ length (joined ls)
few_directories [] s = omega arith
few_directories ([] ∷ ls) s = absurd (s.0 refl)
few_directories ((e ∷ l) ∷ ls) s = omega (arith, few_directories ls s.1, length-append l (joined ls))

read_both : (xs ys : List (List Entry)) → AllRead xs → AllRead ys → AllRead (xs ++ ys)
read_both [] ys p q = q
read_both (x ∷ xs) ys p q = (p.0, read_both xs ys p.1 q)

read_left : (xs ys : List (List Entry)) → AllRead (xs ++ ys) → AllRead xs
read_left [] ys r = tt
read_left (x ∷ xs) ys r = (r.0, read_left xs ys r.1)

read_right : (xs ys : List (List Entry)) → AllRead (xs ++ ys) → AllRead ys
read_right [] ys r = r
read_right (x ∷ xs) ys r = read_right xs ys r.1

-- both levels lie in the leaf part
pub parts_length : (l : Layout) → end_of (below_layout l) ≡ end_of l.leaves + end_of l.uppers
parts_length l = ap length (flat_map-append dir_bytes l.leaves l.uppers) ∙ length-append (flat_map dir_bytes l.leaves) (flat_map dir_bytes l.uppers)

-- the root and the directories below it are read again
pub all_read : (most : ℕ) (es : List Entry) (l : Layout) → IsLaidAs most es l → DirFits 0 es → length es < 2 ^ 64 → AllShort (below_layout l) → end_of (below_layout l) < 2 ^ 64 → AllRead (l.root ∷ below_layout l)
all_read most es l (inl w) f many short long =
    (let P : List Entry → Type 0 = λ z. dir_of (dir_bytes z) ≡ Some z in subst P (sym w.root) (read_again es f many), read_both l.leaves l.uppers (subst AllRead (sym w.leaves) tt) (subst AllRead (sym w.uppers) tt))
all_read most es l (inr (inl w)) f many short long =
    let ls = l.leaves in
    let e = w.of.joins in
    let n : length (joined ls) < 2 ^ 64 = omega (arith, many, ap length e) in
    let fs : DirFits 0 (joined ls) = subst (DirFits 0) (sym e) f in
    let root : DirFits 0 (root_of 0 ls) = level_fits 0 0 ls fs w.of.some (short_left ls l.uppers short) (omega (arith, parts_length l, long)) in (
      (let P : List Entry → Type 0 = λ z. dir_of (dir_bytes z) ≡ Some z in subst P (sym w.root) (read_again (root_of 0 ls) root (omega (arith, root_length 0 ls, few_directories ls w.of.some, n)))),
      read_both ls l.uppers (level_read 0 ls fs n) (subst AllRead (sym w.uppers) tt),
    )
all_read most es l (inr (inr w)) f many short long =
    let ls = l.leaves in
    let us = l.uppers in
    let e = w.of.joins in
    let n : length (joined ls) < 2 ^ 64 = omega (arith, many, ap length e) in
    let m : length (joined us) < 2 ^ 64 = omega (arith, ap length w.names, root_length 0 ls, few_directories ls w.of.some, n) in
    let fs : DirFits 0 (joined ls) = subst (DirFits 0) (sym e) f in
    let fu : DirFits 0 (joined us) = subst (DirFits 0) (sym w.names) (level_fits 0 0 ls fs w.of.some (short_left ls us short) (omega (arith, parts_length l, long))) in
    let root : DirFits 0 (root_of (end_of ls) us) = level_fits 0 (end_of ls) us fu w.some (short_right ls us short) (omega (arith, parts_length l, long)) in (
      (let P : List Entry → Type 0 = λ z. dir_of (dir_bytes z) ≡ Some z in subst P (sym w.root) (read_again (root_of (end_of ls) us) root (omega (arith, root_length (end_of ls) us, few_directories us w.some, m)))),
      read_both ls us (level_read 0 ls fs n) (level_read 0 us fu m),
    )

-- directories that are there lie where the header says
found_if : (h : Header) (b front rest : List ℕ) (place : ℕ) (ls : List (List Entry)) → (0 < length ls → h.leaf_offset + place ≡ length front) → b ≡ front ++ (flat_map dir_bytes ls ++ rest) → length b < 2 ^ 64 → AllRead ls → AllFound h b place ls
found_if h b front rest place [] p e f r = tt
found_if h b front rest place (l ∷ ls) p e f r = all_found h b front rest place (l ∷ ls) e (p (omega arith)) f r

-- the levels of a layout: none, its leaves, or upper directories above these
abbrev pub levels_of : (most : ℕ) (es : List Entry) (l : Layout) → IsLaidAs most es l → List (ℕ × List (List Entry))
levels_of most es l (inl w) = []
levels_of most es l (inr (inl w)) = (0, l.leaves) ∷ []
levels_of most es l (inr (inr w)) = (end_of l.leaves, l.uppers) ∷ (0, l.leaves) ∷ []

pub few_levels : (most : ℕ) (es : List Entry) (l : Layout) (w : IsLaidAs most es l) → length (levels_of most es l w) ≤ 2
few_levels most es l (inl w) = omega arith
few_levels most es l (inr (inl w)) = omega arith
few_levels most es l (inr (inr w)) = omega arith

-- six directories are enough to get through them
pub through_six : (most : ℕ) (es : List Entry) (l : Layout) (w : IsLaidAs most es l) → (let ts = levels_of most es l w in deep ts (6 - length ts) ≡ 6)
through_six most es l w = let ts = levels_of most es l w in omega (arith, deep_is ts (6 - length ts), few_levels most es l w)

tower_of : (most : ℕ) (es : List Entry) (l : Layout) (w : IsLaidAs most es l) (h : Header) (b front : List ℕ) → (0 < length l.leaves → h.leaf_offset ≡ length front) → b ≡ front ++ flat_map dir_bytes (below_layout l) → length b < 2 ^ 64 → AllRead (below_layout l)
    → Tower h b (levels_of most es l w) l.root es
tower_of most es l (inl w) h b front p e f r = w.root
tower_of most es l (inr (inl w)) h b front p e f r =
    let laid : b ≡ front ++ (flat_map dir_bytes l.leaves ++ flat_map dir_bytes l.uppers) = e ∙ ap (λ z. front ++ z) (flat_map-append dir_bytes l.leaves l.uppers) in
    let at : 0 < length l.leaves → h.leaf_offset + 0 ≡ length front = λ k. omega (arith, p k) in
    (w.root, w.of.some, found_if h b front (flat_map dir_bytes l.uppers) 0 l.leaves at laid f (read_left l.leaves l.uppers r), w.of.joins)
tower_of most es l (inr (inr w)) h b front p e f r =
    let ls = l.leaves in
    let us = l.uppers in
    let laid : b ≡ front ++ (flat_map dir_bytes ls ++ flat_map dir_bytes us) = e ∙ ap (λ z. front ++ z) (flat_map-append dir_bytes ls us) in
    let behind : b ≡ (front ++ flat_map dir_bytes ls) ++ (flat_map dir_bytes us ++ []) = laid ∙ (sym (append_assoc front (flat_map dir_bytes ls) (flat_map dir_bytes us)) ∙ ap (λ z. (front ++ flat_map dir_bytes ls) ++ z) (sym (append-nil (flat_map dir_bytes us)))) in
    let at : 0 < length ls → h.leaf_offset + 0 ≡ length front = λ k. omega (arith, p k) in
    let above : 0 < length us → h.leaf_offset + end_of ls ≡ length (front ++ flat_map dir_bytes ls) =
    λ k. omega (arith, p (omega (arith, k, few_directories us w.some, ap length w.names, root_length 0 ls)), length-append front (flat_map dir_bytes ls)) in
    let names : Tower h b ((0, ls) ∷ []) (joined us) es = (w.names, w.of.some, found_if h b front (flat_map dir_bytes us) 0 ls at laid f (read_left ls us r), w.of.joins) in
    (w.root, w.some, found_if h b (front ++ flat_map dir_bytes ls) [] (end_of ls) us above behind f (read_right ls us r), names)

-- those of the archive
pub laying_of : (o : Options) (adds : List (ℕ × List ℕ)) → OptionsFit o → IsLaidAs o.max_leaf_entries (entries_of_adds adds) (layout_of o adds)
laying_of o adds f = laid_as o.max_leaf_entries (entries_of_adds adds) (omega (arith, f.least_leaf))

leaf_offset_is : (o : Options) (adds : List (ℕ × List ℕ)) → 0 < length (layout_of o adds).leaves → (head_of o adds).leaf_offset ≡ 16384 + length o.metadata + length (tiles_of adds)
leaf_offset_is o adds h = let some : nat_eq (length (layout_of o adds).leaves) 0 ≡ false = grind (arith, nat_tests) in rw some refl

pub archive_tower : (o : Options) (adds : List (ℕ × List ℕ)) (f : OptionsFit o) → AllRead (below_layout (layout_of o adds)) → length (archive o adds) < 2 ^ 64
    → Tower (head_of o adds) (archive o adds) (levels_of o.max_leaf_entries (entries_of_adds adds) (layout_of o adds) (laying_of o adds f)) (layout_of o adds).root (entries_of_adds adds)
archive_tower o adds f read fits =
    let front = before_of o adds ++ tiles_of adds in
    let laid : archive o adds ≡ front ++ flat_map dir_bytes (below_layout (layout_of o adds)) = archive_laid o adds ∙ sym (append_assoc (before_of o adds) (tiles_of adds) (flat_map dir_bytes (below_layout (layout_of o adds)))) in
    tower_of o.max_leaf_entries (entries_of_adds adds) (layout_of o adds) (laying_of o adds f) (head_of o adds) (archive o adds) front
    (λ k. omega (arith, leaf_offset_is o adds k, before_length o adds f, length-append (before_of o adds) (tiles_of adds))) laid fits read
