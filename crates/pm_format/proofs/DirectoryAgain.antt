-- What is written as a directory is read again.
use Rattle.pm_format.proofs.Common.{ap, append_assoc, arith, Bool, column, dir_bytes, dir_of, DirFits, entries_of, Entry, false, ids_from, if◌then◌else◌, length, List, lit<, lit≤, map, nat_eq, nat_lt}
use Rattle.pm_format.proofs.Common.{nat_tests, None, offset_of, offsets_from, Option, refl, Some, spell_all, starts_from, steps_from, subst, suc, true, varint, ℕ, [], ◌++◌, ◌+◌, ◌-◌, ◌<◌, ◌^◌, ◌∷◌}
use Rattle.pm_format.proofs.Common.{◌≡◌, ◌≤◌}
use Rattle.pm_format.proofs.VarintWritingLemmas.{AllBelow, column_again, u64_again}

ids_again : (last : ℕ) (es : List Entry) → DirFits last es → ids_from last (steps_from last es) ≡ Some (map (λ e. e.tile_id) es)
ids_again last [] h = refl
ids_again last (e ∷ es) h =
    let same : last + (e.tile_id - last) ≡ e.tile_id = omega (arith, h.0) in
    let low : nat_lt e.tile_id (2 ^ 64) ≡ true = grind (arith, nat_tests, h.1) in
    rw (same, low, ids_again e.tile_id es h.6) refl

abbrev IsEnd : Option ℕ → Type 0
IsEnd None = Unit {0}
IsEnd (Some end) = end < 2 ^ 64

offset_again_first : (o : ℕ) → offset_of None (o + 1) ≡ Some o
offset_again_first o = let f : nat_eq (o + 1) 0 ≡ false = grind (arith, nat_tests) in let g : o + 1 - 1 ≡ o = omega arith in rw (f, g) refl

offset_again : (end o : ℕ) → end < 2 ^ 64 → offset_of (Some end) (if nat_eq o end then 0 else (o + 1)) ≡ Some o
offset_again end o h = go (nat_eq o end) refl
  where
    go : (b : Bool) → nat_eq o end ≡ b → offset_of (Some end) (if nat_eq o end then 0 else (o + 1)) ≡ Some o
    go true e = let low : nat_lt end (2 ^ 64) ≡ true = grind (arith, nat_tests) in let same : o ≡ end = grind (arith, nat_tests) in rw (e, low, same) refl
    go false e = let f : nat_eq (o + 1) 0 ≡ false = grind (arith, nat_tests) in let g : o + 1 - 1 ≡ o = omega arith in rw (e, f, g) refl

offsets_again : (last : ℕ) (end : Option ℕ) (es : List Entry) → IsEnd end → DirFits last es → offsets_from end (map (λ e. e.length) es) (starts_from end es) ≡ Some (map (λ e. e.offset) es)
offsets_again last None [] f h = refl
offsets_again last (Some end) [] f h = refl
offsets_again last None (e ∷ es) f h =
    rw (offset_again_first e.offset, offsets_again e.tile_id (Some (e.offset + e.length)) es h.5 h.6) refl
offsets_again last (Some end) (e ∷ es) f h =
    rw (offset_again end e.offset f, offsets_again e.tile_id (Some (e.offset + e.length)) es h.5 h.6) refl

entries_again : (es : List Entry) → entries_of (map (λ e. e.tile_id) es) (map (λ e. e.run_length) es) (map (λ e. e.length) es) (map (λ e. e.offset) es) ≡ es
entries_again [] = refl
entries_again (e ∷ es) = ap (λ t. e ∷ t) (entries_again es)

steps_fit : (last : ℕ) (es : List Entry) → DirFits last es → AllBelow (2 ^ 64) (steps_from last es)
steps_fit last [] h = tt
steps_fit last (e ∷ es) h = (omega (arith, h.1), steps_fit e.tile_id es h.6)

runs_fit : (last : ℕ) (es : List Entry) → DirFits last es → AllBelow (2 ^ 32) (map (λ e. e.run_length) es)
runs_fit last [] h = tt
runs_fit last (e ∷ es) h = (h.3, runs_fit e.tile_id es h.6)

lengths_fit : (last : ℕ) (es : List Entry) → DirFits last es → AllBelow (2 ^ 32) (map (λ e. e.length) es)
lengths_fit last [] h = tt
lengths_fit last (e ∷ es) h = (h.2, lengths_fit e.tile_id es h.6)

starts_fit : (last : ℕ) (end : Option ℕ) (es : List Entry) → DirFits last es → AllBelow (2 ^ 64) (starts_from end es)
starts_fit last None [] h = tt
starts_fit last (Some end) [] h = tt
starts_fit last None (e ∷ es) h = (h.4, starts_fit e.tile_id (Some (e.offset + e.length)) es h.6)
starts_fit last (Some end) (e ∷ es) h = (start_low (nat_eq e.offset end) e.offset h.4, starts_fit e.tile_id (Some (e.offset + e.length)) es h.6)
  where
    start_low : (b : Bool) (o : ℕ) → o + 1 < 2 ^ 64 → (if b then 0 else (o + 1)) < 2 ^ 64
    start_low true o h = lit< tt
    start_low false o h = h

pub length_steps : (last : ℕ) (es : List Entry) → length (steps_from last es) ≡ length es
length_steps last [] = refl
length_steps last (e ∷ es) = ap suc (length_steps e.tile_id es)

pub length_starts : (end : Option ℕ) (es : List Entry) → length (starts_from end es) ≡ length es
length_starts None [] = refl
length_starts (Some end) [] = refl
length_starts None (e ∷ es) = ap suc (length_starts (Some (e.offset + e.length)) es)
length_starts (Some end) (e ∷ es) = ap suc (length_starts (Some (e.offset + e.length)) es)

length_maps : (f : Entry → ℕ) (es : List Entry) → length (map f es) ≡ length es
length_maps f [] = refl
length_maps f (e ∷ es) = ap suc (length_maps f es)

column_of : (j limit n : ℕ) → limit ≤ 128 ^ suc j → limit ≤ 2 ^ 64 → (ns rest : List ℕ) → length ns ≡ n → AllBelow limit ns → column (suc j) limit n (spell_all ns ++ rest) ≡ Some (ns, rest)
column_of j limit n fits small ns rest e h = subst (λ k. column (suc j) limit k (spell_all ns ++ rest) ≡ Some (ns, rest)) e (column_again j limit fits small ns rest h)

pub directory_again : (es : List Entry) (rest : List ℕ) → length es < 2 ^ 64 → DirFits 0 es → dir_of (dir_bytes es ++ rest) ≡ Some es
unfolding dir_of dir_bytes
directory_again es rest small h =
    let a = spell_all (steps_from 0 es) in
    let b = spell_all (map (λ e. e.run_length) es) in
    let c = spell_all (map (λ e. e.length) es) in
    let d = spell_all (starts_from None es) in
    let laid : (varint (length es) ++ (a ++ (b ++ (c ++ d)))) ++ rest ≡ varint (length es) ++ (a ++ (b ++ (c ++ (d ++ rest)))) = simp append_assoc in
    let n = u64_again (length es) (a ++ (b ++ (c ++ (d ++ rest)))) small in
    let ra = column_of 9 (2 ^ 64) (length es) (lit≤ tt) (lit≤ tt) (steps_from 0 es) (b ++ (c ++ (d ++ rest))) (length_steps 0 es) (steps_fit 0 es h) in
    let rb = column_of 4 (2 ^ 32) (length es) (lit≤ tt) (lit≤ tt) (map (λ e. e.run_length) es) (c ++ (d ++ rest)) (length_maps (λ e. e.run_length) es) (runs_fit 0 es h) in
    let rc = column_of 4 (2 ^ 32) (length es) (lit≤ tt) (lit≤ tt) (map (λ e. e.length) es) (d ++ rest) (length_maps (λ e. e.length) es) (lengths_fit 0 es h) in
    let rd = column_of 9 (2 ^ 64) (length es) (lit≤ tt) (lit≤ tt) (starts_from None es) rest (length_starts None es) (starts_fit 0 None es h) in
    rw (laid, n, ra, rb, rc, rd, ids_again 0 es h, offsets_again 0 None es tt h, entries_again es) refl
