-- The pieces of a directory, written one behind another, and ids that don't fall.
use Rattle.pm_format.proofs.Common.{All, ap, append_assoc, arith, dir_bytes, DirFits, Entry, get_or, IdsDontFall, IsPlaced, IsWritable, length, List, map, None, NotFalling, refl, spell_all}
use Rattle.pm_format.proofs.Common.{starts_from, steps_from, suc, varint, zero, ℕ, [], ◌++◌, ◌<◌, ◌∷◌, ◌≡◌, ◌≤◌}

pub five : (x0 x1 x2 x3 x4 x5 a b c d e : List ℕ) → x1 ≡ x0 ++ a → x2 ≡ x1 ++ b → x3 ≡ x2 ++ c → x4 ≡ x3 ++ d → x5 ≡ x4 ++ e → x5 ≡ x0 ++ (a ++ (b ++ (c ++ (d ++ e))))
five x0 x1 x2 x3 x4 x5 a b c d e p q r s t = rw (t, s, r, q, p) (simp append_assoc)

pub directory_written : (es : List Entry) (x0 x1 x2 x3 x4 x5 : List ℕ) → x1 ≡ x0 ++ varint (length es) → x2 ≡ x1 ++ spell_all (steps_from 0 es) → x3 ≡ x2 ++ spell_all (map (λ e. e.run_length) es) → x4 ≡ x3 ++ spell_all (map (λ e. e.length) es) → x5 ≡ x4 ++ spell_all (starts_from None es)
    → x5 ≡ x0 ++ dir_bytes es
unfolding dir_bytes
directory_written es x0 x1 x2 x3 x4 x5 p q r s t = five x0 x1 x2 x3 x4 x5 (varint (length es)) (spell_all (steps_from 0 es)) (spell_all (map (λ e. e.run_length) es)) (spell_all (map (λ e. e.length) es)) (spell_all (starts_from None es)) p q r s t

pub not_falling : (last : ℕ) (es : List Entry) → IdsDontFall es → ((d : Entry) → 0 < length es → last ≤ (get_or es 0 d).tile_id) → NotFalling last es
not_falling last [] h g = tt
not_falling last (e ∷ es) h g = (g e (omega arith), not_falling e.tile_id es (λ i j d p q. h (suc i) (suc j) d (omega arith) (omega arith)) (λ d q. h 0 1 d (omega arith) (omega arith)))

pub not_falling_zero : (es : List Entry) → IdsDontFall es → NotFalling 0 es
not_falling_zero es h = not_falling 0 es h (λ d q. omega arith)

-- entries in order and at places that fit may be written
pub placed_writable : (last : ℕ) (es : List Entry) → NotFalling last es → All IsPlaced es → IsWritable last es
placed_writable last [] h p = tt
placed_writable last (e ∷ es) h p =
    let here = p 0 e (omega arith) in
    (h.0, omega (arith, here.start), here.end, placed_writable e.tile_id es h.1 (λ k d q. p (suc k) d (omega (arith, q))))

-- so may entries that fit
pub fits_writable : (last : ℕ) (es : List Entry) → DirFits last es → IsWritable last es
fits_writable last [] h = tt
fits_writable last (e ∷ es) h = (h.0, h.4, h.5, fits_writable e.tile_id es h.6)

-- entries as they are
pub same_entries : (es : List Entry) → map (λ e. e) es ≡ es
same_entries [] = refl
same_entries (e ∷ es) = ap (λ z. e ∷ z) (same_entries es)

none_below : (last : ℕ) (es : List Entry) → NotFalling last es → (k : ℕ) (d : Entry) → k < length es → last ≤ (get_or es k d).tile_id
none_below last [] h k d q = absurd (omega (arith, q))
none_below last (e ∷ es) h zero d q = h.0
none_below last (e ∷ es) h (suc k) d q = let g = none_below e.tile_id es h.1 k d (omega (arith, q)) in omega (arith, g, h.0)

pub dont_fall : (last : ℕ) (es : List Entry) → NotFalling last es → IdsDontFall es
dont_fall last [] h = λ i j d p q. absurd (omega (arith, q))
dont_fall last (e ∷ es) h = go (dont_fall e.tile_id es h.1)
  where
    go : IdsDontFall es → (i j : ℕ) (d : Entry) → i ≤ j → j < length (e ∷ es) → (get_or (e ∷ es) i d).tile_id ≤ (get_or (e ∷ es) j d).tile_id
    go g zero zero d p q = omega arith
    go g zero (suc j) d p q = none_below e.tile_id es h.1 j d (omega (arith, q))
    go g (suc i) zero d p q = absurd (omega (arith, p))
    go g (suc i) (suc j) d p q = g i j d (omega (arith, p)) (omega (arith, q))
