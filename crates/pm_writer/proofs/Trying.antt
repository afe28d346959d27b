-- The first size whose root fits.
use Rattle.pm_writer.proofs.Common.{ap, append-nil, arith, Bool, cut, dir_bytes, drop, drop_all, Entry, false, fits_root, inl, inr, length, length-append, List, map, nat_le, nat_lt, nat_tests, None}
use Rattle.pm_writer.proofs.Common.{pieces, refl, root_of, short_of, spell_all, starts_from, steps_from, subst, suc, sym, take, true, uppers_by, varint, zero, ℕ, [], ◌++◌, ◌+◌, ◌-◌, ◌/◌, ◌<◌, ◌∙◌}
use Rattle.pm_writer.proofs.Common.{◌∷◌, ◌≡◌, ◌≤◌}
use Rattle.pm_writer.proofs.Runs.{le_or}

pub short_length : (k n : ℕ) → length (short_of k n) ≤ k
short_length zero n = omega arith
short_length (suc k) n = go (nat_lt n 128) refl (short_length k (n / 128))
  where
    go : (b : Bool) → nat_lt n 128 ≡ b → length (short_of k (n / 128)) ≤ k → length (short_of (suc k) n) ≤ suc k
    go true e h = rw e (omega arith)
    go false e h = rw e (omega (arith, h))

one_spelled : (n : ℕ) → length (spell_all (n ∷ [])) ≤ 10
unfolding varint
one_spelled n = omega (arith, short_length 10 n, ap length (append-nil (short_of 10 n)))

-- a root of one entry at most is small
pub small_root : (es : List Entry) → length es ≤ 1 → length (dir_bytes es) ≤ 16257
unfolding dir_bytes varint
small_root [] h = omega arith
small_root (e ∷ []) h =
    let n = varint 1 in
    let a = spell_all (steps_from 0 (e ∷ [])) in
    let b = spell_all (map (λ e. e.run_length) (e ∷ [])) in
    let c = spell_all (map (λ e. e.length) (e ∷ [])) in
    let d = spell_all (starts_from None (e ∷ [])) in
    omega (arith, short_length 10 1, one_spelled (e.tile_id - 0), one_spelled e.run_length, one_spelled e.length, one_spelled (e.offset + 1), length-append n (a ++ (b ++ (c ++ d))), length-append a (b ++ (c ++ d)), length-append b (c ++ d), length-append c d)
small_root (e ∷ f ∷ es) h = absurd (omega (arith, h))

pub cut_nil : (n size : ℕ) → cut n size [] ≡ []
cut_nil zero size = refl
cut_nil (suc n) size = refl

-- directories of a size that is enough are one
pub one_directory : (place size : ℕ) (es : List Entry) → length es ≤ size → length (root_of place (pieces size es)) ≤ 1
one_directory place size [] h = omega arith
one_directory place size (e ∷ es) h =
    let rest : cut (length es) size (drop size (e ∷ es)) ≡ [] = ap (cut (length es) size) (drop_all size (e ∷ es) h) ∙ cut_nil (length es) size in
    let t : length (root_of (place + length (dir_bytes (take size (e ∷ es)))) (cut (length es) size (drop size (e ∷ es)))) ≡ 0 = rw rest refl in
    omega (arith, t)

pub one_fits : (place size : ℕ) (es : List Entry) → length es ≤ size → length (dir_bytes (root_of place (pieces size es))) ≤ 16257
one_fits place size es h = small_root (root_of place (pieces size es)) (one_directory place size es h)

-- so a size that is tried in vain is short
pub tried_short : (place size : ℕ) (es : List Entry) → fits_root (root_of place (pieces size es)) ≡ false → size < length es
tried_short place size es h = elim (le_or (length es) size) [
  | inl g ↦ let s = one_fits place size es g in
      let t : fits_root (root_of place (pieces size es)) ≡ true = grind (arith, nat_tests) in
      absurd (cc)
  | inr g ↦ g
]

pub at_once : (n place size : ℕ) (es : List Entry) → fits_root (root_of place (pieces size es)) ≡ true → uppers_by n place size es ≡ pieces size es
at_once zero place size es e = refl
at_once (suc n) place size es e = rw (e, uppers_by) refl

pub not_yet : (n place size : ℕ) (es : List Entry) → fits_root (root_of place (pieces size es)) ≡ false → uppers_by (suc n) place size es ≡ uppers_by n place (size + size / 5) es
not_yet n place size es e = rw (e, uppers_by) refl

-- the sizes that are left find the same directories
pub record Trying (place first size : ℕ) (es : List Entry) : Type 0 where
  pub left : ℕ
  pub enough : length es ≤ size + left
  pub same : uppers_by left place size es ≡ uppers_by (length es) place first es
  pub low : 5 ≤ size

pub trying_first : (place first : ℕ) (es : List Entry) → 5 ≤ first → Trying place first first es
trying_first place first es h = record { left = length es; enough = omega arith; same = refl; low = h }

pub trying_more : (place first size : ℕ) (es : List Entry) → fits_root (root_of place (pieces size es)) ≡ false → Trying place first size es → Trying place first (size + size / 5) es
trying_more place first size es e t = go t.left t.enough t.same
  where
    go : (left : ℕ) → length es ≤ size + left → uppers_by left place size es ≡ uppers_by (length es) place first es → Trying place first (size + size / 5) es
    go zero enough same = absurd (omega (arith, enough, tried_short place size es e))
    go (suc left) enough same = record { left = left; enough = omega (arith, enough, t.low); same = sym (not_yet left place size es e) ∙ same; low = omega (arith, t.low) }

pub trying_found : (place first size : ℕ) (es : List Entry) → fits_root (root_of place (pieces size es)) ≡ true → Trying place first size es → pieces size es ≡ uppers_by (length es) place first es
trying_found place first size es e t = sym (at_once t.left place size es e) ∙ t.same

pub tested : (n : ℕ) → nat_le n 16257 ≡ true → n ≤ 16257
tested n e = grind (arith, nat_tests)

-- the search ends with a root that fits
pub uppers_fit : (n place size : ℕ) (es : List Entry) → 5 ≤ size → length es ≤ size + n → length (dir_bytes (root_of place (uppers_by n place size es))) ≤ 16257
uppers_fit zero place size es h g = one_fits place size es (omega (arith, g))
uppers_fit (suc n) place size es h g = go (fits_root (root_of place (pieces size es))) refl (uppers_fit n place (size + size / 5) es (omega (arith, h)) (omega (arith, h, g)))
  where
    go : (b : Bool) → fits_root (root_of place (pieces size es)) ≡ b → length (dir_bytes (root_of place (uppers_by n place (size + size / 5) es))) ≤ 16257 → length (dir_bytes (root_of place (uppers_by (suc n) place size es))) ≤ 16257
    go true e r = subst (λ z. length (dir_bytes (root_of place z)) ≤ 16257) (sym (at_once (suc n) place size es e)) (tested (length (dir_bytes (root_of place (pieces size es)))) e)
    go false e r = subst (λ z. length (dir_bytes (root_of place z)) ≤ 16257) (sym (not_yet n place size es e)) r

-- upper directories that were found are of some size
pub cut_by : (n place size : ℕ) (es : List Entry) → 1 ≤ size → (k : ℕ) × (1 ≤ k) × (uppers_by n place size es ≡ pieces k es)
cut_by zero place size es h = (size, h, refl)
cut_by (suc n) place size es h = go (fits_root (root_of place (pieces size es))) refl (cut_by n place (size + size / 5) es (omega arith))
  where
    go : (c : Bool) → fits_root (root_of place (pieces size es)) ≡ c → ((k : ℕ) × (1 ≤ k) × (uppers_by n place (size + size / 5) es ≡ pieces k es)) → (k : ℕ) × (1 ≤ k) × (uppers_by (suc n) place size es ≡ pieces k es)
    go true q r = (size, h, at_once (suc n) place size es q)
    go false q r = (r.0, r.1, not_yet n place size es q ∙ r.2)
