-- Vectors of sixteen bytes, lane by lane.
use Rattle.hex_pairs.proofs.Common.{ap, arith, drop, Each1, ext_get_or, Fits, get_or, get_or-map, get_or-swz_l_below, length, length-map, length-swz_l, List, map, refl, suc, swz_l, sym, w8, zero, ℕ}
use Rattle.hex_pairs.proofs.Common.{[], ◌*◌, ◌+◌, ◌/◌, ◌<◌, ◌∙◌, ◌∷◌, ◌≡◌}

abbrev pub IsVector : List ℕ → Type 0
IsVector v = (length v ≡ 16) × Each1 (Fits w8) v

lane_fits : (v : List ℕ) (i : ℕ) → Each1 (Fits w8) v → get_or v i 0 < 256
lane_fits [] i h = omega arith
lane_fits (x ∷ xs) zero h = h.0.fits
lane_fits (x ∷ xs) (suc i) h = lane_fits xs i h.1

-- a table that is read at places g x below 16
pub looked_up : (t : List ℕ) (g : ℕ → ℕ) (v js : List ℕ) → IsVector v → js ≡ map g v → ((x : ℕ) → x < 256 → g x < 16) → swz_l w8 16 t 0 js ≡ map (λ x. get_or t (g x) 0) v
looked_up t g v js fits e small =
    let long : length js ≡ 16 = ap length e ∙ length-map v g ∙ fits.0 in
    ext_get_or 0 _ _ (length-swz_l w8 16 t 0 js ∙ long ∙ sym (length-map v (λ x. get_or t (g x) 0) ∙ fits.0)) (λ i h.
    let lt : i < 16 = omega (arith, length-swz_l w8 16 t 0 js) in
    let within : i < length v = omega (arith, fits.0) in
    let is : get_or js i 0 ≡ g (get_or v i 0) = ap (λ l. get_or l i 0) e ∙ get_or-map g v i 0 0 within in
    let below : get_or js i 0 < 16 = omega (arith, small (get_or v i 0) (lane_fits v i fits.1)) in
    let only : 16 * ((0 + i) / 16) + get_or js i 0 ≡ get_or js i 0 = omega arith in
    get_or-swz_l_below w8 16 t 0 js i (omega arith) below
    ∙ ap (λ k. get_or t k 0) (only ∙ is) ∙ sym (get_or-map (λ x. get_or t (g x) 0) v i 0 0 within))

-- the first n elements of a list, each by itself
abbrev pub listed : ℕ → List ℕ → List ℕ
listed zero v = []
listed (suc n) v = get_or v 0 0 ∷ listed n (drop 1 v)

pub listed_is : (n : ℕ) (v : List ℕ) → length v ≡ n → listed n v ≡ v
listed_is zero [] e = refl
listed_is zero (x ∷ v) e = absurd (omega (arith, e))
listed_is (suc n) [] e = absurd (omega (arith, e))
listed_is (suc n) (x ∷ v) e = ap (λ l. x ∷ l) (listed_is n v (omega (arith, e)))
