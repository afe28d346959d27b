-- The table of how many tiles the zooms below have together.
use Rattle.tile_ids.proofs.Common.{ap, arith, get_or, List, pyramid, PYRAMID_SIZE_BY_ZOOM, refl, suc, zero, ℕ, [], ◌+◌, ◌<◌, ◌∙◌, ◌∷◌, ◌≡◌, ◌≤◌}

abbrev sizes_from : ℕ → ℕ → List ℕ
sizes_from zero z = []
sizes_from (suc n) z = pyramid z ∷ sizes_from n (suc z)

at : (n z i : ℕ) → i < n → get_or (sizes_from n z) i 0 ≡ pyramid (z + i)
at zero z i h = absurd (omega (arith, h))
at (suc n) z zero h = ap pyramid (omega arith)
at (suc n) z (suc i) h = at n (suc z) i (omega (arith, h)) ∙ ap pyramid (omega arith)

pub pyramid_size : (zoom : ℕ) → zoom ≤ 31 → get_or PYRAMID_SIZE_BY_ZOOM zoom 0 ≡ pyramid zoom
pyramid_size zoom h =
    let table : PYRAMID_SIZE_BY_ZOOM ≡ sizes_from 32 0 = refl in
    ap (λ xs. get_or xs zoom 0) table ∙ (at 32 0 zoom (omega arith) ∙ ap pyramid (omega arith))
