-- Cells of rows at an index.
use Rattle.mb_tables.proofs.Common.{arith, Cell, cell_at, get_or, length, List, Null, refl, slice_get, slice_set, suc, unwrap_or, zero, ℕ, [], ◌<◌, ◌∷◌, ◌≡◌, ◌≤◌}

-- a cell of a row is the one at its index, and null past the end
pub cell_at_get : (n : ℕ) (row : List Cell) → cell_at n row ≡ unwrap_or (slice_get row n) Null
cell_at_get n [] = refl
cell_at_get zero (c ∷ cs) = refl
cell_at_get (suc n) (c ∷ cs) = cell_at_get n cs

pub cell_past : (row : List Cell) (n : ℕ) → length row ≤ n → cell_at n row ≡ Null
cell_past [] n h = refl
cell_past (c ∷ cs) zero h = absurd (omega arith)
cell_past (c ∷ cs) (suc n) h = cell_past cs n (omega arith)

pub cell_within : (row : List Cell) (n : ℕ) (cell : Cell) → n < length row → get_or row n cell ≡ cell_at n row
cell_within [] n cell h = absurd (omega arith)
cell_within (c ∷ cs) zero cell h = refl
cell_within (c ∷ cs) (suc n) cell h = cell_within cs n cell (omega arith)

-- a change of a cell leaves those before it
pub cell_before : (row : List Cell) (n k : ℕ) (cell : Cell) → k < n → cell_at k (slice_set row n cell) ≡ cell_at k row
cell_before [] n k cell h = refl
cell_before (c ∷ cs) zero k cell h = absurd (omega arith)
cell_before (c ∷ cs) (suc n) zero cell h = refl
cell_before (c ∷ cs) (suc n) (suc k) cell h = cell_before cs n k cell (omega arith)
