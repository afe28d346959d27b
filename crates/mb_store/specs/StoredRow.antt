-- Rows as they are stored: each with the number of its arrival, in the order of their keys.
use Rattle.std.specs.Prelude.{ℕ, pos, ◌&&◌, Bool, cond, nat_lt, List, [], ◌∷◌, ◌++◌, Option, Some, None, length, map, take}
use Rattle.mb_store.specs.Common.{Cell, cells_cmp, Int, is_eq, IsTotalOrder, nat_cmp, nat_cmp_total, Ordering, ordering_then}
use Rattle.std.proofs.lemmas.Cmp.{on_total, then_total, lists_total}
use Rattle.mb_tables.specs.CellOrder.{cells_total}
use Rattle.mb_store.specs.declared.stored_row.StoredCells.{StoredCells}
use Rattle.mb_store.specs.declared.stored_row.StoredCells.TheVariants.{All, Last}

-- the cells of a row, and the number of its arrival
abbrev pub Stored : Type 0
Stored = List Cell × ℕ

-- the cells of a row's key: the first, or the first three of a row of more than two
abbrev pub own_key : List Cell → List Cell
own_key row = take (cond (nat_lt 2 (length row)) 3 1) row

-- three numbers as cells
abbrev pub numbers_cells : ℕ × ℕ × ℕ → List Cell
numbers_cells n = Int (pos n.0) ∷ Int (pos n.1) ∷ Int (pos n.2) ∷ []

-- the cells of a row whose numbers are these: they stand in front of its last one, or all cells are kept
abbrev pub cells_in : ℕ × ℕ × ℕ → StoredCells → List Cell
cells_in numbers (Last cell) = numbers_cells numbers ++ cell ∷ []
cells_in numbers (All row) = row

-- the cells of numbers, where there are any
abbrev pub in_front : Option (ℕ × ℕ × ℕ) → List Cell
in_front None = []
in_front (Some numbers) = numbers_cells numbers

-- by the keys' cells, and then by arrival
abbrev pub stored_cmp : Stored → Stored → Ordering
stored_cmp a b = ordering_then (cells_cmp (own_key a.0) (own_key b.0)) (nat_cmp a.1 b.1)

pub stored_total : IsTotalOrder stored_cmp
stored_total = then_total (on_total (λ (s : Stored). own_key s.0) (lists_total cells_total)) (on_total (λ (s : Stored). s.1) nat_cmp_total)

-- whether a stored row has a row's key, and came before a number
abbrev pub is_early : List Cell → ℕ → Stored → Bool
is_early row limit s = is_eq (cells_cmp (own_key row) (own_key s.0)) && nat_lt s.1 limit

-- the rows alone
abbrev pub rows_of : List Stored → List (List Cell)
rows_of keys = map (λ (s : Stored). s.0) keys
