use Rattle.mb_tables.proofs.Common.{ap, arith, Cell, cell_cmp, cells_cmp, get_or, length, List, ordering_then, Text, [], ◌∙◌, ◌∷◌, ◌≡◌, ◌≤◌}
use Rattle.std.specs.declared.cmp.Ordering.TheVariants.{Greater}
use Rattle.mb_tables.proofs.key.compare_text.Goals as goal

-- a longer list and one cell
longer : (xs : List Cell) (x cell : Cell) → 2 ≤ length xs → x ≡ get_or xs 0 x → ordering_then (cell_cmp x cell) Greater ≡ cells_cmp xs (cell ∷ [])
longer [] x cell two e = absurd (omega arith)
longer (a ∷ []) x cell two e = absurd (omega arith)
longer (a ∷ b ∷ rest) x cell two e = ap (λ y. ordering_then (cell_cmp y cell) Greater) e

pub returns-in-len2-up : goal.returns-in-len2-up
returns-in-len2-up c = c.then.ensures ∙ (ap (λ r. ordering_then r Greater) (c.compare_text-in-len2-up.ensures) ∙ longer c.args.cells.now c.cell-item-2.result (Text c.args.text.now) c.in-len2-up.len_at_least c.cell-item-2.is)
