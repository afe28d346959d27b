use Rattle.mb_lists.proofs.Common.{arith, length, sym, ◌<◌, ◌∙◌, ◌≤◌}
use Rattle.mb_tables.proofs.RowLemmas.{cell_before, cell_past, cell_within}
use Rattle.mb_lists.proofs.row_tiles.take_at.Goals as goal

pub returns-then-index-len-clause-taken : goal.returns-then-index-len-clause-taken
returns-then-index-len-clause-taken c =
    let lt : c.args.index < length c.args.cells.now.items = omega (arith, c.len.ensures, c.if-index-len.true) in
    c.replace.ensures.value ∙ (c.index_mut.ensures.value ∙ cell_within c.args.cells.now.items c.args.index c.index_mut.result.now lt)

pub returns-then-index-len-clause-left : goal.returns-then-index-len-clause-left
returns-then-index-len-clause-left c = λ k lt. cell_before c.args.cells.now.items c.args.index k c.replace.new.dest lt

pub returns-else-index-len-clause-taken : goal.returns-else-index-len-clause-taken
returns-else-index-len-clause-taken c =
    let le : length c.args.cells.now.items ≤ c.args.index = omega (arith, c.len.ensures, c.if-index-len.false) in
    sym (cell_past c.args.cells.now.items c.args.index le)
