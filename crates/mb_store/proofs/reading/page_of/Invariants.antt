use Rattle.mb_store.proofs.Common.{drop, rows_of, take, ◌++◌, ◌≡◌}
use Rattle.mb_store.proofs.reading.page_of.Given as goal

-- the page so far, and what is still to come
abbrev pub invariant-loop-left : goal.invariant-loop-left
invariant-loop-left l = record {
  page : l.page.items ++ take l.left (rows_of l.rows) ≡ take l.limit (rows_of l.fn.rows);
  rest : drop l.left l.rows ≡ drop l.limit l.fn.rows;
}

abbrev pub decreases-loop-left : goal.decreases-loop-left
decreases-loop-left l = l.left
