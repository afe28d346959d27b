use Rattle.mb_store.proofs.Common.{ap, arith, Cell, List, rows_of, take, [], ◌++◌, ◌-◌, ◌∙◌, ◌∷◌}
use Rattle.mb_store.proofs.ReadingLemmas.{none_there, none_wanted, page_next, page_whole, rest_next}
use Rattle.mb_store.proofs.reading.page_of.Goals as goal

pub returns-in_default-clause-page : goal.returns-in_default-clause-page
returns-in_default-clause-page c =
    page_whole c.loop-left.page.items c.loop-left.left (rows_of c.loop-left.rows) (take c.args.limit (rows_of c.args.rows.now))
    (none_there c.loop-left.left c.loop-left.rows c.in_default.ensures.steps.0)
    c.loop-left.invariant.page

pub loop-left-preserved : goal.loop-left-preserved
loop-left-preserved c = record {
  page =
      ap (λ (xs : List (List Cell)). xs ++ take (c.loop-left.left - 1) (rows_of c.next.new.self)) (c.in_ok-push.ensures.items ∙ ap (λ (row : List Cell). c.loop-left.page.items ++ row ∷ []) c.in_ok-to_row.ensures)
      ∙ page_next c.loop-left.page.items c.loop-left.left c.in-Some.row.now.0 (rows_of c.loop-left.rows) (rows_of c.next.new.self) (take c.args.limit (rows_of c.args.rows.now)) (omega arith) (ap rows_of c.in-Some.ensures.steps) c.loop-left.invariant.page;
  rest = rest_next c.loop-left.left c.in-Some.row.now c.loop-left.rows c.next.new.self _ (omega arith) c.in-Some.ensures.steps c.loop-left.invariant.rest;
}

pub returns-clause-page : goal.returns-clause-page
returns-clause-page c =
    page_whole c.loop-left.page.items c.loop-left.left (rows_of c.loop-left.rows) (take c.args.limit (rows_of c.args.rows.now))
    (none_wanted c.loop-left.left c.loop-left.rows (omega arith))
    c.loop-left.invariant.page
