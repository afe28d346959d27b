use Rattle.mb_store.proofs.Common.{ap, Cell, clash, DuplicateRow, false, has_equal, is_null, IsErrOf, key_of, List, list_any, not, rows_in, Stored, subst, sym, true, ◌&&◌, ◌↔◌, ◌∙◌, ◌≡◌}
use Rattle.mb_store.proofs.PushLemmas.{clash_single, none_equal}
use Rattle.mb_store.proofs.table_rows.push.Goals as goal

pub returns-then-is_single-clause-duplicate : goal.returns-then-is_single-clause-duplicate
returns-then-is_single-clause-duplicate c =
    let same : (c.args.keyed && list_any (clash c.args.table c.args.row) (rows_in c.args.rows.now)) ≡ has_equal c.args.table c.new.result.0 (rows_in c.args.rows.now) =
    clash_single c.args.table c.args.keyed true c.args.row (rows_in c.args.rows.now) (c.if-is_single.ensures ∙ ap (λ (row : List Cell). c.args.keyed && not (list_any is_null (key_of c.args.table row))) c.cells.ensures)
    ∙ ap (λ (s : Stored). has_equal c.args.table s.0 (rows_in c.args.rows.now)) (sym c.new.ensures) in
    subst (λ b. IsErrOf c.add_only.result (DuplicateRow c.args.table) ↔ (b ≡ true)) (sym same) c.add_only.ensures.duplicate

pub returns-in-Ok-clause-duplicate : goal.returns-in-Ok-clause-duplicate
returns-in-Ok-clause-duplicate c =
    none_equal _ _ _ (clash_single c.args.table c.args.keyed false c.args.row (rows_in c.args.rows.now) (c.if-is_single.ensures ∙ ap (λ (row : List Cell). c.args.keyed && not (list_any is_null (key_of c.args.table row))) c.cells.ensures)) (λ h. cc)

pub returns-in-Err-clause-duplicate : goal.returns-in-Err-clause-duplicate
returns-in-Err-clause-duplicate c =
    none_equal _ _ _ (clash_single c.args.table c.args.keyed false c.args.row (rows_in c.args.rows.now) (c.if-is_single.ensures ∙ ap (λ (row : List Cell). c.args.keyed && not (list_any is_null (key_of c.args.table row))) c.cells.ensures)) (λ h. cc)
