use Rattle.mb_store.proofs.Common.{ap, Cell, clash, false≢true, has_equal, is_null, key_of, List, list_any, not, refl, Stored, sym, told_at, ◌&&◌, ◌∙◌, ◌≡◌}
use Rattle.mb_store.proofs.GatheredLemmas.{wanting}
use Rattle.mb_store.proofs.PushLemmas.{clash_single}
use Rattle.mb_store.proofs.gathering.refusal.Goals as goal
use Rattle.mb_store.proofs.gathering.refusal.Goals.{After-drop}

same : (c : After-drop) → (c.args.keyed && list_any (clash c.args.table c.args.row) (told_at c.args.tables.now c.args.gathered.now c.args.table)) ≡ c.stands-stands.result
same c =
    clash_single c.args.table c.args.keyed c.is_single-single.result c.args.row (told_at c.args.tables.now c.args.gathered.now c.args.table) (c.is_single-single.ensures ∙ ap (λ (row : List Cell). c.args.keyed && not (list_any is_null (key_of c.args.table row))) c.cells.ensures)
    ∙ (ap (λ (s : Stored). c.is_single-single.result && has_equal c.args.table s.0 (told_at c.args.tables.now c.args.gathered.now c.args.table)) (sym c.new-stored.ensures) ∙ sym c.stands-stands.ensures)

pub returns-then-stands-clause-duplicate : goal.returns-then-stands-clause-duplicate
returns-then-stands-clause-duplicate c = ((λ h. same (goal.at.returns-then-stands-clause-duplicate c).After-drop ∙ c.if-stands.true), (λ h. refl))

pub returns-else-stands-clause-duplicate : goal.returns-else-stands-clause-duplicate
returns-else-stands-clause-duplicate c = ((λ h. absurd (wanting c.args.table h)), (λ h. absurd (false≢true (sym (same (goal.at.returns-else-stands-clause-duplicate c).After-drop ∙ c.if-stands.false) ∙ h))))
