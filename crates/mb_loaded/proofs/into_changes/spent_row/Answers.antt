use Rattle.mb_loaded.proofs.Common.{ap, Content, id_at, is_null, List, Spends, subst, sym, true, ◌∙◌, ◌≡◌}
use Rattle.mb_loaded.proofs.CopyLemmas.{named_content}
use Rattle.mb_loaded.proofs.TakenLemmas.{spends_taken}
use Rattle.mb_loaded.proofs.into_changes.spent_row.Goals as goal

pub returns-then-is_null-clause-spent : goal.returns-then-is_null-clause-spent
returns-then-is_null-clause-spent c =
    let old = c.args.contents.now.items in
    let t = c.args.tile.now in
    let null : is_null (id_at old t.contents) ≡ true = ap (λ (x : Content). is_null x.id) (named_content old t c.index.result.now c.requires.whole c.requires.live ∙ sym c.index.ensures) ∙ (sym c.is_null.ensures ∙ c.if-is_null.true) in
    subst (λ (z : List Content). Spends c.args.is_last t.contents old z) (sym c.take_content-content.ensures.left) (spends_taken c.args.is_last t.contents old c.if-is_last.true null)
