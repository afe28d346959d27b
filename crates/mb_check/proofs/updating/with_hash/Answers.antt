use Rattle.mb_check.proofs.Common.{Held, IfOk, subst, ◌≡◌}
use Rattle.mb_check.proofs.UpdatedLemmas.{hashed_by}
use Rattle.mb_check.proofs.updating.with_hash.Goals as goal

pub returns : goal.returns
returns c =
    subst (λ (z : Held). IfOk c.settle.result (λ h. h ≡ z))
    (hashed_by c.args.set c.edit-edits.result c.put_text.new.edits c.put_text-2.new.edits c.args.hash.now c.as_str.result.now c.as_str-2.result.now c.algorithm-algorithm.result c.edit-edits.ensures c.in_ok-put_text.ensures c.in_ok-put_text-2.ensures c.as_str.ensures c.as_str-2.ensures c.algorithm-algorithm.ensures)
    c.settle.ensures
