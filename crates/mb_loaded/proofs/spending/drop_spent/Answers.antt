use Rattle.mb_loaded.proofs.Common.{AreUnspent, Content, IsSpent, length, List, subst, sym, ℕ, ◌<◌, ◌∙◌, ◌≤◌}
use Rattle.mb_loaded.proofs.TakenLemmas.{cut_unspent}
use Rattle.mb_loaded.proofs.spending.drop_spent.Goals as goal

pub returns : goal.returns
returns c = λ first unspent.
    let now = c.args.contents.now.items in
    let last = c.args.last.now in
    let n = c.args.index in
    let left = c.unspent_count-left.result in
    subst (λ (cs : List Content). AreUnspent first cs last n) (sym (c.give_back.ensures ∙ c.truncate.ensures.items))
    (cut_unspent first now last n left (subst (λ (cs : List Content). (k : ℕ) → left ≤ k → k < length cs → IsSpent cs last k n) c.as_slice.ensures.value c.unspent_count-left.ensures) unspent)
