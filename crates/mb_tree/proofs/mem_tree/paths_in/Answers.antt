use Rattle.mb_tree.proofs.Common.{ap, append-nil, List, sym, ℕ, ◌++◌, ◌∙◌}
use Rattle.mb_tree.proofs.MemTreeLemmas.{paths_are}
use Rattle.mb_tree.proofs.mem_tree.paths_in.Goals as goal

pub returns : goal.returns
returns c =
    sym (append-nil c.loop-path.paths.items)
    ∙ (ap (λ (left : List (List ℕ)). c.loop-path.paths.items ++ left) (sym c.in-None.ensures.steps.0)
    ∙ (c.loop-path.invariant ∙ sym (paths_are c.args.files.now c.len.ensures.ordered)))
