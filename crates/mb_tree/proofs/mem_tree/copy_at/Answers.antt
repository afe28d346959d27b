use Rattle.mb_tree.proofs.Common.{ap, false≢true, is_some, option_copied, sym, ◌∙◌}
use Rattle.mb_tree.proofs.MemTreeLemmas.{copied, got}
use Rattle.mb_tree.proofs.mem_tree.copy_at.Goals as goal

pub unreachable-requires : goal.unreachable-requires
unreachable-requires c = false≢true (sym (ap is_some (got c.args.files.now c.args.path.now ∙ (sym c.get.ensures.value ∙ ap (λ o. option_copied o) c.in-None.is))) ∙ c.requires)

pub returns : goal.returns
returns c = copied c.try_clone.result _ c.in-Some.bytes.now (got c.args.files.now c.args.path.now ∙ (sym c.get.ensures.value ∙ ap (λ o. option_copied o) c.in-Some.is)) c.try_clone.ensures
