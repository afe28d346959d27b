use Rattle.mb_edit.proofs.Common.{Held, IsLoadedFrom, NamesAlgorithm, subst, sym}
use Rattle.mb_edit.proofs.ApplyLemmas.{named_after}
use Rattle.mb_edit.proofs.LoadedLemmas.{patched_loaded}
use Rattle.mb_edit.proofs.StepLemmas.{step_made}
use Rattle.mb_edit.proofs.patch.patch_loaded.Goals as goal

pub returns-clause-answer : goal.returns-clause-answer
returns-clause-answer c = step_made c.args.force c.args.base c.args.patch.now.state c.in_ok-patched.patched c.in_ok-ids.ensures.tests c.in_ok-patched.ensures

pub returns-clause-loaded : goal.returns-clause-loaded
returns-clause-loaded c t loaded on = subst (IsLoadedFrom t) (sym c.in_ok-patched.ensures) (patched_loaded t c.args.force c.args.base c.args.patch.now.state c.in_ok-ids.ensures.tests on loaded)

pub returns-clause-named : goal.returns-clause-named
returns-clause-named c base patch = subst (λ (h : Held). NamesAlgorithm h.state) (sym c.in_ok-patched.ensures) (named_after c.args.force c.args.base c.args.patch.now.state base patch c.in_ok-ids.ensures.tests)
