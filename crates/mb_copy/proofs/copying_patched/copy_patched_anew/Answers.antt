use Rattle.mb_copy.proofs.Common.{ap, IsSource, State, subst, sym}
use Rattle.mb_copy.proofs.PatchAnswerLemmas.{copied_patched, left_patched, patched_due}
use Rattle.mb_copy.proofs.PatchedSourceLemmas.{still_source}
use Rattle.mb_copy.proofs.copying_patched.copy_patched_anew.Goals as goal

pub copy_anew-requires-clause-source : goal.copy_anew-requires-clause-source
copy_anew-requires-clause-source g c = subst IsSource (sym c.in_ok-patched.ensures) (still_source c.args.source.state c.args.patch.now.state c.requires.source c.requires.patch)

pub returns-clause-answer : goal.returns-clause-answer
returns-clause-answer g c = patched_due c.args.copier.now c.args.source.state c.args.patch.now.state c.in_ok-patched.patched.state c.in_ok-after.after c.copy_anew.result c.in_ok-patched.ensures c.in_ok-after.ensures c.copy_anew.ensures.answer

pub returns-clause-copied : goal.returns-clause-copied
returns-clause-copied g c told =
    copied_patched c.args.copier.now c.args.source.state c.args.patch.now.state c.in_ok-patched.patched.state c.in_ok-after.after c.copy_anew.result (g.D.TileStore.told c.args.dst.now) (g.D.TileStore.told c.copy_anew.new.dst) c.in_ok-patched.ensures c.in_ok-after.ensures c.copy_anew.ensures.answer (c.copy_anew.ensures.copied told)

pub returns-clause-left : goal.returns-clause-left
returns-clause-left g c told =
    left_patched c.args.copier.now c.args.source.state c.in_ok-patched.patched.state c.copy_anew.result (g.D.TileStore.told c.args.dst.now) (g.D.TileStore.told c.copy_anew.new.dst) (ap (λ (s : State). s.layout) c.in_ok-patched.ensures) (c.copy_anew.ensures.left told)
