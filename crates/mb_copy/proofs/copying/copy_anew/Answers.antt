use Rattle.mb_copy.proofs.Common.{ap, err_from_is_err_and, false≢true, refused_by, sym, ◌∙◌}
use Rattle.mb_copy.proofs.HashLemmas.{ids_passed}
use Rattle.mb_copy.proofs.PutLemmas.{anew_left, anew_loaded, anew_started, is_anew}
use Rattle.mb_copy.proofs.copying.copy_anew.Goals as goal

pub commit_anew-requires-clause-layout : goal.commit_anew-requires-clause-layout
commit_anew-requires-clause-layout g c = anew_started c.args.copier.now c.args.source.state c.requires.source c.in_ok-next.next (ids_passed c.args.copier.now c.args.after c.args.source.state c.in_ok-next.ensures.tests) c.in_ok-next.ensures.value

pub commit_anew-requires-clause-loaded : goal.commit_anew-requires-clause-loaded
commit_anew-requires-clause-loaded g c = anew_loaded c.args.copier.now c.args.source.state c.requires.source c.in_ok-next.next (ids_passed c.args.copier.now c.args.after c.args.source.state c.in_ok-next.ensures.tests) c.in_ok-next.ensures.value

pub returns-in_err-next-clause-answer : goal.returns-in_err-next-clause-answer
returns-in_err-next-clause-answer g c =
    let p = err_from_is_err_and c.from_residual.result c.from_residual.ensures.1 in
    rw (p.1, p.2) (λ free. ap refused_by (c.in_err-next.ensures.tests.0 free))

pub returns-in_err-commit_anew-clause-answer : goal.returns-in_err-commit_anew-clause-answer
returns-in_err-commit_anew-clause-answer g c =
    let p = err_from_is_err_and c.from_residual-in_err-commit_anew.result c.from_residual-in_err-commit_anew.ensures.1 in
    rw (p.1, p.2) (λ free. absurd (false≢true (sym free ∙ c.in_err-commit_anew.ensures.free)))

pub returns-in_err-commit_anew-clause-left : goal.returns-in_err-commit_anew-clause-left
returns-in_err-commit_anew-clause-left g c told =
    let p = err_from_is_err_and c.from_residual-in_err-commit_anew.result c.from_residual-in_err-commit_anew.ensures.1 in
    rw (p.1, p.2) (anew_left c.args.copier.now c.args.source.state c.requires.source c.in_ok-next.next (ids_passed c.args.copier.now c.args.after c.args.source.state c.in_ok-next.ensures.tests) c.in_ok-next.ensures.value (g.D.TileStore.told c.args.dst.now) (g.D.TileStore.told c.commit_anew.new.dst) _ c.in_err-commit_anew.ensures.free (c.requires.none told) (c.in_err-commit_anew.ensures.left told))

pub returns-clause-answer : goal.returns-clause-answer
returns-clause-answer g c = ap refused_by c.in_ok-next.ensures.tests

pub returns-clause-copied : goal.returns-clause-copied
returns-clause-copied g c told =
    is_anew c.args.copier.now c.args.source.state c.requires.source c.in_ok-next.next (ids_passed c.args.copier.now c.args.after c.args.source.state c.in_ok-next.ensures.tests) c.in_ok-next.ensures.value (g.D.TileStore.told c.args.dst.now) (g.D.TileStore.told c.commit_anew.new.dst)
    (g.met.D.TileStore.sound c.args.dst.now told) (g.met.D.TileStore.sound c.commit_anew.new.dst (c.commit_anew.ensures.kept.tells ∙ told)) (c.requires.none told) (c.in_ok-commit_anew.ensures.committed told)
