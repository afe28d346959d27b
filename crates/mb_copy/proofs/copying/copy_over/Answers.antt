use Rattle.mb_copy.proofs.Common.{ap, begun_err, begun_free, begun_ok, err_from_is_err_and, IsLoadedFrom, MakesChanges, Ok, over_answer, refused_by, subst, sym, Tables, true, ◌∙◌, ◌≡◌}
use Rattle.mb_copy.proofs.PutLemmas.{is_over, over_loaded}
use Rattle.mb_copy.proofs.copying.copy_over.Goals as goal

pub commit_loaded-requires : goal.commit_loaded-requires
commit_loaded-requires g c tells =
    let told : g.D.TileStore.tells c.args.dst.now ≡ true = sym c.load.ensures.kept.tells ∙ tells in
    subst (λ (t : Tables). IsLoadedFrom t c.in_ok-next.next) (sym c.load.ensures.kept.told)
    (over_loaded c.args.copier.now c.args.source.state c.requires c.in_ok-base.base c.in_ok-next.next c.in_ok-next.ensures.tests c.in_ok-next.ensures.value (g.D.TileStore.told c.args.dst.now) (c.in_ok-base.ensures.loaded told))

pub returns-in_err-base-clause-answer : goal.returns-in_err-base-clause-answer
returns-in_err-base-clause-answer g c =
    let p = err_from_is_err_and c.from_residual.result c.from_residual.ensures.1 in
    rw (p.1, p.2) (begun_err (over_answer c.args.copier.now c.args.source.state) (g.D.TileStore.tells c.args.dst.now) (g.D.TileStore.told c.args.dst.now) _ c.in_err-base.ensures.answer c.in_err-base.ensures.own)

pub returns-in_err-next-clause-answer : goal.returns-in_err-next-clause-answer
returns-in_err-next-clause-answer g c =
    let p = err_from_is_err_and c.from_residual-in_err-next.result c.from_residual-in_err-next.ensures.1 in
    rw (p.1, p.2) (begun_ok (over_answer c.args.copier.now c.args.source.state) (g.D.TileStore.tells c.args.dst.now) (g.D.TileStore.told c.args.dst.now) c.in_ok-base.base _ c.in_ok-base.ensures.answer c.in_ok-base.ensures.own (λ free. ap refused_by (c.in_err-next.ensures.tests.0 free)))

pub returns-in_err-commit_loaded-clause-answer : goal.returns-in_err-commit_loaded-clause-answer
returns-in_err-commit_loaded-clause-answer g c =
    let p = err_from_is_err_and c.from_residual-in_err-commit_loaded.result c.from_residual-in_err-commit_loaded.ensures.1 in
    rw (p.1, p.2) (begun_free (over_answer c.args.copier.now c.args.source.state) (g.D.TileStore.tells c.args.dst.now) (g.D.TileStore.told c.args.dst.now) c.in_ok-base.base _ c.in_err-commit_loaded.ensures.free c.in_ok-base.ensures.answer c.in_ok-base.ensures.own)

pub returns-clause-answer : goal.returns-clause-answer
returns-clause-answer g c = begun_ok (over_answer c.args.copier.now c.args.source.state) (g.D.TileStore.tells c.args.dst.now) (g.D.TileStore.told c.args.dst.now) c.in_ok-base.base (Ok tt) c.in_ok-base.ensures.answer c.in_ok-base.ensures.own (ap refused_by c.in_ok-next.ensures.tests)

pub returns-clause-copied : goal.returns-clause-copied
returns-clause-copied g c told =
    is_over c.args.copier.now c.args.source.state c.requires c.in_ok-base.base c.in_ok-next.next c.in_ok-next.ensures.tests c.in_ok-next.ensures.value (g.D.TileStore.told c.args.dst.now) (g.D.TileStore.told c.commit_loaded.new.store)
    (c.in_ok-base.ensures.answer told).1 (c.in_ok-base.ensures.answer told).0 (c.in_ok-base.ensures.loaded told) c.in_ok-base.ensures.named
    (g.met.D.TileStore.sound c.commit_loaded.new.store (c.commit_loaded.ensures.kept.tells ∙ (c.load.ensures.kept.tells ∙ told)))
    (subst (λ (t : Tables). MakesChanges c.in_ok-next.next t (g.D.TileStore.told c.commit_loaded.new.store)) c.load.ensures.kept.told (c.in_ok-commit_loaded.ensures.committed (c.load.ensures.kept.tells ∙ told)))
