use Rattle.mb_insert.proofs.Common.{ap, err_from_is_err_and, insertion, IsLoadedFrom, MakesChanges, Ok, subst, sym, Tables, true, ◌∙◌, ◌≡◌}
use Rattle.mb_constraints.specs.DiffHashes.{refused_by}
use Rattle.mb_insert.proofs.InsertedLemmas.{is_inserted}
use Rattle.mb_load.proofs.BegunLemmas.{begun_err, begun_free, begun_ok}
use Rattle.mb_insert.proofs.insert.insert_tiles.Goals as goal

pub commit_loaded-requires : goal.commit_loaded-requires
commit_loaded-requires g c tells =
    let told : g.S.TileStore.tells c.args.store.now ≡ true = sym c.load.ensures.kept.tells ∙ tells in
    subst (λ (t : Tables). IsLoadedFrom t c.in_ok-inserted.inserted) (sym c.load.ensures.kept.told)
    (c.in_ok-inserted.ensures.loaded (g.S.TileStore.told c.args.store.now) (c.in_ok-set.ensures.loaded told))

pub returns-in_err-set-clause-answer : goal.returns-in_err-set-clause-answer
returns-in_err-set-clause-answer g c =
    let p = err_from_is_err_and c.from_residual.result c.from_residual.ensures.1 in
    rw (p.1, p.2) (begun_err (insertion c.args.on_duplicate c.args.batch.now) (g.S.TileStore.tells c.args.store.now) (g.S.TileStore.told c.args.store.now) _ c.in_err-set.ensures.answer c.in_err-set.ensures.own)

pub returns-in_err-inserted-clause-answer : goal.returns-in_err-inserted-clause-answer
returns-in_err-inserted-clause-answer g c =
    let p = err_from_is_err_and c.from_residual-in_err-inserted.result c.from_residual-in_err-inserted.ensures.1 in
    rw (p.1, p.2) (begun_ok (insertion c.args.on_duplicate c.args.batch.now) (g.S.TileStore.tells c.args.store.now) (g.S.TileStore.told c.args.store.now) c.in_ok-set.set _ c.in_ok-set.ensures.answer c.in_ok-set.ensures.own (λ free. ap refused_by (c.in_err-inserted.ensures.refused free)))

pub returns-in_err-commit_loaded-clause-answer : goal.returns-in_err-commit_loaded-clause-answer
returns-in_err-commit_loaded-clause-answer g c =
    let p = err_from_is_err_and c.from_residual-in_err-commit_loaded.result c.from_residual-in_err-commit_loaded.ensures.1 in
    rw (p.1, p.2) (begun_free (insertion c.args.on_duplicate c.args.batch.now) (g.S.TileStore.tells c.args.store.now) (g.S.TileStore.told c.args.store.now) c.in_ok-set.set _ c.in_err-commit_loaded.ensures.free c.in_ok-set.ensures.answer c.in_ok-set.ensures.own)

pub returns-clause-answer : goal.returns-clause-answer
returns-clause-answer g c = begun_ok (insertion c.args.on_duplicate c.args.batch.now) (g.S.TileStore.tells c.args.store.now) (g.S.TileStore.told c.args.store.now) c.in_ok-set.set (Ok tt) c.in_ok-set.ensures.answer c.in_ok-set.ensures.own (ap refused_by c.in_ok-inserted.ensures.tested)

pub returns-clause-inserted : goal.returns-clause-inserted
returns-clause-inserted g c told =
    is_inserted c.args.on_duplicate c.args.batch.now (g.S.TileStore.told c.args.store.now) (g.S.TileStore.told c.commit_loaded.new.store) c.in_ok-set.set c.in_ok-inserted.inserted
    (c.in_ok-set.ensures.answer told).1 (c.in_ok-set.ensures.answer told).0 (c.in_ok-set.ensures.loaded told) c.in_ok-set.ensures.named
    c.in_ok-inserted.ensures.tested c.in_ok-inserted.ensures.value
    (g.met.S.TileStore.sound c.commit_loaded.new.store (c.commit_loaded.ensures.kept.tells ∙ (c.load.ensures.kept.tells ∙ told)))
    (subst (λ (t : Tables). MakesChanges c.in_ok-inserted.inserted t (g.S.TileStore.told c.commit_loaded.new.store)) c.load.ensures.kept.told (c.in_ok-commit_loaded.ensures.committed (c.load.ensures.kept.tells ∙ told)))
