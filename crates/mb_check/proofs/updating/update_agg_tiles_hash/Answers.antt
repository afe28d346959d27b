use Rattle.mb_check.proofs.Common.{ap, begun_err, begun_free, begun_ok, err_from_is_err_and, Held, IsLoadedFrom, MakesChanges, Ok, own_hash_answer, refl, subst, sym, Tables, true, ◌∙◌, ◌≡◌}
use Rattle.mb_check.proofs.UpdatedLemmas.{hashed_loaded, hashed_updated}
use Rattle.mb_check.proofs.updating.update_agg_tiles_hash.Goals as goal

pub commit_loaded-requires : goal.commit_loaded-requires
commit_loaded-requires g c tells =
    let told : g.S.TileStore.tells c.args.store.now ≡ true = sym c.load.ensures.kept.tells ∙ tells in
    subst (λ (t : Tables). IsLoadedFrom t c.in_ok-updated.updated) (sym c.load.ensures.kept.told)
    (subst (λ (x : Held). IsLoadedFrom (g.S.TileStore.told c.args.store.now) x) (sym c.in_ok-updated.ensures) (hashed_loaded (g.S.TileStore.told c.args.store.now) c.in_ok-set.set c.in_ok-hash.hash (c.in_ok-set.ensures.loaded told)))

pub returns-in_err-set-clause-answer : goal.returns-in_err-set-clause-answer
returns-in_err-set-clause-answer g c =
    let p = err_from_is_err_and c.from_residual.result c.from_residual.ensures.1 in
    rw (p.1, p.2) (begun_err own_hash_answer (g.S.TileStore.tells c.args.store.now) (g.S.TileStore.told c.args.store.now) _ c.in_err-set.ensures.answer c.in_err-set.ensures.own)

pub returns-in_err-hash-clause-answer : goal.returns-in_err-hash-clause-answer
returns-in_err-hash-clause-answer g c =
    let p = err_from_is_err_and c.from_residual-in_err-hash.result c.from_residual-in_err-hash.ensures.1 in
    rw (p.1, p.2) (begun_free own_hash_answer (g.S.TileStore.tells c.args.store.now) (g.S.TileStore.told c.args.store.now) c.in_ok-set.set _ refl c.in_ok-set.ensures.answer c.in_ok-set.ensures.own)

pub returns-in_err-updated-clause-answer : goal.returns-in_err-updated-clause-answer
returns-in_err-updated-clause-answer g c =
    let p = err_from_is_err_and c.from_residual-in_err-updated.result c.from_residual-in_err-updated.ensures.1 in
    rw (p.1, p.2) (begun_free own_hash_answer (g.S.TileStore.tells c.args.store.now) (g.S.TileStore.told c.args.store.now) c.in_ok-set.set _ refl c.in_ok-set.ensures.answer c.in_ok-set.ensures.own)

pub returns-in_err-commit_loaded-clause-answer : goal.returns-in_err-commit_loaded-clause-answer
returns-in_err-commit_loaded-clause-answer g c =
    let p = err_from_is_err_and c.from_residual-in_err-commit_loaded.result c.from_residual-in_err-commit_loaded.ensures.1 in
    rw (p.1, p.2) (begun_free own_hash_answer (g.S.TileStore.tells c.args.store.now) (g.S.TileStore.told c.args.store.now) c.in_ok-set.set _ c.in_err-commit_loaded.ensures.free c.in_ok-set.ensures.answer c.in_ok-set.ensures.own)

pub returns-clause-answer : goal.returns-clause-answer
returns-clause-answer g c = begun_ok own_hash_answer (g.S.TileStore.tells c.args.store.now) (g.S.TileStore.told c.args.store.now) c.in_ok-set.set (Ok c.in_ok-hash.hash) c.in_ok-set.ensures.answer c.in_ok-set.ensures.own (ap Ok (sym c.in_ok-hash.ensures))

pub returns-clause-updated : goal.returns-clause-updated
returns-clause-updated g c told =
    hashed_updated (g.S.TileStore.told c.args.store.now) (g.S.TileStore.told c.commit_loaded.new.store) c.in_ok-set.set c.in_ok-updated.updated c.in_ok-hash.hash c.in_ok-updated.ensures c.in_ok-hash.ensures
    (c.in_ok-set.ensures.answer told).1 (c.in_ok-set.ensures.answer told).0 (c.in_ok-set.ensures.loaded told)
    (g.met.S.TileStore.sound c.commit_loaded.new.store (c.commit_loaded.ensures.kept.tells ∙ (c.load.ensures.kept.tells ∙ told)))
    (subst (λ (t : Tables). MakesChanges c.in_ok-updated.updated t (g.S.TileStore.told c.commit_loaded.new.store)) c.load.ensures.kept.told (c.in_ok-commit_loaded.ensures.committed (c.load.ensures.kept.tells ∙ told)))
