use Rattle.mb_metadata.proofs.Common.{begun_err, begun_free, begun_ok, done_answer, err_from_is_err_and, Ok, refl, set_edits, sym, true, ◌∙◌, ◌≡◌}
use Rattle.mb_metadata.proofs.NameEditLemmas.{edits_names, is_fresh}
use Rattle.mb_metadata.proofs.values.set_metadata_value.Goals as goal

pub commit_edits-requires : goal.commit_edits-requires
commit_edits-requires g c tells =
    let told : g.S.TileStore.tells c.args.store.now ≡ true = sym c.load.ensures.kept.tells ∙ tells in
    is_fresh (g.S.TileStore.told c.args.store.now) (g.S.TileStore.told c.load.new.store) c.in_ok-set.set c.load.ensures.kept.told (c.in_ok-set.ensures.answer told) (c.in_ok-set.ensures.loaded told)

pub returns-in_err-set-clause-answer : goal.returns-in_err-set-clause-answer
returns-in_err-set-clause-answer g c =
    let p = err_from_is_err_and c.from_residual.result c.from_residual.ensures.1 in
    rw (p.1, p.2) (begun_err done_answer (g.S.TileStore.tells c.args.store.now) (g.S.TileStore.told c.args.store.now) _ c.in_err-set.ensures.answer c.in_err-set.ensures.own)

pub returns-in_err-edits-clause-answer : goal.returns-in_err-edits-clause-answer
returns-in_err-edits-clause-answer g c =
    let p = err_from_is_err_and c.from_residual-in_err-edits.result c.from_residual-in_err-edits.ensures.1 in
    rw (p.1, p.2) (begun_free done_answer (g.S.TileStore.tells c.args.store.now) (g.S.TileStore.told c.args.store.now) c.in_ok-set.set _ refl c.in_ok-set.ensures.answer c.in_ok-set.ensures.own)

pub returns-in_err-commit_edits-clause-answer : goal.returns-in_err-commit_edits-clause-answer
returns-in_err-commit_edits-clause-answer g c =
    let p = err_from_is_err_and c.from_residual-in_err-commit_edits.result c.from_residual-in_err-commit_edits.ensures.1 in
    rw (p.1, p.2) (begun_free done_answer (g.S.TileStore.tells c.args.store.now) (g.S.TileStore.told c.args.store.now) c.in_ok-set.set _ c.in_err-commit_edits.ensures.free c.in_ok-set.ensures.answer c.in_ok-set.ensures.own)

pub returns-clause-answer : goal.returns-clause-answer
returns-clause-answer g c = begun_ok done_answer (g.S.TileStore.tells c.args.store.now) (g.S.TileStore.told c.args.store.now) c.in_ok-set.set (Ok tt) c.in_ok-set.ensures.answer c.in_ok-set.ensures.own refl

pub returns-clause-committed : goal.returns-clause-committed
returns-clause-committed g c told =
    edits_names (set_edits c.args.key.now c.args.value.now) (g.S.TileStore.told c.args.store.now) (g.S.TileStore.told c.load.new.store) (g.S.TileStore.told c.commit_edits.new.store) c.in_ok-set.set.state c.in_ok-edits.edits.items
    c.load.ensures.kept.told (c.in_ok-set.ensures.answer told).0 c.in_ok-edits.ensures (c.in_ok-commit_edits.ensures.committed (c.load.ensures.kept.tells ∙ told))
