use Rattle.mb_copy.proofs.Common.{err_from_is_err_and, inl, inr, MakesChanges, subst, sym, Tables, true, ◌∙◌, ◌≡◌}
use Rattle.mb_copy.proofs.AnswerLemmas.{store_free}
use Rattle.mb_copy.proofs.MadeLemmas.{made_as, schema_empty}
use Rattle.mb_copy.proofs.commit_anew.commit_anew.Goals as goal

pub commit_loaded-requires : goal.commit_loaded-requires
commit_loaded-requires g c tells =
    let told : g.D.TileStore.tells c.args.dst.now ≡ true = sym c.init_mbtiles_schema.ensures.kept.tells ∙ tells in
    c.requires.loaded (g.D.TileStore.told c.init_mbtiles_schema.new.store)
    (schema_empty (g.D.TileStore.told c.args.dst.now) (g.D.TileStore.told c.init_mbtiles_schema.new.store) c.mbt_type.result c.args.next.now.state.layout (g.met.D.TileStore.sound c.args.dst.now told) (c.requires.none told) c.mbt_type.ensures c.requires.layout (c.in_ok-init_mbtiles_schema.ensures.ok told))

pub returns-in_err-init_mbtiles_schema-clause-left : goal.returns-in_err-init_mbtiles_schema-clause-left
returns-in_err-init_mbtiles_schema-clause-left g c told =
    let p = err_from_is_err_and c.from_residual.result c.from_residual.ensures.1 in
    rw p.1 (inl c.in_err-init_mbtiles_schema.ensures.err)

pub returns-in_err-init_mbtiles_schema-clause-free : goal.returns-in_err-init_mbtiles_schema-clause-free
returns-in_err-init_mbtiles_schema-clause-free g c =
    let p = err_from_is_err_and c.from_residual.result c.from_residual.ensures.1 in
    rw (p.1, p.2) (store_free _ c.in_err-init_mbtiles_schema.ensures.errors)

pub returns-in_err-commit_loaded-clause-left : goal.returns-in_err-commit_loaded-clause-left
returns-in_err-commit_loaded-clause-left g c told =
    let p = err_from_is_err_and c.from_residual-in_err-commit_loaded.result c.from_residual-in_err-commit_loaded.ensures.1 in
    rw p.1 (inr (c.in_err-commit_loaded.ensures.refused ∙ made_as (g.D.TileStore.told c.args.dst.now) (g.D.TileStore.told c.init_mbtiles_schema.new.store) c.mbt_type.result c.args.next.now.state.layout c.mbt_type.ensures c.requires.layout (c.in_ok-init_mbtiles_schema.ensures.ok told)))

pub returns-clause-committed : goal.returns-clause-committed
returns-clause-committed g c told =
    subst (λ (t : Tables). MakesChanges c.args.next.now t (g.D.TileStore.told c.commit_loaded.new.store))
    (made_as (g.D.TileStore.told c.args.dst.now) (g.D.TileStore.told c.init_mbtiles_schema.new.store) c.mbt_type.result c.args.next.now.state.layout c.mbt_type.ensures c.requires.layout (c.in_ok-init_mbtiles_schema.ensures.ok told))
    (c.in_ok-commit_loaded.ensures.committed (c.init_mbtiles_schema.ensures.kept.tells ∙ told))
