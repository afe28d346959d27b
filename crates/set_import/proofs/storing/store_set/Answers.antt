use Rattle.set_import.proofs.Common.{IsLoadedFrom, subst, sym, Tables, ◌∙◌}
use Rattle.mb_load.proofs.FrameLemmas.{of_tables}
use Rattle.mb_store.specs.Committing.{Commits}
use Rattle.set_import.proofs.NewSetLemmas.{at_refusal, left_by}
use Rattle.set_import.proofs.storing.store_set.Goals as goal

pub commit-requires : goal.commit-requires
commit-requires g c told =
    let tells = sym c.make_tables.ensures.kept.tells ∙ told in
    of_tables c.args.set (g.S.TileStore.told c.make_tables.new.store) c.in_ok-changes.changes
    (subst (λ (t : Tables). IsLoadedFrom t c.args.set) (sym (c.in_ok-make_tables.ensures.made tells)) (c.requires.from tells)) c.in_ok-changes.ensures

pub returns-clause-committed : goal.returns-clause-committed
returns-clause-committed g c told = record {
  changes = c.in_ok-changes.changes;
  are = c.in_ok-changes.ensures;
  made = subst (λ (t : Tables). Commits c.in_ok-changes.changes t (g.S.TileStore.told c.commit.new.self)) (c.in_ok-make_tables.ensures.made told) (c.in_ok-commit.ensures.ok (c.make_tables.ensures.kept.tells ∙ told));
}

pub returns-in_err-commit-clause-left : goal.returns-in_err-commit-clause-left
returns-in_err-commit-clause-left g c told =
    at_refusal c.from_residual-in_err-commit.result
    (left_by (g.S.TileStore.told c.args.store.now) (g.S.TileStore.told c.make_tables.new.store) (g.S.TileStore.told c.commit.new.self) (c.in_ok-make_tables.ensures.made told) c.in_err-commit.ensures.err)
