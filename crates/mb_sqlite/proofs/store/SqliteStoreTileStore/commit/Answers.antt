use Rattle.mb_sqlite.proofs.Common.{inl, inr, MakesChanges, refl, RefusesChanges, subst}
use Rattle.mb_sqlite.proofs.ReadyLemmas.{on_err}
use Rattle.mb_sqlite.proofs.store.SqliteStoreTileStore.commit.Goals as goal

pub returns-in_err-begin-clause-unchanged : goal.returns-in_err-begin-clause-unchanged
returns-in_err-begin-clause-unchanged g c = on_err _ _ (inl (c.begin.ensures.kept.once, c.begin.ensures.kept.leaves, c.begin.ensures.cursor))

pub returns-in-Err-clause-unchanged : goal.returns-in-Err-clause-unchanged
returns-in-Err-clause-unchanged g c = on_err _ _ (inr (
  record {
    ready = c.begin.new.self.connection;
    is_ready = c.in_ok-begin.ensures.ready;
    once = c.begin.ensures.kept.once;
    after = subst (λ layout. RefusesChanges g.S.Store layout c.args.changes.now c.commit.new.connection c.begin.new.self.connection) c.in_ok-begin.ensures.kept.layout
        (record { once = c.commit.ensures.once; kept = c.in-Err.ensures.refused; rests = c.in-Err.ensures.rests c.in_ok-begin.ensures.ended });
  },
  c.in_ok-begin.ensures.kept.made,
  refl,
))

pub returns-in-Ok-clause-changed : goal.returns-in-Ok-clause-changed
returns-in-Ok-clause-changed g c = record {
  ready = c.begin.new.self.connection;
  is_ready = c.in_ok-begin.ensures.ready;
  once = c.begin.ensures.kept.once;
  after = subst (λ layout. MakesChanges g.S.Store layout c.args.changes.now c.commit.new.connection c.begin.new.self.connection) c.in_ok-begin.ensures.kept.layout
      (record { once = c.commit.ensures.once; ended = c.commit.ensures.ended c.in_ok-begin.ensures.ended; committed = c.in-Ok.ensures.changed });
}
