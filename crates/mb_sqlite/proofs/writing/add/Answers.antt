use Rattle.mb_sqlite.proofs.Common.{Adds, bound, IsRun, subst}
use Rattle.mb_sqlite.proofs.writing.add.Goals as goal

pub returns-clause-adds : goal.returns-clause-adds
unfolding Adds
returns-clause-adds g c clean = (
  bound c.in_ok-values.values.items,
  c.in_ok-values.ensures,
  subst (λ text. IsRun g.S.Store text (bound c.in_ok-values.values.items) c.args.transaction.now.conn.now c.run.new.transaction.conn.now) c.addition_to.ensures
      (subst (λ values. IsRun g.S.Store c.addition_to.result.now (bound values) c.args.transaction.now.conn.now c.run.new.transaction.conn.now) c.as_slice.ensures.value (c.in_ok-run.ensures.runs clean)),
)
