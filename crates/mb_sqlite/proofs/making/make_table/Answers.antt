use Rattle.mb_sqlite.proofs.Common.{ap, arith, option_copied, sym, ◌∙◌}
use Rattle.mb_sqlite.proofs.PassingLemmas.{arises_by, stays_none, stays_there}
use Rattle.mb_sqlite.proofs.making.make_table.Goals as goal

pub returns-in-None-clause-passed : goal.returns-in-None-clause-passed
returns-in-None-clause-passed g c clean = stays_none g.S.Store c.args.layout c.args.table c.args.transaction.now.conn.now (sym c.making_of.ensures ∙ ap option_copied c.in-None.is)

pub returns-then-branch-clause-passed : goal.returns-then-branch-clause-passed
returns-then-branch-clause-passed g c clean =
    stays_there g.S.Store c.args.layout c.args.table c.in-Some.text.now c.in_ok-is_there-in-Some.field-0 c.args.transaction.now.conn.now c.is_there.new.transaction.conn.now (sym c.making_of.ensures ∙ ap option_copied c.in-Some.is) c.if-branch.true
    (c.in_ok-is_there-in-Some.ensures.there clean)

pub returns-in_ok-run-in-Some-clause-passed : goal.returns-in_ok-run-in-Some-clause-passed
returns-in_ok-run-in-Some-clause-passed g c clean =
    arises_by g.S.Store c.args.layout c.args.table c.in-Some.text.now c.in_ok-is_there-in-Some.field-0 c.args.transaction.now.conn.now c.is_there.new.transaction.conn.now c.run.new.transaction.conn.now (sym c.making_of.ensures ∙ ap option_copied c.in-Some.is) c.if-branch.false
    (c.in_ok-is_there-in-Some.ensures.there (omega (arith, clean, c.run.ensures.kept.survives.clean))) (c.in_ok-run-in-Some.ensures.runs clean)
