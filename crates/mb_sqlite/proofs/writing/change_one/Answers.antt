use Rattle.mb_sqlite.proofs.Common.{Adds, ap, arith, is_table, MatchOption, option_copied, refl, rules, set_tables, Some, subst, sym, true, ◌≡◌}
use Rattle.mb_sqlite.proofs.WritingLemmas.{changed_by}
use Rattle.mb_sqlite.proofs.writing.change_one.Goals as goal

pub returns-in_ok-add-in-Some-clause-changed : goal.returns-in_ok-add-in-Some-clause-changed
returns-in_ok-add-in-Some-clause-changed g c clean =
    let mid = c.remove.new.transaction.conn.now in
    let end = c.add.new.transaction.conn.now in
    let is : is_table (set_tables c.args.layout) c.args.table ≡ true = search rules in
    let row : option_copied c.args.row ≡ Some c.in-Some.row.now = ap option_copied c.in-Some.is in
    changed_by g.S.Store c.args.layout c.args.table c.args.key.now (option_copied c.args.row) c.args.transaction.now.conn.now mid end is (c.in_ok-remove.ensures.removes (omega (arith, clean, c.add.ensures.kept.survives.clean)))
    (subst (λ row. MatchOption row (end ≡ mid) (λ cells. Adds g.S.Store c.args.table cells mid end)) (sym row)
    (subst (λ cells. Adds g.S.Store c.args.table cells mid end) c.cells.ensures (c.in_ok-add-in-Some.ensures.adds clean)))

pub returns-in-None-clause-changed : goal.returns-in-None-clause-changed
returns-in-None-clause-changed g c clean =
    let mid = c.remove.new.transaction.conn.now in
    let is : is_table (set_tables c.args.layout) c.args.table ≡ true = search rules in
    changed_by g.S.Store c.args.layout c.args.table c.args.key.now (option_copied c.args.row) c.args.transaction.now.conn.now mid mid is (c.in_ok-remove.ensures.removes clean)
    (subst (λ row. MatchOption (option_copied row) (mid ≡ mid) (λ cells. Adds g.S.Store c.args.table cells mid mid)) (sym c.in-None.is) refl)
