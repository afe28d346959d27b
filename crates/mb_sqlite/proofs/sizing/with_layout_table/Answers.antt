use Rattle.mb_sqlite.proofs.Common.{false, is_table, refl, rules, set_tables, true, ◌≡◌}
use Rattle.mb_sqlite.proofs.ReadyLemmas.{by_false, by_true}
use Rattle.mb_sqlite.proofs.sizing.with_layout_table.Goals as goal

pub returns-then-not-has_table-clause-table : goal.returns-then-not-has_table-clause-table
returns-then-not-has_table-clause-table g c clean =
    let none : is_table (set_tables c.args.layout) c.args.table ≡ false = search rules in
    by_false _ _ _ none (refl, refl)

pub returns-clause-table : goal.returns-clause-table
returns-clause-table g c clean =
    let is : is_table (set_tables c.args.layout) c.args.table ≡ true = search rules in
    by_true _ _ _ is (c.in_ok-sum.ensures.table clean)
