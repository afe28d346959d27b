use Rattle.std.proofs.Common.{rules, ◌≡◌}
use Rattle.mb_reading.specs.declared.filling.Step.TheVariants.{Added}
use Rattle.mb_file.proofs.RowLemmas.{row_added, row_passed}
use Rattle.mb_file.proofs.set_table.if_added.Goals as goal

pub returns-then-eq : goal.returns-then-eq
returns-then-eq c = λ table is.
    let added : c.args.step ≡ Added = search rules in
    row_added table c.args.row c.args.step is added

pub returns-else-eq : goal.returns-else-eq
returns-else-eq c = λ table is.
    let added : ¬ (c.args.step ≡ Added) = search rules in
    row_passed table c.args.row c.args.step is added
