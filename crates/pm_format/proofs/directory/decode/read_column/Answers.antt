use Rattle.pm_format.proofs.Common.{rules, sym, [], ◌++◌, ◌∙◌, ◌∷◌, ◌≡◌}
use Rattle.pm_format.proofs.ColumnLemmas.{column_step, column_stop, u32_number}
use Rattle.pm_format.proofs.directory.decode.read_column.Goals as goal

pub returns-in_err-number-clause-none : goal.returns-in_err-number-clause-none
returns-in_err-number-clause-none c = λ _. column_stop _ _ _ _ _ _ _ _ c.loop-i-test.true (sym (u32_number _) ∙ c.in_err-number.ensures.none) c.loop-i.invariant

pub loop-i-preserved : goal.loop-i-preserved
loop-i-preserved c =
    let e : c.push.new.self.items ≡ c.loop-i.numbers.items ++ c.in_ok-number.number ∷ [] = search rules in
    rw e (column_step _ _ _ _ _ _ _ _ _ _ c.loop-i-test.true c.in_ok-number.ensures.place.1 (sym (u32_number _) ∙ c.in_ok-number.ensures.found) c.loop-i.invariant)
