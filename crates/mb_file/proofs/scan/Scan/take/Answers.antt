use Rattle.std.proofs.Common.{ap, rules, SFits, Some, sym, w64, ◌∙◌, ◌≡◌}
use Rattle.std.proofs.lemmas.Int.{to_z-of_z}
use Rattle.mb_file.proofs.RowLemmas.{read_as, wide_if}
use Rattle.mb_file.specs.Course.{row_in}
use Rattle.mb_file.specs.SetTable.{if_placed, row_read}
use Rattle.mb_file.proofs.scan.Scan.take.Goals as goal

pub returns-clause-row : goal.returns-clause-row
returns-clause-row g c =
    let fits : SFits w64 c.number-number.result = search rules in
    let read : row_read c.args.table c.args.of.now.columns (row_in c.args.self.now.course) ≡ Some c.in_ok-row.row =
    read_as c.args.table c.args.of.now.columns (row_in c.args.self.now.course) _ _ _ c.in_ok-row.row (to_z-of_z w64 c.number-number.result fits ∙ c.number-number.ensures) c.record.ensures c.answer-answer.ensures c.in_ok-row.ensures.row in
    c.if_added-row.ensures c.args.table c.in_ok-row.ensures.step ∙ sym (ap (if_placed c.args.table) read)

pub returns-clause-wide : goal.returns-clause-wide
returns-clause-wide g c = wide_if c.args.table c.in_ok-row.row c.if_added-row.result (c.if_added-row.ensures c.args.table c.in_ok-row.ensures.step) c.in_ok-row.ensures.wide
