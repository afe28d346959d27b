use Rattle.std.proofs.Common.{w64}
use Rattle.std.proofs.lemmas.Int.{to_z-of_z}
use Rattle.mb_file.proofs.RowLemmas.{row_given}
use Rattle.mb_file.proofs.set_table.SetTable.row_at.Goals as goal

pub returns-clause-row : goal.returns-clause-row
returns-clause-row g c = λ none clean layout rows laid table.
    row_given c.args.table c.args.self.now.columns c.args.place _ c.read_record.new.source.record.items _ _ _ rows (to_z-of_z w64 c.args.place c.ranges.place)
    c.as_slice.ensures.value c.answer_of-answer.ensures c.in_ok-row.ensures.row (c.in_ok-read_record.ensures.read none clean layout rows laid table)
