use Rattle.mb_file.proofs.RowLemmas.{found_in}
use Rattle.mb_file.proofs.set_table.SetTable.record_by_rowid.Goals as goal

pub returns-then-is_there-clause-read : goal.returns-then-is_there-clause-read
returns-then-is_there-clause-read g c = λ clean layout rows laid table.
    found_in c.args.rowid _ rows _ c.ranges.rowid c.if-is_there.true (c.in_ok-is_there.ensures.done clean layout rows laid table)
