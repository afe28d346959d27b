use Rattle.std.proofs.Common.{w64}
use Rattle.std.proofs.lemmas.Int.{to_z-of_z}
use Rattle.mb_file.proofs.set_table.SetTable.read_record.Goals as goal

pub returns-clause-read : goal.returns-clause-read
returns-clause-read g c = λ none clean layout rows laid table.
    rw (to_z-of_z w64 c.args.place c.ranges.place) at (c.record_by_rowid.ensures.read clean layout rows laid table)
