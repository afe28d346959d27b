use Rattle.std.proofs.Common.{w64}
use Rattle.std.proofs.lemmas.Int.{to_z-of_z}
use Rattle.mb_file.proofs.MetadataLemmas.{values_named}
use Rattle.mb_file.proofs.metadata.values_of.Goals as goal

pub returns : goal.returns
returns c =
    values_named c.args.columns.now c.args.rowid _ c.args.record.now _ _ _ _ _ _ _ c.new-values.ensures c.in_ok-push.ensures.ok c.in_ok-push-2.ensures.ok c.in_ok-push_spelled.ensures
    (to_z-of_z w64 c.args.rowid c.ranges.rowid) c.answer_of-answer.ensures
