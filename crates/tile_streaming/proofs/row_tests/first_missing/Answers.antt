use Rattle.tile_streaming.proofs.Common.{first_refused, missing_reference, rows_kept}
use Rattle.tile_streaming.proofs.row_tests.first_missing.Goals as goal

pub returns : goal.returns
returns c = c.refusal_of.ensures (first_refused (missing_reference c.args.layout (rows_kept c.args.contents.now.items.items)) c.args.rows.now) c.test_references.ensures
