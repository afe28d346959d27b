use Rattle.tile_streaming.proofs.Common.{rows_kept, tile_bad}
use Rattle.tile_streaming.proofs.row_tests.first_bad.Goals as goal

pub returns : goal.returns
returns c = c.refusal_of.ensures (tile_bad c.args.layout (rows_kept c.args.contents.now.items.items) c.args.rows.now) c.test_tiles.ensures
