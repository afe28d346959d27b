use Rattle.tile_streaming.proofs.Common.{first_refused, wrong_tile_hash}
use Rattle.tile_streaming.proofs.row_tests.first_wrong.Goals as goal

pub returns : goal.returns
returns c = c.refusal_of.ensures (first_refused (wrong_tile_hash c.args.layout c.args.algorithm) c.args.rows.now) c.test_tile_hashes.ensures
