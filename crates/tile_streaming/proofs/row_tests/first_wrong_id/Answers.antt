use Rattle.tile_streaming.proofs.Common.{first_refused, wrong_id}
use Rattle.tile_streaming.proofs.row_tests.first_wrong_id.Goals as goal

pub returns : goal.returns
returns c = c.refusal_of.ensures (first_refused (wrong_id c.args.layout c.args.algorithm) c.args.contents.now) c.test_content_hashes.ensures
