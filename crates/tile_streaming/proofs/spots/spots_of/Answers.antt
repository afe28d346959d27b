use Rattle.tile_streaming.proofs.SpotLemmas.{next_spot}
use Rattle.tile_streaming.proofs.spots.spots_of.Goals as goal

pub loop-index-preserved : goal.loop-index-preserved
loop-index-preserved c = next_spot c.args.marks.now c.loop-index.index c.rank_of-rank.result c.index-marks-index.result c.loop-index.spots.items c.push.new.self.items c.loop-index-test.true c.rank_of-rank.ensures c.loop-index.invariant c.in_ok-push.ensures.items
