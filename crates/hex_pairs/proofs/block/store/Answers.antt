use Rattle.hex_pairs.proofs.Common.{arith, length-put_chunk, take_more_put_chunk, ◌+◌}
use Rattle.hex_pairs.proofs.block.store.Goals as goal

pub returns-clause-written : goal.returns-clause-written
returns-clause-written c = take_more_put_chunk c.args.at c.args.out.now c.args.lanes (c.args.at + 16) (omega (arith, c.fits-lanes.0)) (omega arith)

pub returns-clause-len : goal.returns-clause-len
returns-clause-len c = length-put_chunk c.args.at c.args.out.now c.args.lanes
