use Rattle.hex_pairs.proofs.ValueLemmas.{values_are}
use Rattle.hex_pairs.proofs.value_lanes.values_of.Goals as goal

pub returns : goal.returns
returns c = values_are c.args.lanes c.fits-lanes.0
