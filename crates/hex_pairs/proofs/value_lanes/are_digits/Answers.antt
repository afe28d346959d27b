use Rattle.hex_pairs.proofs.ValueLemmas.{digits_pass}
use Rattle.hex_pairs.proofs.value_lanes.are_digits.Goals as goal

pub returns : goal.returns
returns c = digits_pass c.args.lanes c.fits-lanes
