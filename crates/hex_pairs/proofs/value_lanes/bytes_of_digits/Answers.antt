use Rattle.hex_pairs.proofs.ValueLemmas.{bytes_are}
use Rattle.hex_pairs.proofs.value_lanes.bytes_of_digits.Goals as goal

pub returns : goal.returns
returns c = bytes_are c.args.front c.args.back _ _ c.fits-front c.fits-back c.values_of-first.ensures c.values_of-second.ensures
