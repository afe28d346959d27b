use Rattle.hex_pairs.proofs.DigitLemmas.{woven_is}
use Rattle.hex_pairs.proofs.digit_lanes.digits_of.Goals as goal

pub returns : goal.returns
returns c = woven_is c.args.bytes _ _ c.fits-bytes.0 c.high_digits-high.ensures c.low_digits-low.ensures
