use Rattle.hex_pairs.proofs.Common.{arith, DIGITS, ◌%◌}
use Rattle.hex_pairs.proofs.DigitLemmas.{low_ok, lower_half}
use Rattle.hex_pairs.proofs.LaneLemmas.{looked_up}
use Rattle.hex_pairs.proofs.digit_lanes.low_digits.Goals as goal

pub swizzle : goal.swizzle
swizzle c = low_ok c.args.bytes c.fits-bytes

pub returns : goal.returns
returns c = looked_up DIGITS (λ x. x % 16) c.args.bytes _ c.fits-bytes (lower_half c.args.bytes c.fits-bytes.0) (λ x h. omega arith)
