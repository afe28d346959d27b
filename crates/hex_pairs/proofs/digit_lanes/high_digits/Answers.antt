use Rattle.hex_pairs.proofs.Common.{arith, DIGITS, zip2_splat, ◌/◌}
use Rattle.hex_pairs.proofs.DigitLemmas.{down, high_ok}
use Rattle.hex_pairs.proofs.LaneLemmas.{looked_up}
use Rattle.hex_pairs.proofs.digit_lanes.high_digits.Goals as goal

pub swizzle : goal.swizzle
swizzle c = high_ok c.args.bytes c.fits-bytes

pub returns : goal.returns
returns c = looked_up DIGITS (λ x. x / 16) c.args.bytes _ c.fits-bytes (zip2_splat down c.args.bytes 16 4 c.fits-bytes.0) (λ x h. omega arith)
