-- How few steps a bound on a power leaves.
use Rattle.format_rows.proofs.Common.{arith, suc, zero, ℕ, ◌^◌, ◌≤◌}
use Rattle.std.proofs.Math.Pow.{pow_mono}

pub at_most_two : (d : ℕ) → 2 ^ d ≤ 7 → d ≤ 2
at_most_two zero h = omega arith
at_most_two (suc zero) h = omega arith
at_most_two (suc (suc zero)) h = omega arith
at_most_two (suc (suc (suc d))) h = absurd (let least : 8 ≤ 2 ^ suc (suc (suc d)) = pow_mono {i = 3} {j = suc (suc (suc d))} (omega arith) in omega (arith, h, least))
