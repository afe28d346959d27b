-- How often a check reads.
use Rattle.tile_verify.proofs.Common.{arith, Bool, Err, false, Fault, Grew, inl, inr, min, nat_lt, nat_tests, Opening, ReadsMade, refl, Rose, Short, true, VerifyError, WalkCauses, WalkReads, ℕ, ◌+◌}
use Rattle.tile_verify.proofs.Common.{◌-◌, ◌^◌, ◌≡◌, ◌≤◌, ◌⊎◌}

-- the same end, seen from an earlier count
pub made_later : (start before now : ℕ) (e : VerifyError) → start ≤ before → WalkReads {A = Unit {0}} before now (Err e) → WalkReads {A = Unit {0}} start now (Err e)
made_later start before now (Opening e) low r = omega (arith, low, r)
made_later start before now x low r = omega (arith, low, r)

-- a count that grew by one did so exactly, or stands at its end
one_read : (start now : ℕ) → Grew start now 1 → (b : Bool) → nat_lt now (2 ^ 64 - 1) ≡ b → (now ≡ start + 1) ⊎ (2 ^ 64 - 1 ≤ now)
one_read start now g true is = inl (g.exact (grind (arith, nat_tests)))
one_read start now g false is = inr (grind (arith, nat_tests))

one : (start now : ℕ) → Grew start now 1 → (now ≡ start + 1) ⊎ (2 ^ 64 - 1 ≤ now)
one start now g = one_read start now g (nat_lt now (2 ^ 64 - 1)) refl

pub opened_once : (start before now : ℕ) → Grew start before 1 → before ≤ now → Rose start now
opened_once start before now g low = elim (one start before g) [
  | inl is ↦ omega (arith, is, low)
  | inr end ↦ omega (arith, end, low)
]

read_again : (start before now : ℕ) → Grew start before 1 → Rose before now → min (start + 2) (2 ^ 64 - 1) ≤ now
read_again start before now g rose = elim (one start before g) [
  | inl is ↦ omega (arith, is, rose)
  | inr end ↦ omega (arith, end, rose)
]

-- a walk behind the read that opens
pub made_opened : (start before now faults failed : ℕ) (e : VerifyError) → Grew start before 1 → WalkCauses {A = Unit {0}} faults failed (Err e) → WalkReads {A = Unit {0}} before now (Err e) → ReadsMade {A = Unit {0}} start now (Err e)
made_opened start before now faults failed (Opening e) g c r = absurd c
made_opened start before now faults failed Fault g c r = read_again start before now g r
made_opened start before now faults failed (Short asked got) g c r = read_again start before now g r
made_opened start before now faults failed x g c r = opened_once start before now g r
