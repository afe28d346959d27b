-- The parts of a body that a proof by hand names: what follows the first n statements, the first statement, and
-- the k-th arm of a switch.
use Prim.Native.Nat.{ℕ, zero, suc}
use Rattle.base_values.proofs.Common.{any_q, arm, Arms, assign, block, Body, call, call_v, cond, default, exit, lend_static, Logic, loop, no_default, Post, post, return, seq, skip, switch}
use Rattle.base_values.proofs.Common.{unreachable, Ura}
use prog.Wp.{Env, Calls, Loops, Wp, after_seq}

abbrev parts : Body → Body × Body
parts skip = (skip, skip)
parts (seq x₀ x₁) = (x₀, x₁)
parts (assign x₀ x₁) = (skip, skip)
parts (block x₀) = (skip, skip)
parts (loop x₀) = (skip, skip)
parts (cond x₀ x₁ x₂) = (skip, skip)
parts (switch x₀ x₁) = (skip, skip)
parts (exit x₀) = (skip, skip)
parts return = (skip, skip)
parts (call x₀ x₁ x₂) = (skip, skip)
parts (call_v x₀ x₁ x₂ x₃) = (skip, skip)
parts unreachable = (skip, skip)
parts (lend_static x₀ x₁ x₂) = (skip, skip)

abbrev pub after : ℕ → Body → Body
after zero b = b
after (suc n) b = after n (parts b).1

abbrev pub head : Body → Body
head b = (parts b).0

abbrev arms_of : Body → Arms
arms_of skip = no_default
arms_of (seq x₀ x₁) = no_default
arms_of (assign x₀ x₁) = no_default
arms_of (block x₀) = no_default
arms_of (loop x₀) = no_default
arms_of (cond x₀ x₁ x₂) = no_default
arms_of (switch o rows) = rows
arms_of (exit x₀) = no_default
arms_of return = no_default
arms_of (call x₀ x₁ x₂) = no_default
arms_of (call_v x₀ x₁ x₂ x₃) = no_default
arms_of unreachable = no_default
arms_of (lend_static x₀ x₁ x₂) = no_default

abbrev nth_arm : Arms → ℕ → Body
nth_arm (arm ks b r) zero = b
nth_arm (arm ks b r) (suc k) = nth_arm r k
nth_arm (default b) zero = b
nth_arm (default b) (suc k) = b
nth_arm no_default zero = skip
nth_arm no_default (suc k) = skip

abbrev pub arm_body : ℕ → Body → Body
arm_body k b = nth_arm (arms_of b) k

module _ {M : Type 1} {𝓤 : Ura M} (𝓛 : Logic 𝓤) where
  open 𝓛 use {H}

  -- what a part ends in, where this body runs next
  abbrev pub then_runs : Calls 𝓤 H → Loops 𝓤 H → Env 𝓤 H → Body → Post 𝓤 H → Post 𝓤 H
  then_runs C Λ E b q = any_q (after_seq 𝓤 H (Wp 𝓤 H C Λ E b (post 𝓤 H q)) (post 𝓤 H q))
