-- A walk, between two leaves.
use Rattle.pm_reader.proofs.Common.{false, GrewBetween, IfSome, left_of, length, List, Option, queue_of, WalkState, ℕ, ◌*◌, ◌+◌, ◌-◌, ◌^◌, ◌≡◌, ◌≤◌}

-- what holds since the first state and backend
pub record Going {B V : Type 0} (tells : B → Option (List ℕ)) (texts : B → V) (count failed : B → ℕ) (steady : B → Type 0) (s t : WalkState) (x y : B) : Type 0 where
  pub told : tells y ≡ tells x
  pub left : IfSome (tells x) (λ b. left_of b t ≡ left_of b s)
  pub budget : t.budget ≤ s.budget
  pub reads : GrewBetween (count x) (count y) (s.budget - t.budget) (s.budget - t.budget)
  pub faults : failed x ≤ failed y
  pub still : failed y ≡ failed x
  pub versions : texts y ≡ texts x
  pub calm : steady x → steady y × (failed y ≡ failed x)
  pub fewer : length (queue_of t) + 2 ^ 64 * t.budget ≤ length (queue_of s) + 2 ^ 64 * s.budget
  pub began : s.ended ≡ false
  pub goes : t.ended ≡ false
