-- The queue of a walk, as its front is taken.
use Rattle.pm_reader.proofs.Common.{queue_of, WalkState, ◌≡◌}

-- the same entries are in the queue, and all else is as it was
pub record SameQueue (s t : WalkState) : Type 0 where
  pub queue : queue_of t ≡ queue_of s
  pub header : t.header ≡ s.header
  pub budget : t.budget ≡ s.budget
  pub ended : t.ended ≡ s.ended
