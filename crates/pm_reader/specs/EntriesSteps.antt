-- One call of the iterator of entries.
use Rattle.std.specs.Prelude.{◌≡◌, ℕ, true, List, Option, IfSome, OnErr}
use Rattle.pm_reader.specs.Reads.{ReadsOnly}
use Rattle.pm_reader.specs.Walk.{Item}
use Rattle.pm_reader.specs.WalkSteps.{Spends, StepStands, WalkCauses, Yields, budget_of, has_ended, left_of}
use Rattle.pm_reader.specs.declared.entries.Entries.{Entries}
use Rattle.pm_reader.specs.declared.walk.WalkState.{WalkState}

-- by what the backend tells, its version texts, its counts of reads and of faults, and whether it is steady
pub record Walks {B C V : Type 0} (tells : B → Option (List ℕ)) (texts : B → V) (count failed : B → ℕ) (steady : B → Type 0) (s : Entries B C WalkState) (item : Option Item) (t : Entries B C WalkState) : Type 0 where
  pub same_reference : t.backend.ghost_name ≡ s.backend.ghost_name
  pub items : IfSome (tells s.backend.now) (λ b. Yields (left_of b s.state) item (left_of b t.state))
  pub causes : WalkCauses (failed s.backend.now) (failed t.backend.now) item
  pub still : StepStands (failed s.backend.now) (failed t.backend.now) item
  pub spends : Spends (budget_of s.state) (budget_of t.state) (count s.backend.now) (count t.backend.now) item
  pub ends : IfSome item (λ x. OnErr x (has_ended t.state ≡ true))
  pub kept : ReadsOnly tells texts failed steady s.backend.now t.backend.now
