-- What a count of faults that stands at Ok gives where one call ends in another.
use Rattle.mb_store.proofs.Common.{Err, Ok, OnOk, Result, subst, sym, ℕ, ◌∙◌, ◌≡◌}
use Rattle.std.specs.Prelude.{IsErrOf}
use Rattle.base_values.specs.Counts.{Rose}
use Rattle.mb_store.specs.Kept.{FaultsCounted}

-- a fact at Ok, and what follows from it
pub still_then : {A E P Q : Type 0} (r : Result A E) → (P → Q) → OnOk r P → OnOk r Q
still_then (Ok x) f h = f h
still_then (Err e) f h = h

-- a fact at Ok that holds anyway
pub still_anyway : {A E P : Type 0} (r : Result A E) → P → OnOk r P
still_anyway (Ok x) h = h
still_anyway (Err e) h = record {}

module _ {S A E : Type 0} (failed : S → ℕ) (first mid now : S) (r : Result A E) (fault : E) where
  -- a call behind another one at whose end the count was what it was
  pub counted_then : failed mid ≡ failed first → FaultsCounted failed mid now r fault → FaultsCounted failed first now r fault
  counted_then same c = record {
    rose = λ is. subst (λ n. Rose n (failed now)) same (c.rose is);
    still = still_then r (λ stands. stands ∙ same) c.still;
  }

  -- a call behind which the count stands
  pub counted_before : failed now ≡ failed mid → FaultsCounted failed first mid r fault → FaultsCounted failed first now r fault
  counted_before same c = record {
    rose = λ is. subst (Rose (failed first)) (sym same) (c.rose is);
    still = still_then r (λ stands. same ∙ stands) c.still;
  }

  -- the answer of a call that asks the store nothing, behind another one
  pub unasked : failed now ≡ failed first → (IsErrOf r fault → ⊥) → FaultsCounted failed first now r fault
  unasked same never = record {
    rose = λ is. absurd (never is);
    still = still_anyway r same;
  }
