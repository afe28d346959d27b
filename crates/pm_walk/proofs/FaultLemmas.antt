-- What a count of faults that stands gives, where a walk ends.
use Rattle.pm_walk.proofs.Common.{Archive, subst, WalkError, ℕ, ◌≡◌}
use Rattle.pm_format.proofs.FaultLemmas.{stands_at}
use Rattle.pm_walk.specs.Collecting.{StandsAtStop}

-- an error that comes where the count is what it was
pub stop_at : (before now : ℕ) (x : WalkError) → now ≡ before → StandsAtStop before now x
stop_at before now (Archive e) same = stands_at before now e same
stop_at before now x same = same

-- an error behind another call, at whose end the count was what it was
pub stop_then : (before mid now : ℕ) (x : WalkError) → mid ≡ before → StandsAtStop mid now x → StandsAtStop before now x
stop_then before mid now x same h = subst (λ n. StandsAtStop n now x) same h
