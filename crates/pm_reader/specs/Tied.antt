-- A reader together with the backend that it borrows.
use Rattle.std.specs.Prelude.{ℕ, List, Option, IfSome}
use Rattle.pm_reader.specs.Caches.{Held}
use Rattle.pm_reader.specs.ReadsFrom.{ReadsFrom}
use Rattle.pm_reader.specs.declared.reader.PmTilesReader.{PmTilesReader}
use Rattle.pm_reader.specs.declared.state.ReaderState.{ReaderState}

-- the state is that of the told bytes of its backend, and the cache fits them
abbrev pub IsTied : {B C : Type 0} → (B → Option (List ℕ)) → (C → Held) → (C → Type 0) → PmTilesReader B C ReaderState → Type 0
IsTied told held idle r = IfSome (told r.backend.now) (λ b. ReadsFrom b r.state (held r.cache) (idle r.cache))
