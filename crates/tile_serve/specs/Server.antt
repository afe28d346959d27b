-- A server together with the backend that it borrows.
use Rattle.std.specs.Prelude.{ℕ, List, Option}
use Rattle.tile_serve.specs.State.{IsServing}
use Rattle.tile_serve.specs.declared.server.TileServer.{TileServer}
use Rattle.tile_serve.specs.declared.state.ServerState.{ServerState}

-- the state is that of the told bytes and version texts of its backend
abbrev pub IsTied : {B : Type 0} → (B → Option (List ℕ)) → (B → Option (ℕ → Option (List ℕ))) → TileServer B ServerState → Type 0
IsTied told versions s = IsServing (told s.backend.now) (versions s.backend.now) s.state
