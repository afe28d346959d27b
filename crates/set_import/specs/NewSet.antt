-- A set that was made of an archive in tables that described nothing.
use Rattle.std.specs.Prelude.{◌≡◌, ℕ, List, Ok}
use Rattle.set_import.specs.Common.{document_edits, empty, Flat, HasTilesOf, names_edited, State, state_of, Tables, TileJson}
use Rattle.set_import.specs.Said.{IsSaidBy}

-- The tables load as a flat set. It has exactly the tiles of the archive, and exactly the names of what
-- the archive says of itself.
pub record IsNewSet (b : List ℕ) (t : Tables) : Type 0 where
  pub state : State
  pub loads : state_of t ≡ Ok state
  pub flat : state.layout ≡ Flat
  pub tiles : HasTilesOf b state.tiles
  pub document : TileJson
  pub said : IsSaidBy b document
  pub names : state.metadata ≡ names_edited empty (document_edits document)
