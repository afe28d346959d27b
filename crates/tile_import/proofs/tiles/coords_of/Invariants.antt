-- the coordinates so far, and those of the ids that are left
use Rattle.tile_import.proofs.Common.{ids_of, map, place_at, place_of_id, ◌++◌, ◌≡◌}
use Rattle.tile_import.proofs.tiles.coords_of.Given as goal

abbrev pub invariant-loop-id : goal.invariant-loop-id
invariant-loop-id l = map place_at l.coords.items ++ map place_of_id l.id-iterator ≡ map place_of_id (ids_of l.fn.entry)
