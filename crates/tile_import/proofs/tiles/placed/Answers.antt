use Rattle.tile_import.proofs.PlacingLemmas.{placed_coord}
use Rattle.tile_import.proofs.tiles.placed.Goals as goal

pub returns : goal.returns
returns c = placed_coord c.from.result c.args.id c.from.ensures.0 c.from.ensures.1
