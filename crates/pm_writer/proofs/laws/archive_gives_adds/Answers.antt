use Rattle.pm_writer.proofs.Whole.{map_is, tile_is}
use Rattle.pm_writer.proofs.laws.archive_gives_adds.Goals as goal

pub returns-clause-tile : goal.returns-clause-tile
returns-clause-tile c = tile_is

pub returns-clause-tiles : goal.returns-clause-tiles
returns-clause-tiles c = map_is
