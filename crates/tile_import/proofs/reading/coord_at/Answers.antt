use Rattle.tile_import.proofs.Common.{is_coord_of, ◌∙◌}
use Rattle.tile_import.proofs.reading.coord_at.Goals as goal

pub returns : goal.returns
returns c = is_coord_of c.args.id c.from.result c.requires c.from.ensures.0 (c.from.ensures.1 ∙ c.in-Ok.ensures.value)
