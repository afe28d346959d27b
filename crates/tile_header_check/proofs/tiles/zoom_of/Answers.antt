use Rattle.tile_header_check.proofs.Common.{ap, refl, ◌∙◌}
use Rattle.tile_ids.proofs.Bijection.{is_coord_of}
use Rattle.tile_ids.specs.Hilbert.{coord_of}
use Rattle.tile_header_check.specs.Tiles.{zoom_of}
use Rattle.tile_header_check.proofs.tiles.zoom_of.Goals as goal

pub returns-in-Ok : goal.returns-in-Ok
unfolding coord_of zoom_of
returns-in-Ok c = c.z.ensures.value ∙ ap (λ x. x.z) (is_coord_of c.args.id c.from.result (c.in-Ok.ensures.valid.0 refl) c.from.ensures.0 (c.from.ensures.1 ∙ c.in-Ok.ensures.value))
