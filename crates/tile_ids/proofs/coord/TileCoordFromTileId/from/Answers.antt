use Rattle.tile_ids.proofs.Common.{arith, tile_id}
use Rattle.tile_ids.proofs.coord.TileCoordFromTileId.from.Goals as goal

pub returns : goal.returns
unfolding tile_id
returns c =
    let p = c.hilbert_place-x.ensures in
    let z = c.zoom_of-zoom.ensures in
    let id = c.value.ensures.value in
    (record { zoom = z.zoom; column = p.column; row = p.row }, rw (p.number, c.pyramid_size.ensures, c.value-2.ensures.value) (omega (arith, z.from, id)))
