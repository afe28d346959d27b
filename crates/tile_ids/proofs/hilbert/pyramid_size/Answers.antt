use Rattle.tile_ids.proofs.Common.{refl}
use Rattle.tile_ids.proofs.Curve.{area_of}
use Rattle.tile_ids.proofs.hilbert.pyramid_size.Goals as goal

pub returns : goal.returns
returns c = rw (area_of c.args.zoom c.requires) refl
