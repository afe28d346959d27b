use Rattle.tile_ids.proofs.ZoomLemmas.{zoom_bounds}
use Rattle.tile_ids.proofs.hilbert.zoom_of.Goals as goal

pub returns-clause-from : goal.returns-clause-from
returns-clause-from c = (zoom_bounds _ _ c.ilog2.ensures.power_le c.ilog2.ensures.next_power_gt).0

pub returns-clause-below : goal.returns-clause-below
returns-clause-below c = (zoom_bounds _ _ c.ilog2.ensures.power_le c.ilog2.ensures.next_power_gt).1
