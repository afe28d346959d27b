use Rattle.mb_access.proofs.FindingLemmas.{coord_entry, coord_own}
use Rattle.mb_access.proofs.finding.coord_at.Goals as goal

pub returns-clause-entry : goal.returns-clause-entry
returns-clause-entry c = coord_entry c.args.set.now.state.tiles c.args.index c.tile_at.result.0 c.tile_at.result.1.now c.requires c.tile_at.ensures

pub returns-clause-own : goal.returns-clause-own
returns-clause-own c = coord_own c.args.set.now.state.tiles c.args.index c.tile_at.result.0 c.tile_at.result.1.now c.requires c.tile_at.ensures
