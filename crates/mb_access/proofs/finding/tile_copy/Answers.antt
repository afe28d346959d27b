use Rattle.mb_access.proofs.FindingLemmas.{copy_entry, copy_own}
use Rattle.mb_access.proofs.finding.tile_copy.Goals as goal

pub returns-clause-entry : goal.returns-clause-entry
returns-clause-entry c =
    copy_entry c.args.set.now.state.tiles c.args.index c.tile_at-coord.result.0 c.tile_at-coord.result.1.now c.in_ok-contents.contents c.requires c.tile_at-coord.ensures c.in_ok-contents.ensures

pub returns-clause-own : goal.returns-clause-own
returns-clause-own c =
    copy_own c.args.set.now.state.tiles c.args.index c.tile_at-coord.result.0 c.tile_at-coord.result.1.now c.in_ok-contents.contents c.requires c.tile_at-coord.ensures c.in_ok-contents.ensures
