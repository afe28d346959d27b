use Rattle.mb_load.proofs.FrameLemmas.{of_tables}
use Rattle.tile_import.proofs.storing.commit_set.Goals as goal

pub commit-requires : goal.commit-requires
commit-requires g c tells = of_tables c.args.set (g.S.TileStore.told c.args.store.now) c.in_ok-changes.changes (c.requires tells) c.in_ok-changes.ensures
