use Rattle.mb_load.proofs.FrameLemmas.{of_tables}
use Rattle.mb_load.proofs.commit.commit_loaded.Goals as goal

pub commit-requires : goal.commit-requires
commit-requires g c tells = of_tables c.args.set.now (g.S.TileStore.told c.args.store.now) c.in_ok-changes.changes (c.requires tells) c.in_ok-changes.ensures
