use Rattle.set_import.proofs.PutsLemmas.{of_flat_tables}
use Rattle.set_import.proofs.batch.commit_plain.Goals as goal

pub commit-requires : goal.commit-requires
commit-requires g c told = of_flat_tables c.args.set c.in_ok-changes.changes (g.S.TileStore.told c.args.store.now).descriptions c.requires.plain (c.requires.flat told) c.in_ok-changes.ensures
