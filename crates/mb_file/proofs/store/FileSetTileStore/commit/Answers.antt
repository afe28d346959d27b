use Rattle.std.proofs.Common.{refl}
use Rattle.mb_file.proofs.TellsLemmas.{keeps_set, same_but, same_first, told_same}
use Rattle.mb_file.proofs.store.FileSetTileStore.commit.Goals as goal

pub returns-clause-told : goal.returns-clause-told
returns-clause-told g c = told_same c.args.self.now _ (same_but c.args.self.now c.args.self.now _ refl refl refl refl refl (same_first c.args.self.now))

pub returns-clause-kept : goal.returns-clause-kept
returns-clause-kept g c = keeps_set c.args.self.now _ (same_but c.args.self.now c.args.self.now _ refl refl refl refl refl (same_first c.args.self.now)) g.D.TrueDisk.is_true c.counted.ensures.later
