use Rattle.std.proofs.Common.{arith}
use Rattle.mb_file.proofs.TellsLemmas.{reads_set, same_first}
use Rattle.mb_file.specs.Told.{told_by_set}
use Rattle.mb_file.proofs.store.FileSetTileStore.describe.Goals as goal

pub returns-clause-answer : goal.returns-clause-answer
unfolding told_by_set
returns-clause-answer g c = c.in_ok-set_tables.ensures

pub returns-clause-kept : goal.returns-clause-kept
returns-clause-kept g c = reads_set c.args.self.now c.args.self.now (same_first c.args.self.now) g.D.TrueDisk.is_true (omega arith)
