use Rattle.std.proofs.Common.{refl}
use Rattle.mb_file.proofs.FaultLemmas.{counted_ok}
use Rattle.mb_file.proofs.TellsLemmas.{may_by, reads_after, trusted}
use Rattle.mb_file.proofs.store.FileSetTileStore.live_size.Goals as goal

pub returns-clause-answer : goal.returns-clause-answer
returns-clause-answer g c = λ tells.
    counted_ok _ _ _ _ _ c.counted.ensures.counted (c.sized-answer.ensures.shown (trusted g.D.TrueDisk.is_true g.met.D.TrueDisk.clean c.args.self.now tells c.sized-answer.new.self.source.pages) (may_by g.D.TrueDisk.is_true c.args.self.now tells))

pub returns-clause-kept : goal.returns-clause-kept
returns-clause-kept g c = reads_after g.D.TrueDisk.is_true c.args.self.now c.sized-answer.new.self _ c.sized-answer.ensures.same c.sized-answer.ensures.faults c.counted.ensures.later refl refl refl refl refl
