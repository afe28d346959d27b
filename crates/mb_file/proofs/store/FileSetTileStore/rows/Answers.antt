use Rattle.std.proofs.Common.{refl}
use Rattle.mb_file.proofs.FaultLemmas.{counted_ok}
use Rattle.mb_file.proofs.TellsLemmas.{may_by, reads_after, trusted}
use Rattle.mb_file.specs.Told.{contents_shown, tiles_shown, told_by_set}
use Rattle.mb_file.proofs.store.FileSetTileStore.rows.Goals as goal

pub returns-clause-widths : goal.returns-clause-widths
returns-clause-widths g c = counted_ok _ _ _ _ _ c.counted.ensures.counted c.page-answer.ensures.widths

pub returns-clause-answer : goal.returns-clause-answer
unfolding told_by_set
returns-clause-answer g c = λ tells.
    let may = may_by g.D.TrueDisk.is_true c.args.self.now tells in
    counted_ok _ _ _ _ _ c.counted.ensures.counted (c.page-answer.ensures.shown (trusted g.D.TrueDisk.is_true g.met.D.TrueDisk.clean c.args.self.now tells c.page-answer.new.self.source.pages) (tiles_shown c.args.self.now may) (contents_shown c.args.self.now may))

pub returns-clause-kept : goal.returns-clause-kept
returns-clause-kept g c = reads_after g.D.TrueDisk.is_true c.args.self.now c.page-answer.new.self _ c.page-answer.ensures.same c.page-answer.ensures.faults c.counted.ensures.later refl refl refl refl refl
