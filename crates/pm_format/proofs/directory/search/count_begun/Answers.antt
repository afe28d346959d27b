use Rattle.pm_format.proofs.Common.{refl}
use Rattle.pm_format.proofs.SearchLemmas.{go_right, go_left, not_yet}
use Rattle.pm_format.proofs.directory.search.count_begun.Goals as goal

pub loop-low-preserved-then-begins_by : goal.loop-low-preserved-then-begins_by
loop-low-preserved-then-begins_by g c =
    rw c.begins_by.ensures.step (go_right _ _ _ _ _ _ _ _ c.requires c.loop-low-test.true refl (c.begins_by.ensures.value.0 c.if-begins_by.true) c.loop-low.invariant)

pub loop-low-preserved : goal.loop-low-preserved
loop-low-preserved g c =
    rw c.begins_by.ensures.step (go_left _ _ _ _ _ _ _ _ c.requires c.loop-low-test.true refl (not_yet _ _ _ c.begins_by.ensures.value c.if-begins_by.false) c.loop-low.invariant)
