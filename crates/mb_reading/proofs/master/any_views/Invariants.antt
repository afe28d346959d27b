-- none so far makes such a view
use Rattle.mb_reading.proofs.Common.{false, list_any, take, views, ◌≡◌}
use Rattle.mb_reading.proofs.master.any_views.Given as goal

abbrev pub invariant-loop-index : goal.invariant-loop-index
invariant-loop-index l = list_any (views l.layout) (take l.index l.master) ≡ false
