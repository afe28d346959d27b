-- the marks so far are added
use Rattle.tile_streaming.proofs.Common.{entries, map, mark_of, take, ◌++◌, ◌≡◌}
use Rattle.tile_streaming.proofs.resolving.add_held.Given as goal

abbrev pub invariant-loop-index : goal.invariant-loop-index
invariant-loop-index l = l.marks.items ≡ l.fn.marks.items ++ map mark_of (take l.index (entries l.over.state.tiles))
