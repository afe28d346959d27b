use Rattle.tile_extract.proofs.Common.{intervals, intervals_from, ◌++◌, ◌+◌, ◌-◌, ◌≡◌, ◌≤◌}
use Rattle.tile_extract.proofs.subtree.subtree_intervals.Given as goal

abbrev pub invariant-loop-zoom : goal.invariant-loop-zoom
invariant-loop-zoom l = (l.root.z ≤ l.zoom) × (l.found.items ++ intervals_from l.root l.zoom (l.max_zoom + 1 - l.zoom) ≡ intervals l.root l.max_zoom)
