-- The layers so far have their zooms, and those that are left are as they were.
use Rattle.mb_metadata.proofs.Common.{drop, layer_within, map, take, ◌++◌, ◌≡◌}
use Rattle.mb_metadata.proofs.clamping.each_within.Given as goal

abbrev pub invariant-loop-index : goal.invariant-loop-index
invariant-loop-index l = l.layers ≡ map (layer_within l.tiles) (take l.index l.initial.layers) ++ drop l.index l.initial.layers
