-- The objects of the layers so far.
use Rattle.mb_metadata.proofs.Common.{layer_data, map, take, view, ◌≡◌}
use Rattle.mb_metadata.proofs.layer_json.layer_values.Given as goal

abbrev pub invariant-loop-layer : goal.invariant-loop-layer
invariant-loop-layer l = map view l.items.items ≡ map layer_data (take l.layer-index l.layers)
