-- The layers so far, and those that are left, are all layers.
use Rattle.tile_json.proofs.Common.{items_view, layers_in, option_map, ◌++◌, ◌≡◌}
use Rattle.std.specs.Vec.Iter.{into_iter_items}
use Rattle.tile_json.proofs.layer.LayerList.from_json.Given as goal

abbrev pub invariant-loop-item : goal.invariant-loop-item
invariant-loop-item l = option_map (λ layers. l.layers.items ++ layers) (layers_in (items_view (into_iter_items l.item-iterator))) ≡ layers_in (items_view (into_iter_items l.initial.item-iterator))
