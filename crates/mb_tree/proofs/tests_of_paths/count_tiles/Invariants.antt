use Rattle.mb_tree.proofs.Common.{filter_map, length, take, tile_path, ◌≡◌, ◌≤◌}
use Rattle.mb_tree.proofs.tests_of_paths.count_tiles.Given as goal

abbrev pub invariant-loop-path : goal.invariant-loop-path
invariant-loop-path l = record {
  counted : l.count ≡ length (filter_map tile_path (take l.path-index l.paths));
  within : l.count ≤ l.path-index;
}
