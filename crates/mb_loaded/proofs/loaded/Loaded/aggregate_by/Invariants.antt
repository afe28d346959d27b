use Rattle.mb_loaded.proofs.Common.{entries, flat_map, HasTaken, in_hexadecimal, take, tile_text}
use Rattle.mb_loaded.proofs.loaded.Loaded.aggregate_by.Given as goal

abbrev pub invariant-loop-index : goal.invariant-loop-index
invariant-loop-index l = HasTaken (in_hexadecimal l.fn.algorithm) l.stream (flat_map tile_text (take l.index (entries l.self.state.tiles)))
