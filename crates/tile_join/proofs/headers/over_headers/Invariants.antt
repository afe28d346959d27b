use Rattle.tile_join.proofs.Common.{header_of, length, map, ◌≡◌}
use Rattle.tile_join.specs.Headers.{over_headers}
use Rattle.tile_join.proofs.headers.over_headers.Given as goal

abbrev pub invariant-loop-reader : goal.invariant-loop-reader
invariant-loop-reader l = over_headers l.whole (map header_of l.rest) ≡ over_headers l.fn.header (map header_of l.readers)

abbrev pub decreases-loop-reader : goal.decreases-loop-reader
decreases-loop-reader l = length l.rest
