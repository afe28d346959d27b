use Rattle.tile_join.proofs.GatherLemmas.{GatheredSoFar}
use Rattle.tile_join.proofs.gathering.gather.Given as goal

abbrev pub invariant-loop-index : goal.invariant-loop-index
invariant-loop-index g l =
    GatheredSoFar g.B.Backend.told g.B.Backend.versions g.B.Backend.faults g.B.Backend.reads g.B.Backend.steady l.max_tiles l.fn.sources.items l.sources.items l.index l.readers.items l.pieces.items
