use Rattle.tile_join.proofs.Common.{length}
use Rattle.tile_join.proofs.HeaderLemmas.{Testing}
use Rattle.tile_join.proofs.headers.test_alike.Given as goal

abbrev pub invariant-loop-reader : goal.invariant-loop-reader
invariant-loop-reader l = Testing l.last l.readers l.rest l.number

abbrev pub decreases-loop-reader : goal.decreases-loop-reader
decreases-loop-reader l = length l.rest
