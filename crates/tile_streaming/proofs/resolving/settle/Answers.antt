use Rattle.tile_streaming.proofs.Common.{refl}
use Rattle.tile_streaming.proofs.OverlaidLemmas.{settled}
use Rattle.tile_streaming.proofs.resolving.settle.Goals as goal

pub returns-clause-held : goal.returns-clause-held
returns-clause-held c = λ tells told s stands.
    settled tells told c.args.set s stands (record { layout = c.args.set.rest.layout; algorithm = c.algorithm-algorithm.result; names = c.in_ok-names.names; marks = c.in_ok-marks.marks }) refl c.algorithm-algorithm.ensures c.in_ok-names.ensures c.in_ok-marks.ensures.same (c.in_ok-marks.ensures.rising stands.rising)
