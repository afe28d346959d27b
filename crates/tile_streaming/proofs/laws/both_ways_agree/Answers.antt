use Rattle.tile_streaming.proofs.AgreementLemmas.{agree}
use Rattle.tile_streaming.proofs.laws.both_ways_agree.Goals as goal

pub returns : goal.returns
returns g c = λ options d base_tells tells told before after coords old a b held streamed.
    agree (g.O.ArchiveOptions.gives options) (g.O.ArchiveOptions.asks options) d base_tells tells told before after coords old a b held streamed
