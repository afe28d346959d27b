use Rattle.tile_hash.proofs.Common.{arith, refl}
use Rattle.tile_hash.proofs.Xxh3StreamLemmas.{taken_behind}
use Rattle.tile_hash.proofs.xxh3.stream.Xxh3Stream.take.Goals as goal

pub returns : goal.returns
returns c = λ m took.
    taken_behind c.args.self.now _ m c.args.more.now _ _ _ took c.requires.full c.args.self.now.in_stripe refl refl c.requires.some c.taken-lanes.ensures c.taken-next.ensures refl
    (omega arith) refl refl refl c.kept_of-kept.ensures
