use Rattle.tile_hash.proofs.Common.{arith, refl}
use Rattle.tile_hash.proofs.Xxh64StreamLemmas.{taken_filled}
use Rattle.tile_hash.proofs.xxh_64.stream.Xxh64Stream.fill.Goals as goal

pub returns-clause-taken : goal.returns-clause-taken
returns-clause-taken c = λ m took.
    taken_filled c.args.self.now _ m c.args.piece.now _ _ took (omega arith) refl (omega arith) c.copy_from_slice.ensures.after (rw c.striped-next.ensures refl)
