use Rattle.tile_hash.proofs.Common.{arith, refl}
use Rattle.tile_hash.proofs.Xxh64StreamLemmas.{taken_kept}
use Rattle.tile_hash.proofs.xxh_64.stream.Xxh64Stream.keep.Goals as goal

pub returns : goal.returns
returns c = λ m took. taken_kept c.args.self.now _ m c.args.piece.now _ _ _ took (omega arith) refl (omega arith) c.copy_from_slice.ensures.after refl
