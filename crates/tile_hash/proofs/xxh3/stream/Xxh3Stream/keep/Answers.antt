use Rattle.tile_hash.proofs.Common.{arith, refl}
use Rattle.tile_hash.proofs.Xxh3StreamLemmas.{taken_kept}
use Rattle.tile_hash.proofs.xxh3.stream.Xxh3Stream.keep.Goals as goal

pub returns-clause-taken : goal.returns-clause-taken
returns-clause-taken c = λ m took.
    taken_kept c.args.self.now _ m c.args.piece.now _ _ took (omega arith) c.args.self.now.behind c.args.self.now.in_stripe c.requires c.copy_from_slice.ensures.after refl refl refl refl refl refl
