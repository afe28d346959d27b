use Rattle.tile_hash.proofs.Common.{HasTaken, subst}
use Rattle.tile_hash.proofs.ByteLemmas.{behind_parts}
use Rattle.tile_hash.proofs.xxh_64.stream.Xxh64Stream.take.Goals as goal

pub returns : goal.returns
returns c = λ m took.
    subst (HasTaken c.keep.new.self) (behind_parts m c.args.piece.now _ _ _ c.split_at.ensures.front c.split_at.ensures.back)
    (c.keep.ensures _ (c.take_stripes.ensures.taken m took))
