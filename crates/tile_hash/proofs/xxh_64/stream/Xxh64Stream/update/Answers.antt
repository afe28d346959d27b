use Rattle.tile_hash.proofs.Common.{HasTaken, subst}
use Rattle.tile_hash.proofs.ByteLemmas.{behind_parts}
use Rattle.tile_hash.proofs.xxh_64.stream.Xxh64Stream.update.Goals as goal

pub returns-else-used-eq0 : goal.returns-else-used-eq0
returns-else-used-eq0 c = λ m took.
    subst (HasTaken c.take-else-used-eq0.new.self) (behind_parts m c.args.piece.now _ _ _ c.split_at.ensures.front c.split_at.ensures.back)
    (c.take-else-used-eq0.ensures _ (c.fill.ensures.taken m took))
