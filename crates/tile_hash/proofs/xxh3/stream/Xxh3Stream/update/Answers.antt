use Rattle.tile_hash.proofs.Common.{subst}
use Rattle.tile_hash.specs.Xxh3Stream.{HasTaken}
use Rattle.tile_hash.proofs.ByteLemmas.{behind_parts}
use Rattle.tile_hash.proofs.xxh3.stream.Xxh3Stream.update.Goals as goal

pub returns-else-piece-room : goal.returns-else-piece-room
returns-else-piece-room c = λ m took.
    subst (HasTaken c.take.new.self) (behind_parts m c.args.piece.now _ _ _ c.split_at.ensures.front c.split_at.ensures.back)
    (c.take.ensures _ (c.keep-else-piece-room.ensures.taken m took))
