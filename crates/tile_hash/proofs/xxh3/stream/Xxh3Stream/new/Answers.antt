use Rattle.tile_hash.proofs.Common.{refl}
use Rattle.tile_hash.proofs.Xxh3StreamLemmas.{taken_none}
use Rattle.tile_hash.proofs.xxh3.stream.Xxh3Stream.new.Goals as goal

pub returns : goal.returns
returns c = taken_none _ refl refl refl refl refl
