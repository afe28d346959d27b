use Rattle.tile_hash.proofs.Common.{refl}
use Rattle.tile_hash.proofs.Xxh64StreamLemmas.{taken_none}
use Rattle.tile_hash.proofs.xxh_64.stream.Xxh64Stream.new.Goals as goal

pub returns : goal.returns
returns c = taken_none _ refl refl refl
