use Rattle.tile_hash.proofs.Common.{refl, ◌∙◌}
use Rattle.tile_hash.proofs.Xxh64StreamLemmas.{taken_hash}
use Rattle.tile_hash.proofs.xxh_64.stream.Xxh64Stream.finish.Goals as goal

pub returns : goal.returns
returns c = λ m took. c.avalanche.ensures ∙ rw (c.after_rest.ensures, c.begun-hash.ensures) (taken_hash c.args.self m _ took refl)
