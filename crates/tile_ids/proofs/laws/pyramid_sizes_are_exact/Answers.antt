use Rattle.tile_ids.proofs.PyramidLemmas.{pyramid_size}
use Rattle.tile_ids.proofs.laws.pyramid_sizes_are_exact.Goals as goal

pub returns : goal.returns
returns c = pyramid_size
