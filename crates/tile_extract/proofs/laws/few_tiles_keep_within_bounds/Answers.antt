use Rattle.tile_extract.proofs.FewLemmas.{few_can}
use Rattle.tile_extract.proofs.laws.few_tiles_keep_within_bounds.Goals as goal

pub returns : goal.returns
returns c = record { can = few_can }
