use Rattle.tile_extract.proofs.FewLemmas.{part_can}
use Rattle.tile_extract.proofs.laws.few_tiles_of_a_part_keep_within_bounds.Goals as goal

pub returns : goal.returns
returns c = record { can = part_can }
