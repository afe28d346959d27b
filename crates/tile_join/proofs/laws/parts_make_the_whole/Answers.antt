use Rattle.tile_join.proofs.WholeLemmas.{makes_whole}
use Rattle.tile_join.proofs.laws.parts_make_the_whole.Goals as goal

pub returns : goal.returns
returns c = makes_whole
