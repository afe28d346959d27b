use Rattle.tile_streaming.proofs.CutOutLemmas.{cut_out}
use Rattle.tile_streaming.proofs.laws.parts_are_cut_out.Goals as goal

pub returns : goal.returns
returns c = cut_out
