use Rattle.mb_tables.proofs.TileLemmas.{get-solid}
use Rattle.mb_tables.proofs.laws.solid_at_each_place.Goals as goal

pub returns : goal.returns
returns c = get-solid
