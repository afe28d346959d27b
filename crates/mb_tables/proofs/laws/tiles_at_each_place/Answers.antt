use Rattle.mb_tables.proofs.TileLemmas.{get-tiles_of}
use Rattle.mb_tables.proofs.laws.tiles_at_each_place.Goals as goal

pub returns : goal.returns
returns c = get-tiles_of
