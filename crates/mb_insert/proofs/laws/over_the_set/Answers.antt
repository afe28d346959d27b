use Rattle.mb_insert.proofs.PlacedLemmas.{over_it}
use Rattle.mb_insert.proofs.laws.over_the_set.Goals as goal

pub returns : goal.returns
returns c = over_it
