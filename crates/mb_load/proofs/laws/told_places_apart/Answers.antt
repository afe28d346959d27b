use Rattle.mb_load.proofs.Common.{never_twice}
use Rattle.mb_load.proofs.laws.told_places_apart.Goals as goal

pub returns : goal.returns
returns c = never_twice
