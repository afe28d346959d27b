use Rattle.tile_ids.proofs.SubtreeLemmas.{interval_law}
use Rattle.tile_ids.proofs.laws.subtree_intervals_hold_descendants.Goals as goal

pub returns : goal.returns
returns c = interval_law
