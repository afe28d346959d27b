use Rattle.tile_streaming.proofs.Common.{ap, place_at, ◌∙◌}
use Rattle.tile_streaming.proofs.KeyLemmas.{coord_is}
use Rattle.tile_streaming.specs.Spots.{rank}
use Rattle.tile_streaming.proofs.spots.rank_of.Goals as goal

pub returns : goal.returns
returns c = c.rank_at.ensures ∙ ap (λ d. rank (place_at d)) (coord_is c.args.id c.from.result c.from.ensures)
