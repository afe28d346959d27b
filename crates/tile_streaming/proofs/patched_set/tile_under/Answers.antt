use Rattle.tile_streaming.proofs.Common.{ap, Coord, get, option_map, place_at, ◌∙◌}
use Rattle.mb_lists.specs.Entries.{blob_cell}
use Rattle.tile_streaming.proofs.KeyLemmas.{coord_is}
use Rattle.tile_streaming.proofs.patched_set.tile_under.Goals as goal

pub returns : goal.returns
returns c = c.tile.ensures ∙ ap (λ (x : Coord). option_map blob_cell (get c.args.set.now.state.tiles (place_at x))) (coord_is c.args.id c.from.result c.from.ensures)
