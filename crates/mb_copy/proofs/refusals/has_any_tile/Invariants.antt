-- none so far is copied and there
use Rattle.mb_copy.proofs.Common.{drop, entries, list_any, tile_there, ◌≡◌}
use Rattle.mb_copy.proofs.refusals.has_any_tile.Given as goal

abbrev pub invariant-loop-index : goal.invariant-loop-index
invariant-loop-index l =
    list_any (tile_there l.copier l.base.state) (entries l.source.state.tiles) ≡ list_any (tile_there l.copier l.base.state) (drop l.index (entries l.source.state.tiles))
