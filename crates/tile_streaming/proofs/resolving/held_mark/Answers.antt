use Rattle.tile_streaming.proofs.Common.{entries}
use Rattle.std.specs.Prelude.{slice_get}
use Rattle.tile_streaming.proofs.ResolveLemmas.{held_mark_is}
use Rattle.tile_streaming.proofs.resolving.held_mark.Goals as goal

pub returns : goal.returns
returns c =
    held_mark_is (slice_get (entries c.args.over.now.state.tiles) c.args.index) c.tile_at-coord.result.0 c.tile_at-coord.result.1.now c.bytes_of.result.now c.content_mark.result c.mark_at.result c.tile_at-coord.ensures c.mark_at.ensures.within c.bytes_of.ensures c.content_mark.ensures c.mark_at.ensures.mark
