use Rattle.tile_bridge.proofs.Common.{◌∙◌}
use Rattle.tile_bridge.proofs.FillingLemmas.{bytes_read}
use Rattle.tile_bridge.proofs.adds.tile_bytes.Goals as goal

pub returns : goal.returns
returns c = c.bytes_of.ensures ∙ bytes_read c.args.set.now.state.tiles c.args.index c.tile_at.result.0 c.tile_at.result.1.now c.requires c.tile_at.ensures
