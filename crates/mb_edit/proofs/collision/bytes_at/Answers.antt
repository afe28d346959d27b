use Rattle.mb_edit.proofs.Common.{arith, entries, len-entries, length, ◌<◌}
use Rattle.mb_edit.proofs.EntryLemmas.{bytes_read, past_end}
use Rattle.mb_edit.proofs.collision.bytes_at.Goals as goal

pub returns-then-index-tile_count : goal.returns-then-index-tile_count
returns-then-index-tile_count c = past_end (entries c.args.patch.now.state.tiles) c.args.index (omega (arith, len-entries c.args.patch.now.state.tiles, c.tile_count.ensures, c.if-index-tile_count.true))

pub returns-in_default-Blob : goal.returns-in_default-Blob
returns-in_default-Blob c =
    let lt : c.args.index < length (entries c.args.patch.now.state.tiles) = omega (arith, len-entries c.args.patch.now.state.tiles, c.tile_count.ensures, c.if-index-tile_count.false) in
    bytes_read (entries c.args.patch.now.state.tiles) c.args.index _ c.tile_at.result.1.now c.in_default-Blob.bytes lt c.tile_at.ensures c.in_default-Blob.is-1
