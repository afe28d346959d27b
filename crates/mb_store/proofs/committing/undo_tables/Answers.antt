use Rattle.mb_store.proofs.Common.{Images, Map, Metadata, TileCache, Tiles, TilesData, TilesShallow, TilesWithHash}
use Rattle.mb_store.proofs.committing.undo_tables.Goals as goal

pub undo-requires : goal.undo-requires
undo-requires c = c.requires Tiles

pub undo-requires-2 : goal.undo-requires-2
undo-requires-2 c = c.requires TilesWithHash

pub undo-requires-3 : goal.undo-requires-3
undo-requires-3 c = c.requires Map

pub undo-requires-4 : goal.undo-requires-4
undo-requires-4 c = c.requires Images

pub undo-requires-5 : goal.undo-requires-5
undo-requires-5 c = c.requires TilesShallow

pub undo-requires-6 : goal.undo-requires-6
undo-requires-6 c = c.requires TilesData

pub undo-requires-7 : goal.undo-requires-7
undo-requires-7 c = c.requires TileCache

pub undo-requires-8 : goal.undo-requires-8
undo-requires-8 c = c.requires Metadata
