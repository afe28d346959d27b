use Rattle.mb_store.proofs.Common.{Images, Map, Metadata, TileCache, Tiles, TilesData, TilesShallow, TilesWithHash}
use Rattle.mb_store.proofs.committing.remove_tables.Goals as goal

pub remove_table-requires : goal.remove_table-requires
remove_table-requires c = c.requires Tiles

pub remove_table-requires-2 : goal.remove_table-requires-2
remove_table-requires-2 c = c.requires TilesWithHash

pub remove_table-requires-3 : goal.remove_table-requires-3
remove_table-requires-3 c = c.requires Map

pub remove_table-requires-4 : goal.remove_table-requires-4
remove_table-requires-4 c = c.requires Images

pub remove_table-requires-5 : goal.remove_table-requires-5
remove_table-requires-5 c = c.requires TilesShallow

pub remove_table-requires-6 : goal.remove_table-requires-6
remove_table-requires-6 c = c.requires TilesData

pub remove_table-requires-7 : goal.remove_table-requires-7
remove_table-requires-7 c = c.requires TileCache

pub remove_table-requires-8 : goal.remove_table-requires-8
remove_table-requires-8 c = c.requires Metadata
