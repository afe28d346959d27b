use Rattle.mb_store.proofs.Common.{AreStored, at, by_tables, Images, Map, MemTables, Metadata, TileCache, Tiles, TilesData, TilesShallow, TilesWithHash}
use Rattle.mb_store.proofs.mem_tables.no_rows.Goals as goal

pub returns-clause-stored : goal.returns-clause-stored
returns-clause-stored c =
    let m : MemTables = record { tiles = c.none.result; tiles_with_hash = c.none-2.result; map = c.none-3.result; images = c.none-4.result; tiles_shallow = c.none-5.result; tiles_data = c.none-6.result; tile_cache = c.none-7.result; metadata = c.none-8.result } in
    by_tables (λ t. AreStored t (at m t)) (c.none.ensures.stored Tiles) (c.none-2.ensures.stored TilesWithHash) (c.none-3.ensures.stored Map) (c.none-4.ensures.stored Images) (c.none-5.ensures.stored TilesShallow) (c.none-6.ensures.stored TilesData) (c.none-7.ensures.stored TileCache) (c.none-8.ensures.stored Metadata)
