use Rattle.mb_store.proofs.Common.{AreStored, at, by_tables, Images, Map, Metadata, TileCache, Tiles, TilesData, TilesShallow, TilesWithHash}
use Rattle.mb_store.proofs.mem_tables.take.Goals as goal

pub returns-in-Tiles-clause-stored : goal.returns-in-Tiles-clause-stored
returns-in-Tiles-clause-stored c = by_tables (λ t. AreStored t (at (record c.args.tables.now { tiles = c.take.new.self }) t)) (c.take.ensures.stored Tiles) (c.requires.stored TilesWithHash) (c.requires.stored Map) (c.requires.stored Images) (c.requires.stored TilesShallow) (c.requires.stored TilesData) (c.requires.stored TileCache) (c.requires.stored Metadata)

pub returns-in-TilesWithHash-clause-stored : goal.returns-in-TilesWithHash-clause-stored
returns-in-TilesWithHash-clause-stored c = by_tables (λ t. AreStored t (at (record c.args.tables.now { tiles_with_hash = c.take-in-TilesWithHash.new.self }) t)) (c.requires.stored Tiles) (c.take-in-TilesWithHash.ensures.stored TilesWithHash) (c.requires.stored Map) (c.requires.stored Images) (c.requires.stored TilesShallow) (c.requires.stored TilesData) (c.requires.stored TileCache) (c.requires.stored Metadata)

pub returns-in-Map-clause-stored : goal.returns-in-Map-clause-stored
returns-in-Map-clause-stored c = by_tables (λ t. AreStored t (at (record c.args.tables.now { map = c.take-in-Map.new.self }) t)) (c.requires.stored Tiles) (c.requires.stored TilesWithHash) (c.take-in-Map.ensures.stored Map) (c.requires.stored Images) (c.requires.stored TilesShallow) (c.requires.stored TilesData) (c.requires.stored TileCache) (c.requires.stored Metadata)

pub returns-in-Images-clause-stored : goal.returns-in-Images-clause-stored
returns-in-Images-clause-stored c = by_tables (λ t. AreStored t (at (record c.args.tables.now { images = c.take-in-Images.new.self }) t)) (c.requires.stored Tiles) (c.requires.stored TilesWithHash) (c.requires.stored Map) (c.take-in-Images.ensures.stored Images) (c.requires.stored TilesShallow) (c.requires.stored TilesData) (c.requires.stored TileCache) (c.requires.stored Metadata)

pub returns-in-TilesShallow-clause-stored : goal.returns-in-TilesShallow-clause-stored
returns-in-TilesShallow-clause-stored c = by_tables (λ t. AreStored t (at (record c.args.tables.now { tiles_shallow = c.take-in-TilesShallow.new.self }) t)) (c.requires.stored Tiles) (c.requires.stored TilesWithHash) (c.requires.stored Map) (c.requires.stored Images) (c.take-in-TilesShallow.ensures.stored TilesShallow) (c.requires.stored TilesData) (c.requires.stored TileCache) (c.requires.stored Metadata)

pub returns-in-TilesData-clause-stored : goal.returns-in-TilesData-clause-stored
returns-in-TilesData-clause-stored c = by_tables (λ t. AreStored t (at (record c.args.tables.now { tiles_data = c.take-in-TilesData.new.self }) t)) (c.requires.stored Tiles) (c.requires.stored TilesWithHash) (c.requires.stored Map) (c.requires.stored Images) (c.requires.stored TilesShallow) (c.take-in-TilesData.ensures.stored TilesData) (c.requires.stored TileCache) (c.requires.stored Metadata)

pub returns-in-TileCache-clause-stored : goal.returns-in-TileCache-clause-stored
returns-in-TileCache-clause-stored c = by_tables (λ t. AreStored t (at (record c.args.tables.now { tile_cache = c.take-in-TileCache.new.self }) t)) (c.requires.stored Tiles) (c.requires.stored TilesWithHash) (c.requires.stored Map) (c.requires.stored Images) (c.requires.stored TilesShallow) (c.requires.stored TilesData) (c.take-in-TileCache.ensures.stored TileCache) (c.requires.stored Metadata)

pub returns-in-Metadata-clause-stored : goal.returns-in-Metadata-clause-stored
returns-in-Metadata-clause-stored c = by_tables (λ t. AreStored t (at (record c.args.tables.now { metadata = c.take-in-Metadata.new.self }) t)) (c.requires.stored Tiles) (c.requires.stored TilesWithHash) (c.requires.stored Map) (c.requires.stored Images) (c.requires.stored TilesShallow) (c.requires.stored TilesData) (c.requires.stored TileCache) (c.take-in-Metadata.ensures.stored Metadata)
