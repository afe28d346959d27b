use Rattle.mb_store.proofs.Common.{AreStored, at, by_tables, Images, Map, Metadata, subst, sym, TileCache, Tiles, TilesData, TilesShallow, TilesWithHash}
use Rattle.mb_store.proofs.mem_tables.push.Goals as goal

pub push-requires-clause-stored : goal.push-requires-clause-stored
push-requires-clause-stored c = subst (λ t. AreStored t c.args.tables.now.tiles) (sym c.in-Tiles.is) (c.requires.stored Tiles)

pub push-requires-in-TilesWithHash-clause-stored : goal.push-requires-in-TilesWithHash-clause-stored
push-requires-in-TilesWithHash-clause-stored c = subst (λ t. AreStored t c.args.tables.now.tiles_with_hash) (sym c.in-TilesWithHash.is) (c.requires.stored TilesWithHash)

pub push-requires-in-Map-clause-stored : goal.push-requires-in-Map-clause-stored
push-requires-in-Map-clause-stored c = subst (λ t. AreStored t c.args.tables.now.map) (sym c.in-Map.is) (c.requires.stored Map)

pub push-requires-in-Images-clause-stored : goal.push-requires-in-Images-clause-stored
push-requires-in-Images-clause-stored c = subst (λ t. AreStored t c.args.tables.now.images) (sym c.in-Images.is) (c.requires.stored Images)

pub push-requires-in-TilesShallow-clause-stored : goal.push-requires-in-TilesShallow-clause-stored
push-requires-in-TilesShallow-clause-stored c = subst (λ t. AreStored t c.args.tables.now.tiles_shallow) (sym c.in-TilesShallow.is) (c.requires.stored TilesShallow)

pub push-requires-in-TilesData-clause-stored : goal.push-requires-in-TilesData-clause-stored
push-requires-in-TilesData-clause-stored c = subst (λ t. AreStored t c.args.tables.now.tiles_data) (sym c.in-TilesData.is) (c.requires.stored TilesData)

pub push-requires-in-TileCache-clause-stored : goal.push-requires-in-TileCache-clause-stored
push-requires-in-TileCache-clause-stored c = subst (λ t. AreStored t c.args.tables.now.tile_cache) (sym c.in-TileCache.is) (c.requires.stored TileCache)

pub push-requires-in-Metadata-clause-stored : goal.push-requires-in-Metadata-clause-stored
push-requires-in-Metadata-clause-stored c = subst (λ t. AreStored t c.args.tables.now.metadata) (sym c.in-Metadata.is) (c.requires.stored Metadata)

pub returns-in-Tiles-clause-stored : goal.returns-in-Tiles-clause-stored
returns-in-Tiles-clause-stored c = by_tables (λ t. AreStored t (at (record c.args.tables.now { tiles = c.push.new.rows }) t)) (subst (λ t. AreStored t c.push.new.rows) c.in-Tiles.is c.push.ensures.stored) (c.requires.stored TilesWithHash) (c.requires.stored Map) (c.requires.stored Images) (c.requires.stored TilesShallow) (c.requires.stored TilesData) (c.requires.stored TileCache) (c.requires.stored Metadata)

pub returns-in-TilesWithHash-clause-stored : goal.returns-in-TilesWithHash-clause-stored
returns-in-TilesWithHash-clause-stored c = by_tables (λ t. AreStored t (at (record c.args.tables.now { tiles_with_hash = c.push-in-TilesWithHash.new.rows }) t)) (c.requires.stored Tiles) (subst (λ t. AreStored t c.push-in-TilesWithHash.new.rows) c.in-TilesWithHash.is c.push-in-TilesWithHash.ensures.stored) (c.requires.stored Map) (c.requires.stored Images) (c.requires.stored TilesShallow) (c.requires.stored TilesData) (c.requires.stored TileCache) (c.requires.stored Metadata)

pub returns-in-Map-clause-stored : goal.returns-in-Map-clause-stored
returns-in-Map-clause-stored c = by_tables (λ t. AreStored t (at (record c.args.tables.now { map = c.push-in-Map.new.rows }) t)) (c.requires.stored Tiles) (c.requires.stored TilesWithHash) (subst (λ t. AreStored t c.push-in-Map.new.rows) c.in-Map.is c.push-in-Map.ensures.stored) (c.requires.stored Images) (c.requires.stored TilesShallow) (c.requires.stored TilesData) (c.requires.stored TileCache) (c.requires.stored Metadata)

pub returns-in-Images-clause-stored : goal.returns-in-Images-clause-stored
returns-in-Images-clause-stored c = by_tables (λ t. AreStored t (at (record c.args.tables.now { images = c.push-in-Images.new.rows }) t)) (c.requires.stored Tiles) (c.requires.stored TilesWithHash) (c.requires.stored Map) (subst (λ t. AreStored t c.push-in-Images.new.rows) c.in-Images.is c.push-in-Images.ensures.stored) (c.requires.stored TilesShallow) (c.requires.stored TilesData) (c.requires.stored TileCache) (c.requires.stored Metadata)

pub returns-in-TilesShallow-clause-stored : goal.returns-in-TilesShallow-clause-stored
returns-in-TilesShallow-clause-stored c = by_tables (λ t. AreStored t (at (record c.args.tables.now { tiles_shallow = c.push-in-TilesShallow.new.rows }) t)) (c.requires.stored Tiles) (c.requires.stored TilesWithHash) (c.requires.stored Map) (c.requires.stored Images) (subst (λ t. AreStored t c.push-in-TilesShallow.new.rows) c.in-TilesShallow.is c.push-in-TilesShallow.ensures.stored) (c.requires.stored TilesData) (c.requires.stored TileCache) (c.requires.stored Metadata)

pub returns-in-TilesData-clause-stored : goal.returns-in-TilesData-clause-stored
returns-in-TilesData-clause-stored c = by_tables (λ t. AreStored t (at (record c.args.tables.now { tiles_data = c.push-in-TilesData.new.rows }) t)) (c.requires.stored Tiles) (c.requires.stored TilesWithHash) (c.requires.stored Map) (c.requires.stored Images) (c.requires.stored TilesShallow) (subst (λ t. AreStored t c.push-in-TilesData.new.rows) c.in-TilesData.is c.push-in-TilesData.ensures.stored) (c.requires.stored TileCache) (c.requires.stored Metadata)

pub returns-in-TileCache-clause-stored : goal.returns-in-TileCache-clause-stored
returns-in-TileCache-clause-stored c = by_tables (λ t. AreStored t (at (record c.args.tables.now { tile_cache = c.push-in-TileCache.new.rows }) t)) (c.requires.stored Tiles) (c.requires.stored TilesWithHash) (c.requires.stored Map) (c.requires.stored Images) (c.requires.stored TilesShallow) (c.requires.stored TilesData) (subst (λ t. AreStored t c.push-in-TileCache.new.rows) c.in-TileCache.is c.push-in-TileCache.ensures.stored) (c.requires.stored Metadata)

pub returns-in-Metadata-clause-stored : goal.returns-in-Metadata-clause-stored
returns-in-Metadata-clause-stored c = by_tables (λ t. AreStored t (at (record c.args.tables.now { metadata = c.push-in-Metadata.new.rows }) t)) (c.requires.stored Tiles) (c.requires.stored TilesWithHash) (c.requires.stored Map) (c.requires.stored Images) (c.requires.stored TilesShallow) (c.requires.stored TilesData) (c.requires.stored TileCache) (subst (λ t. AreStored t c.push-in-Metadata.new.rows) c.in-Metadata.is c.push-in-Metadata.ensures.stored)
