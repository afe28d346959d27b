use Rattle.mb_store.proofs.Common.{AreStored, at, by_tables, early_rows, Images, Map, MemTables, Metadata, TileCache, Tiles, TilesData, TilesShallow, TilesWithHash, ◌≡◌}
use Rattle.mb_store.proofs.EditLemmas.{early_still}
use Rattle.mb_store.proofs.committing.put_tables.Goals as goal

pub put_all-requires-clause-stored : goal.put_all-requires-clause-stored
put_all-requires-clause-stored c = c.requires.stored Tiles

pub put_all-requires-2-clause-stored : goal.put_all-requires-2-clause-stored
put_all-requires-2-clause-stored c = c.requires.stored TilesWithHash

pub put_all-requires-3-clause-stored : goal.put_all-requires-3-clause-stored
put_all-requires-3-clause-stored c = c.requires.stored Map

pub put_all-requires-4-clause-stored : goal.put_all-requires-4-clause-stored
put_all-requires-4-clause-stored c = c.requires.stored Images

pub put_all-requires-5-clause-stored : goal.put_all-requires-5-clause-stored
put_all-requires-5-clause-stored c = c.requires.stored TilesShallow

pub put_all-requires-6-clause-stored : goal.put_all-requires-6-clause-stored
put_all-requires-6-clause-stored c = c.requires.stored TilesData

pub put_all-requires-7-clause-stored : goal.put_all-requires-7-clause-stored
put_all-requires-7-clause-stored c = c.requires.stored TileCache

pub put_all-requires-8-clause-stored : goal.put_all-requires-8-clause-stored
put_all-requires-8-clause-stored c = c.requires.stored Metadata

pub returns-in_err-put_all-clause-early : goal.returns-in_err-put_all-clause-early
returns-in_err-put_all-clause-early c =
    let m : MemTables = record c.args.tables.now { tiles = c.put_all.new.rows } in
    by_tables (λ t. early_rows (at c.args.tables.now t).next (at m t).stored.keys ≡ (at c.args.tables.now t).stored.keys) c.put_all.ensures.early (early_still TilesWithHash c.args.tables.now.tiles_with_hash (c.requires.stored TilesWithHash)) (early_still Map c.args.tables.now.map (c.requires.stored Map)) (early_still Images c.args.tables.now.images (c.requires.stored Images)) (early_still TilesShallow c.args.tables.now.tiles_shallow (c.requires.stored TilesShallow)) (early_still TilesData c.args.tables.now.tiles_data (c.requires.stored TilesData)) (early_still TileCache c.args.tables.now.tile_cache (c.requires.stored TileCache)) (early_still Metadata c.args.tables.now.metadata (c.requires.stored Metadata))

pub returns-in_err-put_all-clause-stored : goal.returns-in_err-put_all-clause-stored
returns-in_err-put_all-clause-stored c =
    let m : MemTables = record c.args.tables.now { tiles = c.put_all.new.rows } in
    by_tables (λ t. AreStored t (at m t)) c.put_all.ensures.stored (c.requires.stored TilesWithHash) (c.requires.stored Map) (c.requires.stored Images) (c.requires.stored TilesShallow) (c.requires.stored TilesData) (c.requires.stored TileCache) (c.requires.stored Metadata)

pub returns-in_err-put_all-2-clause-early : goal.returns-in_err-put_all-2-clause-early
returns-in_err-put_all-2-clause-early c =
    let m : MemTables = record c.args.tables.now { tiles = c.put_all.new.rows; tiles_with_hash = c.put_all-2.new.rows } in
    by_tables (λ t. early_rows (at c.args.tables.now t).next (at m t).stored.keys ≡ (at c.args.tables.now t).stored.keys) c.put_all.ensures.early c.put_all-2.ensures.early (early_still Map c.args.tables.now.map (c.requires.stored Map)) (early_still Images c.args.tables.now.images (c.requires.stored Images)) (early_still TilesShallow c.args.tables.now.tiles_shallow (c.requires.stored TilesShallow)) (early_still TilesData c.args.tables.now.tiles_data (c.requires.stored TilesData)) (early_still TileCache c.args.tables.now.tile_cache (c.requires.stored TileCache)) (early_still Metadata c.args.tables.now.metadata (c.requires.stored Metadata))

pub returns-in_err-put_all-2-clause-stored : goal.returns-in_err-put_all-2-clause-stored
returns-in_err-put_all-2-clause-stored c =
    let m : MemTables = record c.args.tables.now { tiles = c.put_all.new.rows; tiles_with_hash = c.put_all-2.new.rows } in
    by_tables (λ t. AreStored t (at m t)) c.put_all.ensures.stored c.put_all-2.ensures.stored (c.requires.stored Map) (c.requires.stored Images) (c.requires.stored TilesShallow) (c.requires.stored TilesData) (c.requires.stored TileCache) (c.requires.stored Metadata)

pub returns-in_err-put_all-3-clause-early : goal.returns-in_err-put_all-3-clause-early
returns-in_err-put_all-3-clause-early c =
    let m : MemTables = record c.args.tables.now { tiles = c.put_all.new.rows; tiles_with_hash = c.put_all-2.new.rows; map = c.put_all-3.new.rows } in
    by_tables (λ t. early_rows (at c.args.tables.now t).next (at m t).stored.keys ≡ (at c.args.tables.now t).stored.keys) c.put_all.ensures.early c.put_all-2.ensures.early c.put_all-3.ensures.early (early_still Images c.args.tables.now.images (c.requires.stored Images)) (early_still TilesShallow c.args.tables.now.tiles_shallow (c.requires.stored TilesShallow)) (early_still TilesData c.args.tables.now.tiles_data (c.requires.stored TilesData)) (early_still TileCache c.args.tables.now.tile_cache (c.requires.stored TileCache)) (early_still Metadata c.args.tables.now.metadata (c.requires.stored Metadata))

pub returns-in_err-put_all-3-clause-stored : goal.returns-in_err-put_all-3-clause-stored
returns-in_err-put_all-3-clause-stored c =
    let m : MemTables = record c.args.tables.now { tiles = c.put_all.new.rows; tiles_with_hash = c.put_all-2.new.rows; map = c.put_all-3.new.rows } in
    by_tables (λ t. AreStored t (at m t)) c.put_all.ensures.stored c.put_all-2.ensures.stored c.put_all-3.ensures.stored (c.requires.stored Images) (c.requires.stored TilesShallow) (c.requires.stored TilesData) (c.requires.stored TileCache) (c.requires.stored Metadata)

pub returns-in_err-put_all-4-clause-early : goal.returns-in_err-put_all-4-clause-early
returns-in_err-put_all-4-clause-early c =
    let m : MemTables = record c.args.tables.now { tiles = c.put_all.new.rows; tiles_with_hash = c.put_all-2.new.rows; map = c.put_all-3.new.rows; images = c.put_all-4.new.rows } in
    by_tables (λ t. early_rows (at c.args.tables.now t).next (at m t).stored.keys ≡ (at c.args.tables.now t).stored.keys) c.put_all.ensures.early c.put_all-2.ensures.early c.put_all-3.ensures.early c.put_all-4.ensures.early (early_still TilesShallow c.args.tables.now.tiles_shallow (c.requires.stored TilesShallow)) (early_still TilesData c.args.tables.now.tiles_data (c.requires.stored TilesData)) (early_still TileCache c.args.tables.now.tile_cache (c.requires.stored TileCache)) (early_still Metadata c.args.tables.now.metadata (c.requires.stored Metadata))

pub returns-in_err-put_all-4-clause-stored : goal.returns-in_err-put_all-4-clause-stored
returns-in_err-put_all-4-clause-stored c =
    let m : MemTables = record c.args.tables.now { tiles = c.put_all.new.rows; tiles_with_hash = c.put_all-2.new.rows; map = c.put_all-3.new.rows; images = c.put_all-4.new.rows } in
    by_tables (λ t. AreStored t (at m t)) c.put_all.ensures.stored c.put_all-2.ensures.stored c.put_all-3.ensures.stored c.put_all-4.ensures.stored (c.requires.stored TilesShallow) (c.requires.stored TilesData) (c.requires.stored TileCache) (c.requires.stored Metadata)

pub returns-in_err-put_all-5-clause-early : goal.returns-in_err-put_all-5-clause-early
returns-in_err-put_all-5-clause-early c =
    let m : MemTables = record c.args.tables.now { tiles = c.put_all.new.rows; tiles_with_hash = c.put_all-2.new.rows; map = c.put_all-3.new.rows; images = c.put_all-4.new.rows; tiles_shallow = c.put_all-5.new.rows } in
    by_tables (λ t. early_rows (at c.args.tables.now t).next (at m t).stored.keys ≡ (at c.args.tables.now t).stored.keys) c.put_all.ensures.early c.put_all-2.ensures.early c.put_all-3.ensures.early c.put_all-4.ensures.early c.put_all-5.ensures.early (early_still TilesData c.args.tables.now.tiles_data (c.requires.stored TilesData)) (early_still TileCache c.args.tables.now.tile_cache (c.requires.stored TileCache)) (early_still Metadata c.args.tables.now.metadata (c.requires.stored Metadata))

pub returns-in_err-put_all-5-clause-stored : goal.returns-in_err-put_all-5-clause-stored
returns-in_err-put_all-5-clause-stored c =
    let m : MemTables = record c.args.tables.now { tiles = c.put_all.new.rows; tiles_with_hash = c.put_all-2.new.rows; map = c.put_all-3.new.rows; images = c.put_all-4.new.rows; tiles_shallow = c.put_all-5.new.rows } in
    by_tables (λ t. AreStored t (at m t)) c.put_all.ensures.stored c.put_all-2.ensures.stored c.put_all-3.ensures.stored c.put_all-4.ensures.stored c.put_all-5.ensures.stored (c.requires.stored TilesData) (c.requires.stored TileCache) (c.requires.stored Metadata)

pub returns-in_err-put_all-6-clause-early : goal.returns-in_err-put_all-6-clause-early
returns-in_err-put_all-6-clause-early c =
    let m : MemTables = record c.args.tables.now { tiles = c.put_all.new.rows; tiles_with_hash = c.put_all-2.new.rows; map = c.put_all-3.new.rows; images = c.put_all-4.new.rows; tiles_shallow = c.put_all-5.new.rows; tiles_data = c.put_all-6.new.rows } in
    by_tables (λ t. early_rows (at c.args.tables.now t).next (at m t).stored.keys ≡ (at c.args.tables.now t).stored.keys) c.put_all.ensures.early c.put_all-2.ensures.early c.put_all-3.ensures.early c.put_all-4.ensures.early c.put_all-5.ensures.early c.put_all-6.ensures.early (early_still TileCache c.args.tables.now.tile_cache (c.requires.stored TileCache)) (early_still Metadata c.args.tables.now.metadata (c.requires.stored Metadata))

pub returns-in_err-put_all-6-clause-stored : goal.returns-in_err-put_all-6-clause-stored
returns-in_err-put_all-6-clause-stored c =
    let m : MemTables = record c.args.tables.now { tiles = c.put_all.new.rows; tiles_with_hash = c.put_all-2.new.rows; map = c.put_all-3.new.rows; images = c.put_all-4.new.rows; tiles_shallow = c.put_all-5.new.rows; tiles_data = c.put_all-6.new.rows } in
    by_tables (λ t. AreStored t (at m t)) c.put_all.ensures.stored c.put_all-2.ensures.stored c.put_all-3.ensures.stored c.put_all-4.ensures.stored c.put_all-5.ensures.stored c.put_all-6.ensures.stored (c.requires.stored TileCache) (c.requires.stored Metadata)

pub returns-in_err-put_all-7-clause-early : goal.returns-in_err-put_all-7-clause-early
returns-in_err-put_all-7-clause-early c =
    let m : MemTables = record c.args.tables.now { tiles = c.put_all.new.rows; tiles_with_hash = c.put_all-2.new.rows; map = c.put_all-3.new.rows; images = c.put_all-4.new.rows; tiles_shallow = c.put_all-5.new.rows; tiles_data = c.put_all-6.new.rows; tile_cache = c.put_all-7.new.rows } in
    by_tables (λ t. early_rows (at c.args.tables.now t).next (at m t).stored.keys ≡ (at c.args.tables.now t).stored.keys) c.put_all.ensures.early c.put_all-2.ensures.early c.put_all-3.ensures.early c.put_all-4.ensures.early c.put_all-5.ensures.early c.put_all-6.ensures.early c.put_all-7.ensures.early (early_still Metadata c.args.tables.now.metadata (c.requires.stored Metadata))

pub returns-in_err-put_all-7-clause-stored : goal.returns-in_err-put_all-7-clause-stored
returns-in_err-put_all-7-clause-stored c =
    let m : MemTables = record c.args.tables.now { tiles = c.put_all.new.rows; tiles_with_hash = c.put_all-2.new.rows; map = c.put_all-3.new.rows; images = c.put_all-4.new.rows; tiles_shallow = c.put_all-5.new.rows; tiles_data = c.put_all-6.new.rows; tile_cache = c.put_all-7.new.rows } in
    by_tables (λ t. AreStored t (at m t)) c.put_all.ensures.stored c.put_all-2.ensures.stored c.put_all-3.ensures.stored c.put_all-4.ensures.stored c.put_all-5.ensures.stored c.put_all-6.ensures.stored c.put_all-7.ensures.stored (c.requires.stored Metadata)

pub returns-in_err-put_all-8-clause-early : goal.returns-in_err-put_all-8-clause-early
returns-in_err-put_all-8-clause-early c =
    let m : MemTables = record c.args.tables.now { tiles = c.put_all.new.rows; tiles_with_hash = c.put_all-2.new.rows; map = c.put_all-3.new.rows; images = c.put_all-4.new.rows; tiles_shallow = c.put_all-5.new.rows; tiles_data = c.put_all-6.new.rows; tile_cache = c.put_all-7.new.rows; metadata = c.put_all-8.new.rows } in
    by_tables (λ t. early_rows (at c.args.tables.now t).next (at m t).stored.keys ≡ (at c.args.tables.now t).stored.keys) c.put_all.ensures.early c.put_all-2.ensures.early c.put_all-3.ensures.early c.put_all-4.ensures.early c.put_all-5.ensures.early c.put_all-6.ensures.early c.put_all-7.ensures.early c.put_all-8.ensures.early

pub returns-in_err-put_all-8-clause-stored : goal.returns-in_err-put_all-8-clause-stored
returns-in_err-put_all-8-clause-stored c =
    let m : MemTables = record c.args.tables.now { tiles = c.put_all.new.rows; tiles_with_hash = c.put_all-2.new.rows; map = c.put_all-3.new.rows; images = c.put_all-4.new.rows; tiles_shallow = c.put_all-5.new.rows; tiles_data = c.put_all-6.new.rows; tile_cache = c.put_all-7.new.rows; metadata = c.put_all-8.new.rows } in
    by_tables (λ t. AreStored t (at m t)) c.put_all.ensures.stored c.put_all-2.ensures.stored c.put_all-3.ensures.stored c.put_all-4.ensures.stored c.put_all-5.ensures.stored c.put_all-6.ensures.stored c.put_all-7.ensures.stored c.put_all-8.ensures.stored
