-- What the crate's specs and sources name of the crates below, passed on from one place. Declares nothing.
pub use Rattle.mb_lists.specs.Metadata.{after_hash, agg_hash, before_hash, Names, text_at}
pub use Rattle.mb_load.specs.Begun.{IsBegun}
pub use Rattle.mb_loaded.specs.Aggregate.{bytes_of}
unfoldable pub use Rattle.mb_loaded.specs.Aggregate.{aggregate}
pub use Rattle.mb_loaded.specs.Edits.{with_name}
pub use Rattle.mb_loaded.specs.State.{State}
pub use Rattle.mb_store.specs.Kept.{FaultsCounted, Keeps, ReadsOnly}
pub use Rattle.mb_tables.specs.Refusals.{Answers}
pub use Rattle.mb_tables.specs.Table.{table_eq, Tables}
pub use Rattle.mb_tables.specs.Tiles.{cell_at, Place, TileSet}
pub use Rattle.mb_tables.specs.declared.error.MbtError.{MbtError}
pub use Rattle.std.specs.FinMap.{entries, insert, len}
pub use Rattle.std.specs.List.{cons_option, filter_map}
pub use Rattle.tile_hash.specs.declared.algorithm.HashAlgorithm.{HashAlgorithm}
