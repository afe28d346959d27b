-- What the crate's specs and sources name of the crates below, passed on from one place. Declares nothing.
pub use Rattle.base_values.specs.Counts.{Rose}
pub use Rattle.mb_lists.specs.Entries.{blob_cell, place_at}
pub use Rattle.mb_load.specs.Begun.{IsBegun}
pub use Rattle.mb_load.specs.StateOf.{state_of}
pub use Rattle.mb_loaded.specs.Changing.{tile_key}
pub use Rattle.mb_loaded.specs.State.{State}
pub use Rattle.mb_store.specs.Kept.{FaultsCounted, Keeps, ReadsOnly}
pub use Rattle.mb_tables.specs.Detection.{detected, layout_of, missing_index}
pub use Rattle.mb_tables.specs.Refusals.{Answers, is_free}
pub use Rattle.mb_tables.specs.Table.{table_eq, Tables}
pub use Rattle.mb_tables.specs.Tiles.{cell_at, contents_of, pairs_of, Place, place_cmp, place_of, TileSet}
pub use Rattle.mb_tables.specs.declared.cell.Cell.{Cell}
pub use Rattle.mb_tables.specs.declared.cell.Cell.TheVariants.{Blob, Int, Null, Text}
pub use Rattle.mb_tables.specs.declared.error.MbtError.{MbtError}
pub use Rattle.mb_tables.specs.declared.error.MbtError.TheVariants.{InvalidDataFormat, OutOfMemory, StoreFault}
pub use Rattle.mb_tables.specs.declared.kind.MbtType.{MbtType}
pub use Rattle.mb_tables.specs.declared.kind.MbtType.TheVariants.{Flat, FlatWithHash, Normalized}
pub use Rattle.mb_tables.specs.declared.kind.NormalizedSchema.TheVariants.{Hash}
pub use Rattle.mb_tables.specs.declared.table.TableName.TheVariants.{Images, Map, Tiles, TilesWithHash}
pub use Rattle.std.specs.Borrow.{Bor, RestsIfErr, sem}
pub use Rattle.std.specs.FinMap.{contains_key, entries, find, FinMap, get, len}
pub use Rattle.std.specs.Iterator.{at_most, Yields, YieldsThen}
pub use Rattle.std.specs.Option.{option_flatten}
pub use Rattle.tile_ids.specs.Coord.{Coord}
