-- What the crate's specs and sources name of the crates below, passed on from one place. Declares nothing.
pub use Rattle.base_values.specs.Counts.{Rose}
pub use Rattle.byte_media.specs.Kept.{KeepsMedium}
pub use Rattle.mb_edit.specs.Step.{step}
pub use Rattle.mb_lists.specs.Places.{address, InRange}
pub use Rattle.mb_load.specs.LoadedFrom.{IsLoadable, IsLoadedFrom, NamesAlgorithm}
pub use Rattle.mb_load.specs.StateOf.{state_of}
pub use Rattle.mb_loaded.specs.Aggregate.{bytes_of}
unfoldable pub use Rattle.mb_loaded.specs.Aggregate.{aggregate}
pub use Rattle.mb_loaded.specs.Held.{fresh, Held, nothing_edited}
pub use Rattle.mb_loaded.specs.State.{State}
pub use Rattle.mb_store.specs.Kept.{Keeps, ReadsOnly}
unfoldable pub use Rattle.mb_store.specs.MemStore.{told_of}
pub use Rattle.mb_tables.specs.Refusals.{is_free, unless}
pub use Rattle.mb_tables.specs.Table.{Tables}
pub use Rattle.mb_tables.specs.Tiles.{cell_at, Place, place_of, solid, TileSet}
pub use Rattle.mb_tables.specs.declared.cell.Cell.{Cell}
pub use Rattle.mb_tables.specs.declared.error.MbtError.{MbtError}
pub use Rattle.pm_format.specs.LookUp.{archive_map, archive_tile, filled}
pub use Rattle.pm_format.specs.Options.{Options}
pub use Rattle.pm_format.specs.WellFormed.{WellFormed}
pub use Rattle.pm_format.specs.declared.error.PmtError.{PmtError}
pub use Rattle.pm_writer.specs.Archive.{canon}
unfoldable pub use Rattle.pm_writer.specs.Archive.{archive}
pub use Rattle.pm_writer.specs.Few.{AreFew}
pub use Rattle.pm_writer.specs.Pieces.{IsHidden, IsHiddenOr}
pub use Rattle.pm_writer.specs.Places.{places_of, places_read}
pub use Rattle.pm_writer.specs.Took.{TookAll}
pub use Rattle.std.specs.FinMap.{contains_key, entries, find, FinMap, get, is_sorted, len}
pub use Rattle.std.specs.List.{list_all, list_any}
pub use Rattle.std.specs.Option.{option_map, option_map_or}
pub use Rattle.std.specs.Ordering.{nat_cmp}
pub use Rattle.tile_ids.specs.Coord.{Coord, IsCoord}
pub use Rattle.tile_ids.specs.Hilbert.{id_of}
pub use Rattle.tile_ids.specs.declared.id.TheConstants.{MAX_TILE_ID}
