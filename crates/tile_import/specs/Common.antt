-- What the crate's specs and sources name of the crates below, passed on from one place. Declares nothing.
pub use Rattle.base_values.specs.Counts.{Rose}
pub use Rattle.mb_edit.specs.Put.{may_put, tiles_put}
pub use Rattle.mb_lists.specs.Entries.{place_at}
pub use Rattle.mb_load.specs.LoadedFrom.{AllOnBoard, IsLoadedFrom, NamesAlgorithm}
pub use Rattle.mb_loaded.specs.Editable.{is_editable, IsOnBoard}
pub use Rattle.mb_loaded.specs.Held.{Held, nothing_edited}
pub use Rattle.mb_loaded.specs.State.{State}
pub use Rattle.mb_store.specs.Kept.{Keeps}
pub use Rattle.mb_tables.specs.Refusals.{is_free}
pub use Rattle.mb_tables.specs.Table.{Tables}
pub use Rattle.mb_tables.specs.Tiles.{Place, TileSet}
pub use Rattle.mb_tables.specs.declared.error.MbtError.{MbtError}
pub use Rattle.pm_format.specs.Opened.{Opened}
unfoldable pub use Rattle.pm_format.specs.Opened.{opened}
pub use Rattle.pm_format.specs.declared.error.PmtError.{PmtError}
pub use Rattle.pm_reader.specs.Opening.{header_of, IsOpen, IsOpenRefusal, root_of}
pub use Rattle.pm_reader.specs.Reads.{ReadsOnly}
pub use Rattle.pm_walk.specs.Walk.{all_walked, Walked}
pub use Rattle.pm_walk.specs.declared.error.WalkError.{WalkError}
pub use Rattle.std.specs.FinMap.{contains_key, empty, get, insert, len}
pub use Rattle.std.specs.Option.{option_map}
pub use Rattle.tile_ids.specs.Hilbert.{pyramid}
unfoldable pub use Rattle.tile_ids.specs.Hilbert.{coord_of}
pub use Rattle.tile_ids.specs.declared.id.TheConstants.{MAX_TILE_ID}
