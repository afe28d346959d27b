-- What the crate's specs and sources name of the crates below, passed on from one place. Declares nothing.
pub use Rattle.base_values.specs.Counts.{Rose}
pub use Rattle.mb_insert.specs.Batch.{is_coord, place_in}
pub use Rattle.mb_insert.specs.Insertion.{bad_coord, duplicates}
pub use Rattle.mb_insert.specs.declared.mode.CopyDuplicateMode.TheVariants.{Abort}
pub use Rattle.mb_insert.specs.declared.new_tile.NewTile.{NewTile}
unfoldable pub use Rattle.mb_load.specs.Begun.{begun}
pub use Rattle.mb_load.specs.Committing.{MakesChanges}
pub use Rattle.mb_load.specs.StateOf.{state_of}
pub use Rattle.mb_loaded.specs.Edits.{with_name, with_tile}
pub use Rattle.mb_loaded.specs.Empty.{empty_state}
pub use Rattle.mb_loaded.specs.Held.{fresh, Held, nothing_edited}
pub use Rattle.mb_loaded.specs.State.{State}
unfoldable pub use Rattle.mb_metadata.specs.ZoomText.{number_within}
pub use Rattle.mb_store.specs.Kept.{FaultsCounted, Keeps, ReadsOnly}
pub use Rattle.mb_tables.specs.Refusals.{Answers, first_refusal, first_refused, is_free, Tests, then, unless}
pub use Rattle.mb_tables.specs.Table.{Tables}
pub use Rattle.mb_tables.specs.Tiles.{Place, TileSet}
pub use Rattle.mb_tables.specs.declared.error.MbtError.{MbtError}
pub use Rattle.mb_tables.specs.declared.error.MbtError.TheVariants.{InconsistentTileFormats, MismatchedTargetType, NoFormatInMetadata, TreeFault, UnknownFormatInMetadata, UnsupportedFileExtension}
pub use Rattle.mb_tables.specs.declared.kind.MbtType.TheVariants.{Flat}
pub use Rattle.std.specs.FinMap.{contains_key, empty, entries, FinMap, from_entries, get, insert, len, retain_keys}
pub use Rattle.std.specs.Fmt.{decimal}
unfoldable pub use Rattle.std.specs.Fmt.{digits}
pub use Rattle.std.specs.Path.{dot, slash}
unfoldable pub use Rattle.std.specs.Path.{rsplit_once}
pub use Rattle.std.specs.Str.{bytes_eq, str_eq_ignore_ascii_case}
pub use Rattle.tile_ids.specs.Coord.{inverted_y, IsCoord}
