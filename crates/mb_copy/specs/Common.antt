-- What the crate's specs and sources name of the crates below, passed on from one place. Declares nothing.
pub use Rattle.base_values.specs.Counts.{Rose}
pub use Rattle.mb_constraints.specs.DiffHashes.{base_refused, patch_refused, refused_by, unless_forced}
pub use Rattle.mb_edit.specs.Patched.{is_null_at, over, patched, patched_by}
pub use Rattle.mb_edit.specs.PatchingOrder.{bytes_put, can_be_patched, id_collides}
pub use Rattle.mb_insert.specs.declared.mode.CopyDuplicateMode.{CopyDuplicateMode}
pub use Rattle.mb_insert.specs.declared.mode.CopyDuplicateMode.TheVariants.{Abort, Override}
pub use Rattle.mb_lists.specs.Entries.{is_cache, place_at}
pub use Rattle.mb_lists.specs.Metadata.{after_hash, agg_hash, before_hash, Names}
pub use Rattle.mb_lists.specs.declared.dates.Dates.{Dates}
pub use Rattle.mb_load.specs.Begun.{IsBegun}
unfoldable pub use Rattle.mb_load.specs.Begun.{begun}
pub use Rattle.mb_load.specs.Committing.{MakesChanges}
pub use Rattle.mb_load.specs.LoadedFrom.{AllOnBoard, IsLoadedFrom}
pub use Rattle.mb_load.specs.StateOf.{state_of}
unfoldable pub use Rattle.mb_loaded.specs.Aggregate.{aggregate}
pub use Rattle.mb_loaded.specs.Editable.{AreTimes, is_editable}
pub use Rattle.mb_loaded.specs.Edits.{dates_for, id_for, removed_name, with_dates, with_name, with_null}
pub use Rattle.mb_loaded.specs.FromLast.{from_last, tiles_put}
pub use Rattle.mb_loaded.specs.Held.{fresh, Held}
pub use Rattle.mb_loaded.specs.State.{State}
pub use Rattle.mb_store.specs.Kept.{FaultsCounted, Keeps, ReadsOnly}
pub use Rattle.mb_store.specs.Store.{created}
pub use Rattle.mb_tables.specs.Kind.{is_normalized}
pub use Rattle.mb_tables.specs.Refusals.{Answers, first_refusal, is_free, Tests, then, unless}
pub use Rattle.mb_tables.specs.Schema.{set_tables, started_as}
pub use Rattle.mb_tables.specs.Table.{Tables}
pub use Rattle.mb_tables.specs.Tiles.{Place, place_cmp, TileSet}
pub use Rattle.mb_tables.specs.declared.error.MbtError.{MbtError}
pub use Rattle.mb_tables.specs.declared.error.MbtError.TheVariants.{AggHashMismatch, AggHashMismatchAfterApply, AggHashValueNotFound, DestinationFileExists, DuplicateValues, MismatchedTargetType}
pub use Rattle.mb_tables.specs.declared.error.MbtError.TheVariants.{NonEmptyTargetFile, UnsupportedCopyOperation, UnsupportedPatchType}
pub use Rattle.mb_tables.specs.declared.kind.MbtType.{MbtType}
pub use Rattle.std.specs.FinMap.{contains_key, entries, FinMap, get, len, remove, retain_keys}
pub use Rattle.std.specs.List.{list_any}
pub use Rattle.std.specs.Str.{bytes_eq}
pub use Rattle.tile_hash.specs.Digest.{name_of}
pub use Rattle.tile_hash.specs.declared.algorithm.HashAlgorithm.{HashAlgorithm}
