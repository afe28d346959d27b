-- What the crate's specs and sources name of the crates below, passed on from one place. Declares nothing.
pub use Rattle.mb_constraints.specs.DiffHashes.{base_refused, patch_refused, refused_by, unless_forced}
pub use Rattle.mb_lists.specs.Contents.{Contents}
pub use Rattle.mb_lists.specs.Metadata.{after_hash, agg_hash, before_hash, Names, text_at}
pub use Rattle.mb_load.specs.Committed.{is_set_table, rows_under}
pub use Rattle.mb_load.specs.LoadedFrom.{AllOnBoard, IsLoadedFrom, NamesAlgorithm}
pub use Rattle.mb_load.specs.StateOf.{state_of}
pub use Rattle.mb_loaded.specs.Changing.{cells_for, content_table, front, tile_key}
pub use Rattle.mb_loaded.specs.Editable.{is_editable, IsOnBoard}
pub use Rattle.mb_loaded.specs.Edits.{dates_for, id_for, is_named, only_referenced, removed_name, with_name}
pub use Rattle.mb_loaded.specs.GivenIds.{ids_given}
pub use Rattle.mb_loaded.specs.Held.{Held, nothing_edited}
pub use Rattle.mb_loaded.specs.State.{State}
pub use Rattle.mb_tables.specs.Cell.{cell_cmp, cell_eq, is_null}
pub use Rattle.mb_tables.specs.Kind.{is_normalized, tile_table}
pub use Rattle.mb_tables.specs.Refusals.{Answers, first_refusal, is_free, Tests, then, unless}
pub use Rattle.mb_tables.specs.Table.{table_eq, Tables}
pub use Rattle.mb_tables.specs.Tiles.{cell_at, Place, place_cmp, place_of, TileSet}
pub use Rattle.mb_tables.specs.declared.cell.Cell.{Cell}
pub use Rattle.mb_tables.specs.declared.cell.Cell.TheVariants.{Blob, Null, Text}
pub use Rattle.mb_tables.specs.declared.error.MbtError.{MbtError}
pub use Rattle.mb_tables.specs.declared.error.MbtError.TheVariants.{AggHashMismatchWithDiff, CannotDiffFileWithoutHash, DiffingDiffFile, IdCollision, PatchFileHasNoBeforeHash, PatchFileHasNoHashes}
pub use Rattle.mb_tables.specs.declared.error.MbtError.TheVariants.{UnsupportedCopyOperation, UnsupportedHashAlgorithm, UnsupportedPatchType}
pub use Rattle.mb_tables.specs.declared.kind.MbtType.{MbtType}
pub use Rattle.mb_tables.specs.declared.kind.MbtType.TheVariants.{Cache, Flat, Normalized}
pub use Rattle.mb_tables.specs.declared.kind.NormalizedSchema.TheVariants.{DedupId}
pub use Rattle.mb_tables.specs.declared.table.TableName.{TableName}
pub use Rattle.std.specs.FinMap.{contains_key, empty, entries, find, FinMap, from_entries, get, get-from_entries, len, retain_keys}
pub use Rattle.std.specs.List.{cons_option, list_any}
pub use Rattle.std.specs.Ordering.{is_eq, nat_cmp}
pub use Rattle.std.specs.Str.{bytes_eq}
pub use Rattle.tile_hash.specs.Digest.{digest, name_of}
pub use Rattle.tile_hash.specs.declared.algorithm.HashAlgorithm.{HashAlgorithm}
