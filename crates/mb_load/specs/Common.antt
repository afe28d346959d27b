-- What the crate's specs and sources name of the crates below, passed on from one place. Declares nothing.
pub use Rattle.mb_constraints.specs.Algorithm.{algorithm_by, algorithm_of, algorithm_unknown, unknown_name}
pub use Rattle.mb_constraints.specs.Described.{index_missing, metadata_missing}
pub use Rattle.mb_constraints.specs.Hashes.{hash_wrong, wrong_content_hash, wrong_tile_hash}
pub use Rattle.mb_constraints.specs.References.{missing_reference, reference_missing}
pub use Rattle.mb_constraints.specs.TileRows.{bad_tile, by_place, dates_in, id_in, place_twice, tile_bad, tile_in}
pub use Rattle.mb_lists.specs.Contents.{content_rows, contents_by_id, id_twice}
pub use Rattle.mb_lists.specs.Entries.{AreNamesInOrder, contents_held, is_cache, IsDated, names_held, place_of, tile_dates, tile_id, tile_value, tiles_held}
pub use Rattle.mb_lists.specs.FromRows.{AreIndexed, rows_kept}
pub use Rattle.mb_lists.specs.Metadata.{name_twice, names_of, text_at, text_of}
pub use Rattle.mb_lists.specs.declared.dates.Dates.{Dates}
pub use Rattle.mb_lists.specs.declared.entries.Standing.TheVariants.{Kept}
pub use Rattle.mb_loaded.specs.Changing.{AreChangesOf, content_row, content_table, name_row, tile_key, tile_row}
pub use Rattle.mb_loaded.specs.Editable.{AreTimes, is_editable, IsFree, IsOnBoard}
pub use Rattle.mb_loaded.specs.Held.{fresh, Held, nothing_edited}
pub use Rattle.mb_loaded.specs.State.{State}
pub use Rattle.mb_store.specs.Committing.{AreOfTables, Commits}
pub use Rattle.mb_store.specs.Kept.{FaultsCounted, Keeps, ReadsOnly}
unfoldable pub use Rattle.mb_store.specs.MemStore.{told_of}
pub use Rattle.mb_store.specs.declared.change.Change.{Change}
pub use Rattle.mb_tables.specs.Cell.{is_null}
pub use Rattle.mb_tables.specs.CellKinds.{content_kind_wrong, has_name_kinds, has_tile_kinds, is_id, name_kind_wrong, tile_kind_wrong}
pub use Rattle.mb_tables.specs.Detection.{layout_of, patch_type_of}
pub use Rattle.mb_tables.specs.Key.{has_key, key_cells}
pub use Rattle.mb_tables.specs.Kind.{is_normalized, tile_table}
pub use Rattle.mb_tables.specs.Refusals.{Answers, first_refusal, first_refused, is_free, Tests, then}
pub use Rattle.mb_tables.specs.Table.{table_eq, Tables, width}
pub use Rattle.mb_tables.specs.Tiles.{cell_at, contents_of, Place, place_cmp, tiles_of}
pub use Rattle.mb_tables.specs.declared.cell.Cell.{Cell}
pub use Rattle.mb_tables.specs.declared.error.MbtError.{MbtError}
pub use Rattle.mb_tables.specs.declared.error.MbtError.TheVariants.{InvalidDataFormat, InvalidTileIndex, MissingTileReference, NoUniquenessConstraint, UnsupportedHashAlgorithm}
pub use Rattle.mb_tables.specs.declared.key.RowKey.{RowKey}
pub use Rattle.mb_tables.specs.declared.key.RowKey.TheVariants.{TextId}
pub use Rattle.mb_tables.specs.declared.kind.MbtType.{MbtType}
pub use Rattle.mb_tables.specs.declared.kind.MbtType.TheVariants.{Cache, Flat, Normalized}
pub use Rattle.mb_tables.specs.declared.table.TableName.{TableName}
pub use Rattle.mb_tables.specs.declared.table.TableName.TheVariants.{Images, Map, Metadata, Tiles}
pub use Rattle.std.specs.FinMap.{contains_key, find, from_entries, get}
pub use Rattle.tile_hash.specs.declared.algorithm.HashAlgorithm.{HashAlgorithm}
