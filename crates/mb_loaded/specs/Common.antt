-- What the crate's specs and sources name of the crates below, passed on from one place. Declares nothing.
pub use Rattle.mb_lists.specs.CellCode.{cell_code, dates_code}
pub use Rattle.mb_lists.specs.Clearing.{listed, tile_mark}
pub use Rattle.mb_lists.specs.Contents.{Contents}
pub use Rattle.mb_lists.specs.Entries.{AreContentsInOrder, AreInOrder, AreNamesInOrder, blob_cell, content_at, contents_held, HasId, id_at, if_edited, is_gone, IsDated, IsName, IsTile, name_of}
pub use Rattle.mb_lists.specs.Entries.{names_held, newest_ids, newest_names, newest_tiles, place_at, place_of, text_cell, tile_dates, tile_id, tile_value, tiles_held}
pub use Rattle.mb_lists.specs.Keyed.{Apart, are_distinct, entries_by}
pub use Rattle.mb_lists.specs.Metadata.{Names, text_at, text_of}
pub use Rattle.mb_lists.specs.declared.dates.Dates.{Dates}
pub use Rattle.mb_lists.specs.declared.entries.Content.{Content}
pub use Rattle.mb_lists.specs.declared.entries.Standing.TheVariants.{Kept, Put, Removed}
pub use Rattle.mb_lists.specs.declared.entries.StoredName.{StoredName}
pub use Rattle.mb_lists.specs.declared.entries.StoredTile.{StoredTile}
pub use Rattle.mb_store.specs.declared.change.Change.{Change}
pub use Rattle.mb_tables.specs.Cell.{cell_cmp, cell_eq, is_null}
pub use Rattle.mb_tables.specs.CellKinds.{is_number, is_text}
pub use Rattle.mb_tables.specs.Kind.{contents_of, tile_table}
pub use Rattle.mb_tables.specs.Table.{key_width, table_eq, width}
pub use Rattle.mb_tables.specs.Tiles.{Place, place_cmp, TileSet}
pub use Rattle.mb_tables.specs.declared.cell.Cell.{Cell}
pub use Rattle.mb_tables.specs.declared.cell.Cell.TheVariants.{Blob, Int, Null, Text}
pub use Rattle.mb_tables.specs.declared.key.RowKey.{RowKey}
pub use Rattle.mb_tables.specs.declared.key.RowKey.TheVariants.{IntId, TextId, Tile}
pub use Rattle.mb_tables.specs.declared.kind.MbtType.{MbtType}
pub use Rattle.mb_tables.specs.declared.kind.MbtType.TheVariants.{Cache, Flat, FlatWithHash, Normalized}
pub use Rattle.mb_tables.specs.declared.kind.NormalizedSchema.TheVariants.{DedupId, Hash}
pub use Rattle.mb_tables.specs.declared.patch_type.PatchType.{PatchType}
pub use Rattle.mb_tables.specs.declared.table.TableName.TheVariants.{Images, Metadata}
pub use Rattle.std.specs.Cmp.Lexicographic.{slice_cmp}
pub use Rattle.std.specs.Coded.{code_by, Coded, coded_list, coded_option, coded_ℕ, coded×}
pub use Rattle.std.specs.FinMap.{contains_key, empty, entries, FinMap, from_entries, get, insert, len, remove, retain_keys}
pub use Rattle.std.specs.Ordering.{nat_cmp}
pub use Rattle.tile_hash.specs.Digest.{digest}
pub use Rattle.tile_hash.specs.declared.algorithm.HashAlgorithm.{HashAlgorithm}
pub use Rattle.tile_hash.specs.declared.algorithm.HashAlgorithm.TheVariants.{Fnv1a, Fnv1aDecimal, Md5, Xxh3, Xxh64}
pub use Rattle.tile_ids.specs.Coord.{Coord}
