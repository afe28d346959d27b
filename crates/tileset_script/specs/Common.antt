-- What the crate's specs and sources name of the crates below, passed on from one place. Declares nothing.
pub use Rattle.hex.specs.Hex.{decode_of, hex_digit_value}
unfoldable pub use Rattle.hex.specs.Hex.{decode_pairs}
unfoldable pub use Rattle.line_words.specs.Lines.{lines_of}
pub use Rattle.line_words.specs.Number.{integer_below, number_to}
pub use Rattle.line_words.specs.Parting.{HasNo, words_of}
unfoldable pub use Rattle.line_words.specs.Parting.{parted}
unfoldable pub use Rattle.mb_store.specs.MemStore.{faults_of, IsSteady, told_of}
pub use Rattle.mb_store.specs.Store.{is_duplicate, no_rows, with_row}
pub use Rattle.mb_tables.specs.Columns.{patch_columns}
pub use Rattle.mb_tables.specs.Described.{is_table}
pub use Rattle.mb_tables.specs.Schema.{column_of, set_tables, table_of}
pub use Rattle.mb_tables.specs.Table.{table_text, Tables, width}
pub use Rattle.mb_tables.specs.declared.cell.Cell.{Cell}
pub use Rattle.mb_tables.specs.declared.cell.Cell.TheVariants.{Blob, Int, Null, Other, Text}
pub use Rattle.mb_tables.specs.declared.table.TableName.{TableName}
pub use Rattle.mb_tables.specs.declared.table.TableName.TheVariants.{Metadata, Tiles}
pub use Rattle.std.specs.List.{find, list_any}
pub use Rattle.std.specs.Option.{option_and_then, option_copied, option_map, option_to_list}
pub use Rattle.std.specs.Str.{bytes_eq}
unfoldable pub use Rattle.std.specs.Str.{chars, is_utf8}
pub use Rattle.tile_ids.specs.Coord.{Coord, inverted_y}
unfoldable pub use Rattle.tile_ids.specs.Hilbert.{coord_of}
