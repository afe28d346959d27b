-- What the crate's specs and sources name of the crates below, passed on from one place. Declares nothing.
unfoldable pub use Rattle.line_words.specs.Parting.{parted}
pub use Rattle.mb_lists.specs.Entries.{blob_cell, text_cell}
pub use Rattle.mb_lists.specs.Metadata.{Names, text_at, text_of}
pub use Rattle.mb_metadata.specs.Inserting.{IsWithoutFloat, JsonMap}
pub use Rattle.mb_metadata.specs.SaidJson.{is_bare}
pub use Rattle.mb_tables.specs.declared.cell.Cell.{Cell}
pub use Rattle.mb_tables.specs.declared.cell.Cell.TheVariants.{Blob, Text}
pub use Rattle.pm_format.specs.declared.header.Header.{Header}
pub use Rattle.pm_format.specs.declared.tile_type.TileType.{TileType}
pub use Rattle.serde_json.specs.Data.{array, boolean, Data, depth, member, Members, no_members, null, Num, number, object, put, string}
pub use Rattle.serde_json.specs.Find.{as_object}
pub use Rattle.serde_json.specs.Read.{max_depth, read}
pub use Rattle.serde_json.specs.View.{members_view, view}
pub use Rattle.std.specs.Char.{is_ascii_digit, is_ascii_whitespace}
pub use Rattle.std.specs.FinMap.{empty, entries, insert, len}
pub use Rattle.std.specs.Fmt.{decimal}
unfoldable pub use Rattle.std.specs.Fmt.{digits}
pub use Rattle.std.specs.List.{list_all, prefix_len, suffix_len}
pub use Rattle.std.specs.Option.{option_and_then, option_map, option_or}
pub use Rattle.std.specs.Ordering.{int_cmp, is_eq, is_gt, is_lt}
pub use Rattle.std.specs.Str.{bytes_eq, str_eq_ignore_ascii_case}
