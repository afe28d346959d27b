-- What the crate's specs and sources name of the crates below, passed on from one place. Declares nothing.
unfoldable pub use Rattle.mb_store.specs.MemStore.{faults_of, IsSteady, told_of}
pub use Rattle.mb_store.specs.Store.{is_duplicate, no_rows, with_row}
pub use Rattle.mb_tables.specs.Described.{is_table}
pub use Rattle.mb_tables.specs.Kind.{contents_of, id_text, places_of, tile_table}
pub use Rattle.mb_tables.specs.Schema.{set_tables, table_of, view_of}
pub use Rattle.mb_tables.specs.Table.{table_text, Tables, width}
pub use Rattle.mb_tables.specs.declared.cell.Cell.{Cell}
pub use Rattle.mb_tables.specs.declared.cell.Cell.TheVariants.{Blob, Int, Null, Text}
pub use Rattle.mb_tables.specs.declared.kind.MbtType.{MbtType}
pub use Rattle.mb_tables.specs.declared.kind.MbtType.TheVariants.{Flat, FlatWithHash, Normalized}
pub use Rattle.mb_tables.specs.declared.table.TableName.{TableName}
pub use Rattle.mb_tables.specs.declared.table.TableName.TheVariants.{Images, Map, Metadata, TileCache, Tiles, TilesData, TilesShallow, TilesWithHash}
pub use Rattle.sqlite.specs.Held.{Held, state}
pub use Rattle.sqlite.specs.State.{HasCleanDisk, IsUnchanged, State, Survives}
unfoldable pub use Rattle.sqlite.specs.State.{Shown}
pub use Rattle.sqlite_disk.specs.declared.tally.Tally.{Tally}
pub use Rattle.sqlite_value.specs.Order.{column, Row}
pub use Rattle.sqlite_value.specs.Value.{owned}
pub use Rattle.sqlite_value.specs.declared.value.Value.{Value}
pub use Rattle.std.specs.Char.{is_ascii_hexdigit}
pub use Rattle.std.specs.List.{list_all, list_any}
pub use Rattle.std.specs.Option.{option_map}
pub use Rattle.std.specs.Str.{bytes_eq, str_eq_ignore_ascii_case}
unfoldable pub use Rattle.std.specs.Str.{is_utf8}
