-- What the crate's specs and sources name of the crates below, passed on from one place. Declares nothing.
pub use Rattle.base_values.specs.Counts.{Rose}
pub use Rattle.mb_store.specs.Kept.{FaultsCounted}
pub use Rattle.mb_store.specs.declared.change.Change.{Change}
pub use Rattle.mb_tables.specs.Described.{is_table}
pub use Rattle.mb_tables.specs.Schema.{columns_of, set_tables}
pub use Rattle.mb_tables.specs.Table.{key_columns, table_eq, table_text, width}
pub use Rattle.mb_tables.specs.declared.cell.Cell.{Cell}
pub use Rattle.mb_tables.specs.declared.column.ColumnDesc.{ColumnDesc}
pub use Rattle.mb_tables.specs.declared.key.RowKey.{RowKey}
pub use Rattle.mb_tables.specs.declared.kind.MbtType.{MbtType}
pub use Rattle.mb_tables.specs.declared.table.TableName.{TableName}
pub use Rattle.mb_tables.specs.declared.table.TableName.TheVariants.{Images, Map, Metadata, TileCache, Tiles, TilesData, TilesShallow, TilesWithHash}
pub use Rattle.sqlite.specs.Held.{Held, state}
pub use Rattle.sqlite.specs.State.{ExecutesInside, HasCleanDisk, IsRolledBack, KeepsCommit, QueriesRowInside, Shows, Survives}
unfoldable pub use Rattle.sqlite.specs.State.{Shown}
pub use Rattle.sqlite.specs.Store.{Ghosts}
pub use Rattle.sqlite.specs.Values.{bound}
pub use Rattle.sqlite_value.specs.Order.{column, Row}
pub use Rattle.sqlite_value.specs.declared.value.Value.{Value}
pub use Rattle.std.specs.List.{AllZip, list_all, list_any}
pub use Rattle.std.specs.Option.{option_copied}
pub use Rattle.std.specs.Str.{bytes_eq}
unfoldable pub use Rattle.std.specs.Str.{is_utf8}
