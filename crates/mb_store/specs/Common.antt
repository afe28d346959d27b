-- What the crate's specs and sources name of the crates below, passed on from one place. Declares nothing.
pub use Rattle.base_values.specs.FailingCalls.{called, next_fails}
pub use Rattle.mb_tables.specs.Cell.{cells_cmp, cells_eq, is_null}
pub use Rattle.mb_tables.specs.Described.{is_keyed, is_table, names_apart}
pub use Rattle.mb_tables.specs.Key.{clash, has_key, IsInOrder, key_cells, key_cmp, row_cmp}
pub use Rattle.mb_tables.specs.Schema.{layout_tables, set_tables, started_as, table_of, view_of}
pub use Rattle.mb_tables.specs.Table.{key_of, table_eq, table_number, Tables, width}
pub use Rattle.mb_tables.specs.declared.cell.Cell.{Cell}
pub use Rattle.mb_tables.specs.declared.cell.Cell.TheVariants.{Blob, Int, Text}
pub use Rattle.mb_tables.specs.declared.description.TableDesc.{TableDesc}
pub use Rattle.mb_tables.specs.declared.error.MbtError.{MbtError}
pub use Rattle.mb_tables.specs.declared.table.TableName.{TableName}
pub use Rattle.mb_tables.specs.declared.table.TableName.TheVariants.{Images, Map, Metadata, TileCache, Tiles, TilesData, TilesShallow, TilesWithHash}
pub use Rattle.std.specs.BTreeSet.{insert_key}
pub use Rattle.std.specs.Cmp.{eq_by_cmp_equiv, IsTotalOrder, nat_cmp_total, partial_equiv_from_equiv, partial_order_from_total}
pub use Rattle.std.specs.List.{list_any, position_or_len}
pub use Rattle.std.specs.Option.{option_copied, option_map, option_map_or}
pub use Rattle.std.specs.Ordering.{eq_by_cmp, is_eq, is_gt, nat_cmp, ordering_then}
pub use Rattle.std.specs.Str.{bytes_eq}
pub use Rattle.std.specs.declared.cmp.Ordering.{Ordering}
