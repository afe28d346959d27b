-- What the crate's specs and sources name of the crates below, passed on from one place. Declares nothing.
pub use Rattle.mb_constraints.specs.TileRows.{bad_tile, place_twice, tile_bad}
pub use Rattle.mb_lists.specs.Entries.{place_at, text_cell}
pub use Rattle.mb_lists.specs.Metadata.{name_twice, text_of}
pub use Rattle.mb_load.specs.Begun.{IsBegun}
pub use Rattle.mb_load.specs.LoadingOrder.{refusals, row_refusals}
pub use Rattle.mb_loaded.specs.Changing.{front, tile_key}
pub use Rattle.mb_metadata.specs.Reading.{metadata_answer}
pub use Rattle.mb_store.specs.Committing.{AreOfTables, Commits, is_changed}
pub use Rattle.mb_store.specs.Kept.{FaultsCounted, Keeps, ReadsOnly}
pub use Rattle.mb_store.specs.Sizes.{live_size_of, row_size}
pub use Rattle.mb_store.specs.Store.{created, with_rows}
pub use Rattle.mb_store.specs.declared.change.Change.{Change}
pub use Rattle.mb_tables.specs.CellKinds.{has_tile_kinds, name_kind_wrong, tile_kind_wrong}
pub use Rattle.mb_tables.specs.Described.{is_keyed, is_table}
pub use Rattle.mb_tables.specs.Detection.{layout_of}
pub use Rattle.mb_tables.specs.Key.{has_key}
pub use Rattle.mb_tables.specs.Refusals.{Answers, first_refusal, first_refused, is_free, Tests, then}
pub use Rattle.mb_tables.specs.Table.{Tables}
pub use Rattle.mb_tables.specs.Tiles.{cell_at, contents_of, Place, place_of, tile_of}
pub use Rattle.mb_tables.specs.declared.cell.Cell.{Cell}
pub use Rattle.mb_tables.specs.declared.cell.Cell.TheVariants.{Blob, Int, Null, Text}
pub use Rattle.mb_tables.specs.declared.description.TableDesc.{TableDesc}
pub use Rattle.mb_tables.specs.declared.error.MbtError.{MbtError}
pub use Rattle.mb_tables.specs.declared.error.MbtError.TheVariants.{InvalidDataFormat, InvalidTileIndex, NotACacheFile, NoUniquenessConstraint, StoreFault}
pub use Rattle.mb_tables.specs.declared.kind.MbtType.TheVariants.{Cache}
pub use Rattle.mb_tables.specs.declared.table.TableName.TheVariants.{Metadata, TileCache}
pub use Rattle.std.specs.Cmp.{eq_by_cmp_equiv, int_cmp_total, IsTotalOrder, nat_cmp_total, partial_equiv_from_equiv, partial_order_from_total}
pub use Rattle.std.specs.List.{list_any, take_while}
unfoldable pub use Rattle.std.specs.List.Sorted.{IsStrictlySortedBy}
pub use Rattle.std.specs.Ordering.{eq_by_cmp, int_cmp, nat_cmp, ordering_then}
pub use Rattle.std.specs.declared.cmp.Ordering.{Ordering}
pub use Rattle.tile_ids.specs.Coord.{Coord}
