-- What the crate's specs and sources name of the crates below, passed on from one place. Declares nothing.
pub use Rattle.mb_tables.specs.Cell.{cell_cmp, cell_eq, is_null}
pub use Rattle.mb_tables.specs.CellKinds.{is_id, is_text, name_kind_wrong}
pub use Rattle.mb_tables.specs.Refusals.{Tests, unless}
pub use Rattle.mb_tables.specs.Tiles.{cell_at, content_of, Place, place_cmp}
pub use Rattle.mb_tables.specs.declared.cell.Cell.{Cell}
pub use Rattle.mb_tables.specs.declared.cell.Cell.TheVariants.{Blob, Int, Null, Other, Text}
pub use Rattle.mb_tables.specs.declared.error.MbtError.{MbtError}
pub use Rattle.mb_tables.specs.declared.error.MbtError.TheVariants.{InvalidDataFormat, NoUniquenessConstraint}
pub use Rattle.mb_tables.specs.declared.kind.MbtType.{MbtType}
pub use Rattle.mb_tables.specs.declared.kind.MbtType.TheVariants.{Cache, Normalized}
pub use Rattle.std.specs.Cmp.Lexicographic.{slice_cmp}
pub use Rattle.std.specs.Coded.{code_by, Coded, coded_list, coded_option, coded_ℕ, coded_ℤ, coded×}
pub use Rattle.std.specs.FinMap.{find, FinMap, from_entries, get}
pub use Rattle.std.specs.List.{cons_option, insert, list_all, list_any, remove}
pub use Rattle.std.specs.List.Sorted.{IsPartitionPoint, IsPermutation, IsSortedBy}
pub use Rattle.std.specs.Ordering.{bool_cmp, eq_by_cmp, is_lt, nat_cmp, ordering_then}
pub use Rattle.std.specs.declared.cmp.Ordering.{Ordering}
pub use Rattle.tile_ids.specs.Coord.{Coord, inverted_y, tile_index}
