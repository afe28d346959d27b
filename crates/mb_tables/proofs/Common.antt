-- What the crate's proofs name of the crates below and of its specs, passed on from one place. Declares nothing.
pub use Rattle.mb_tables.specs.Cell.{cell_cmp, cell_eq, cells_cmp, cells_eq}
pub use Rattle.mb_tables.specs.Common.{find, get, IsTotalOrder, nat_cmp_total, ordering_then}
pub use Rattle.mb_tables.specs.Table.{table_eq, table_number, Tables}
pub use Rattle.mb_tables.specs.Tiles.{cell_at, is_solid, pairs_of, Place, place_cmp, solid, tiles_of, TileSet}
pub use Rattle.mb_tables.specs.declared.cell.Cell.{Cell}
pub use Rattle.mb_tables.specs.declared.cell.Cell.TheVariants.{Blob, Int, Null, Other, Text}
pub use Rattle.std.proofs.Common.{ap, arith, Bool, cond, false, filter, get_or, length, List, None, Option, refl, slice_set, Some, suc, sym, take, true, zero, ℕ, [], ◌<◌, ◌==◌, ◌∙◌, ◌∷◌, ◌≡◌, ◌≤◌}
pub use Rattle.std.proofs.lemmas.Bool.{eq-eqb, eqb-true, false≢true, ltb-false}
pub use Rattle.std.proofs.lemmas.Cmp.{lists_total, on_total, then_total}
pub use Rattle.std.specs.Cmp.{Equal-is, tied_itself}
pub use Rattle.std.specs.FinMap.{get-from_entries, get-retain_keys, get_tied, int_cmp-IsAntisymmetric, IsAntisymmetric, nat_cmp-IsAntisymmetric, slice_cmp-IsAntisymmetric}
pub use Rattle.std.specs.Ordering.{is_eq}
pub use Rattle.std.specs.Prelude.{All, AllPairs, option_to_list, position, slice_get, unwrap_or}
