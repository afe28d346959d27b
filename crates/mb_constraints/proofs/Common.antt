-- What the crate's proofs name of the crates below and of its specs, passed on from one place. Declares nothing.
pub use Rattle.mb_constraints.specs.Common.{AreIndexed, Cell, cell_at, cell_eq, content_of, first_refused, HashAlgorithm, InvalidDataFormat, InvalidTileIndex, is_null, list_any, MbtError, MbtType}
pub use Rattle.mb_constraints.specs.Common.{Normalized, NoUniquenessConstraint, option_or, Place, place_cmp, place_of, rows_kept, tile_of, unless}
pub use Rattle.mb_constraints.specs.Hashes.{hash_wrong, wrong_content_hash, wrong_id, wrong_tile_hash}
pub use Rattle.mb_constraints.specs.References.{missing_reference}
pub use Rattle.mb_constraints.specs.TileRows.{bad_tile, contents_in, dates_in, id_in, place_twice, tile_in}
pub use Rattle.mb_lists.proofs.IdLemmas.{cell_under, id_named, id_present, id_under}
pub use Rattle.mb_lists.proofs.PlaceLemmas.{place_is}
pub use Rattle.mb_lists.proofs.Refused.{passes, refuses}
pub use Rattle.mb_lists.specs.Entries.{AreContentsInOrder, content_at, id_at, is_removed, names_held, nothing, place_at, tile_dates, tile_id, tile_value}
pub use Rattle.mb_lists.specs.FromRows.{by_index, content_from, coord_in, ids_from, index_by, own_content, own_tiles, row_kept, stored, stored_by_id}
pub use Rattle.mb_lists.specs.Keyed.{are_distinct, entries_by}
pub use Rattle.mb_lists.specs.declared.entries.Content.{Content}
pub use Rattle.mb_lists.specs.declared.entries.Standing.TheVariants.{Kept}
pub use Rattle.mb_tables.proofs.CellLemmas.{cell_eq-Decides, cells_eq-Decides}
pub use Rattle.mb_tables.specs.Cell.{cell_cmp, cells_eq}
pub use Rattle.mb_tables.specs.Tiles.{contents_of, number_below}
pub use Rattle.mb_tables.specs.declared.kind.NormalizedSchema.TheVariants.{Hash}
pub use Rattle.std.proofs.Common.{ap, arith, Bool, cond, drop, false, filter, find, is_some, length, List, map, nat_lt, None, not, Option, pos, refl, rules, Some, subst, suc, sym, take, true, zero, ℕ}
pub use Rattle.std.proofs.Common.{ℤ, [], ◌&&◌, ◌+◌, ◌^◌, ◌||◌, ◌∙◌, ◌∷◌, ◌≡◌}
pub use Rattle.std.proofs.lemmas.Bool.{false≢true}
pub use Rattle.std.proofs.lemmas.List.Elements.{All-cons, All-head, All-tail}
pub use Rattle.std.proofs.lemmas.Option.{get_or_from_slice_get, none-some, slice_get-map, slice_get_within}
pub use Rattle.std.proofs.lemmas.Result.{err_from_is_err_and}
pub use Rattle.std.specs.List.{cons_option, list_all}
pub use Rattle.std.specs.Option.{option_map}
pub use Rattle.std.specs.Prelude.{All, AllPairs, codes, filter_map, IfSome, option_and_then, slice_get, unwrap_or}
pub use Rattle.tile_ids.specs.Coord.{Coord}
