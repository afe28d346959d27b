-- What the crate's proofs name of the crates below and of its specs, passed on from one place. Declares nothing.
pub use Rattle.mb_constraints.proofs.ApartPlaces.{cells_of_place, in_has_place, key_is, never_twice}
pub use Rattle.mb_constraints.proofs.ContentTests.{all_new, all_present, ids_pass, ids_refused, kinds_pass, kinds_refused, last_tested, rows_same}
pub use Rattle.mb_constraints.proofs.TilesKept.{by_all, by_entries, by_id_if, dates_by_id, id_by_id, own_all, own_at, own_entries, passed, placed, placed_entry, stored_if, tile_by_id, tile_entry}
pub use Rattle.mb_constraints.proofs.TilesKept.{whole_by_id, whole_row}
pub use Rattle.mb_constraints.specs.Described.{is_metadata}
pub use Rattle.mb_constraints.specs.Hashes.{wrong_digest, wrong_hash, wrong_id}
pub use Rattle.mb_constraints.specs.References.{id_text}
pub use Rattle.mb_constraints.specs.TileRows.{contents_in}
pub use Rattle.mb_lists.proofs.FrontLemmas.{any_from_filter, apart_from, begins, content_found, entry_from, entry_key, filter_entry, key_begins, key_whole, names_as_entries, text_cells}
pub use Rattle.mb_lists.proofs.Items.{equal_of}
pub use Rattle.mb_lists.proofs.Places.{places_antisymmetric, same_place}
pub use Rattle.mb_lists.specs.Contents.{are_apart, content_entry, Contents, fronts}
pub use Rattle.mb_lists.specs.Entries.{AreContentsInOrder, blob_cell, content_at, id_at, is_removed, text_cell}
pub use Rattle.mb_lists.specs.FromRows.{content_from, dates_from, ids_from, own_content, own_tiles, stored_by_id, undated}
pub use Rattle.mb_lists.specs.Keyed.{are_distinct}
pub use Rattle.mb_lists.specs.Metadata.{name_entry}
pub use Rattle.mb_lists.specs.declared.entries.Content.{Content}
pub use Rattle.mb_lists.specs.declared.entries.StoredTile.{StoredTile}
pub use Rattle.mb_load.specs.Committed.{is_set_table, IsCommitted}
pub use Rattle.mb_load.specs.Common.{algorithm_by, algorithm_of, algorithm_unknown, Answers, AreChangesOf, AreIndexed, AreOfTables, AreTimes, bad_tile, by_place, Cache, Cell, cell_at, Change, Commits}
pub use Rattle.mb_load.specs.Common.{contains_key, content_kind_wrong, content_row, content_rows, content_table, contents_by_id, contents_held, contents_of, Dates, dates_in, find, first_refusal}
pub use Rattle.mb_load.specs.Common.{first_refused, Flat, fresh, from_entries, get, has_key, has_name_kinds, has_tile_kinds, hash_wrong, HashAlgorithm, Held, id_in, id_twice, Images, index_missing}
pub use Rattle.mb_load.specs.Common.{InvalidDataFormat, InvalidTileIndex, is_cache, is_editable, is_free, is_id, is_normalized, is_null, IsDated, IsFree, IsOnBoard, Kept, key_cells, layout_of, Map}
pub use Rattle.mb_load.specs.Common.{MbtError, MbtType, Metadata, metadata_missing, missing_reference, MissingTileReference, name_kind_wrong, name_row, name_twice, names_held, names_of, Normalized}
pub use Rattle.mb_load.specs.Common.{nothing_edited, NoUniquenessConstraint, patch_type_of, Place, place_cmp, place_twice, reference_missing, RowKey, rows_kept, State, table_eq, TableName, Tables}
pub use Rattle.mb_load.specs.Common.{Tests, TextId, then, tile_bad, tile_dates, tile_id, tile_in, tile_key, tile_kind_wrong, tile_row, tile_table, tile_value, Tiles, tiles_held, tiles_of}
pub use Rattle.mb_load.specs.Common.{unknown_name, width, wrong_content_hash, wrong_tile_hash}
unfoldable pub use Rattle.mb_load.specs.Common.{told_of}
pub use Rattle.mb_load.specs.LoadedFrom.{AllOnBoard, at_place, FitsPlace, found, IsContentOf, IsGoodContent, IsGoodRow, IsLoadable, IsLoadedFrom, NamesAlgorithm}
pub use Rattle.mb_load.specs.Loading.{due_by, held_by, Loads, rows_due}
pub use Rattle.mb_load.specs.LoadingOrder.{refusals, row_refusals}
pub use Rattle.mb_load.specs.RowTiles.{AreTilesOf}
pub use Rattle.mb_load.specs.StateOf.{held_in, state_of, stated, unless_refused}
pub use Rattle.mb_loaded.proofs.Covering.{there}
pub use Rattle.mb_loaded.proofs.DatedLemmas.{dates_are, dates_some}
pub use Rattle.mb_loaded.specs.Changing.{cells_for, content_row_by, Covers, front, hash_cell, id_edited, is_own_table, name_edited, name_row_by, place_edited, tile_row_by}
pub use Rattle.mb_loaded.specs.Edits.{dates_for, id_for, is_named, only_referenced, removed_name, removed_tile, with_content, with_dates, with_key, with_name, with_null, with_tile, with_tiles}
pub use Rattle.mb_loaded.specs.Edits.{with_value, without_name, without_tile}
pub use Rattle.mb_loaded.specs.Held.{Edited}
pub use Rattle.mb_store.proofs.Committed.{all_committed, left_committed, others_stay}
pub use Rattle.mb_store.proofs.FaultLemmas.{counted_then, unasked}
pub use Rattle.mb_store.specs.Committing.{CommitsTable, is_changed}
pub use Rattle.mb_store.specs.MemStore.{told_sound}
pub use Rattle.mb_store.specs.Store.{IsSound, without_rows}
pub use Rattle.mb_tables.proofs.CellLemmas.{cell_cmp-IsAntisymmetric, cells_eq-Decides}
pub use Rattle.mb_tables.proofs.ListLemmas.{AllPairs-head, AllPairs-tail, filter_every, filter_none, find_only}
pub use Rattle.mb_tables.proofs.TileLemmas.{places_total}
pub use Rattle.mb_tables.specs.Cell.{cell_cmp, cell_eq, cells_eq}
pub use Rattle.mb_tables.specs.CellKinds.{is_number, is_text}
pub use Rattle.mb_tables.specs.CellOrder.{cells_total}
pub use Rattle.mb_tables.specs.Described.{is_keyed, is_table, is_table_kind}
pub use Rattle.mb_tables.specs.Detection.{detected, has_columns, has_table}
pub use Rattle.mb_tables.specs.Key.{clash}
pub use Rattle.mb_tables.specs.Refusals.{unless}
pub use Rattle.mb_tables.specs.Table.{key_of, key_width, table_text}
pub use Rattle.mb_tables.specs.Tiles.{content_of, number_below, pairs_by_id, place_of, tile_of}
pub use Rattle.mb_tables.specs.declared.cell.Cell.TheVariants.{Blob, Int, Null, Text}
pub use Rattle.mb_tables.specs.declared.description.TableDesc.{TableDesc}
pub use Rattle.mb_tables.specs.declared.error.MbtError.TheVariants.{IncorrectTileHash, StoreFault}
pub use Rattle.mb_tables.specs.declared.key.RowKey.TheVariants.{IntId, Tile}
pub use Rattle.mb_tables.specs.declared.kind.MbtType.TheVariants.{FlatWithHash}
pub use Rattle.mb_tables.specs.declared.kind.NormalizedSchema.{NormalizedSchema}
pub use Rattle.mb_tables.specs.declared.kind.NormalizedSchema.TheVariants.{DedupId, Hash}
pub use Rattle.mb_tables.specs.declared.patch_type.PatchType.{PatchType}
pub use Rattle.mb_tables.specs.declared.table.TableName.TheVariants.{TileCache, TilesData, TilesShallow, TilesWithHash}
pub use Rattle.std.proofs.Common.{ap, arith, Bool, codes, cond, drop, Err, false, filter, filter_map, get_or, inl, inr, is_some, length, List, map, nat_lt, None, not, Ok, Option, pos, refl, Result}
pub use Rattle.std.proofs.Common.{rules, slice_get, Some, subst, suc, sym, take, true, zero, ℕ, ℤ, [], ◌&&◌, ◌++◌, ◌+◌, ◌<◌, ◌^◌, ◌||◌, ◌∙◌, ◌∷◌, ◌≡◌, ◌≢◌, ◌≤◌, ◌⊎◌}
pub use Rattle.std.proofs.Math.Bool.{and-false, or-true}
pub use Rattle.std.proofs.lemmas.Bool.{and_from, and_parts, and_right, false≢true, or_cases, or_right}
pub use Rattle.std.proofs.lemmas.Bool.Decides.{Decides-ltb}
pub use Rattle.std.proofs.lemmas.Cmp.{nat_list_cmp_total}
pub use Rattle.std.proofs.lemmas.List.Elements.{All-cons, All-head, All-nil, All-tail, All-weaker}
pub use Rattle.std.proofs.lemmas.Option.{get_or_from_slice_get, none-some, same_Some, slice_get-get_or, slice_get_within}
pub use Rattle.std.proofs.lemmas.Result.{err_from_is_err_and}
pub use Rattle.std.specs.Cmp.{IsTotalOrder, tied_itself}
pub use Rattle.std.specs.Cmp.Lexicographic.{slice_cmp}
pub use Rattle.std.specs.FinMap.{empty, entries, entries_sorted, FinMap, get-empty, get-entries, get-from_entries, get-insert, get-remove, insert, remove, same_map}
pub use Rattle.std.specs.List.{cons_option, list_all, list_any}
pub use Rattle.std.specs.List.Sorted.{IsPermutation}
pub use Rattle.std.specs.Option.{option_or}
pub use Rattle.std.specs.Ordering.{eq_by_cmp, is_eq, is_lt, nat_cmp}
pub use Rattle.std.specs.Prelude.{All, AllPairs, IfErr, IfNone, IfOk, IfSome, option_and_then, option_map, option_to_list, T, unwrap_or}
pub use Rattle.std.specs.Str.{bytes_eq}
pub use Rattle.std.specs.declared.cmp.Ordering.{Ordering}
pub use Rattle.tile_hash.specs.Digest.{digest, name_of}
