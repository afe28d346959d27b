-- What the crate's proofs name of the crates below and of its specs, passed on from one place. Declares nothing.
pub use Rattle.mb_lists.specs.Clearing.{Clears, listed, name_mark, tile_mark, unmarked}
pub use Rattle.mb_lists.specs.Common.{Blob, bool_cmp, Cell, cell_at, cell_cmp, cell_eq, cons_option, content_of, Coord, eq_by_cmp, from_entries, get, insert, Int, inverted_y, is_lt, is_null, is_text}
pub use Rattle.mb_lists.specs.Common.{IsPartitionPoint, IsPermutation, IsSortedBy, list_all, list_any, MbtError, name_kind_wrong, nat_cmp, Null, Ordering, ordering_then, Other, Place, place_cmp}
pub use Rattle.mb_lists.specs.Common.{remove, slice_cmp, Text, tile_index, unless}
pub use Rattle.mb_lists.specs.Contents.{are_apart, content_entry, contents_by_id, fronts}
pub use Rattle.mb_lists.specs.Dating.{last_at, redated, Redates}
pub use Rattle.mb_lists.specs.Dropping.{is_unnamed, marked, marked_unnamed}
pub use Rattle.mb_lists.specs.Entries.{AreContentsInOrder, AreInOrder, AreNamesInOrder, blob_cell, content_at, content_value, contents_held, id_at, is_content_gone, is_gone, is_name_gone, is_removed}
pub use Rattle.mb_lists.specs.Entries.{IsName, IsTile, name_of, name_value, names_held, newest_ids, nothing, place_at, place_of, text_cell, tile_dates, tile_id, tile_value, tiles_held, unless_removed}
pub use Rattle.mb_lists.specs.FromRows.{AreIndexed, content_from, coord_in, dates_from, ids_from, index_by, name_from, number_in, own_content, own_tiles, row_kept, rows_kept, stored_by_id, undated}
pub use Rattle.mb_lists.specs.Keyed.{Apart, are_distinct, at_key, behind, entries_by, firsts, IsAt, IsGap, IsInOrder, live_at, newest, StandsAs}
pub use Rattle.mb_lists.specs.Metadata.{name_entry, name_twice, text_of}
pub use Rattle.mb_lists.specs.declared.entries.Content.{Content}
pub use Rattle.mb_lists.specs.declared.entries.Standing.{Standing}
pub use Rattle.mb_lists.specs.declared.entries.Standing.TheVariants.{Kept, Put, Removed}
pub use Rattle.mb_lists.specs.declared.entries.StoredName.{StoredName}
pub use Rattle.mb_lists.specs.declared.entries.StoredTile.{StoredTile}
pub use Rattle.mb_tables.proofs.CellLemmas.{cell_cmp-IsAntisymmetric, cell_eq-Decides, cells_eq-Decides}
pub use Rattle.mb_tables.proofs.ListLemmas.{filter_none, filter_within, find_same, none_passes}
pub use Rattle.mb_tables.proofs.TileLemmas.{places_total}
pub use Rattle.mb_tables.specs.Cell.{cells_eq}
pub use Rattle.mb_tables.specs.CellKinds.{has_name_kinds}
pub use Rattle.mb_tables.specs.CellOrder.{cells_total}
pub use Rattle.mb_tables.specs.Refusals.{first_refusal, first_refused}
pub use Rattle.mb_tables.specs.Tiles.{contents_of, number_below}
pub use Rattle.std.proofs.Common.{ap, append-nil, append_assoc, arith, Bool, cond, drop, false, filter, find, get_or, if◌then◌else◌, inl, inr, length, length-append, List, map, nat_le, nat_lt, negsuc}
pub use Rattle.std.proofs.Common.{None, not, Option, pos, refl, reverse, rules, set, Some, subst, suc, sym, take, true, zero, ℕ, [], ◌&&◌, ◌++◌, ◌+◌, ◌-◌, ◌<◌, ◌^◌, ◌||◌, ◌∙◌, ◌∷◌, ◌≡◌, ◌≤◌, ◌⊎◌}
pub use Rattle.std.proofs.Math.Seq.{drop-cons}
pub use Rattle.std.proofs.lemmas.Bool.{and_from, and_parts, cases_eq, cases_lt, false≢true}
pub use Rattle.std.proofs.lemmas.Cmp.{eq_by_cmp_equiv, on_total, then_total}
pub use Rattle.std.proofs.lemmas.Fn.{always_returns_same, dedup_same}
pub use Rattle.std.proofs.lemmas.List.{get_or-drop, get_or-set_other, get_or-set_same, get_or-take, get_or_append_left, get_or_push, length-drop, length-set, length-take-le, length_push}
pub use Rattle.std.proofs.lemmas.List.{reverse-append}
pub use Rattle.std.proofs.lemmas.List.Edits.{get_or-insert_above, get_or-insert_at, get_or-insert_below, get_or-remove_above, get_or-remove_below, length-insert, length-remove}
pub use Rattle.std.proofs.lemmas.List.Elements.{All-cons, All-from_get_or, All-from_recursion, All-get_or, All-head, All-tail, at_from_Contains, Contains-get_or, filter_agree, filter_passes}
pub use Rattle.std.proofs.lemmas.List.Elements.{recursion_from_All}
pub use Rattle.std.proofs.lemmas.List.Kept.{AllPairs-cons, AllPairs-filter, IsStrictlySortedBy-dedup}
pub use Rattle.std.proofs.lemmas.List.Sorted.{All-permutation, answers_always, Contains-permutation, IsPermutation-reverse, IsPermutation-sym, ranks_by, searchable_from_sorted, sorted_far}
pub use Rattle.std.proofs.lemmas.Option.{get_or_from_slice_get, none-some, slice_get-get_or, slice_get-map, slice_get_past, slice_get_within}
pub use Rattle.std.specs.Cmp.{bool_cmp_total, IsTotalOrder, nat_cmp_total, tied_itself}
pub use Rattle.std.specs.Cmp.Lexicographic.{nat_list_cmp_total}
pub use Rattle.std.specs.FinMap.{entries, entries-from_sorted, from_sorted, get-from_entries, get-from_sorted, IsAntisymmetric, len, len-entries, nat_cmp-IsAntisymmetric, same_map}
pub use Rattle.std.specs.FinMap.{slice_cmp-IsAntisymmetric}
pub use Rattle.std.specs.List.{AllAdjacentBelow, dedup, dedup_from}
unfoldable pub use Rattle.std.specs.List.{IsDistinct}
pub use Rattle.std.specs.List.Sorted.{IsBinarySearchResult, IsPartitionedBy, IsSearchInRange, IsStableBy, ties}
unfoldable pub use Rattle.std.specs.List.Sorted.{IsStrictlySortedBy}
pub use Rattle.std.specs.Option.{option_map, option_or}
pub use Rattle.std.specs.Ordering.{is_eq, ordering_reverse}
pub use Rattle.std.specs.Prelude.{All, AllPairs, Contains, Err, filter_map, IfErr, IfOk, IfSome, is_ok, is_some, Ok, option_and_then, option_to_list, position, Result, slice_get, slice_index_or, T}
pub use Rattle.std.specs.Prelude.{unwrap_or}
pub use Rattle.std.specs.Vec.Iter.{into_iter_items}
pub use Rattle.std.specs.declared.cmp.Ordering.TheVariants.{Equal, Greater, Less}
pub use Rattle.tile_ids.specs.Coord.{index_of, IsCoord}
