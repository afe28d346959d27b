-- What the crate's proofs name of the crates below and of its specs, passed on from one place. Declares nothing.
pub use Rattle.mb_lists.proofs.Dropped.{AreLike, gone_after, kept_after, like_all}
pub use Rattle.mb_lists.proofs.Finding.{find_none, found_in}
pub use Rattle.mb_lists.proofs.Items.{Apart-tail, equal_of, found_itself, look_up, others_apart}
pub use Rattle.mb_lists.proofs.NameLemmas.{names_antisymmetric}
pub use Rattle.mb_lists.proofs.Newest.{find_newest, newest_apart}
pub use Rattle.mb_lists.proofs.Places.{places_antisymmetric}
pub use Rattle.mb_lists.proofs.ReaderLemmas.{content_none, content_some, dates_found, dates_missing, id_none, id_some, live_has, name_found, name_missing, name_read, name_some, names_count}
pub use Rattle.mb_lists.proofs.ReaderLemmas.{removed_none, standing_same, tile_none, tile_read, tile_some, tile_there, tile_within, tiles_count}
pub use Rattle.mb_lists.proofs.Readers.{found_at, live_entries}
pub use Rattle.mb_lists.proofs.Sorting.{apart_permuted, distinct_from_apart, found_permuted, map_permuted}
pub use Rattle.mb_lists.proofs.StandsLemmas.{order_same, stands_from, stands_itself}
pub use Rattle.mb_lists.specs.Clearing.{Clears, name_mark}
pub use Rattle.mb_lists.specs.Dating.{dated_as, dated_last, redated, Redates}
pub use Rattle.mb_lists.specs.Dropping.{has_id, is_unnamed, marked_unnamed}
pub use Rattle.mb_lists.specs.Entries.{content_value, is_cache, is_content_gone, is_name_gone, is_removed, name_value, nothing, unless_removed}
pub use Rattle.mb_lists.specs.Keyed.{at_key, live_at, newest, StandsAs}
pub use Rattle.mb_lists.specs.declared.entries.Standing.{Standing}
pub use Rattle.mb_loaded.specs.Aggregate.{hash_of, in_hexadecimal, tile_text}
unfoldable pub use Rattle.mb_loaded.specs.Aggregate.{aggregate}
pub use Rattle.mb_loaded.specs.Changing.{AreChangesOf, cells_for, content_row_by, content_table, front, hash_cell, id_edited, is_own_table, name_edited, name_row_by, place_edited, tile_key}
pub use Rattle.mb_loaded.specs.Changing.{tile_row_by}
pub use Rattle.mb_loaded.specs.Common.{Apart, AreContentsInOrder, AreInOrder, AreNamesInOrder, Blob, blob_cell, Cache, Cell, cell_cmp, cell_eq, Change, contains_key, Content, content_at, Contents}
pub use Rattle.mb_loaded.specs.Common.{contents_held, Coord, Dates, digest, empty, entries, entries_by, FinMap, Flat, FlatWithHash, from_entries, get, HashAlgorithm, HasId, id_at, if_edited, insert}
pub use Rattle.mb_loaded.specs.Common.{Int, IntId, is_gone, is_null, IsDated, IsName, IsTile, Kept, key_width, len, listed, MbtType, Metadata, name_of, Names, names_held, nat_cmp, newest_ids}
pub use Rattle.mb_loaded.specs.Common.{newest_names, newest_tiles, Normalized, Null, PatchType, Place, place_at, place_cmp, place_of, Put, Removed, retain_keys, RowKey, slice_cmp, StoredName}
pub use Rattle.mb_loaded.specs.Common.{StoredTile, table_eq, Text, text_cell, text_of, TextId, Tile, tile_dates, tile_id, tile_mark, tile_table, tile_value, tiles_held, TileSet}
pub use Rattle.mb_loaded.specs.Copying.{Adds, AreCopies, Edits, entry_of, held_copying, id_of, IsCopied, IsCopying, IsPutAt, put_content, Puts, Removes, tile_copied, tiles_copied}
pub use Rattle.mb_loaded.specs.Edits.{dates_for, id_for, is_named, no_dates, only_referenced, removed_name, removed_tile, unnamed_ids, with_content, with_dates, with_key, with_name, with_null}
pub use Rattle.mb_loaded.specs.Edits.{with_tile, with_tiles, with_value, without_name, without_tile}
pub use Rattle.mb_loaded.specs.FromLast.{from_last, tile_patched, tiles_put}
pub use Rattle.mb_loaded.specs.GivenIds.{cell_id, content_id, ids_at, ids_given}
pub use Rattle.mb_loaded.specs.Held.{Held, nothing_edited}
pub use Rattle.mb_loaded.specs.HeldEntries.{held_of}
pub use Rattle.mb_loaded.specs.Moving.{AreLeft}
pub use Rattle.mb_loaded.specs.PutRows.{cells_kept, change_by, content_change, digest_cell, id_key, listed_change, name_change, row_of_content, row_of_name, row_of_tile, tile_change, with_any}
pub use Rattle.mb_loaded.specs.Sharing.{tile_with}
pub use Rattle.mb_loaded.specs.Taking.{AreLast, AreUnspent, IsSpent, Spends, taken}
pub use Rattle.mb_loaded.specs.declared.copying.Copying.{Copying}
pub use Rattle.mb_tables.proofs.CellLemmas.{cell_cmp-IsAntisymmetric, cells_eq-Decides}
pub use Rattle.mb_tables.proofs.TileLemmas.{places_total}
pub use Rattle.mb_tables.specs.Cell.{cells_eq}
pub use Rattle.mb_tables.specs.CellOrder.{cells_total}
pub use Rattle.mb_tables.specs.Table.{table_number}
pub use Rattle.mb_tables.specs.Tiles.{contents_of}
pub use Rattle.mb_tables.specs.declared.table.TableName.{TableName}
pub use Rattle.std.proofs.Common.{ap, append-nil, append_assoc, arith, Bool, cond, drop, false, filter, find, flat_map, get_or, IfOk, inl, inr, is_some, length, length-drop, List, map, nat_eq, nat_lt}
pub use Rattle.std.proofs.Common.{None, not, Option, refl, replicate, Result, reverse, set, Some, subst, suc, sym, take, take_all, true, zero, ℕ, ℤ, [], ◌&&◌, ◌++◌, ◌+◌, ◌-◌, ◌<◌, ◌||◌, ◌∙◌, ◌∷◌, ◌≡◌}
pub use Rattle.std.proofs.Common.{◌≢◌, ◌≤◌, ◌⊎◌}
pub use Rattle.std.proofs.lemmas.Bool.{and_left, cases_eq, cases_lt, false≢true, or_left, or_right}
pub use Rattle.std.proofs.lemmas.Bool.Decides.{Decides-eqb, Decides-ltb, nat_tests}
pub use Rattle.std.proofs.lemmas.Cmp.{nat_list_cmp_total}
pub use Rattle.std.proofs.lemmas.List.{drop_more, get_or-drop, get_or-take, get_or_default, length-map, length-replicate, length-set, length-take-le, nil_from_length, reverse-append, take-append-drop}
pub use Rattle.std.proofs.lemmas.List.{take_more, with_items_is}
pub use Rattle.std.proofs.lemmas.List.Elements.{All-append, All-cons, All-contains, All-head, All-map, All-nil, All-push, All-tail, All-take, All-weaker, filter_map-append}
pub use Rattle.std.proofs.lemmas.List.Sorted.{All-permutation, IsPermutation-reverse, IsPermutation-sym, IsPermutation-trans, list_any-IsPermutation}
pub use Rattle.std.proofs.lemmas.Option.{get_or_from_slice_get, none-some, same_Some, slice_get-get_or, slice_get-map, slice_get_within}
pub use Rattle.std.specs.Cmp.{IsTotalOrder, tied_itself}
pub use Rattle.std.specs.FinMap.{entries-insert, get-entries, get-from_entries, get-insert, get-remove, get-retain_keys, IsAntisymmetric, len-empty, len-entries, same_map}
pub use Rattle.std.specs.FinMap.Entries.{by_order, find-where_key}
pub use Rattle.std.specs.List.{cons_option, list_any, position_or_len}
pub use Rattle.std.specs.List.Sorted.{IsPartitionPoint, IsPermutation}
pub use Rattle.std.specs.Option.{option_map, option_or}
pub use Rattle.std.specs.Ordering.{eq_by_cmp, is_eq}
pub use Rattle.std.specs.Prelude.{All, Contains, Err, filter_map, IfSome, Ok, OnOk, option_and_then, option_to_list, position, slice_get, unwrap_or}
pub use Rattle.std.specs.Vec.{with_item, with_items}
pub use Rattle.std.specs.declared.cmp.Ordering.{Ordering}
unfoldable pub use Rattle.tile_hash.specs.HashStream.{HasTaken}
