-- What the crate's proofs name of the crates below and of its specs, passed on from one place. Declares nothing.
pub use Rattle.mb_cache.specs.Common.{Answers, AreOfTables, bad_tile, Blob, Cache, Cell, cell_at, Change, Commits, contents_of, Coord, created, eq_by_cmp, eq_by_cmp_equiv, first_refusal}
pub use Rattle.mb_cache.specs.Common.{first_refused, front, has_key, has_tile_kinds, int_cmp, int_cmp_total, InvalidDataFormat, InvalidTileIndex, is_changed, is_free, is_keyed, is_table, IsTotalOrder}
pub use Rattle.mb_cache.specs.Common.{Keeps, layout_of, list_any, live_size_of, MbtError, Metadata, name_kind_wrong, name_twice, nat_cmp, nat_cmp_total, NotACacheFile, NoUniquenessConstraint, Null}
pub use Rattle.mb_cache.specs.Common.{Ordering, ordering_then, Place, place_at, place_of, place_twice, ReadsOnly, row_refusals, row_size, StoreFault, TableDesc, Tables, take_while, Tests, text_cell}
pub use Rattle.mb_cache.specs.Common.{text_of, then, tile_bad, tile_key, tile_kind_wrong, tile_of, TileCache, with_rows}
unfoldable pub use Rattle.mb_cache.specs.Common.{IsStrictlySortedBy}
pub use Rattle.mb_cache.specs.Entries.{entry_at, entry_of, has_entry, is_expired, is_expired_entry, IsCacheRow, place_in, row_place}
pub use Rattle.mb_cache.specs.EntryOrder.{entries_total, entry_cmp}
pub use Rattle.mb_cache.specs.Evicting.{AreDeletes, IsDelete}
pub use Rattle.mb_cache.specs.Finding.{coord_in}
pub use Rattle.mb_cache.specs.Opening.{begin_answer, begun_with, described_answer, done, is_bare, is_cache_layout, may_begin, open_answer, Opens, OpensAs}
pub use Rattle.mb_cache.specs.Reading.{bytes_of, cached_of, IsRead}
pub use Rattle.mb_cache.specs.Seen.{AreEntries, names_refused, row_refusal, SeesRows, SeesTiles, spot_at, spot_cmp, spot_of, tiles_refused}
pub use Rattle.mb_cache.specs.Setting.{is_replaced, meta_row, moment_cell, old_entry, put_row, ReplacesEntry, SetsEntry, SetsTile, taken_back, UpdatesEntry}
pub use Rattle.mb_cache.specs.Sizing.{found_size, oversize, size_at, sizes_at, SomeRounds, WithoutRounds}
unfoldable pub use Rattle.mb_cache.specs.Sizing.{going}
pub use Rattle.mb_cache.specs.State.{Agrees, IsCacheSet, row_at, with_passed, without}
pub use Rattle.mb_cache.specs.declared.entries.Entry.{Entry}
pub use Rattle.mb_cache.specs.declared.moments.CacheEntryMeta.{CacheEntryMeta}
pub use Rattle.mb_cache.specs.declared.moments.UnixSeconds.{UnixSeconds}
pub use Rattle.mb_cache.specs.declared.seen_rows.SeenRows.{SeenRows}
pub use Rattle.mb_cache.specs.declared.seen_tiles.SeenTiles.{SeenTiles}
pub use Rattle.mb_constraints.proofs.ApartPlaces.{in_has_place, never_twice}
pub use Rattle.mb_constraints.specs.Algorithm.{algorithm_of, algorithm_unknown, stored_algorithm, unknown_name}
pub use Rattle.mb_constraints.specs.Described.{index_missing, is_metadata, metadata_missing}
pub use Rattle.mb_constraints.specs.Hashes.{hash_wrong, wrong_content_hash}
pub use Rattle.mb_constraints.specs.TileRows.{tile_in}
pub use Rattle.mb_lists.proofs.Items.{equal_of}
pub use Rattle.mb_lists.specs.Entries.{AreNamesInOrder, is_name_gone, name_of, names_held}
pub use Rattle.mb_lists.specs.Keyed.{are_distinct, live_at}
pub use Rattle.mb_lists.specs.Metadata.{names_of}
pub use Rattle.mb_load.proofs.PutRowLemmas.{tied}
pub use Rattle.mb_load.proofs.RowsPass.{ArePassing, both_none, holds, pass_all, passing}
pub use Rattle.mb_load.proofs.StateLemmas.{made, no_fault, store_free}
pub use Rattle.mb_load.specs.StateOf.{held_in, state_of, stated, unless_refused}
pub use Rattle.mb_loaded.specs.Editable.{IsOnBoard}
pub use Rattle.mb_store.specs.Changes.{same_key, with_change}
pub use Rattle.mb_store.specs.Store.{IsSound, with_tables}
pub use Rattle.mb_tables.proofs.CellLemmas.{cells_eq-Decides}
pub use Rattle.mb_tables.proofs.ListLemmas.{AllPairs-head, AllPairs-tail, filter_every}
pub use Rattle.mb_tables.proofs.TableLemmas.{same_table}
pub use Rattle.mb_tables.specs.Cell.{cells_eq, is_null}
pub use Rattle.mb_tables.specs.CellKinds.{has_name_kinds, is_number, is_text}
pub use Rattle.mb_tables.specs.Key.{clash, key_cells}
pub use Rattle.mb_tables.specs.Refusals.{unless}
pub use Rattle.mb_tables.specs.Schema.{set_tables}
pub use Rattle.mb_tables.specs.Table.{key_of, table_eq, table_number}
pub use Rattle.mb_tables.specs.Tiles.{place_cmp}
pub use Rattle.mb_tables.specs.declared.cell.Cell.TheVariants.{Other}
pub use Rattle.mb_tables.specs.declared.kind.MbtType.TheVariants.{Flat}
pub use Rattle.mb_tables.specs.declared.table.TableName.{TableName}
pub use Rattle.std.proofs.Common.{ap, append_assoc, arith, Bool, BTreeSet, cond, drop, Err, false, filter, get_or, inr, is_some, length, length-append, length-drop, length-take, List, lit<, map, min}
pub use Rattle.std.proofs.Common.{nat_le, nat_lt, None, not, Ok, Option, refl, Result, rules, set, Some, subst, suc, sum_by, sym, take, take-append-drop, take_all, true, unwrap_or, zero, ℕ, ℤ, []}
pub use Rattle.std.proofs.Common.{◌&&◌, ◌*◌, ◌++◌, ◌+◌, ◌-◌, ◌<◌, ◌==◌, ◌^◌, ◌||◌, ◌∙◌, ◌∷◌, ◌≡◌, ◌≤◌}
pub use Rattle.std.proofs.Math.Bool.{and-true, or-false}
pub use Rattle.std.proofs.lemmas.Bool.{and_from, and_left, and_parts, and_right, eq-eqb, eqb-true, false_from_ne_true, false≢true, le-ltb, leb-false, leb-true, lt-ltb, ltb-false, ltb-true, not-true}
pub use Rattle.std.proofs.lemmas.Bool.{or_left, or_parts, or_right}
pub use Rattle.std.proofs.lemmas.List.{append-nil, drop-drop, drop-take, drop_all, length-map, map-append, take-append-le, take-take, take_more}
pub use Rattle.std.proofs.lemmas.List.Elements.{All-cons, All-filter, All-head, All-nil, All-push, All-set, All-tail, filter_passes}
pub use Rattle.std.proofs.lemmas.List.Folds.{list_all-append, list_any-append, list_any_at, list_any_none}
pub use Rattle.std.proofs.lemmas.List.Sums.{sum_by-cons, take_while-cons}
pub use Rattle.std.proofs.lemmas.Map.Iter.{rest_all, rest_more}
pub use Rattle.std.proofs.lemmas.Map.Keys.{IsDistinct-from_sorted, sorted_head, sorted_tail}
pub use Rattle.std.proofs.lemmas.Option.{none-some, slice_get-get_or}
pub use Rattle.std.proofs.lemmas.Result.{err_from_is_err_and, IfErr-at_err}
pub use Rattle.std.specs.BTreeMap.{is_at}
pub use Rattle.std.specs.BTreeSet.{insert_key}
pub use Rattle.std.specs.Cmp.{IsEquivalence, nat_eq_equiv, tied_itself}
pub use Rattle.std.specs.FinMap.{get, int_cmp-IsAntisymmetric, IsAntisymmetric, nat_cmp-IsAntisymmetric}
pub use Rattle.std.specs.List.{AllByRecursion, cons_option, list_all}
unfoldable pub use Rattle.std.specs.List.{IsDistinct}
pub use Rattle.std.specs.Map.Iter.{deref}
pub use Rattle.std.specs.Option.{option_copied, option_or}
pub use Rattle.std.specs.Ordering.{is_eq, is_gt, match_ordering}
pub use Rattle.std.specs.Prelude.{All, AllPairs, codes, filter_map, find, IfErr, IfOk, IfSome, int_lt, IsErrOf, OnErr, OnOk, option_and_then, option_map, option_to_list, position}
pub use Rattle.std.specs.Set.{remove_key}
pub use Rattle.std.specs.declared.cmp.Ordering.TheVariants.{Equal, Greater, Less}
