-- What the crate's proofs name of the crates below and of its specs, passed on from one place. Declares nothing.
pub use Rattle.mb_store.specs.ByTable.{at}
pub use Rattle.mb_store.specs.ChangeIndex.{IsIndex, table_key_of}
pub use Rattle.mb_store.specs.Changes.{AreChanges, is_own, same_key, with_change}
pub use Rattle.mb_store.specs.Committing.{AreOfTables, Commits, CommitsTable, is_changed}
pub use Rattle.mb_store.specs.Common.{bytes_eq, Cell, cells_cmp, cells_eq, clash, eq_by_cmp, eq_by_cmp_equiv, has_key, Images, insert_key, is_eq, is_gt, is_keyed, is_null, is_table, IsInOrder}
pub use Rattle.mb_store.specs.Common.{IsTotalOrder, key_cells, key_cmp, key_of, list_any, Map, MbtError, Metadata, names_apart, nat_cmp, nat_cmp_total, option_copied, option_map, option_map_or}
pub use Rattle.mb_store.specs.Common.{Ordering, ordering_then, position_or_len, row_cmp, table_eq, table_number, TableDesc, TableName, Tables, TileCache, Tiles, TilesData, TilesShallow, TilesWithHash}
pub use Rattle.mb_store.specs.Common.{width}
pub use Rattle.mb_store.specs.Editing.{AreAdded, AreBeingAdded, early_rows, keys_of, late_rows, other_rows, put_of, removed, with_put}
pub use Rattle.mb_store.specs.Errors.{RefusesTwice}
pub use Rattle.mb_store.specs.Gathered.{AreGathered, AreSeen, gathered_at, IsHeld, same_numbers, Sees, told_tables}
unfoldable pub use Rattle.mb_store.specs.Gathered.{told_at}
pub use Rattle.mb_store.specs.GatheredRows.{all_rows, AreFirst, has_own}
unfoldable pub use Rattle.mb_store.specs.MemStore.{told_of}
pub use Rattle.mb_store.specs.MemTables.{AreAllStored, AreKeyed, IsKept, MemTables, rows_at, tables_of}
pub use Rattle.mb_store.specs.Sizes.{cell_size, row_size}
pub use Rattle.mb_store.specs.Store.{IsSound, no_rows, place_for, placed, with_rows, with_tables}
pub use Rattle.mb_store.specs.StoredRow.{is_early, numbers_cells, own_key, rows_of, Stored, stored_cmp, stored_total}
pub use Rattle.mb_store.specs.TableKey.{table_key_cmp, table_keys_total}
pub use Rattle.mb_store.specs.TableRows.{AreStored, has_equal, rows_in}
pub use Rattle.mb_store.specs.declared.change.Change.{Change}
pub use Rattle.mb_store.specs.declared.gathered.Gathered.{Gathered}
pub use Rattle.mb_store.specs.declared.table_key.TableKey.{TableKey}
pub use Rattle.mb_store.specs.declared.table_rows.TableRows.{TableRows}
pub use Rattle.mb_tables.proofs.CellLemmas.{cells_eq-Decides, lists_of_cells_total}
pub use Rattle.mb_tables.proofs.ListLemmas.{AllPairs-head, AllPairs-nil, AllPairs-tail, filter_every, filter_none, filter_within, find_only, none_passes}
pub use Rattle.mb_tables.proofs.TableLemmas.{by_tables, same_table, table_eq-refl}
pub use Rattle.mb_tables.specs.Described.{is_key_index, is_table_kind}
pub use Rattle.mb_tables.specs.Table.{table_text}
pub use Rattle.mb_tables.specs.declared.error.MbtError.TheVariants.{DuplicateRow, OutOfMemory}
pub use Rattle.mb_tables.specs.declared.key.RowKey.{RowKey}
pub use Rattle.std.proofs.Common.{add-one, ap, append-nil, append_assoc, arith, Bool, Bor, cond, drop, drop-cons, Err, false, filter, find, fold, get_or, Global, if◌then◌else◌, inl, inr, is_ok}
pub use Rattle.std.proofs.Common.{length, length-append, length-drop, length-set, length-take, List, map, min, None, not, Ok, Option, refl, Result, rules, set, Some, subst, suc, sum_by, sym, take}
pub use Rattle.std.proofs.Common.{true, Vec, zero, ℕ, [], ◌&&◌, ◌++◌, ◌+◌, ◌-◌, ◌<◌, ◌==◌, ◌^◌, ◌||◌, ◌↔◌, ◌∙◌, ◌∷◌, ◌≡◌, ◌≤◌, ◌⊎◌}
pub use Rattle.std.proofs.Math.Seq.{drop-nil, take-nil, take-suc}
pub use Rattle.std.proofs.lemmas.Bool.{and_from, and_left, and_parts, cases_Bool, cases_eq, cases_lt, eq-eqb, eqb-true, false≢true, le-ltb, lt-ltb, ne_eqb}
pub use Rattle.std.proofs.lemmas.List.{drop-map, get_or-drop, get_or-set_other, get_or-set_same, get_or-take, get_or_default, length-map, take_all}
pub use Rattle.std.proofs.lemmas.List.Elements.{All-cons, All-contains_itself, All-drop, All-filter, All-head, All-nil, All-push, All-set, All-tail, All-take, All-weaker, filter_agree, filter_passes}
pub use Rattle.std.proofs.lemmas.List.Elements.{recursion_from_All}
pub use Rattle.std.proofs.lemmas.List.Folds.{Any-from_list_any, list_any-append, list_any_at, list_any_none, position_or_len-set, position_or_len_push}
pub use Rattle.std.proofs.lemmas.List.Kept.{AllPairs-cons, AllPairs-filter}
pub use Rattle.std.proofs.lemmas.List.Quantifiers.{all_pairs_push, position-Some}
pub use Rattle.std.proofs.lemmas.List.Sorted.{All-permutation, IsPermutation-cons, IsPermutation-middle, IsPermutation-refl, IsPermutation-sym, IsPermutation-trans, length_permutation}
pub use Rattle.std.proofs.lemmas.List.Sorted.{list_any-IsPermutation}
pub use Rattle.std.proofs.lemmas.List.Sums.{fails_before_first, passes_at_first, position_or_len_is, prefix_len-le-length, sum_by-cons, sum_by-insert}
pub use Rattle.std.proofs.lemmas.Map.Keys.{apart_from_distinct, IsDistinct-from_apart, IsDistinct-IsPermutation, IsDistinct-push, sorted_from_all_adjacent}
pub use Rattle.std.specs.BTreeMap.{BTreeMap, get, is_at}
pub use Rattle.std.specs.Cmp.{both_tied, both_ways, IsEquivalence, tied_itself, unsigned_ties, upto}
pub use Rattle.std.specs.List.{AllByRecursion, Any, Contains, insert}
unfoldable pub use Rattle.std.specs.List.{IsDistinct}
pub use Rattle.std.specs.List.Sorted.{IsPermutation, IsSorted}
unfoldable pub use Rattle.std.specs.List.Sorted.{IsStrictlySortedBy}
pub use Rattle.std.specs.Ordering.{is_le, is_lt, match_ordering, ordering_reverse}
pub use Rattle.std.specs.Prelude.{All, AllPairs, IfOk, IfSome, is_some, IsErrOf, nat_lt, OnErr, OnOk, option_to_list, position}
pub use Rattle.std.specs.Set.{remove_key}
pub use Rattle.std.specs.Vec.Iter.{into_iter_items}
pub use Rattle.std.specs.declared.cmp.Ordering.TheVariants.{Equal, Greater, Less}
