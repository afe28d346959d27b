-- What the crate's proofs name of the crates below and of its specs, passed on from one place. Declares nothing.
pub use Rattle.mb_edit.specs.Applying.{answer_of, applied, IsAnsweredBy, IsApplied, put_row, stands_in}
pub use Rattle.mb_edit.specs.Collision.{collides, has_twin, is_other}
pub use Rattle.mb_edit.specs.Common.{after_hash, agg_hash, AllOnBoard, Answers, base_refused, before_hash, Blob, bytes_eq, Cell, cell_at, cell_cmp, cell_eq, cells_for, cons_option, contains_key}
pub use Rattle.mb_edit.specs.Common.{content_table, Contents, dates_for, DedupId, digest, entries, find, FinMap, first_refusal, front, get, get-from_entries, HashAlgorithm, Held, id_for, IdCollision}
pub use Rattle.mb_edit.specs.Common.{is_editable, is_eq, is_free, is_named, is_normalized, is_null, is_set_table, IsLoadedFrom, IsOnBoard, list_any, MbtError, MbtType, name_of, Names, NamesAlgorithm}
pub use Rattle.mb_edit.specs.Common.{nat_cmp, Normalized, nothing_edited, patch_refused, Place, place_cmp, place_of, refused_by, retain_keys, State, state_of, table_eq, TableName, Tables, Tests, Text}
pub use Rattle.mb_edit.specs.Common.{text_at, then, tile_key, tile_table, TileSet, unless, unless_forced, UnsupportedCopyOperation, UnsupportedHashAlgorithm, UnsupportedPatchType, with_name}
pub use Rattle.mb_edit.specs.HeldPatched.{from_last, held_patched, name_patched, names_patched, null_cleared, tile_patched, tiles_patched}
pub use Rattle.mb_edit.specs.Marks.{AreMarked, bytes_of, Entries, IsMarked, IsMarkOf}
pub use Rattle.mb_edit.specs.Patched.{is_null_at, landed, meta_patched, over, patched, patched_at, patched_by, put_entry, target_of}
pub use Rattle.mb_edit.specs.PatchingOrder.{bytes_put, can_be_patched, id_collides, may_patch, wrong_algorithm, wrong_base}
pub use Rattle.mb_edit.specs.Put.{may_put, state_put, tiles_put}
pub use Rattle.mb_edit.specs.Step.{content_entry, contents_over, state_patched, step}
pub use Rattle.mb_edit.specs.declared.collision.Mark.{Mark}
pub use Rattle.mb_lists.proofs.NameLemmas.{names_antisymmetric}
pub use Rattle.mb_lists.proofs.Places.{places_antisymmetric}
pub use Rattle.mb_lists.specs.Entries.{blob_cell, text_cell}
pub use Rattle.mb_lists.specs.declared.dates.Dates.{Dates}
pub use Rattle.mb_load.proofs.CommitLemmas.{committed, places_stand}
pub use Rattle.mb_load.proofs.EditedFrom.{from_only_referenced, from_removed_name, from_removed_tile, from_with_name, from_with_tile, less_apart}
pub use Rattle.mb_load.proofs.FrameLemmas.{null_ids_stay, other_tables_stay}
pub use Rattle.mb_load.proofs.PutRowLemmas.{front_read, itself}
pub use Rattle.mb_load.proofs.StateAgain.{state_again}
pub use Rattle.mb_load.specs.Committing.{MakesChanges}
pub use Rattle.mb_load.specs.LoadedFrom.{IsLoadable}
pub use Rattle.mb_loaded.specs.Changing.{AreChangesOf, id_edited, name_edited, place_edited, tile_row}
pub use Rattle.mb_loaded.specs.Editable.{IsFree}
pub use Rattle.mb_loaded.specs.Edits.{with_content, with_key, with_value}
pub use Rattle.mb_loaded.specs.GivenIds.{cell_id}
pub use Rattle.mb_loaded.specs.Held.{Edited}
pub use Rattle.mb_store.specs.Committing.{Commits}
pub use Rattle.mb_store.specs.Store.{IsSound}
pub use Rattle.mb_store.specs.declared.change.Change.{Change}
pub use Rattle.mb_tables.proofs.CellLemmas.{cell_cmp-IsAntisymmetric, cell_eq-Decides, cells_eq-Decides}
pub use Rattle.mb_tables.proofs.TileLemmas.{places_total}
pub use Rattle.mb_tables.specs.CellOrder.{cells_total}
pub use Rattle.mb_tables.specs.Key.{has_key, key_cells}
pub use Rattle.mb_tables.specs.Table.{key_of, key_width}
pub use Rattle.mb_tables.specs.declared.cell.Cell.TheVariants.{Int}
pub use Rattle.mb_tables.specs.declared.key.RowKey.{RowKey}
pub use Rattle.mb_tables.specs.declared.key.RowKey.TheVariants.{IntId, TextId, Tile}
pub use Rattle.mb_tables.specs.declared.kind.NormalizedSchema.{NormalizedSchema}
pub use Rattle.mb_tables.specs.declared.kind.NormalizedSchema.TheVariants.{Hash}
pub use Rattle.mb_tables.specs.declared.table.TableName.TheVariants.{Metadata}
pub use Rattle.std.proofs.Common.{ap, arith, Bool, cond, drop, Err, false, filter, filter_map, get_or, is_some, length, List, map, None, not, Ok, Option, refl, Result, rules, Some, subst, suc, sym}
pub use Rattle.std.proofs.Common.{take, true, zero, ℕ, [], ◌&&◌, ◌++◌, ◌-◌, ◌<◌, ◌||◌, ◌∙◌, ◌∷◌, ◌≡◌, ◌≤◌}
pub use Rattle.std.proofs.Math.Bool.{and-false, or-false, or-true}
pub use Rattle.std.proofs.lemmas.Bool.{false≢true, not-false, or_parts}
pub use Rattle.std.proofs.lemmas.Cmp.{nat_list_cmp_total}
pub use Rattle.std.proofs.lemmas.List.{drop_all, length-map}
pub use Rattle.std.proofs.lemmas.Slice.Eq.{bytes_eq-Decides}
pub use Rattle.std.specs.Cmp.{Equal-is, IsTotalOrder, tied_itself}
pub use Rattle.std.specs.Cmp.Lexicographic.{slice_cmp}
pub use Rattle.std.specs.FinMap.{entries_sorted, get-empty, get-entries, get-insert, get-remove, get-retain_keys, get_tied, insert, IsAntisymmetric, len-entries, remove, same_map}
pub use Rattle.std.specs.FinMap.Entries.{below_all, is_sorted}
pub use Rattle.std.specs.Option.{option_or}
pub use Rattle.std.specs.Ordering.{eq_by_cmp}
pub use Rattle.std.specs.Prelude.{codes, IfSome, option_and_then, option_map, option_to_list, slice_get, T, ◌==◌}
pub use Rattle.std.specs.declared.cmp.Ordering.{Ordering}
