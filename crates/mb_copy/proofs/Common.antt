-- What the crate's proofs name of the crates below and of its specs, passed on from one place. Declares nothing.
pub use Rattle.mb_copy.specs.Chosen.{duplicates, has_both, is_copied_name, is_put, is_put_name, name_there, names_to_put, tile_there, tiles_to_put, times_to_put, wins}
pub use Rattle.mb_copy.specs.Clearing.{failing, IsSource, removed_all, unput_names, unput_places}
pub use Rattle.mb_copy.specs.Common.{agg_hash, AllOnBoard, Answers, AreTimes, bytes_eq, bytes_put, contains_key, CopyDuplicateMode, created, Dates, dates_for, entries, FinMap, first_refusal, fresh}
pub use Rattle.mb_copy.specs.Common.{from_last, get, HashAlgorithm, Held, id_collides, id_for, is_cache, is_editable, is_free, is_normalized, is_null_at, IsBegun, IsLoadedFrom, list_any, MakesChanges}
pub use Rattle.mb_copy.specs.Common.{MbtError, MbtType, name_of, Names, NonEmptyTargetFile, over, Override, patched, patched_by, Place, place_at, place_cmp, refused_by, remove, retain_keys}
pub use Rattle.mb_copy.specs.Common.{set_tables, started_as, State, state_of, Tables, Tests, then, tiles_put, TileSet, unless, UnsupportedCopyOperation}
unfoldable pub use Rattle.mb_copy.specs.Common.{aggregate, begun}
pub use Rattle.mb_copy.specs.Copied.{copied, copied_metadata, entries_put, merged, stored_aggregate, stored_algorithm, stores_aggregate, text_entries, times_entry, times_over, times_put, with_copies}
pub use Rattle.mb_copy.specs.CopyOrder.{copy_answer, into_answer, invalid, made_state, may_copy, may_copy_over, mode_missing, over_answer, put_refusals}
pub use Rattle.mb_copy.specs.CopyWords.{copies_metadata}
pub use Rattle.mb_copy.specs.Copying.{has_any, IsAnew, IsAnswered, IsCopied, IsCopiedBy, IsLeft, IsLeftBy, IsOver, IsPut, IsPutInto}
pub use Rattle.mb_copy.specs.HeldCopied.{all_times_put, held_completed, held_copied, held_with, held_with_names, IsPutIn, name_put, null_at, null_put, nulls_put, time_put, times_at}
pub use Rattle.mb_copy.specs.PatchOrder.{expected_hash, hash_off, may_be_patch, may_be_patched, may_copy_anew, may_copy_patched, patch_answer, source_answer}
pub use Rattle.mb_copy.specs.PatchedSource.{hashes_removed, is_hash_name, name_patched, name_patched_at, names_patched, source_patched}
pub use Rattle.mb_copy.specs.Target.{asked_type, kind_wrong, made_type, mode_of, wanted_algorithm, wanted_type}
pub use Rattle.mb_copy.specs.Wanted.{box_holds, is_chosen, place_passes, zoom_passes}
pub use Rattle.mb_copy.specs.declared.copier.MbtilesCopier.{MbtilesCopier}
pub use Rattle.mb_edit.proofs.EntryLemmas.{value_is_text}
pub use Rattle.mb_edit.proofs.FromLast.{none_made, one_before}
pub use Rattle.mb_edit.proofs.LoadedLemmas.{here, later}
pub use Rattle.mb_edit.proofs.PassedLemmas.{holds, pass_first, pass_rest}
pub use Rattle.mb_edit.proofs.PatchedLemmas.{find-join, first, get-left, get-over, get-patched_by, none_below, or_none, second}
pub use Rattle.mb_edit.proofs.PutLemmas.{both_pass, put_layout, put_loaded, put_state}
pub use Rattle.mb_edit.specs.Patched.{patched_at}
pub use Rattle.mb_edit.specs.Put.{may_put, state_put}
pub use Rattle.mb_lists.proofs.NameLemmas.{names_antisymmetric}
pub use Rattle.mb_lists.proofs.Places.{places_antisymmetric}
pub use Rattle.mb_lists.specs.Entries.{blob_cell, text_cell}
pub use Rattle.mb_lists.specs.Metadata.{text_at}
pub use Rattle.mb_load.proofs.BegunLemmas.{begun_err, begun_free, begun_ok}
pub use Rattle.mb_load.specs.EmptyTables.{AreEmpty}
pub use Rattle.mb_load.specs.LoadedFrom.{IsLoadable, NamesAlgorithm}
pub use Rattle.mb_load.specs.Loading.{Loads}
pub use Rattle.mb_loaded.specs.Editable.{IsOnBoard}
pub use Rattle.mb_loaded.specs.Edits.{with_value}
pub use Rattle.mb_loaded.specs.Held.{Edited, nothing_edited}
pub use Rattle.mb_store.proofs.FaultLemmas.{counted_then, still_anyway}
pub use Rattle.mb_store.specs.Store.{IsSound, with_tables}
pub use Rattle.mb_tables.proofs.TileLemmas.{places_total}
pub use Rattle.mb_tables.specs.Kind.{tile_table}
pub use Rattle.mb_tables.specs.declared.description.TableDesc.{TableDesc}
pub use Rattle.mb_tables.specs.declared.error.MbtError.TheVariants.{OutOfMemory, StoreFault}
pub use Rattle.mb_tables.specs.declared.kind.MbtType.TheVariants.{Cache, Flat, FlatWithHash, Normalized}
pub use Rattle.std.proofs.Common.{ap, append_assoc, arith, Bool, cond, drop, Err, false, filter_map, get_or, inl, inr, is_some, length, List, map, None, not, Ok, Option, refl, Result, Some, subst}
pub use Rattle.std.proofs.Common.{suc, sym, take, true, zero, ℕ, [], ◌&&◌, ◌++◌, ◌+◌, ◌<◌, ◌||◌, ◌∙◌, ◌∷◌, ◌≡◌, ◌≤◌, ◌⊎◌}
pub use Rattle.std.proofs.lemmas.Bool.{false≢true}
pub use Rattle.std.proofs.lemmas.Cmp.{nat_list_cmp_total}
pub use Rattle.std.proofs.lemmas.Result.{err_from_is_err_and}
pub use Rattle.std.specs.Cmp.{Equal-is, IsTotalOrder, tied_itself}
pub use Rattle.std.specs.Cmp.Lexicographic.{slice_cmp}
pub use Rattle.std.specs.FinMap.{entries_sorted, find, get-empty, get-entries, get-from_entries, get-remove, get-retain_keys, insert, IsAntisymmetric, len-entries, same_map}
pub use Rattle.std.specs.List.{cons_option}
pub use Rattle.std.specs.Option.{option_or}
pub use Rattle.std.specs.Ordering.{eq_by_cmp, is_eq, nat_cmp}
pub use Rattle.std.specs.Prelude.{codes, IfErr, IfOk, IfSome, OnErr, OnOk, option_and_then, option_map, slice_get, T, unwrap_or, ◌==◌}
pub use Rattle.std.specs.declared.cmp.Ordering.{Ordering}
