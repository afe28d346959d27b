-- What the crate's proofs name of the crates below and of its specs, passed on from one place. Declares nothing.
pub use Rattle.byte_media.proofs.KeptLemmas.{medium_then, reads_then}
pub use Rattle.byte_media.specs.Kept.{ReadsOnly}
pub use Rattle.mb_edit.specs.Applying.{put_row, stands_in}
pub use Rattle.mb_edit.specs.HeldPatched.{held_patched, names_patched, nulls_cleared, tiles_patched}
pub use Rattle.mb_edit.specs.Step.{state_patched}
pub use Rattle.mb_lists.proofs.AddressLemmas.{address_within, coord_address, coord_placed, one_tie}
pub use Rattle.mb_lists.proofs.Places.{same_place}
pub use Rattle.mb_load.proofs.EditedFrom.{stay_named}
pub use Rattle.mb_store.specs.declared.mem_store.MemStore.{MemStore}
pub use Rattle.mb_tables.specs.Tiles.{is_solid, place_cmp}
pub use Rattle.pm_format.specs.WellFormed.{header_of}
pub use Rattle.pm_writer.proofs.Sorted.{adds_distinct, sorted_archivable, sorted_formed, sorted_map}
pub use Rattle.pm_writer.proofs.Took.{all_took_as, few_took, filled_took, low_took, sorted_took, told_as_given, told_themselves, took_as, took_fits_at, took_more}
pub use Rattle.pm_writer.specs.Bounds.{AllSized, OptionsFit}
pub use Rattle.pm_writer.specs.Took.{Took}
pub use Rattle.pm_writer.specs.Writing.{add_to, AddFits, has_failed, Writes}
pub use Rattle.std.proofs.Common.{All, ap, append-nil, arith, Bool, cond, drop, Err, false, filter, filter_map, get_or, IfErr, IfOk, IfSome, inl, inr, is_some, IsErrAnd, length, List, map, nat_eq}
pub use Rattle.std.proofs.Common.{nat_le, None, not, Ok, Option, refl, Result, rules, set, Some, subst, suc, sum_by, sym, T, take, tests, true, zero, ℕ, [], ◌&&◌, ◌++◌, ◌+◌, ◌<◌, ◌^◌, ◌||◌, ◌∙◌, ◌∷◌}
pub use Rattle.std.proofs.Common.{◌≡◌, ◌≢◌, ◌≤◌, ◌⊎◌}
pub use Rattle.std.proofs.lemmas.Bool.{and_from, and_parts, false≢true}
pub use Rattle.std.proofs.lemmas.Bool.Decides.{nat_tests}
pub use Rattle.std.proofs.lemmas.List.{drop_all, drop_more, get_or-map, get_or-set_other, get_or-set_same, length-map, length-set, map-append, map-set, take_all, take_more}
pub use Rattle.std.proofs.lemmas.List.Elements.{All-append, All-cons, All-get_or, All-head, All-nil, All-set, All-tail, filter_map-append}
pub use Rattle.std.proofs.lemmas.List.Sorted.{All-permutation, Contains-permutation, IsNonDecreasingBy-from_sort_by_key, IsPermutation-map, IsPermutation-sym, length_permutation, sum_by-IsPermutation}
pub use Rattle.std.proofs.lemmas.List.Sums.{sum_by-cons}
pub use Rattle.std.proofs.lemmas.Option.{get_or_from_slice_get}
pub use Rattle.std.specs.Cmp.{eq_by_cmp_equiv, IsTotalOrder, nat_cmp_total, tied_itself}
pub use Rattle.std.specs.FinMap.{empty, entries_sorted, from_entries, get-empty, get-entries, get-from_entries, len-entries, nat_cmp-IsAntisymmetric}
pub use Rattle.std.specs.List.{AllByRecursion, cons_option, Contains}
unfoldable pub use Rattle.std.specs.List.{IsDistinct}
pub use Rattle.std.specs.List.Sorted.{IsNonDecreasingBy, IsPermutation}
pub use Rattle.std.specs.Ordering.{eq_by_cmp, is_eq, is_lt, ordering_reverse}
pub use Rattle.std.specs.Prelude.{is_ok, IsOk, option_and_then, option_to_list, slice_get, slice_index, unwrap_or}
pub use Rattle.std.specs.declared.cmp.Ordering.TheVariants.{Equal, Greater, Less}
pub use Rattle.tile_bridge.specs.Adds.{add_of, AreAddsOf, AreFilled, AreWithin, bytes_at, cell_bytes, content_at, Ranged, shown}
pub use Rattle.tile_bridge.specs.Base.{BaseLeaves, IsBaseAfter}
pub use Rattle.tile_bridge.specs.Common.{address, archive_map, AreFew, bytes_of, Cell, contains_key, Coord, entries, find, fresh, get, Held, id_of, InRange, is_free, is_sorted, IsCoord, IsHiddenOr}
pub use Rattle.tile_bridge.specs.Common.{IsLoadedFrom, KeepsMedium, len, list_all, list_any, MAX_TILE_ID, MbtError, NamesAlgorithm, nat_cmp, nothing_edited, option_map, option_map_or, Options, Place}
pub use Rattle.tile_bridge.specs.Common.{place_of, places_of, places_read, PmtError, Rose, solid, State, state_of, step, Tables, TileSet, TookAll, WellFormed}
unfoldable pub use Rattle.tile_bridge.specs.Common.{aggregate, archive, told_of}
pub use Rattle.tile_bridge.specs.Convert.{ConvertCauses, ConvertLeaves, HasAggregate, HasPlaces, HoldsExactly, IsArchiveOf, IsConverted, IsEmpty, IsPlain, LeavesPart, SetCauses, SetLeaves}
pub use Rattle.tile_bridge.specs.Convert.{ShowsNoPart}
pub use Rattle.tile_bridge.specs.Leaves.{IsBaseOf, IsOfSet, IsUntouched, Leaves}
pub use Rattle.tile_bridge.specs.Outcome.{all_patched, at_place, due, one_patched, outcome, overflows, tested, then}
pub use Rattle.tile_bridge.specs.Patching.{all_held, AreStatesOf, AreToldBy, has_place, HoldsState, is_patched_at, is_patched_row, IsBaseWith, IsHeldFrom, IsPatched, IsPatchedBy, IsPatchedByAll}
pub use Rattle.tile_bridge.specs.Patching.{IsStored, rows_put}
pub use Rattle.tile_bridge.specs.ReadingBack.{answered, answered_by, GivesTile, GrewFrom, IsHindered, of_read_error, ReadBackCauses, ReadsAnswers}
pub use Rattle.tile_bridge.specs.Stands.{IsAt, MediumStands, MediumStandsAt, OthersStand, StoresStand, StoresStandAt}
pub use Rattle.tile_bridge.specs.Stores.{AreOnlyRead, due_at, due_patch, due_patches, HasFailed, IsDue, IsRefused, IsStoreError, NoneFell, refusal_at, Refuses, RoseAt}
pub use Rattle.tile_bridge.specs.Writing.{CanBeWritten, of_write_error, WriteCauses}
pub use Rattle.tile_bridge.specs.declared.adds.Add.{Add}
pub use Rattle.tile_bridge.specs.declared.error.ConvertError.{ConvertError}
pub use Rattle.tile_bridge.specs.declared.error.ConvertError.TheVariants.{IndexEntryOverflow, MediumFault, OutOfMemory, ReadBack, Store, StoreFault}
pub use Rattle.tile_bridge.specs.declared.options.ConvertOptions.{ConvertOptions}
pub use Rattle.tile_bridge.specs.declared.report.ConvertReport.{ConvertReport}
