-- What the crate's proofs name of the crates below and of its specs, passed on from one place. Declares nothing.
pub use Rattle.mb_check.specs.AggregateHash.{algorithm_answer, checked_answer, hash_answer, own_hash_answer, stored_answer}
pub use Rattle.mb_check.specs.Common.{after_hash, agg_hash, before_hash, bytes_of, cell_at, cons_option, entries, filter_map, HashAlgorithm, insert, len, Names, Place, State, Tables, text_at, TileSet}
pub use Rattle.mb_check.specs.Common.{with_name}
unfoldable pub use Rattle.mb_check.specs.Common.{aggregate}
pub use Rattle.mb_check.specs.PatchInfo.{info_answer}
pub use Rattle.mb_check.specs.Sizes.{greatest_with, info_by, least_with, no_sizes, with_size, with_sizes, with_tile}
pub use Rattle.mb_check.specs.Totals.{capped, greatest, info_of, known, least, size_at, sizes_at, summary_answer}
unfoldable pub use Rattle.mb_check.specs.Totals.{below, zoom_infos}
pub use Rattle.mb_check.specs.Validation.{rows_answer, validated}
pub use Rattle.mb_check.specs.declared.zoom_info.ZoomInfo.{ZoomInfo}
pub use Rattle.mb_lists.specs.Entries.{blob_cell, place_at, text_cell}
pub use Rattle.mb_load.proofs.BegunLemmas.{begun_err, begun_free, begun_ok}
pub use Rattle.mb_load.specs.Committing.{MakesChanges}
pub use Rattle.mb_load.specs.LoadedFrom.{IsLoadedFrom, NamesAlgorithm}
pub use Rattle.mb_loaded.specs.Held.{Held, nothing_edited}
pub use Rattle.mb_store.proofs.FaultLemmas.{unasked}
pub use Rattle.mb_tables.specs.declared.cell.Cell.{Cell}
pub use Rattle.std.proofs.Common.{add-one, ap, arith, Bool, cond, drop, false, filter, fold, get_or, IfOk, length, List, map, max, min, None, not, Ok, Option, refl, replicate, Some, subst, suc}
pub use Rattle.std.proofs.Common.{sum_by, sym, take, true, zero, ℕ, [], ◌++◌, ◌+◌, ◌-◌, ◌<◌, ◌==◌, ◌^◌, ◌||◌, ◌∙◌, ◌∷◌, ◌≡◌, ◌≤◌}
pub use Rattle.std.proofs.lemmas.List.{drop_all, get_or-replicate, take_all, take_more}
pub use Rattle.std.proofs.lemmas.Result.{err_from_is_err_and}
pub use Rattle.std.specs.FinMap.{get, get-insert, len-entries}
pub use Rattle.std.specs.Prelude.{codes, IfSome, option_and_then, option_map, option_to_list, slice_get, sum, unwrap_or}
