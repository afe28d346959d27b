-- What the crate's proofs name of the crates below and of its specs, passed on from one place. Declares nothing.
pub use Rattle.byte_media.proofs.KeptLemmas.{medium_same, medium_then}
pub use Rattle.mb_constraints.proofs.ApartPlaces.{in_has_place}
pub use Rattle.mb_constraints.specs.Algorithm.{algorithm_unknown, stored_algorithm, unknown_name}
pub use Rattle.mb_constraints.specs.Described.{index_missing, metadata_missing}
pub use Rattle.mb_constraints.specs.Hashes.{hash_wrong}
pub use Rattle.mb_constraints.specs.References.{missing_reference, reference_missing}
pub use Rattle.mb_constraints.specs.TileRows.{bad_tile, contents_in, place_twice}
pub use Rattle.mb_lists.proofs.AddressLemmas.{address_within, coord_address, coord_placed, one_tie, same_address}
pub use Rattle.mb_lists.proofs.PlaceLemmas.{place_is}
pub use Rattle.mb_lists.proofs.Places.{same_place}
pub use Rattle.mb_lists.specs.Contents.{content_rows, id_twice}
pub use Rattle.mb_lists.specs.Entries.{place_at}
pub use Rattle.mb_lists.specs.FromRows.{AreIndexed, content_from, coord_in, number_in, rows_kept}
pub use Rattle.mb_lists.specs.Keyed.{are_distinct}
pub use Rattle.mb_lists.specs.Metadata.{name_twice, Names, names_of, text_at}
pub use Rattle.mb_lists.specs.declared.entries.Content.{Content}
pub use Rattle.mb_load.proofs.LoadsFrom.{loads, state_whole}
pub use Rattle.mb_load.proofs.StateLemmas.{state_is, store_free}
pub use Rattle.mb_load.specs.LoadedFrom.{FitsPlace, found, IsLoadable, IsLoadedFrom}
pub use Rattle.mb_load.specs.Loading.{due_by, held_by}
pub use Rattle.mb_loaded.specs.Held.{fresh}
pub use Rattle.mb_loaded.specs.PutRows.{id_key}
pub use Rattle.mb_store.specs.Store.{IsSound}
pub use Rattle.mb_tables.proofs.TileLemmas.{places_total}
pub use Rattle.mb_tables.specs.Cell.{is_null}
pub use Rattle.mb_tables.specs.CellKinds.{content_kind_wrong, is_id, name_kind_wrong, tile_kind_wrong}
pub use Rattle.mb_tables.specs.Detection.{patch_type_of}
pub use Rattle.mb_tables.specs.Refusals.{unless}
pub use Rattle.mb_tables.specs.Table.{table_eq}
pub use Rattle.mb_tables.specs.Tiles.{content_of, contents_of, is_solid, place_cmp, place_of, solid, tile_of}
pub use Rattle.mb_tables.specs.declared.description.TableDesc.{TableDesc}
pub use Rattle.mb_tables.specs.declared.error.MbtError.TheVariants.{InvalidTileIndex, NoUniquenessConstraint}
pub use Rattle.pm_writer.proofs.Few.{add_fits}
pub use Rattle.pm_writer.proofs.Took.{few_took, filled_took, low_took, sorted_took, took_append, took_as, took_itself, took_length, took_more}
pub use Rattle.pm_writer.specs.Bounds.{AllSized}
pub use Rattle.pm_writer.specs.Few.{AreFew}
pub use Rattle.pm_writer.specs.Places.{places_of}
pub use Rattle.std.proofs.Common.{[], All, ap, append-nil, append_assoc, arith, Bool, cond, drop, Err, false, filter, filter_map, find, fold, get_or, IfErr, IfOk, IfSome, inl, inr}
pub use Rattle.std.proofs.Common.{is_some, length, List, map, nat_eq, nat_le, None, not, Ok, OnOk, Option, option_map, refl, Result, rules, Some, subst, suc, sum_by, sym, T, take, tests}
pub use Rattle.std.proofs.Common.{true, zero, ℕ, ◌%◌, ◌&&◌, ◌*◌, ◌++◌, ◌+◌, ◌<◌, ◌^◌, ◌||◌, ◌∙◌, ◌∷◌, ◌≡◌, ◌≢◌, ◌≤◌, ◌⊎◌}
pub use Rattle.std.proofs.Math.Seq.{take-add}
pub use Rattle.std.proofs.lemmas.Bool.{and_from, and_parts, false≢true}
pub use Rattle.std.proofs.lemmas.Bool.Decides.{nat_tests}
pub use Rattle.std.proofs.lemmas.List.{length-append, length-map, take-append-drop, take_all, take_more}
pub use Rattle.std.proofs.lemmas.List.Elements.{All-cons, All-get_or, All-head, All-nil, All-tail, filter_map-append}
pub use Rattle.std.proofs.lemmas.List.Folds.{list_all-append, list_any-append, list_any_at}
pub use Rattle.std.proofs.lemmas.List.Sorted.{answers_always, IsNonDecreasingBy-from_sort_by_key, IsPermutation-cons, IsPermutation-insert, IsPermutation-map, IsPermutation-refl}
pub use Rattle.std.proofs.lemmas.List.Sorted.{IsPermutation-sym, IsPermutation-trans, length_permutation, list_any-IsPermutation, sum_by-IsPermutation}
pub use Rattle.std.proofs.lemmas.List.Sums.{sum_by-append, sum_by-cons, sum_by-take-le}
pub use Rattle.std.proofs.lemmas.Option.{none-some, same_Some}
pub use Rattle.std.proofs.lemmas.Result.{err_from_is_err_and}
pub use Rattle.std.specs.Bool.{beq}
pub use Rattle.std.specs.Cmp.{eq_by_cmp_equiv, IsTotalOrder, nat_cmp_total}
pub use Rattle.std.specs.FinMap.{contains_key, empty, entries-insert, entries_sorted, from_entries, get, get-empty, get-entries, get-from_entries, is_sorted, len-empty, len-entries}
pub use Rattle.std.specs.FinMap.{nat_cmp-IsAntisymmetric, put}
pub use Rattle.std.specs.FinMap.Entries.{by_order, is_some-find}
pub use Rattle.std.specs.List.{AllByRecursion, cons_option, IsAllAdjacentAnswer, list_any}
unfoldable pub use Rattle.std.specs.List.{IsDistinct}
pub use Rattle.std.specs.List.Sorted.{IsNonDecreasingBy, IsPermutation, IsSortedBy}
pub use Rattle.std.specs.Ordering.{eq_by_cmp, is_eq, is_lt, nat_cmp}
pub use Rattle.std.specs.Prelude.{codes, option_and_then, unwrap_or}
pub use Rattle.std.specs.declared.cmp.Ordering.{Ordering}
pub use Rattle.std.specs.declared.cmp.Ordering.TheVariants.{Equal, Greater, Less}
pub use Rattle.tile_bridge.proofs.Members.{find_has, Has, has_back, has_find, has_permuted, sorted_true}
pub use Rattle.tile_bridge.specs.Adds.{AreAddsOf, content_at}
pub use Rattle.tile_bridge.specs.Outcome.{overflows}
pub use Rattle.tile_bridge.specs.Stores.{IsRefused}
pub use Rattle.tile_ids.proofs.Bijection.{has_id, id_within, is_coord_of}
pub use Rattle.tile_ids.proofs.Indexes.{index_law}
pub use Rattle.tile_ids.specs.Coord.{IsCoord}
pub use Rattle.tile_ids.specs.Hilbert.{id_of}
pub use Rattle.tile_ids.specs.declared.id.TheConstants.{MAX_TILE_ID}
pub use Rattle.tile_streaming.specs.Adding.{add_for, adds_of, AreAdded, AreRead, HaveLengths, IsAddedFor, IsRead, IsTaken}
pub use Rattle.tile_streaming.specs.Common.{add_to, AddFits, address, algorithm_of, ArchivePlaces, bytes_of, CanBeWritten, Cell, cell_at, cell_bytes, ConvertError}
pub use Rattle.tile_streaming.specs.Common.{ConvertOptions, Coord, entries, facts_of, first_refusal, first_refused, from_entries, has_failed, has_key, has_tile_kinds, HashAlgorithm}
pub use Rattle.tile_streaming.specs.Common.{HasPlaces, InRange, InvalidDataFormat, is_free, is_gzip, is_normalized, IsDue, IsEmpty, IsHidden, IsPlain, KeepsMedium, layout_of, list_all, list_any, MbtError}
pub use Rattle.tile_streaming.specs.Common.{MbtType, Metadata, nat_cmp, no_facts, of_write_error, option_copied, option_map, option_or, Options, OptionsFit, Place, place_at, PmtError, ReadsOnly}
pub use Rattle.tile_streaming.specs.Common.{refusal_at, Rose, RoseAt, row_refusals, SetLeaves, State, state_of, StoreFault, Tables, Tests, then, tile_bad, tile_in, tile_key, tile_of}
pub use Rattle.tile_streaming.specs.Common.{tile_table, TileFacts, TileSet, Took, TookAll, with_filled, WriterState, Writes, wrong_content_hash, wrong_id, wrong_tile_hash}
unfoldable pub use Rattle.tile_streaming.specs.Common.{aggregate, archive, coord_of, xxh3_64}
pub use Rattle.tile_streaming.specs.Contents.{AreContents, HasSeen, hollow, hollow_content, hollow_row, hollow_rows, Knows, mark_of_cell, mark_under, marks_by_row, SeesContents}
pub use Rattle.tile_streaming.specs.Finding.{bytes_told, content_cell, fits, named_told, place_with, row_bytes, row_told, tile_told}
pub use Rattle.tile_streaming.specs.MarkFacts.{facts_of_marks, is_empty, with_mark}
pub use Rattle.tile_streaming.specs.Marks.{AreMarksOf, IsMarked, IsMarkedAs, IsMarkedSet, mark_of}
pub use Rattle.tile_streaming.specs.RowMarks.{mark_in, marks_in}
pub use Rattle.tile_streaming.specs.RowTests.{AreFindings, IsNamedBy, names_refused, settled, unless_found}
pub use Rattle.tile_streaming.specs.Seen.{AreMarked, AreMarkedFrom, SeesRows, SeesTold}
pub use Rattle.tile_streaming.specs.Sizing.{is_too_long, overflow_of}
pub use Rattle.tile_streaming.specs.Streaming.{as_convert, as_report, due_of, HidesRest, IsHeld, IsHeldOf, IsHeldWith, IsOfState, IsUnwritten, PartLeaves, StreamCauses, StreamEnds, StreamLeaves, tested_due}
pub use Rattle.tile_streaming.specs.Written.{AddsCauses, FindCauses, HasWritten, IsChanged, IsOfRead, of_find_error, StepCauses, WrittenLeaves}
pub use Rattle.tile_streaming.specs.declared.contents.Known.{Known}
pub use Rattle.tile_streaming.specs.declared.contents.SeenContents.{SeenContents}
pub use Rattle.tile_streaming.specs.declared.error.StreamError.{StreamError}
pub use Rattle.tile_streaming.specs.declared.mark.Mark.{Mark}
pub use Rattle.tile_streaming.specs.PatchedSet.{bytes_in, held_bytes, stored_in}
pub use Rattle.tile_streaming.specs.Stored.{bytes_over, HasBytes, IsStored, over_bytes, Stored}
pub use Rattle.tile_streaming.specs.declared.mark.MarkedSet.{MarkedSet}
pub use Rattle.tile_streaming.specs.declared.names.Named.{Named}
pub use Rattle.tile_streaming.specs.declared.patched_set.PatchedSet.{PatchedSet}
pub use Rattle.tile_streaming.specs.declared.report.StreamReport.{StreamReport}
pub use Rattle.tile_streaming.specs.declared.row_tests.Findings.{Findings}
pub use Rattle.tile_streaming.specs.declared.seen_rows.SeenRows.{SeenRows}
