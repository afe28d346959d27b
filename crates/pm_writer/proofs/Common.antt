-- What the crate's proofs name of the crates below and of its specs, passed on from one place. Declares nothing.
pub use Rattle.byte_media.specs.Media.{WriteLeaves}
pub use Rattle.pm_contents.proofs.ContentLemmas.{finds_alike, holds_alike}
pub use Rattle.pm_contents.proofs.PlaceLemmas.{content_between, flat_push, found_is, fresh_known, fresh_new, Has, has_append, has_equal, has_front, has_last, has_later, place_here, place_later}
pub use Rattle.pm_contents.proofs.PlaceLemmas.{place_new, place_stays, put_new_had, put_new_keeps, same_or}
pub use Rattle.pm_contents.proofs.SeekLemmas.{found_itself, unasked_of}
pub use Rattle.pm_contents.proofs.Told.{if_both, if_some_map}
pub use Rattle.pm_contents.specs.Contents.{IsUnasked}
pub use Rattle.pm_contents.specs.Places.{fresh, IsNew}
pub use Rattle.pm_contents.specs.declared.contents.Contents.{Contents}
pub use Rattle.pm_contents.specs.declared.sought.Sought.{Sought}
pub use Rattle.pm_format.proofs.ArchiveOpens.{archive_opens, front_length}
pub use Rattle.pm_format.proofs.DirectoryAgain.{directory_again, length_starts, length_steps}
pub use Rattle.pm_format.proofs.DirectoryPieces.{fits_writable, same_entries}
pub use Rattle.pm_format.proofs.Ranges.{range_at}
pub use Rattle.pm_format.specs.Directory.{spell_all, starts_from, steps_from, ◌>>=◌}
pub use Rattle.pm_format.specs.Header.{byte_at, compressions, fields, header_bytes, HeaderFits, labelled, magic, tile_types}
pub use Rattle.pm_format.specs.LookUp.{data_behind, entry_from, filled, hops_from, hops_opened, tile_opened}
unfoldable pub use Rattle.pm_format.specs.LookUp.{hops_by}
pub use Rattle.pm_format.specs.Opened.{opened_front, root_labelled, root_placed}
pub use Rattle.pm_format.specs.Scan.{covers, last_below}
pub use Rattle.pm_format.specs.Sound.{EachEntry, HasData, SoundDirectory}
pub use Rattle.pm_format.specs.Varint.{short_of}
pub use Rattle.pm_format.specs.WellFormed.{AllIn, AllLeaves, AllNamed, AllRead, AllSome, AllTiles, front_bytes, InContents, IsFlat, IsNamed, joined, leaf_part, NamesLeaves, NamesUppers, tile_entries}
pub use Rattle.pm_writer.specs.Adds.{Block, blocks, contents_from, entries_at, entries_of_adds, longest_run, onto, runs, sorted, sorted_in, unsorted}
pub use Rattle.pm_writer.specs.Archivable.{IsArchivable}
pub use Rattle.pm_writer.specs.Archive.{canon, ids_of, parts_of, rising, tile_in}
unfoldable pub use Rattle.pm_writer.specs.Archive.{archive}
pub use Rattle.pm_writer.specs.Bounds.{AddsFilled, AllLow, AllShort, AllSized, OptionsFit}
pub use Rattle.pm_writer.specs.Causes.{AddCauses, ArchiveFits, CreateCauses, CreateRefusals, FinishCauses}
pub use Rattle.pm_writer.specs.Common.{AllAtMost, archive_map, archive_tile, BothTold, Compression, ConsistsOf, DirFits, entries, Entry, entry, find, Finds, FinMap, first_id, found_in, FoundAs}
pub use Rattle.pm_writer.specs.Common.{from_entries, get, Header, header_of, Holds, hops, is_sorted, IsAlike, IsTold, IsWithin, IsWritable, leaf_of, MAX_TILE_ID, nat_cmp, Opened, Options}
pub use Rattle.pm_writer.specs.Common.{piece_sought, place_in, place_sought, PmtError, put_new, range_of, root_of, WellFormed, wide_as, written, WroteFront}
unfoldable pub use Rattle.pm_writer.specs.Common.{archive_bytes, dir_bytes, dir_of, opened, scan, tile_by, varint, xxh3_64}
pub use Rattle.pm_writer.specs.Cutting.{AreDirectories, HasMore, IsCut, IsLaid, IsRooted, IsShort, named}
pub use Rattle.pm_writer.specs.Few.{AreFew}
pub use Rattle.pm_writer.specs.Growing.{grows, put, put_run, rest_of, Separates, taken_by, with_run}
pub use Rattle.pm_writer.specs.Leaves.{below_layout, cut, end_of, fits_root, found_uppers, laid, Layout, named_leaves, pieces, stands_in_root, uppers_by}
pub use Rattle.pm_writer.specs.Maps.{Covers, given, Gives, IsIn, RisingAdds, Tiles}
pub use Rattle.pm_writer.specs.Means.{HasEntries, is_above, last_of, Means}
pub use Rattle.pm_writer.specs.Pieces.{finished, IsHidden, IsHiddenOr, IsOpenTo, PutCauses}
pub use Rattle.pm_writer.specs.Places.{header_with, places_of, places_opened, places_read, places_with}
pub use Rattle.pm_writer.specs.Settings.{options_with}
pub use Rattle.pm_writer.specs.Through.{Names, Rising, Through}
pub use Rattle.pm_writer.specs.TileEntries.{entries_below, entries_by, entries_opened, entries_read}
pub use Rattle.pm_writer.specs.Took.{Took, TookAll, TookBy}
pub use Rattle.pm_writer.specs.Twice.{adds_at, covering, Distinct, first_within, IsLeastTwice, times}
pub use Rattle.pm_writer.specs.Writing.{add_run_to, add_to, AddFits, begun, data_end, data_of, FilledFits, has_failed, IsStateOf, run_size, RunFits, Writes}
unfoldable pub use Rattle.pm_writer.specs.Writing.{zeros}
pub use Rattle.pm_writer.specs.declared.adds.Adds.{Adds}
pub use Rattle.pm_writer.specs.declared.cutting.Directories.{Directories}
pub use Rattle.pm_writer.specs.declared.level.Level.{Level}
pub use Rattle.pm_writer.specs.declared.state.WriterState.{WriterState}
pub use Rattle.std.proofs.Common.{add-one, All, ap, append-nil, append_assoc, arith, Bool, cond, drop, Err, false, filter, flat_map, get_or, Global, IfOk, IfSome, if◌then◌else◌, inl, inr, is_some}
pub use Rattle.std.proofs.Common.{IsSome, length, length-append, length-drop, List, lit<, map, MatchOption, min, nat_eq, nat_le, nat_lt, None, not, Ok, OnOk, Option, refl, replicate, Result, rules}
pub use Rattle.std.proofs.Common.{set, slice_index, Some, subst, suc, sum_by, sym, T, take, true, Vec, zero, ℕ, [], ◌&&◌, ◌*◌, ◌++◌, ◌+◌, ◌-◌, ◌/◌, ◌<◌, ◌^◌, ◌∙◌, ◌∷◌, ◌≡◌, ◌≢◌, ◌≤◌, ◌⊎◌}
pub use Rattle.std.proofs.Math.ListN.{get_or-append, length-set}
pub use Rattle.std.proofs.Math.Nat.{lt-div-mul-add, min-eq_left, min-eq_right, mul-le-mul_right}
pub use Rattle.std.proofs.lemmas.Bool.Decides.{nat_tests}
pub use Rattle.std.proofs.lemmas.Grind.{common_steps, flat_map-append}
pub use Rattle.std.proofs.lemmas.List.{drop-append-le, drop-map, drop-replicate, drop-set-lt, drop_all, drop_at, drop_min, drop_more, get_or-append_right, get_or-drop, get_or-replicate}
pub use Rattle.std.proofs.lemmas.List.{get_or-set_same, get_or-take, get_or_default, length-map, length-replicate, length-take, length-take-le, nil_from_length, take-append-drop, take-append-le}
pub use Rattle.std.proofs.lemmas.List.{take-map, take-set-le, take_all, take_min, take_more}
pub use Rattle.std.proofs.lemmas.List.Elements.{All-cons, All-head, All-nil, All-tail}
pub use Rattle.std.proofs.lemmas.List.Sorted.{All-permutation, IsNonDecreasingBy-from_sort_by_key, sum_by-IsPermutation}
pub use Rattle.std.proofs.lemmas.List.Sums.{sum_by-append, sum_by-cons}
pub use Rattle.std.proofs.lemmas.Result.{err_from_is_err_and, on_ok_weaker}
pub use Rattle.std.proofs.lemmas.Slice.Eq.{bytes_eq-Decides}
pub use Rattle.std.specs.FinMap.{entries-from_sorted, from_sorted, get-entries, get-from_entries, get-from_sorted, nat_cmp-IsAntisymmetric, same_map}
pub use Rattle.std.specs.FinMap.Entries.{below_all}
pub use Rattle.std.specs.List.{list_any, slice_get}
pub use Rattle.std.specs.Ordering.{eq_by_cmp, is_lt}
pub use Rattle.std.specs.Str.{bytes_eq}
