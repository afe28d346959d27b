-- What the crate's proofs name of the crates below and of its specs, passed on from one place. Declares nothing.
pub use Rattle.byte_media.proofs.KeptLemmas.{medium_same, medium_then, reads_then}
pub use Rattle.pm_format.specs.Directory.{column, entries_of, entry, ids_from, offsets_from}
unfoldable pub use Rattle.pm_format.specs.Directory.{dir_of}
pub use Rattle.pm_format.specs.LookUp.{archive_tile, filled, leaf_of}
pub use Rattle.pm_format.specs.Opened.{root_decoded, root_labelled, root_placed}
pub use Rattle.pm_format.specs.Sound.{EachEntry, HasData, SoundDirectory}
pub use Rattle.pm_reader.specs.Answers.{Gives, range_read, RangeCauses}
pub use Rattle.pm_walk.proofs.ClippingLemmas.{no_items, parts_ordered}
pub use Rattle.pm_walk.proofs.CoveringLemmas.{clips_inside, clips_none, covering, covering_behind, covers_here, covers_later, has_id, in_run, IsPartOf, lt_by, never, none_below, parts_none}
pub use Rattle.pm_walk.proofs.CoveringLemmas.{parts_outside, to_le, to_lt}
pub use Rattle.pm_walk.proofs.ToldLemmas.{both_told, one_told}
pub use Rattle.pm_walk.proofs.WholeLemmas.{empty_held, held, none_past}
pub use Rattle.pm_walk.specs.Collecting.{StopCauses}
pub use Rattle.pm_walk.specs.Intervals.{is_below, is_met, stays_within}
pub use Rattle.pm_walk.specs.Parts.{clip, clip_all, parts_of}
pub use Rattle.pm_walk.specs.Walk.{entry_walk, fits_depth, nothing_met, rises, stands, then_walk, tile_by, walk_each}
pub use Rattle.pm_walk.specs.declared.extent.Extent.TheVariants.{Within}
pub use Rattle.pm_writer.proofs.Canonical.{canon_is, entries_sorted}
pub use Rattle.pm_writer.proofs.Sorted.{adds_distinct, sorted_formed, tile_found}
pub use Rattle.pm_writer.proofs.Took.{took_as}
pub use Rattle.pm_writer.specs.Archive.{tile_in}
pub use Rattle.pm_writer.specs.Bounds.{AllSized, OptionsFit}
pub use Rattle.pm_writer.specs.Causes.{AddCauses, FinishCauses}
pub use Rattle.pm_writer.specs.Pieces.{IsHiddenOr}
pub use Rattle.pm_writer.specs.Took.{Took}
pub use Rattle.pm_writer.specs.Writing.{add_run_to, AddFits, RunFits}
pub use Rattle.pm_writer.specs.declared.state.WriterState.{WriterState}
pub use Rattle.std.proofs.Common.{OnOk, ◌||◌, ◌%◌, ◌/◌, ◌==◌, ◌↔◌}
pub use Rattle.std.proofs.Common.{All, ap, arith, Bool, codes, cond, drop, Err, false, FitsSigned, IfSome, if◌then◌else◌, inl, inr, is_some, IsSome, length, length-append, length-take, List, max, min}
pub use Rattle.std.proofs.Common.{nat_eq, nat_le, nat_lt, None, not, Ok, Option, option_map, refl, Result, rules, slice_get, slice_index, Some, subst, suc, sum_by, sym, T, take, true, w32, zero, ℕ, ℤ}
pub use Rattle.std.proofs.Common.{[], ◌&&◌, ◌*◌, ◌++◌, ◌+◌, ◌-◌, ◌<◌, ◌^◌, ◌∙◌, ◌∷◌, ◌≡◌, ◌≢◌, ◌≤◌, ◌⊎◌}
pub use Rattle.std.proofs.lemmas.Bool.{and_from, and_parts, true≢false}
pub use Rattle.std.proofs.lemmas.Bool.Decides.{nat_tests}
pub use Rattle.std.proofs.lemmas.List.{append-nil, append_assoc}
pub use Rattle.std.proofs.lemmas.Option.{none-some}
pub use Rattle.std.specs.Cmp.{nat_cmp_total}
pub use Rattle.std.specs.FinMap.{find, from_entries, get-from_entries, is_sorted, nat_cmp-IsAntisymmetric, same_map}
pub use Rattle.std.specs.List.{range_with_len}
pub use Rattle.std.specs.Ordering.{eq_by_cmp, is_lt}
pub use Rattle.std.specs.Str.{bytes_eq}
pub use Rattle.tile_extract.specs.Common.{add_to, AllLieIn, archive_map, ArchiveFits, ArchivePlaces, AreApart, AreOrdered, Coord, data_end, entries, Entry, get, has_failed, Header, header_of}
pub use Rattle.tile_extract.specs.Common.{in_intervals, IsCoord, IsHidden, IsUtf8, KeepsMedium, metadata_read, nat_cmp, Opened, Options, parts, places_of, places_read, PmtError, range_of, ReadsOnly}
pub use Rattle.tile_extract.specs.Common.{root_of, Rose, Sound, tile_count, Walked, Writes}
unfoldable pub use Rattle.tile_extract.specs.Common.{archive, opened, walked}
pub use Rattle.tile_extract.specs.Boxes.{AreParted, area_of, box_covers, box_holds, box_meets, boxes_hold, in_boxes, widened, zooms_of}
pub use Rattle.tile_extract.specs.Common.{filter, id_of, list_any, number_of, pyramid}
unfoldable pub use Rattle.tile_extract.specs.Common.{coord_of}
pub use Rattle.tile_extract.specs.Completeness.{CanExtract, EndsWell, IsDoneOrWanting, PartCanExtract, PartEndsWell}
pub use Rattle.tile_extract.specs.Cut.{interval, intervals_from, subtree}
unfoldable pub use Rattle.tile_extract.specs.Cut.{intervals}
pub use Rattle.tile_extract.specs.Extract.{Added, AreKept, CollectCauses, CollectRefuses, Due, HasZooms, IntoBytes, IntoCauses, IntoLeaves, IsCollected, IsDone, IsEarly, IsEmpty, IsExtract, IsLate}
pub use Rattle.tile_extract.specs.Extract.{IsMetadataRefused, MayBeTile, Overflows, part_count, PartAnswers, PartCauses, parts_met, PartUncompared, ReadCauses, Refuses, ShowsNoPart, Source}
pub use Rattle.tile_extract.specs.Gathering.{AllWanted, block_start, Gathered, low_behind, PartedBelow, Wants}
pub use Rattle.tile_extract.specs.Met.{met_of}
pub use Rattle.tile_extract.specs.Part.{cut, options_of, options_opened, options_with, part_options}
pub use Rattle.tile_extract.specs.Subtree.{Answers, Causes, count_met, IsValid}
pub use Rattle.tile_extract.specs.Words.{Asked, asked, asked_in}
pub use Rattle.tile_extract.specs.Written.{Adds, AddsLieIn, AreAt, ByRoom, ComesTo, EndsBy, ids_of, IsWritten, of_read_error, of_walk_error, of_write_error, PartsAdded, PartsOverflow, PartsPut}
pub use Rattle.tile_extract.specs.Written.{PartsRefuse, put_all, put_next, put_parts, Puts, PutsAll, PutsFound, PutsNext, PutsParts, Rises, ShowsNone, WriteCauses, WritesParts}
unfoldable pub use Rattle.tile_extract.specs.Written.{has_room}
pub use Rattle.tile_extract.specs.declared.error.ExtractError.{ExtractError}
pub use Rattle.tile_extract.specs.declared.error.ExtractError.TheVariants.{Archive, IndexEntryOverflow, InvalidZoom, MediumFault, MediumNotEmpty, OutOfMemory, TooManyTiles}
pub use Rattle.tile_extract.specs.declared.part.TilePart.{TilePart}
pub use Rattle.tile_extract.specs.declared.zoom_box.ZoomBox.{ZoomBox}
pub use Rattle.pm_walk.specs.Intervals.{lies_in}
unfoldable pub use Rattle.tile_ids.specs.Hilbert.{tile_id}
pub use Rattle.tile_ids.specs.Coord.{IsDescendant}
pub use Rattle.tile_ids.specs.declared.id.TheConstants.{MAX_TILE_ID, PYRAMID_SIZE_BY_ZOOM}
