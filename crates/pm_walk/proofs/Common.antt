-- What the crate's proofs name of the crates below and of its specs, passed on from one place. Declares nothing.
pub use Rattle.pm_format.specs.Directory.{◌>>=◌}
pub use Rattle.pm_format.specs.LookUp.{archive_map, archive_tile, data_behind, directory_at, entry_from, filled, tile_opened}
pub use Rattle.pm_format.specs.Opened.{Opened}
unfoldable pub use Rattle.pm_format.specs.Opened.{opened}
pub use Rattle.pm_reader.proofs.SoundTileLemmas.{is_zero}
pub use Rattle.pm_walk.specs.Collected.{Collected}
pub use Rattle.pm_walk.specs.Collecting.{AllLieIn, AllShallow, AreContentsOf, AreOrdered, Collects, contents_of, HasRoom, IsMetLeaf, IsShallow, KeepsContents, KeepsTo, KeepWithin, MeetReads, Meets}
pub use Rattle.pm_walk.specs.Collecting.{Refuses, room_after, StopCauses, Stops, StopsWith, taken, Walks}
pub use Rattle.pm_walk.specs.Common.{Entry, entry, Header, header_of, leaf_of, MAX_TILE_ID, PmtError, range_of, ReadsOnly, root_of}
pub use Rattle.pm_walk.specs.Gathering.{Gathers, IsFew, IsFine}
pub use Rattle.pm_walk.specs.Intervals.{AreApart, in_intervals, is_below, is_met, lies_in, meets_any, meets_one, stays_within}
pub use Rattle.pm_walk.specs.Parts.{clip, clip_all, full, full_of, parts, parts_of, pieces, tile_count}
pub use Rattle.pm_walk.specs.Steps.{AddsParts, Kept, MeetsEntry, TakesTile, WalksAll}
pub use Rattle.pm_walk.specs.Taker.{beside, Holds, nothing, with_part}
pub use Rattle.pm_walk.specs.Taking.{IsTaken, Takes}
pub use Rattle.pm_walk.specs.Walk.{all_walked, below, end_before, entry_walk, fits_depth, leaf_read, leaf_walk, meets, nothing_met, range_refusal, refuses, rises, run_refusal, stands, then_walk}
pub use Rattle.pm_walk.specs.Walk.{tile_by, tile_reads, tile_refusal, tile_walk, walk_each, Walked}
unfoldable pub use Rattle.pm_walk.specs.Walk.{walked}
pub use Rattle.pm_walk.specs.declared.error.WalkError.{WalkError}
pub use Rattle.pm_walk.specs.declared.error.WalkError.TheVariants.{Archive, InvalidTileId, TooDeep, TooManyTiles}
pub use Rattle.pm_walk.specs.declared.extent.Extent.{Extent}
pub use Rattle.pm_walk.specs.declared.extent.Extent.TheVariants.{Whole, Within}
pub use Rattle.std.proofs.Common.{ap, arith, Bool, drop, Err, false, IfErr, IfOk, IfSome, if◌then◌else◌, inl, inr, is_some, IsSome, IsTrue, length, List, map, max, min, nat_eq, nat_le, nat_lt, None}
pub use Rattle.std.proofs.Common.{not, Ok, OnOk, Option, refl, Result, Some, subst, suc, sym, take, true, zero, ℕ, [], ◌&&◌, ◌++◌, ◌+◌, ◌-◌, ◌<◌, ◌^◌, ◌||◌, ◌↔◌, ◌∙◌, ◌∷◌, ◌≡◌, ◌≢◌, ◌≤◌, ◌⊎◌}
pub use Rattle.std.proofs.lemmas.Bool.{and_from, and_parts, cases_lt, false≢true, or_left, or_right, true≢false}
pub use Rattle.std.proofs.lemmas.Bool.Decides.{nat_tests}
pub use Rattle.std.proofs.lemmas.List.{append-nil, append_assoc, length-append, map-append}
pub use Rattle.std.proofs.lemmas.Option.{none-some, same_Some}
