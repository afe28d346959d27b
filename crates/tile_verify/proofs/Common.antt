-- What the crate's proofs name of the crates below and of its specs, passed on from one place. Declares nothing.
pub use Rattle.pm_reader.proofs.QueueLemmas.{is_tile}
pub use Rattle.pm_reader.specs.Opening.{IsOpen, root_of}
pub use Rattle.std.proofs.Common.{ap, arith, Bool, cond, drop, Err, false, flat_map, get_or, IfSome, if◌then◌else◌, inl, inr, IsSome, IsTrue, length, List, map, min, nat_eq, nat_le, nat_lt, None, not}
pub use Rattle.std.proofs.Common.{Ok, Option, refl, Result, rules, Some, subst, suc, sum_by, sym, T, true, zero, ℕ, [], ◌++◌, ◌+◌, ◌-◌, ◌<◌, ◌^◌, ◌||◌, ◌↔◌, ◌∙◌, ◌∷◌, ◌≡◌, ◌≢◌, ◌≤◌, ◌⊎◌}
pub use Rattle.std.proofs.lemmas.Bool.Decides.{nat_tests}
pub use Rattle.std.proofs.lemmas.List.{append-nil, append_assoc, get_or-map, length-map, map-append}
pub use Rattle.std.proofs.lemmas.Option.{none-some}
pub use Rattle.std.specs.List.{dedup, dedup_from, list_any}
pub use Rattle.tile_ids.specs.declared.id.TheConstants.{MAX_TILE_ID}
pub use Rattle.tile_verify.specs.Checking.{Answers, IsMetOf, MeetsAll, ReadsMade}
pub use Rattle.tile_verify.specs.Common.{Entry, Grew, Header, header_of, leaf_of, Opened, PmtError, range_of, ReadsOnly, Rose, Sound}
unfoldable pub use Rattle.tile_verify.specs.Common.{opened}
pub use Rattle.tile_verify.specs.FirstBreak.{below, breaks, end_before, entry_break, entry_walk, falls, first_break, intact, leaf_read, leaf_walk, limits_break, one_deeper, overlaps, place, root_spot}
pub use Rattle.tile_verify.specs.FirstBreak.{then_walk, tile_walk, two_turns, walk_each, walk_of, Walked}
unfoldable pub use Rattle.tile_verify.specs.FirstBreak.{walked}
pub use Rattle.tile_verify.specs.Tiles.{addressed_by, capped, counted, in_leaf, inside, part_of, range_cmp, range_of_part, report_by, report_of, run_of, same_range, tiles_at, tiles_of, with_run, with_runs}
unfoldable pub use Rattle.tile_verify.specs.Tiles.{tiles_below}
pub use Rattle.tile_verify.specs.Walking.{Adds, IsBreak, LeafRead, Meets, ReadsIn, WalkCauses, WalkReads, Walks}
pub use Rattle.tile_verify.specs.declared.broken.Place.{Place}
pub use Rattle.tile_verify.specs.declared.broken.Reason.{Reason}
pub use Rattle.tile_verify.specs.declared.error.VerifyError.{VerifyError}
pub use Rattle.tile_verify.specs.declared.error.VerifyError.TheVariants.{Broken, Fault, Opening, OutOfMemory, Short}
pub use Rattle.tile_verify.specs.declared.report.VerifyReport.{VerifyReport}
pub use Rattle.tile_verify.specs.declared.walk.Met.{Met}
pub use Rattle.tile_verify.specs.declared.walk.Spot.{Spot}
