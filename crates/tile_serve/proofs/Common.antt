-- What the crate's proofs name of the crates below and of its specs, passed on from one place. Declares nothing.
pub use Rattle.bounded_lru.proofs.HeldLemmas.{Contains-with_pair, latest-promoted, used-none}
pub use Rattle.byte_media.proofs.KeptLemmas.{reads_same, reads_then}
pub use Rattle.byte_streams.specs.Input.{InputCounts, IsShort}
pub use Rattle.byte_streams.specs.Streams.{Loses}
pub use Rattle.byte_streams.specs.declared.sink.SinkFault.{SinkFault}
pub use Rattle.line_words.specs.Lines.{no_byte}
pub use Rattle.std.proofs.Common.{ap, append-nil, append_assoc, arith, Bool, Err, false, flat_map, IfErr, IfOk, IfSome, if◌then◌else◌, inl, inr, is_some, IsErrAnd, IsOk, length, length-append, List}
pub use Rattle.std.proofs.Common.{lit<, nat_eq, None, Ok, OnErr, Option, refl, Result, rules, slice_get, Some, subst, sym, take, true, ℕ, [], ◌++◌, ◌+◌, ◌-◌, ◌<◌, ◌^◌, ◌∙◌, ◌∷◌, ◌≡◌, ◌≢◌, ◌≤◌, ◌⊎◌}
pub use Rattle.std.proofs.lemmas.Result.{IfErr-at_err}
pub use Rattle.tile_serve.specs.Answers.{Answers, Causes, Compares, Finds, HasTexts, IsOpeningError, IsReadFor, IsThere, IsUniform, IsUnmodified, IsWanting, LeavesTiles, OpeningCauses, ReadsFor}
pub use Rattle.tile_serve.specs.Answers.{RefusesOpening}
pub use Rattle.tile_serve.specs.Common.{archive_tile, Bounded, bounded, fits, Gains, GainsFront, Grew, IsAtEnd, IsWithin, KeepsSink, lookup, MAX_INPUT, option_map, PmtError, ReadsOnly, Rose, used}
pub use Rattle.tile_serve.specs.Common.{UsesOneLength, with_pair}
unfoldable pub use Rattle.tile_serve.specs.Common.{lines_of, opened}
pub use Rattle.tile_serve.specs.Course.{AreAnswered, Course, course, Goes, IsAnswered, IsBegun, Texts, tiles_behind}
pub use Rattle.tile_serve.specs.Limits.{IsLimits, limits_in}
pub use Rattle.tile_serve.specs.Outcomes.{of_input, of_serve, of_sink, outcome_of}
pub use Rattle.tile_serve.specs.Reply.{found_at, replies, reply}
pub use Rattle.tile_serve.specs.Request.{asked, Request, request_of}
pub use Rattle.tile_serve.specs.Serving.{IsStop, IsUnmodifiedRun, LinesEnd, LinesTexts, RefusalCauses, RefusedAt, RunTexts, Served, Writes, WritesLine, WritesLines}
pub use Rattle.tile_serve.specs.State.{IsServing, opened_as, Serves, tiles_of}
pub use Rattle.tile_serve.specs.Tiles.{AreTiles, is_held, is_read, LeavesFound, tiles_after, tiles_asked, with_found}
pub use Rattle.tile_serve.specs.TopCall.{IsFor, IsRead, IsSilent, IsUnopened, OpensFor, SourceCauses, Taken}
pub use Rattle.tile_serve.specs.declared.error.ServeError.{ServeError}
pub use Rattle.tile_serve.specs.declared.found.Found.{Found}
pub use Rattle.tile_serve.specs.declared.found.Found.TheVariants.{Tile}
pub use Rattle.tile_serve.specs.declared.limits.ServeLimits.{ServeLimits}
pub use Rattle.tile_serve.specs.declared.outcome.ServeOutcome.{ServeOutcome}
pub use Rattle.tile_serve.specs.declared.outcome.ServeOutcome.TheVariants.{Done, InputFault, InputTooLong, OutOfMemory, OutputFault, Refused, Usage}
pub use Rattle.tile_serve.specs.declared.state.ServerState.{ServerState}
