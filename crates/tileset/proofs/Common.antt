-- What the crate's proofs name of the crates below and of its specs, passed on from one place. Declares nothing.
pub use Rattle.byte_streams.proofs.StreamsLemmas.{Gains-more, Gains-nil}
pub use Rattle.byte_streams.specs.Input.{TakesAll}
pub use Rattle.byte_streams.specs.declared.input.TheConstants.{MAX_INPUT}
pub use Rattle.mb_loaded.specs.State.{State}
unfoldable pub use Rattle.mb_store.specs.MemStore.{faults_of, IsSteady, told_of}
pub use Rattle.std.proofs.Common.{All, ap, append-nil, append_assoc, arith, Bool, codes, cond, drop, Err, false, flat_map, IfErr, IfOk, IfSome, if◌then◌else◌, inl, inr, is_some, IsErrOf, length}
pub use Rattle.std.proofs.Common.{length-append, length-drop, List, map, min, nat_eq, nat_le, nat_lt, None, Ok, OnOk, Option, refl, replicate, Result, rules, slice_index, Some, string_bytes, subst}
pub use Rattle.std.proofs.Common.{suc, sym, take, take-add, true, zero, ℕ, [], ◌%◌, ◌*◌, ◌++◌, ◌+◌, ◌-◌, ◌/◌, ◌<◌, ◌^◌, ◌∙◌, ◌∷◌, ◌≡◌, ◌≢◌, ◌≤◌, ◌⊎◌}
pub use Rattle.std.proofs.lemmas.Bool.Decides.{nat_tests}
pub use Rattle.std.proofs.lemmas.List.{drop-append-le, drop_all, drop_at, length-take-le, take-append-drop, take-append-le, take_all, take_at}
pub use Rattle.std.specs.Result.{IsErrAnd}
pub use Rattle.tile_bridge.specs.Outcome.{due}
pub use Rattle.tile_bridge.specs.declared.error.ConvertError.TheVariants.{StoreFault}
pub use Rattle.tile_bridge.specs.declared.options.ConvertOptions.{ConvertOptions}
pub use Rattle.tileset.specs.Common.{archive_map, command, ConvertCauses, ConvertError, ConvertLeaves, ConvertReport, Coord, encode_lower, Gains, GainsFront, HasAggregate, id_of, IsArchiveOf, IsAtEnd}
pub use Rattle.tileset.specs.Common.{IsEmpty, IsShort, KeepsMedium, KeepsSink, LeavesPart, list_all, outcome, places_read, Script, script_text}
unfoldable pub use Rattle.tileset.specs.Common.{encode_with, script_of}
pub use Rattle.tileset.specs.HexDump.{hex_lines, place_text, shown_line, trimmed}
unfoldable pub use Rattle.tileset.specs.HexDump.{hex_dump}
pub use Rattle.tileset.specs.Run.{answer, answer_command, answer_input, answer_label, answer_script, answer_set, AnsweredBy, Causes, command_text, converted, Given, Gives, HasBegun, HoldsArchive}
pub use Rattle.tileset.specs.Run.{IsConvertible, IsReported, IsScript, IsScriptOf, IsTold, IsValid, LeavesMedium, LeavesOutput, LeftBy, LinesCauses, LoadCauses, outcome_of, ReportCauses, ScriptCauses}
pub use Rattle.tileset.specs.Run.{SomeBegun, Spells, TellsScript, text_of, WrittenBy, Yields}
pub use Rattle.tileset.specs.Summary.{answer_lines, summary}
pub use Rattle.tileset.specs.declared.outcome.Outcome.{Outcome}
pub use Rattle.tileset_script.specs.declared.words.Command.{Command}
pub use Rattle.tileset_script.specs.declared.words.Command.TheVariants.{Bulk, ConvertFile, ConvertHex}
