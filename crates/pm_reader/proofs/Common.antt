-- What the crate's proofs name of the crates below and of its specs, passed on from one place. Declares nothing.
pub use Rattle.base_values.proofs.ByHand.Bodies.{after, arm_body, head, then_runs}
pub use Rattle.base_values.proofs.ByHand.Lending.{Back, gives_back, lends_within}
pub use Rattle.base_values.proofs.ByHand.Rests.{rests_err, rests_ok}
pub use Rattle.base_values.proofs.ByHand.Values.{alone, and_tt, beside, by_result, err_of, err_out, holds, ok_of, ok_out, told}
pub use Rattle.pm_format.proofs.ColumnLemmas.{column_next, column_none, one_less, put, u32_number, u64_number}
pub use Rattle.pm_format.proofs.LookUpLemmas.{reached_last, reached_leaf, reached_none, reached_tile}
pub use Rattle.pm_format.specs.Directory.{entries_of, ids_from, offsets_from, ◌>>=◌}
unfoldable pub use Rattle.pm_format.specs.Directory.{dir_bytes}
pub use Rattle.pm_format.specs.LookUp.{data_behind, hops_opened, Reached, through, tile_opened}
unfoldable pub use Rattle.pm_format.specs.LookUp.{reached}
pub use Rattle.pm_format.specs.Opened.{root_labelled}
pub use Rattle.pm_format.specs.Scan.{last_below}
pub use Rattle.pm_format.specs.Varint.{number_at}
unfoldable pub use Rattle.pm_format.specs.Varint.{u32_at, u64_at}
pub use Rattle.pm_format.specs.WellFormed.{AllLeaves, AllRead, AllSome, AllTiles, below_root, ConsistsOf, data_part, first_id, front_bytes, header_of, joined, leaf_part, NamesLeaves, NamesUppers}
pub use Rattle.pm_format.specs.WellFormed.{Parts, root_of, WellFormed}
unfoldable pub use Rattle.pm_format.specs.WellFormed.{archive_bytes}
pub use Rattle.pm_format.specs.declared.compression.Compression.{Compression}
pub use Rattle.pm_reader.specs.Answers.{Gives, IsWhole, range_read, tile_of}
pub use Rattle.pm_reader.specs.Archives.{IsCacheable, ReadsByHops, UsesOneLength}
pub use Rattle.pm_reader.specs.Caches.{AddsNone, AddsOnly, answer_of, from_found, Held}
pub use Rattle.pm_reader.specs.Common.{archive_tile, Bounded, column, covers, data_of, Entry, entry, entry_from, Header, hops, hops_from, IsUtf8, IsWithin, leaf_of, offset_of, Opened, opened_front}
pub use Rattle.pm_reader.specs.Common.{PmtError, Puts, range_of, root_decoded, root_placed, used}
unfoldable pub use Rattle.pm_reader.specs.Common.{dir_of, hops_by, is_utf8, opened, scan, tile_by}
pub use Rattle.pm_reader.specs.Levels.{entries_below, HasOneLength, HoldsLeaves, IsAtLevel, IsLeafEntry, IsTrusted}
unfoldable pub use Rattle.pm_reader.specs.Levels.{level}
pub use Rattle.pm_reader.specs.MapCaches.{FetchLeaves, held_by_use, HoldsSame, IsUsed, PutsRecent}
pub use Rattle.pm_reader.specs.Opening.{IsOpen, IsOpenFailure, IsOpenRefusal, OpenAnswers, OpenCauses, OpensAs}
pub use Rattle.pm_reader.specs.Path.{entry_in_leaf}
pub use Rattle.pm_reader.specs.Queue.{queued_by}
unfoldable pub use Rattle.pm_reader.specs.Queue.{queued}
pub use Rattle.pm_reader.specs.Reads.{GrewBetween}
pub use Rattle.pm_reader.specs.ReadsFrom.{ReadsFrom}
pub use Rattle.pm_reader.specs.Refused.{LeftByOpening}
pub use Rattle.pm_reader.specs.Rows.{AreWithin, fit, found_in, rows, rows_at}
pub use Rattle.pm_reader.specs.Versions.{GivesUnmodified, PlainCauses, UnmodifiedCauses}
pub use Rattle.pm_reader.specs.View.{headed, text_read, tile_in, viewed}
pub use Rattle.pm_reader.specs.Walk.{Item, walk, walk_opened}
unfoldable pub use Rattle.pm_reader.specs.Walk.{along, levels}
pub use Rattle.pm_reader.specs.WalkSteps.{Enters, IsRefused, left_of, queue_of, Yields}
pub use Rattle.pm_reader.specs.Way.{Finds, FindsUnmodified, Follows}
pub use Rattle.pm_reader.specs.declared.cache.DirCacheResult.TheVariants.{NotCached}
pub use Rattle.pm_reader.specs.declared.state.ReaderState.{ReaderState}
pub use Rattle.pm_reader.specs.declared.walk.WalkState.{WalkState}
pub use Rattle.std.proofs.Common.{ap, append-nil, append_assoc, arith, Bool, cond, drop, Err, false, flat_map, IfOk, IfSome, if◌then◌else◌, inl, inr, is_some, IsTrue, length, length-append}
pub use Rattle.std.proofs.Common.{length-drop, List, lit<, min, nat_eq, nat_le, nat_lt, None, Ok, Option, option_map, refl, Result, slice_get, Some, subst, suc, sym, take, true, zero, zero-add, ℕ, []}
pub use Rattle.std.proofs.Common.{◌&&◌, ◌*◌, ◌++◌, ◌+◌, ◌-◌, ◌<◌, ◌^◌, ◌↔◌, ◌∙◌, ◌∷◌, ◌≡◌, ◌≢◌, ◌≤◌, ◌⊎◌}
pub use Rattle.std.proofs.lemmas.Bool.Decides.{nat_tests}
pub use Rattle.std.proofs.lemmas.List.{drop_at, length-take-le, take_all, take_at}
pub use Rattle.std.proofs.lemmas.List.Elements.{Contains-append_cases, Contains-append_left, Contains-append_right}
pub use Rattle.std.proofs.raw_atomic.Walks.{leaves, proved_at}
pub use Rattle.std.specs.Prelude.{codes, Contains, IsOk, IsSome}
pub use Rattle.std.specs.Result.{IfErr, IsErrAnd, OnErr}
pub use Rattle.std.specs.Str.{bytes_eq}
pub use base.Fml.{flft, fres, ftrue, GName, Incl-trans, Lft, Share}
pub use base.Logic.{emp, id⊢, SProp}
pub use contract.BorrowLft.{meet_⊑_right, ◌⊑◌}
pub use contract.Lifetimes.{Lfts}
pub use contract.Monad.{fact, fact_i}
pub use contract.Running.{tables}
pub use denote.Exit.{no, yes}
pub use denote.Param.{bounded, layout, param}
pub use denote.Param.Laws.{param_laws}
pub use denote.RattleType.{owns, RattleType, Valss}
pub use denote.Ref.{mut_Tells, MutBor, MutRef}
pub use denote.Signature.{mut_ref_to, named_lft, plain, type_at, types_at}
pub use denote.Steps.{heard, nothing}
pub use denote.Struct.Struct.{as_fields, within}
pub use denote.Triple.Call.{calls_at}
pub use denote.Triple.Clauses.{at_exit, Lasts, lasts}
pub use denote.Triple.Entry.{Args}
pub use denote.Triple.Spec.{triple_of}
pub use denote.Triple.Table.{framed}
pub use denote.Triple.Walked.{Goes-dropped, Goes-spent_ref, stay_dropped, Stays, walk_of}
pub use mir.MapTy.{inst_fn}
pub use mir.Syntax.{a_type, dcons, dnil, Fn, named}
pub use mir.Val.{of_list, Val, vptr, vstruct}
pub use prog.Wp.{Env, WpFn}
pub use types.ByLocal.{alloc_all, env, free_all, get, get_in, get_tag, lands_as, look_at, pass_all, sets, sets_last}
pub use types.Kit.{at_ret, await, by, feq_i, fjoin, fpack, fsplit, fsplit3, join, later, move, pick, prop, qed, raw, regoal, rewrite, some, split, split3, use0, use1, use2, use3, !, ‵, ◌$◌, ◌∵◌, ◌⊛◌}
pub use types.Match.{in_variant, live, vrt}
pub use types.Part.{agg, sub, whole}
pub use types.Run.{addr, and_then, enter, exec, first, fld, lit, no_more, of_opd, returns, stop, switches_on}
