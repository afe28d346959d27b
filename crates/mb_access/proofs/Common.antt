-- What the crate's proofs name of the crates below and of its specs, passed on from one place. Declares nothing.
pub use Rattle.base_values.proofs.ByHand.Values.{alone, and_tt, beside, by_result, err_of, err_out, holds, ok_of, ok_out, told}
pub use Rattle.mb_access.specs.Common.{Answers, blob_cell, Cell, cell_at, contains_key, contents_of, Coord, detected, entries, find, get, Hash, InvalidDataFormat, is_free, IsBegun, layout_of, len}
pub use Rattle.mb_access.specs.Common.{MbtError, MbtType, Normalized, option_flatten, pairs_of, Place, place_at, place_cmp, place_of, ReadsOnly, RestsIfErr, Rose, sem, State, state_of, StoreFault}
pub use Rattle.mb_access.specs.Common.{Tables, TileSet, Yields}
pub use Rattle.mb_access.specs.Described.{IsDescribed, missing_answer}
pub use Rattle.mb_access.specs.Reads.{bytes_in, contains_answer, coord_in, tile_answer}
pub use Rattle.mb_access.specs.StreamSteps.{AreAllLeft, GivesCoord, GivesIndex, GivesTile, is_tile_row, IsRowOf, left_at_most, left_of, next_row, rows_left, set_of, Tile, tile_at, tile_by_row}
pub use Rattle.mb_access.specs.Streams.{coords_loaded, StreamsCoord, StreamsTile, tiles_loaded}
pub use Rattle.mb_access.specs.declared.stream_state.StreamState.{StreamState}
pub use Rattle.mb_load.proofs.BegunLemmas.{begun_err, begun_free, begun_ok}
pub use Rattle.mb_load.proofs.StateLemmas.{named_rows, store_free}
pub use Rattle.mb_load.specs.StateOf.{held_in, stated, unless_refused}
pub use Rattle.mb_loaded.specs.Held.{Held}
pub use Rattle.mb_tables.proofs.TileLemmas.{get-tiles_of, places_total}
pub use Rattle.mb_tables.specs.Kind.{tile_table}
pub use Rattle.mb_tables.specs.Refusals.{first_refusal, unless}
pub use Rattle.mb_tables.specs.Tiles.{content_of, tile_of}
pub use Rattle.mb_tables.specs.declared.error.MbtError.TheVariants.{InvalidTileIndex, NoUniquenessConstraint}
pub use Rattle.mb_tables.specs.declared.kind.MbtType.TheVariants.{Cache}
pub use Rattle.mb_tables.specs.declared.kind.NormalizedSchema.TheVariants.{DedupId}
pub use Rattle.mb_tables.specs.declared.table.TableName.{TableName}
pub use Rattle.std.proofs.Common.{ap, arith, Bool, cond, drop, Equal, Err, false, filter_map, get_or, Greater, IfOk, is_eq, is_lt, is_ok, is_some, IsErrOf, length, Less, List, lit<, map, min, None}
pub use Rattle.std.proofs.Common.{not, Ok, Option, Ordering, refl, Result, Some, subst, suc, sym, take, true, zero, ℕ, [], ⊎_elim, ◌&&◌, ◌++◌, ◌+◌, ◌-◌, ◌/◌, ◌<◌, ◌^◌, ◌∙◌, ◌∷◌, ◌≡◌, ◌≤◌}
pub use Rattle.std.proofs.Math.Seq.{drop-drop, take-length}
pub use Rattle.std.proofs.lemmas.Bool.{and_parts, cases_lt, false≢true, true≢false}
pub use Rattle.std.proofs.lemmas.Option.{none-some, same_Some, slice_get-get_or, slice_get_within}
pub use Rattle.std.proofs.lemmas.Result.{err_from_is_err_and}
pub use Rattle.std.proofs.raw_atomic.Walks.{leaves, proved_at}
pub use Rattle.std.specs.FinMap.{entries_sorted, from_entries, get-entries, get-from_entries, is_sorted, len-empty, len-entries, len-insert}
pub use Rattle.std.specs.FinMap.Entries.{below_all, is_some-find}
pub use Rattle.std.specs.List.{cons_option, list_all, list_any}
pub use Rattle.std.specs.Ordering.{eq_by_cmp, ordering_reverse}
pub use Rattle.std.specs.Prelude.{All, IfSome, option_and_then, option_map, slice_get}
pub use base.Fml.{flft, fres, ftrue, GName, Incl-trans, Lft, Share}
pub use base.Logic.{emp, ent, id⊢, sep, SProp}
pub use contract.BorrowLft.{meet_⊑_right, ◌⊑◌}
pub use contract.Lifetimes.{Lfts}
pub use contract.Monad.{fact, fact_i}
pub use contract.Running.{Running, tables}
pub use denote.Exit.{no, yes}
pub use denote.Param.{bounded, layout, param}
pub use denote.Param.Laws.{Laws, param_laws}
pub use denote.RattleType.{owns, RattleType, Valss}
pub use denote.Ref.{mut_Tells, MutBor, MutRef, shr_Tells}
pub use denote.Signature.{mut_ref_to, named_lft, plain, type_at, types_at}
pub use denote.Steps.{heard, nothing}
pub use denote.Struct.Struct.{within}
pub use denote.Triple.Call.{calls_at}
pub use denote.Triple.Clauses.{at_exit, Clauses, closing, Ended, Lasts, lasts}
pub use denote.Triple.Entry.{Args}
pub use denote.Triple.Spec.{Meets, triple_of}
pub use denote.Triple.Table.{framed}
pub use denote.Triple.Walked.{Goes-dropped, Goes-spent_ref, stay_dropped, Stays, walk_of}
pub use mir.Syntax.{a_type, addr_of, aggregate, arm, assign, call, Callee, copy, dcons, deref, Dict, dnil, erased, field, Fn, imm, int, Lifetime, Local, local, mut, named, no_default, place, return}
pub use mir.Syntax.{rv_opd, seq, switch, Sym, tcons, tnil, ttcons, ttnil, Ty, ty_enum, ty_named, ty_param, ty_ref, ty_struct, value_local, variant, w8}
pub use mir.Val.{of_list, Val, vptr, vstruct}
pub use prog.Model.{Model}
pub use prog.Wp.{Closed, Env, WpFn}
pub use seplogic.Ra.Ura.{Ura}
pub use types.ByLocal.{alloc_all, env, free_all, get_in, get_tag, lands_as, look_at, pass_all, sets, sets_last, through}
pub use types.Kit.{at_ret, await, by, done, feq_i, fjoin, fpack, fsplit, fsplit3, Item, join, later, move, pick, prop, qed, raw, regoal, rewrite, some, split, split3, use0, use1, use2, use3, !, ‵}
pub use types.Kit.{◌$◌, ◌∵◌, ◌⊛◌}
pub use types.Logic.{Logic}
pub use types.Run.{addr, and_then, enter, exec, first, fld, lit, no_more, of_opd, returns, stop, switches_on}
