-- What the crate's proofs name of the crates below and of its specs, passed on from one place. Declares nothing.
pub use Rattle.mb_sqlite.specs.Committing.{CommitsNothing, CommitsOnce, Idles, KeepsCommitted, MakesChanges, OnceReady, RefusesChanges, Sees}
unfoldable pub use Rattle.mb_sqlite.specs.Committing.{IsReady, Leaves}
pub use Rattle.mb_sqlite.specs.Common.{AllZip, bound, Cell, column, ExecutesInside, Ghosts, HasCleanDisk, Held, is_table, IsRolledBack, KeepsCommit, MbtType, option_copied, QueriesRowInside, Row}
pub use Rattle.mb_sqlite.specs.Common.{RowKey, set_tables, Shows, state, Survives, TableName, Tiles, Value, width}
unfoldable pub use Rattle.mb_sqlite.specs.Common.{is_utf8, Shown}
pub use Rattle.mb_sqlite.specs.Calls.{IsPrepared, ReadsStore}
pub use Rattle.mb_sqlite.specs.Creation.{making_order}
unfoldable pub use Rattle.mb_sqlite.specs.Creation.{making_text}
pub use Rattle.mb_sqlite.specs.Cursor.{cursor_past}
unfoldable pub use Rattle.mb_sqlite.specs.Cursor.{MovesPast}
pub use Rattle.mb_sqlite.specs.Keeping.{GoesOn, OnlyReads}
pub use Rattle.mb_sqlite.specs.Making.{AreChanged, AreMade, ArePassed, begun, Passes}
unfoldable pub use Rattle.mb_sqlite.specs.Making.{Adds, ArePrepared, Arises, Changed, Commits, IsRun, IsThere, Removes, Stays, Steps}
pub use Rattle.mb_sqlite.specs.Reading.{ArePaged, AreRead, is_above, IsCounted, IsFound, IsRowOf, RisesTo, Within}
pub use Rattle.mb_sqlite.specs.Resting.{KeepsInside, Rests, StaysInside}
pub use Rattle.mb_sqlite.specs.Sizing.{answer_size, IsTableSize, piece, piece_size, ReadsPiece, value_size}
unfoldable pub use Rattle.mb_sqlite.specs.Sizing.{AddsTable, IsLiveSize}
pub use Rattle.mb_sqlite.specs.Stored.{IsReadAs, IsWrittenAs}
pub use Rattle.mb_sqlite.specs.declared.failure.Failure.{Failure}
pub use Rattle.mb_sqlite.specs.declared.store.SqliteStore.{SqliteStore}
pub use Rattle.base_values.specs.Counts.{Rose}
pub use Rattle.mb_store.proofs.FaultLemmas.{still_anyway, still_then}
pub use Rattle.mb_store.specs.declared.store.StoreError.{StoreError}
pub use Rattle.mb_store.specs.declared.store.StoreError.TheVariants.{Fault as StoreFault}
pub use Rattle.sqlite.proofs.InsideLemmas.{keeps_then, unchanged_keeps}
pub use Rattle.sqlite.specs.State.{FailsToShow, IsTooLate, ShowsRows, State}
unfoldable pub use Rattle.sqlite.specs.State.{FailsToQuery, IsNotRun, QueriesRow}
pub use Rattle.sqlite.specs.Steps.{FailsToCommit}
pub use Rattle.sqlite.specs.Tree.{Trees}
pub use Rattle.sqlite.specs.Values.{bound_value}
pub use Rattle.sqlite.specs.declared.error.Error.{Error}
pub use Rattle.sqlite_value.specs.Value.{owned}
pub use Rattle.sqlite_value.specs.declared.value.Value.TheVariants.{Int}
pub use Rattle.std.proofs.Common.{add-one, All, ap, arith, Bool, cond, drop, Err, false, get_or, inl, inr, IsTrue, IsUtf8, length, length-append, List, MatchBool, MatchOption, min, None, Ok, Option}
pub use Rattle.std.proofs.Common.{refl, Result, rules, slice_get, Some, subst, suc, sum_by, sym, take, true, w64, zero, ℕ, ℤ, [], ◌++◌, ◌+◌, ◌-◌, ◌<◌, ◌==◌, ◌^◌, ◌||◌, ◌∙◌, ◌∷◌, ◌≡◌, ◌≤◌, ◌⊎◌}
pub use Rattle.std.proofs.lemmas.Bool.{both_ways, cases_Bool, eqb-true}
pub use Rattle.std.proofs.lemmas.Int.{to_z-of_z}
pub use Rattle.std.proofs.lemmas.List.{map-append, take_all}
pub use Rattle.std.proofs.lemmas.Option.{slice_get-get_or}
pub use Rattle.std.specs.Prelude.{IfOk, IsErrOf, OnErr, OnOk}
