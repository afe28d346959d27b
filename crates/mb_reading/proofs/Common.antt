-- What the crate's proofs name of the crates below and of its specs, passed on from one place. Declares nothing.
pub use Rattle.mb_reading.specs.Asking.{CommitsNothing, is_input, OnlyAsks, ReadsBy, Refuses, Shows, Stays}
unfoldable pub use Rattle.mb_reading.specs.Asking.{IsUnfit, LacksLayout, ReadsEither, ReadsLayout, ReadsSet, ReadsTable}
pub use Rattle.mb_reading.specs.Common.{Cell, column, Flat, FlatWithHash, HasCleanDisk, Held, Images, is_table, IsUnchanged, list_any, Map, MbtType, Metadata, Normalized, Row, set_tables, State}
pub use Rattle.mb_reading.specs.Common.{state, Survives, TableName, Tables, Text, tile_table, TileCache, Tiles, TilesData, TilesShallow, TilesWithHash}
unfoldable pub use Rattle.mb_reading.specs.Common.{is_utf8, Shown, told_of}
pub use Rattle.mb_reading.specs.Filling.{content_table, filled, Fits, fits, fits_one, has_contents, IsFull, IsOdd, may_lack, Misfits, NeverFails, noted, Read, read_of, read_on, start, step_of, taken}
pub use Rattle.mb_reading.specs.Filling.{Takes}
unfoldable pub use Rattle.mb_reading.specs.Filling.{HasTaken, IsFilled, IsRead, IsSet}
pub use Rattle.mb_reading.specs.LeftOut.{counted, nothing_left}
pub use Rattle.mb_reading.specs.Master.{is_there, views}
unfoldable pub use Rattle.mb_reading.specs.Master.{first_layout}
unfoldable pub use Rattle.mb_reading.specs.Texts.{master_text, rows_text}
pub use Rattle.mb_tables.specs.declared.kind.MbtType.TheVariants.{Cache}
pub use Rattle.sqlite.specs.Command.{Command}
pub use Rattle.sqlite.specs.Given.{Advances, FailsToAdvance, GivesOn, HasBegun, Returns, row_if}
unfoldable pub use Rattle.sqlite.specs.Given.{HasGiven}
pub use Rattle.sqlite.specs.Listing.{if_select, is_select, IsSourceOf, reads_listing}
unfoldable pub use Rattle.sqlite.specs.Listing.{listing_schema, understood}
pub use Rattle.sqlite.specs.Schema.{Schema}
pub use Rattle.sqlite.specs.State.{FailsToShow, ShowsRows, store_error}
unfoldable pub use Rattle.sqlite.specs.State.{CommitsShowing, FailsToQuery, IsNotRun}
pub use Rattle.sqlite_resolve.specs.declared.compiled.Compiled.{Compiled}
pub use Rattle.sqlite_resolve.specs.declared.error.CompileError.{CompileError}
pub use Rattle.std.proofs.Common.{ap, arith, Bool, cond, Err, false, get_or, IfNone, IfOk, IfSome, inl, inr, is_some, IsTrue, IsUtf8, length, List, MatchBool, None, Ok, Option, option_copied, refl}
pub use Rattle.std.proofs.Common.{Result, rules, Some, subst, suc, sym, take, true, zero, ℕ, [], ◌&&◌, ◌++◌, ◌+◌, ◌<◌, ◌||◌, ◌∙◌, ◌∷◌, ◌≡◌, ◌≤◌}
pub use Rattle.std.proofs.lemmas.Bool.{cases_Bool}
