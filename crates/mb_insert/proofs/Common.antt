-- What the crate's proofs name of the crates below and of its specs, passed on from one place. Declares nothing.
pub use Rattle.mb_edit.proofs.PassedLemmas.{holds, pass_first, pass_rest}
pub use Rattle.mb_insert.specs.Batch.{chosen, entry_of, has_duplicates, is_coord, is_missing, place_in, put_of}
pub use Rattle.mb_insert.specs.Common.{contains_key, DuplicateValues, empty, entries, first_refused, from_entries, get, get-empty, get-from_entries, insert, Int, InvalidTileIndex, Place, place_cmp}
pub use Rattle.mb_insert.specs.Common.{State, Tables, tiles_put, TileSet, unless, UnsupportedCopyOperation}
pub use Rattle.mb_insert.specs.Insertion.{bad_coord, duplicates, insertion, may_insert}
pub use Rattle.mb_insert.specs.declared.mode.CopyDuplicateMode.{CopyDuplicateMode}
pub use Rattle.mb_insert.specs.declared.new_tile.NewTile.{NewTile}
pub use Rattle.mb_lists.proofs.Places.{places_antisymmetric}
pub use Rattle.mb_load.specs.Committing.{MakesChanges}
pub use Rattle.mb_load.specs.LoadedFrom.{IsLoadedFrom, NamesAlgorithm}
pub use Rattle.mb_loaded.specs.Editable.{is_editable, IsOnBoard}
pub use Rattle.mb_loaded.specs.Held.{Edited, fresh, Held, nothing_edited}
pub use Rattle.mb_tables.proofs.TileLemmas.{places_total}
pub use Rattle.std.proofs.Common.{ap, append-nil, append_assoc, arith, Bool, cond, drop, Err, false, filter, is_some, length, List, map, nat_lt, None, not, Ok, Option, pos, refl, Result, rules, Some}
pub use Rattle.std.proofs.Common.{subst, suc, sym, true, ℕ, [], ◌&&◌, ◌++◌, ◌+◌, ◌<◌, ◌^◌, ◌||◌, ◌∙◌, ◌∷◌, ◌≡◌, ◌≢◌, ◌≤◌}
pub use Rattle.std.proofs.lemmas.Bool.{and_parts, false≢true, ltb-true, or_parts}
pub use Rattle.std.proofs.lemmas.Result.{err_from_is_err_and}
pub use Rattle.std.specs.Cmp.{Equal-is}
pub use Rattle.std.specs.FinMap.{find, get-entries, get-insert, len, len-empty, len-insert, same_map}
pub use Rattle.std.specs.List.{list_any}
pub use Rattle.std.specs.Ordering.{eq_by_cmp}
pub use Rattle.std.specs.Prelude.{All, IfOk, reverse}
