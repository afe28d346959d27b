-- What the crate's proofs name of the crates below and of its specs, passed on from one place. Declares nothing.
pub use Rattle.mb_edit.proofs.LawLemmas.{get-patched}
pub use Rattle.mb_edit.specs.Patched.{patched, patched_at}
pub use Rattle.mb_lists.specs.Places.{address}
pub use Rattle.mb_load.specs.Begun.{IsBegun}
unfoldable pub use Rattle.mb_load.specs.Begun.{begun}
pub use Rattle.mb_load.specs.LoadedFrom.{NamesAlgorithm}
pub use Rattle.mb_loaded.specs.Held.{Edited, fresh, Held}
pub use Rattle.mb_metadata.proofs.NameEditLemmas.{edits_loaded, named_still}
pub use Rattle.mb_store.specs.Store.{with_tables}
pub use Rattle.mb_tables.specs.Table.{width}
pub use Rattle.mb_tables.specs.Tiles.{is_solid, Place, place_cmp, solid}
pub use Rattle.mb_tables.specs.declared.error.MbtError.{MbtError}
pub use Rattle.pm_format.specs.LookUp.{archive_map, archive_tile, filled}
pub use Rattle.set_import.specs.Common.{Archive, document_edits, empty, FinMap, Flat, get, HasTilesOf, held_edited, ImportCauses, ImportError, IsAnswered, IsLoadedFrom, IsSound, MakesChanges}
pub use Rattle.set_import.specs.Common.{names_edited, OutOfMemory, PmtError, State, state_edited, state_of, state_put, Store, Tables, TileJson, tiles_put, TileSet}
pub use Rattle.set_import.specs.Filling.{flat_made, held_filled, is_unwritten, IsAnsweredAs, IsFilled, IsFilledSet, IsLeft, IsMade, started, started_by, state_filled}
pub use Rattle.set_import.specs.Said.{IsSaidBy, SaidAnswers, SaidCauses}
pub use Rattle.std.proofs.Common.{ap, arith, Bool, cond, Err, false, IfSome, if◌then◌else◌, inl, inr, is_some, IsErrOf, length, List, nat_le, None, Ok, Option, refl, Result, Some, subst, sym, true, ℕ}
pub use Rattle.std.proofs.Common.{[], ◌+◌, ◌<◌, ◌∙◌, ◌∷◌, ◌≡◌, ◌≤◌, ◌⊎◌}
pub use Rattle.std.proofs.lemmas.Bool.{false≢true, true≢false}
pub use Rattle.std.specs.FinMap.{contains_key, get-empty, nat_cmp-IsAntisymmetric, same_map}
pub use Rattle.std.specs.Option.{option_map}
pub use Rattle.std.specs.Ordering.{nat_cmp}
pub use Rattle.std.specs.Prelude.{AllPairs, codes, IfErr, IfOk, OnOk, option_and_then, ◌↔◌}
pub use Rattle.tile_import.proofs.AnswerLemmas.{anything, load_answered, loaded_state, put_answered, put_causes}
pub use Rattle.tile_import.specs.Import.{of_store_error}
pub use Rattle.tile_import.specs.Storing.{editable, IsBase, state_in}
