-- What the crate's proofs name of the crates below and of its specs, passed on from one place. Declares nothing.
pub use Rattle.mb_lists.specs.Places.{address, InRange}
pub use Rattle.mb_tables.specs.Refusals.{then, unless}
pub use Rattle.mb_tables.specs.Tiles.{place_cmp}
pub use Rattle.pm_format.specs.Directory.{Entry}
pub use Rattle.pm_format.specs.declared.header.Header.{Header}
pub use Rattle.pm_walk.proofs.CoveringLemmas.{covering, covers_here, covers_later, has_id, in_run, none_below, to_le}
pub use Rattle.pm_walk.specs.Collecting.{AllShallow, AreContentsOf, AreOrdered, contents_of, StopCauses}
pub use Rattle.pm_walk.specs.Parts.{full, tile_count}
pub use Rattle.pm_walk.specs.declared.extent.TheConstants.{FIRST_TOO_DEEP}
pub use Rattle.std.proofs.Common.{ap, arith, Bool, cond, drop, Err, false, IfSome, if◌then◌else◌, inl, inr, is_some, IsSome, length, List, map, nat_le, nat_lt, None, Ok, OnOk, Option, refl, Result}
pub use Rattle.std.proofs.Common.{Some, subst, suc, sym, take, true, zero, ℕ, [], ◌&&◌, ◌++◌, ◌+◌, ◌<◌, ◌^◌, ◌||◌, ◌∙◌, ◌∷◌, ◌≡◌, ◌≢◌, ◌≤◌, ◌⊎◌}
pub use Rattle.std.proofs.lemmas.Bool.{and_parts, false≢true, true≢false}
pub use Rattle.std.proofs.lemmas.Bool.Decides.{nat_tests}
pub use Rattle.std.proofs.lemmas.List.{length-append, length-drop, length-take-le}
pub use Rattle.std.proofs.lemmas.Option.{none-some}
pub use Rattle.std.specs.FinMap.{get-empty, get-insert, len-empty, len-insert}
pub use Rattle.tile_ids.proofs.Bijection.{id_within, is_coord_of, lt_or, pyramid_grows}
pub use Rattle.tile_ids.specs.Coord.{Coord, IsCoord}
pub use Rattle.tile_ids.specs.Hilbert.{hilbert, id_of}
unfoldable pub use Rattle.tile_ids.specs.Hilbert.{tile_id}
pub use Rattle.tile_import.specs.Common.{all_walked, contains_key, empty, get, header_of, Held, insert, is_editable, IsOnBoard, len, MAX_TILE_ID, may_put, MbtError, Opened, option_map, Place}
pub use Rattle.tile_import.specs.Common.{place_at, PmtError, pyramid, root_of, State, Tables, TileSet, Walked, WalkError}
unfoldable pub use Rattle.tile_import.specs.Common.{coord_of, opened}
pub use Rattle.tile_import.specs.Import.{Answers, editable_due, found_due, import_due, ImportCauses, IsAnswered, of_store_error, put_due, ReadCauses, StoreCauses}
pub use Rattle.tile_import.specs.PutOver.{IsPutAnswer, PutCauses}
pub use Rattle.tile_import.specs.Putting.{AreOnBoard, ids_of, IsMadeOf, place_of_id, with_contents, with_entries, with_ids}
pub use Rattle.tile_import.specs.Refusals.{is_free, IsRead, of_read_error, of_walk_error, Reads, refusal_opened, walk_refusal}
pub use Rattle.tile_import.specs.Storing.{editable, unless_numbered}
pub use Rattle.tile_import.specs.Tiles.{HasTilesOf}
pub use Rattle.tile_import.specs.declared.error.ImportError.{ImportError}
pub use Rattle.tile_import.specs.declared.error.ImportError.TheVariants.{Archive, OutOfMemory, Store, TooManyTiles}
