-- What the crate's proofs name of the crates below and of its specs, passed on from one place. Declares nothing.
pub use Rattle.mb_constraints.specs.Algorithm.{algorithm_by, algorithm_named, algorithm_of, algorithm_unknown, stored_algorithm, unknown_name}
pub use Rattle.mb_constraints.specs.Described.{index_missing, is_metadata, metadata_missing}
pub use Rattle.mb_edit.proofs.PassedLemmas.{holds, pass_first, pass_rest}
pub use Rattle.mb_edit.proofs.PatchedLemmas.{first, second}
pub use Rattle.mb_insert.proofs.ChosenLemmas.{is_some_cond, put_in_turn}
pub use Rattle.mb_insert.specs.Batch.{has_duplicates}
pub use Rattle.mb_lists.specs.Keyed.{are_distinct}
pub use Rattle.mb_lists.specs.Metadata.{name_twice, Names, text_at}
pub use Rattle.mb_load.proofs.EditedFrom.{from_with_name, from_with_tile, less_apart}
pub use Rattle.mb_load.specs.LoadedFrom.{IsLoadable, IsLoadedFrom, NamesAlgorithm}
pub use Rattle.mb_load.specs.Loading.{Loads}
pub use Rattle.mb_load.specs.StateOf.{stated, unless_refused}
pub use Rattle.mb_loaded.specs.Editable.{is_editable, IsFree, IsOnBoard}
pub use Rattle.mb_metadata.proofs.NameEditLemmas.{edits_loaded, get_other}
pub use Rattle.mb_metadata.proofs.NumberLemmas.{number_back, number_read, printed_digits}
pub use Rattle.mb_metadata.specs.Updating.{is_set, update_edits, zoom_edits}
pub use Rattle.mb_metadata.specs.ZoomText.{zoom_at}
pub use Rattle.mb_metadata.specs.Zooms.{span, zooms_of}
pub use Rattle.mb_metadata.specs.declared.zoom_choice.UpdateZoomType.TheVariants.{Reset}
pub use Rattle.mb_store.specs.Store.{created, IsSound, no_rows, with_tables}
pub use Rattle.mb_tables.proofs.TileLemmas.{places_total}
pub use Rattle.mb_tables.specs.Cell.{cell_eq, is_null}
pub use Rattle.mb_tables.specs.Described.{is_keyed, is_table}
pub use Rattle.mb_tables.specs.Detection.{layout_of, patch_type_of}
pub use Rattle.mb_tables.specs.Kind.{contents_of, is_normalized, tile_table}
pub use Rattle.mb_tables.specs.Tiles.{cell_at, place_cmp, tile_of}
pub use Rattle.mb_tables.specs.declared.cell.Cell.{Cell}
pub use Rattle.mb_tables.specs.declared.cell.Cell.TheVariants.{Blob, Int, Text}
pub use Rattle.mb_tables.specs.declared.description.TableDesc.{TableDesc}
pub use Rattle.mb_tables.specs.declared.error.MbtError.TheVariants.{DuplicateValues, IncorrectTileHash, InvalidDataFormat, InvalidTileIndex, MissingTileReference, NoUniquenessConstraint, OutOfMemory}
pub use Rattle.mb_tables.specs.declared.error.MbtError.TheVariants.{StoreFault, UnsupportedHashAlgorithm}
pub use Rattle.mb_tables.specs.declared.kind.MbtType.{MbtType}
pub use Rattle.mb_tables.specs.declared.kind.MbtType.TheVariants.{FlatWithHash, Normalized}
pub use Rattle.mb_tables.specs.declared.table.TableName.TheVariants.{Metadata, Tiles}
pub use Rattle.mb_tree.specs.Base.{base_by, flat_alone, if_flat, IsBaseOf, IsFlatOf, made_by, made_if}
unfoldable pub use Rattle.mb_tree.specs.Base.{base_of, made}
pub use Rattle.mb_tree.specs.Common.{Abort, bad_coord, bytes_eq, contains_key, decimal, dot, duplicates, empty, empty_state, entries, first_refusal, first_refused, Flat, fresh, get, Held}
pub use Rattle.mb_tree.specs.Common.{InconsistentTileFormats, insert, inverted_y, is_coord, is_free, IsCoord, Keeps, len, MakesChanges, MbtError, MismatchedTargetType, NewTile, nothing_edited, Place}
pub use Rattle.mb_tree.specs.Common.{place_in, ReadsOnly, retain_keys, slash, State, state_of, Tables, then, TileSet, TreeFault, unless, UnsupportedFileExtension, with_tile}
unfoldable pub use Rattle.mb_tree.specs.Common.{begun, number_within, rsplit_once}
pub use Rattle.mb_tree.specs.Files.{File, Files, files_of_list, paths_in, paths_of, written}
pub use Rattle.mb_tree.specs.Format.{format_word, same_format}
unfoldable pub use Rattle.mb_tree.specs.Format.{format_of}
pub use Rattle.mb_tree.specs.PackSteps.{AreAllRead, IsFit, IsRead, Packs, RefusesPaths, with_any}
pub use Rattle.mb_tree.specs.Packed.{IsPacked, IsPacking, packed, tiles_in, with_format, with_zooms}
unfoldable pub use Rattle.mb_tree.specs.Packed.{held_packed}
pub use Rattle.mb_tree.specs.Packing.{as_given, batch_of, empty_files, first_format, format_or, may_pack, new_tile, packing, path_refused, tile_of_file, tile_refusals}
pub use Rattle.mb_tree.specs.RoundTrip.{file_under, files_under, HasNoTiles, HasTileFiles, is_tile, IsPlain, path_under, plain_file, plain_files, plain_of, plain_path}
pub use Rattle.mb_tree.specs.Scheme.{turned}
pub use Rattle.mb_tree.specs.TilePath.{format_in, last_part, stem, tile_named}
unfoldable pub use Rattle.mb_tree.specs.TilePath.{tile_path}
pub use Rattle.mb_tree.specs.Unpacked.{file_of, files_by, files_of, format_due, format_named, IsFront, IsUnpacking, known_format, path_at, path_text, unpacked, unpacking}
pub use Rattle.mb_tree.specs.Wanting.{is_tree_fault, is_wanting}
pub use Rattle.mb_tree.specs.declared.base.Base.{Base}
pub use Rattle.mb_tree.specs.declared.format.FileFormat.{FileFormat}
pub use Rattle.mb_tree.specs.declared.scheme.TileScheme.{TileScheme}
pub use Rattle.mb_tree.specs.declared.tile_path.TilePath.{TilePath}
pub use Rattle.std.proofs.Common.{ap, append-nil, ap₂, arith, Bool, cond, drop, Err, false, filter_map, get_or, inl, inr, is_some, length, List, map, nat_lt, None, not, Ok, Option, refl, Result}
pub use Rattle.std.proofs.Common.{rules, Some, subst, suc, sym, take, true, unwrap_or, zero, ℕ, [], ◌&&◌, ◌++◌, ◌+◌, ◌-◌, ◌<◌, ◌^◌, ◌||◌, ◌∙◌, ◌∷◌, ◌≡◌, ◌≢◌, ◌≤◌, ◌⊎◌}
pub use Rattle.std.proofs.lemmas.Bool.{and_from, and_parts, cases_eq, eqb-false, eqb-true, false_from_ne_true, false≢true, ltb-true, not-false, not-true, or_left, or_parts, or_right}
pub use Rattle.std.proofs.lemmas.Cmp.{nat_list_cmp_total}
pub use Rattle.std.proofs.lemmas.List.{append_assoc, get_or-drop, length-append, length-drop, map-append, nil_from_length, take_all, take_more}
pub use Rattle.std.proofs.lemmas.List.Elements.{All-append, All-cons, All-head, All-nil, All-tail}
pub use Rattle.std.proofs.lemmas.Option.{get_or_from_slice_get, none-some, same_Some, slice_get-get_or}
pub use Rattle.std.proofs.lemmas.Result.{err_from_is_err_and}
pub use Rattle.std.specs.BTreeMap.{BTreeMap, get_by, is_at, IsOrdered, keys, Updates}
pub use Rattle.std.specs.Cmp.{eq_by_cmp_equiv, Equal-is, IsTotalOrder, tied_itself}
pub use Rattle.std.specs.Cmp.Lexicographic.{slice_cmp}
pub use Rattle.std.specs.FinMap.{entries-from_sorted, entries-insert, entries_sorted, find, from_sorted, get-empty, get-entries, get-from_entries, get-from_sorted, get-insert, get-retain_keys}
pub use Rattle.std.specs.FinMap.{is_sorted, IsAntisymmetric, len-empty, len-entries, len-insert, nat_cmp-IsAntisymmetric, put, same_map, slice_cmp-IsAntisymmetric}
pub use Rattle.std.specs.FinMap.Entries.{below_all, by_order}
pub use Rattle.std.specs.List.{AllByRecursion, cons_option, list_all, list_any}
pub use Rattle.std.specs.Option.{option_or}
pub use Rattle.std.specs.Ordering.{eq_by_cmp, is_eq, is_lt, nat_cmp}
pub use Rattle.std.specs.Path.{rfind_below}
pub use Rattle.std.specs.Prelude.{All, codes, IfErr, IfOk, IfSome, MatchOption, OnErr, OnOk, option_and_then, option_copied, option_map, option_to_list, pos, slice_get, T, ◌==◌}
pub use Rattle.std.specs.Str.{all_ascii_digits}
pub use Rattle.std.specs.declared.cmp.Ordering.{Ordering}
pub use Rattle.std.specs.declared.cmp.Ordering.TheVariants.{Equal, Greater, Less}
pub use Rattle.tile_hash.specs.Digest.{digest}
pub use Rattle.tile_hash.specs.declared.algorithm.HashAlgorithm.TheVariants.{Md5}
pub use Rattle.tile_ids.specs.Coord.{Coord}
