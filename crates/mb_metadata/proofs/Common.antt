-- What the crate's proofs name of the crates below and of its specs, passed on from one place. Declares nothing.
pub use Rattle.mb_lists.specs.Entries.{blob_cell, place_at, text_cell}
pub use Rattle.mb_load.proofs.BegunLemmas.{begun_err, begun_free, begun_ok}
pub use Rattle.mb_load.specs.LoadedFrom.{IsLoadedFrom, NamesAlgorithm}
pub use Rattle.mb_loaded.specs.Held.{Edited, fresh, Held, nothing_edited}
pub use Rattle.mb_metadata.specs.Clamping.{document_within, layer_within, maxzoom_within, minzoom_within}
pub use Rattle.mb_metadata.specs.Common.{all_ascii_digits, cell_at, compact_text, contains_key, Data, decimal, entries, FinMap, from_entries, get, has_float, insert, items_of, MbtError, member}
pub use Rattle.mb_metadata.specs.Common.{Members, members_view, Names, nat_cmp, no_members, object, put, slice_cmp, State, state_of, string, table_eq, Tables, text_at, text_of, TileBounds, TileCenter}
pub use Rattle.mb_metadata.specs.Common.{TileJson, VectorLayer, view}
pub use Rattle.mb_metadata.specs.Inserting.{bounds_text, center_text, data_text, document_edits, HasNoFloat, insert_edits, layers_text, LayersHaveNoFloat, other_edits, then_put}
pub use Rattle.mb_metadata.specs.LayerJson.{as_it_is, layer_data, layers_data, put_some, texts_data, with_entries, zoom_data}
pub use Rattle.mb_metadata.specs.NameEdits.{AreEdited, done_answer, EditsNames, held_edited, is_edited, IsFresh, names_edited, put_any, put_of, state_edited, with_text, with_touched}
pub use Rattle.mb_metadata.specs.Others.{has_field, other_entry, others_of, others_said, with_entry}
pub use Rattle.mb_metadata.specs.Reading.{document_said, metadata_answer, metadata_of}
pub use Rattle.mb_metadata.specs.Said.{bounds_said, center_said, said, unless_empty}
pub use Rattle.mb_metadata.specs.SaidJson.{is_bare, json_said, layers_said}
pub use Rattle.mb_metadata.specs.Updating.{is_set, state_updated, update_edits, zoom_edits}
pub use Rattle.mb_metadata.specs.Values.{delete_edits, set_edits, value_answer, zoom_value_answer}
pub use Rattle.mb_metadata.specs.ZoomText.{digits_within, zoom_at, zoom_of}
unfoldable pub use Rattle.mb_metadata.specs.ZoomText.{number_within}
pub use Rattle.mb_metadata.specs.Zooms.{span, with_zoom, zooms_answer, zooms_of}
pub use Rattle.mb_metadata.specs.declared.name_edits.NameEdit.{NameEdit}
pub use Rattle.mb_store.proofs.FaultLemmas.{unasked}
pub use Rattle.mb_tables.specs.Table.{key_of}
pub use Rattle.mb_tables.specs.Tiles.{Place, place_cmp}
pub use Rattle.mb_tables.specs.declared.cell.Cell.{Cell}
pub use Rattle.mb_tables.specs.declared.cell.Cell.TheVariants.{Int, Text}
pub use Rattle.serde_json.proofs.Views.{Entry, view-Object}
pub use Rattle.serde_json.specs.Written.{items_have_float, members_have_float}
pub use Rattle.std.proofs.Common.{ap, append-nil, arith, Bool, cond, drop, Equal, Err, false, filter, fold, get_or, Greater, is_eq, is_some, length, Less, List, map, max, min, nat_lt, None, not, Ok}
pub use Rattle.std.proofs.Common.{Option, option_map, Ordering, refl, Result, rules, Some, subst, suc, sym, T, take, true, zero, ℕ, [], ◌&&◌, ◌++◌, ◌+◌, ◌<◌, ◌==◌, ◌^◌, ◌||◌, ◌∙◌, ◌∷◌, ◌≡◌, ◌≢◌, ◌≤◌}
pub use Rattle.std.proofs.lemmas.Bool.{and_from, and_parts, false_from_ne_true, false≢true, lt-ltb, ltb-true, or_from, or_parts, true≢false}
pub use Rattle.std.proofs.lemmas.Cmp.{nat_list_cmp_total}
pub use Rattle.std.proofs.lemmas.List.{at_drop_all, drop_all, map-append, take_all, take_more}
pub use Rattle.std.proofs.lemmas.List.Elements.{All-head, All-tail, filter_map-append}
pub use Rattle.std.proofs.lemmas.Option.{get_or_from_slice_get, none-some, slice_get-get_or}
pub use Rattle.std.proofs.lemmas.Result.{err_from_is_err_and}
pub use Rattle.std.specs.FinMap.{entries_sorted, find, from_entries_push, get-empty, get-entries, get-from_entries, get-insert, get-remove, is_sorted, len-entries, nat_cmp-IsAntisymmetric}
pub use Rattle.std.specs.FinMap.{slice_cmp-IsAntisymmetric}
pub use Rattle.std.specs.FinMap.Entries.{below_all}
pub use Rattle.std.specs.List.{cons_option, filter_map, list_all}
pub use Rattle.std.specs.Ordering.{eq_by_cmp, is_lt, match_ordering, ordering_reverse}
pub use Rattle.std.specs.Prelude.{All, codes, IfSome, option_and_then, option_to_list, slice_get, unwrap_or, ◌↔◌}
