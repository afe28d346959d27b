-- What the crate's proofs name of the crates below and of its specs, passed on from one place. Declares nothing.
pub use Rattle.mb_lists.specs.Entries.{AreNamesInOrder, is_name_gone, name_of, names_held, place_at}
pub use Rattle.mb_lists.specs.Keyed.{live_at}
pub use Rattle.mb_lists.specs.Metadata.{Names, text_of}
pub use Rattle.mb_lists.specs.declared.entries.StoredName.{StoredName}
pub use Rattle.mb_metadata.specs.Inserting.{HasNoFloat}
pub use Rattle.set_options.specs.ArchiveJson.{is_left_out, members_in, with_entry}
pub use Rattle.set_options.specs.Common.{blob_cell, bytes_eq, Cell, Data, decimal, empty, entries, Header, insert, is_ascii_digit, is_ascii_whitespace, IsWithoutFloat, JsonMap, member, Members}
pub use Rattle.set_options.specs.Common.{members_view, no_members, option_and_then, option_map, prefix_len, string, text_at, text_cell}
unfoldable pub use Rattle.set_options.specs.Common.{parted}
pub use Rattle.set_options.specs.Document.{document_of, format_of, IsJsonOf, IsOfMembers, with_any}
pub use Rattle.set_options.specs.Facts.{no_facts, with_cell, with_tile}
pub use Rattle.set_options.specs.Parting.{kept_in, names_in, with_all_kept, with_name, with_names}
pub use Rattle.set_options.specs.declared.facts.TileFacts.{TileFacts}
pub use Rattle.std.proofs.Common.{Option, Ordering, pos, refl, Some, subst, suc, sym, take, true, zero, ℕ, ℤ, [], ◌%◌, ◌&&◌, ◌*◌, ◌++◌, ◌+◌, ◌-◌, ◌/◌, ◌<◌, ◌^◌, ◌∙◌, ◌∷◌, ◌≡◌, ◌≤◌}
pub use Rattle.std.proofs.Common.{ap, append-nil, append_assoc, arith, Bool, cond, drop, Equal, false, fold, Greater, length, length-append, Less, List, nat_cmp, nat_eq, nat_le, nat_lt, negsuc, None, not}
pub use Rattle.std.proofs.lemmas.Str.Ascii.{trim_ascii_is}
pub use Rattle.std.specs.Cmp.Lexicographic.{nat_list_cmp_total, slice_cmp}
pub use Rattle.std.specs.FinMap.{entries-insert, get, get-empty, get-insert, len, len-empty, len-entries, put}
pub use Rattle.std.specs.Prelude.{All, codes, IfSome, option_copied, slice_get}
pub use Rattle.tile_json.specs.declared.document.TileJson.{TileJson}
pub use Rattle.mb_lists.specs.Entries.{IsName, name_value}
pub use Rattle.mb_lists.specs.Keyed.{entries_by}
pub use Rattle.mb_loaded.specs.FromLast.{from_last}
pub use Rattle.mb_loaded.specs.Held.{Held}
pub use Rattle.set_options.specs.SetNames.{name_put, names_put, stored_name}
pub use Rattle.std.proofs.Common.{get_or, map, T}
pub use Rattle.std.proofs.lemmas.Bool.{and_parts}
pub use Rattle.std.proofs.lemmas.List.{drop_all, length-map, map-append, take_more}
pub use Rattle.std.proofs.lemmas.List.Elements.{All-cons, All-nil}
pub use Rattle.std.proofs.lemmas.List.Sorted.{IsPermutation-refl}
pub use Rattle.std.proofs.lemmas.Option.{get_or_from_slice_get, none-some, slice_get-get_or}
pub use Rattle.std.specs.FinMap.{entries_sorted, from_entries, get-entries, get-from_entries, is_sorted, same_map}
pub use Rattle.std.specs.Ordering.{is_lt}
