-- What the crate's proofs name of the crates below and of its specs, passed on from one place. Declares nothing.
pub use Rattle.serde_json.proofs.Views.{Entry, view-lookup}
pub use Rattle.std.proofs.Common.{ap, arith, Bool, bytes_eq, codes, cond, drop, Equal, Err, false, get_or, Greater, IfErr, IfOk, length, Less, List, None, Ok, Option, option_and_then, option_map}
pub use Rattle.std.proofs.Common.{refl, Result, rules, set, Some, string_bytes, subst, suc, sym, T, true, true≢false, zero, ℕ, [], ◌&&◌, ◌++◌, ◌+◌, ◌<◌, ◌∙◌, ◌∷◌, ◌≡◌, ◌≤◌}
pub use Rattle.std.specs.Cmp.{alike_right, IsTotalOrder, tied_back}
pub use Rattle.std.specs.Cmp.Lexicographic.{nat_list_cmp_total}
pub use Rattle.std.specs.FinMap.{empty_of_len, entries, entries-from_sorted, entries-insert, find, from_sorted, get-entries, is_sorted, len-entries, put, same_entries_map}
pub use Rattle.std.specs.FinMap.Entries.{below_all, by_order, is_sorted-put}
pub use Rattle.std.specs.List.{insert}
pub use Rattle.std.specs.Ordering.{is_lt, match_ordering, ordering_index, ordering_reverse}
pub use Rattle.std.specs.declared.cmp.Ordering.{Ordering}
pub use Rattle.tile_json.specs.Common.{as_object, as_str, Data, empty, FinMap, get_member, is_eq, items_view, member, Members, members_view, nat_cmp, no_members, slice_cmp, view}
pub use Rattle.tile_json.specs.LayerReading.{description_in, fields_in, id_in, layer_made, layer_with, layers_in, maxzoom_in, minzoom_in, of_five, optional, others, zoom_of}
pub use Rattle.tile_json.specs.Members.{with_all, with_texts, without}
pub use Rattle.tile_json.specs.Places.{IsAt, IsGap, StandsAt}
