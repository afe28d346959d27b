-- What the crate's specs and sources name of the crates below, passed on from one place. Declares nothing.
pub use Rattle.serde_json.specs.Data.{array, boolean, Data, float, item, Items, member, Members, negative, no_items, no_members, null, Num, number, object, string, unsigned}
pub use Rattle.serde_json.specs.Find.{as_array, as_number, as_object, as_str, as_u64, get, get_member}
pub use Rattle.serde_json.specs.View.{items_view, members_view, view}
pub use Rattle.serde_json.specs.Written.{has_float, items_have_float, members_have_float}
pub use Rattle.std.specs.Cmp.Lexicographic.{slice_cmp}
pub use Rattle.std.specs.Coded.{code_by, Coded, coded_bool, coded_list, coded_ℕ, coded_ℤ, coded⊎}
pub use Rattle.std.specs.FinMap.{empty, FinMap, insert}
pub use Rattle.std.specs.Ordering.{is_eq, nat_cmp}
