-- What the crate's specs and sources name of the crates below, passed on from one place. Declares nothing.
pub use Rattle.std.specs.Cmp.{eq_by_cmp_equiv, int_cmp_total, IsTotalOrder, nat_cmp_total, partial_equiv_from_equiv, partial_order_from_total}
pub use Rattle.std.specs.Cmp.Lexicographic.{nat_list_cmp_total, slice_cmp}
pub use Rattle.std.specs.FinMap.{find, FinMap, from_entries, get, retain_keys}
pub use Rattle.std.specs.List.{list_all, list_any}
pub use Rattle.std.specs.Option.{option_copied, option_or}
pub use Rattle.std.specs.Ordering.{eq_by_cmp, int_cmp, is_gt, nat_cmp, on, ordering_then, then_cmp}
pub use Rattle.std.specs.Str.{bytes_eq}
pub use Rattle.std.specs.declared.cmp.Ordering.{Ordering}
