-- What the crate's specs and sources name of the crates below, passed on from one place. Declares nothing.
pub use Rattle.base_values.specs.Counts.{Rose}
pub use Rattle.byte_media.specs.Kept.{KeepsMedium, ReadsOnly}
pub use Rattle.byte_media.specs.Media.{IsWithin, written}
pub use Rattle.byte_media.specs.declared.medium.WriteFault.{WriteFault}
pub use Rattle.std.specs.BTreeMap.{btree_map_len, get}
pub use Rattle.std.specs.Cmp.Lexicographic.{nat_list_cmp_total, nat_list_eq_equiv, slice_cmp, texts_po, texts_ties}
pub use Rattle.std.specs.Str.{bytes_eq}
