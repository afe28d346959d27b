-- What the crate's specs and sources name of the crates below, passed on from one place. Declares nothing.
pub use Rattle.std.specs.Int.{cast_signed, cast_unsigned, from_le_bytes, to_le_bytes, w32, w64, Width}
pub use Rattle.std.specs.List.{range_with_len, slice_index_or}
pub use Rattle.std.specs.Option.{ok_or, option_copied, SomeIff}
pub use Rattle.tile_ids.specs.declared.id.TheConstants.{MAX_TILE_ID}
