-- What the crate's specs and sources name of the crates below, passed on from one place. Declares nothing.
pub use Rattle.hex.specs.Hex.{encode_upper}
unfoldable pub use Rattle.md5.specs.Md5.{Holds, md5}
pub use Rattle.std.specs.Char.{to_ascii_lowercase, to_ascii_uppercase}
pub use Rattle.std.specs.Fmt.{decimal}
pub use Rattle.std.specs.Int.{from_le_bytes, rotate_left, swap_bytes, to_be_bytes, w32, w64}
