-- What the crate's specs and sources name of the crates below, passed on from one place. Declares nothing.
pub use Rattle.hex.specs.Hex.{decode_of, encode_lower, hex_digit_value, is_hex_digit, lower_digits}
unfoldable pub use Rattle.hex.specs.Hex.{decode_pairs}
