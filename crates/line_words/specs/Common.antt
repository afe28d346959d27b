-- What the crate's specs and sources name of the crates below, passed on from one place. Declares nothing.
pub use Rattle.std.specs.Option.{option_and_then, option_map}
