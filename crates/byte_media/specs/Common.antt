-- What the crate's specs and sources name of the crates below, passed on from one place. Declares nothing.
pub use Rattle.base_values.specs.Counts.{Grew, one_more, Rose}
pub use Rattle.std.specs.declared.option.Option.{Option}
