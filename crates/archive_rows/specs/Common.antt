-- What the crate's specs and sources name of the crates below, passed on from one place. Declares nothing.
pub use Rattle.pm_format.specs.Options.{Options}
pub use Rattle.pm_reader.specs.Tied.{IsTied}
