-- What the crate's specs and sources name of the crates below, passed on from one place. Declares nothing.
pub use Rattle.base_values.specs.Counts.{Grew, Rose}
pub use Rattle.pm_format.specs.Directory.{Entry, entry}
pub use Rattle.pm_format.specs.LookUp.{leaf_of, range_of}
pub use Rattle.pm_format.specs.Opened.{Opened}
unfoldable pub use Rattle.pm_format.specs.Opened.{opened}
pub use Rattle.pm_format.specs.Sound.{Sound}
pub use Rattle.pm_format.specs.declared.error.PmtError.{PmtError}
pub use Rattle.pm_format.specs.declared.header.Header.{Header}
pub use Rattle.pm_reader.specs.Opening.{header_of, IsOpenRefusal, root_of}
pub use Rattle.pm_reader.specs.Reads.{ReadsOnly}
