-- What the crate's specs and sources name of the crates below, passed on from one place. Declares nothing.
pub use Rattle.pm_format.specs.Directory.{Entry, entry}
pub use Rattle.pm_format.specs.Faults.{FaultsStand}
pub use Rattle.pm_format.specs.LookUp.{leaf_of, range_of}
pub use Rattle.pm_format.specs.declared.error.PmtError.{PmtError}
pub use Rattle.pm_format.specs.declared.header.Header.{Header}
pub use Rattle.pm_reader.specs.Answers.{LookUpCauses, RangeCauses}
pub use Rattle.pm_reader.specs.Opening.{header_of, root_of}
pub use Rattle.pm_reader.specs.Reads.{GrewBetween, reads_done, ReadsOnly}
pub use Rattle.tile_ids.specs.declared.id.TheConstants.{MAX_TILE_ID}
