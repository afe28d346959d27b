-- What the crate's proofs name of the crates below and of its specs, passed on from one place. Declares nothing.
pub use Rattle.archive_rows.specs.Common.{IsTied, Options}
pub use Rattle.byte_media.specs.MemMedium.{held}
pub use Rattle.pm_writer.specs.Writing.{Writes}
pub use Rattle.std.proofs.Common.{List, refl, Some, ℕ, [], ◌≡◌}
