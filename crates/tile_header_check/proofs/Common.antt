-- What the crate's proofs name of the crates below and of its specs, passed on from one place. Declares nothing.
pub use Rattle.pm_reader.specs.Metadata.{MetadataAnswers}
pub use Rattle.pm_reader.specs.Opening.{IsOpen, root_of}
pub use Rattle.std.proofs.Common.{ap, arith, Bool, Err, false, get_or, if◌then◌else◌, IfSome, length, List, map, nat_eq, nat_lt, None, Ok, Option}
pub use Rattle.std.proofs.Common.{refl, Result, Some, subst, sym, true, ℕ, [], ◌++◌, ◌+◌, ◌-◌, ◌<◌, ◌∙◌, ◌∷◌, ◌≡◌, ◌≤◌}
pub use Rattle.std.proofs.lemmas.Bool.Decides.{nat_tests}
pub use Rattle.std.specs.List.{list_any}
pub use Rattle.std.specs.Option.{option_map, option_or}
pub use Rattle.tile_header_check.specs.Checking.{HeaderAnswers, TilesTested}
unfoldable pub use Rattle.tile_header_check.specs.Checking.{header_fault, tiles_fault}
pub use Rattle.tile_header_check.specs.Clustering.{Lays, RiseTo}
unfoldable pub use Rattle.tile_header_check.specs.Clustering.{first_unlaid, laid}
pub use Rattle.tile_header_check.specs.Common.{capped, Header, header_of, ids_of, Met, metadata_read, Opened, part_of, PmtError, read, report_by, report_of, tiles_of, VerifyError, VerifyReport}
unfoldable pub use Rattle.tile_header_check.specs.Common.{opened}
pub use Rattle.tile_header_check.specs.Metadata.{MetadataTests, object_fault, unread}
unfoldable pub use Rattle.tile_header_check.specs.Metadata.{metadata_fault}
pub use Rattle.tile_header_check.specs.declared.fault.HeaderError.{HeaderError}
pub use Rattle.tile_header_check.specs.declared.fault.HeaderFault.{HeaderFault}
pub use Rattle.tile_header_check.specs.declared.fault.MetadataFault.{MetadataFault}
pub use Rattle.tile_verify.specs.Checking.{IsMetOf, MeetsAll}
