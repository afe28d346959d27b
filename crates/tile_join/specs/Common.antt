-- What the crate's specs and sources name of the crates below, passed on from one place. Declares nothing.
pub use Rattle.base_values.specs.Counts.{Rose}
pub use Rattle.byte_media.specs.Kept.{KeepsMedium, ReadsOnly}
pub use Rattle.pm_format.specs.Directory.{Entry, entry}
pub use Rattle.pm_format.specs.Faults.{StandsAtError}
pub use Rattle.pm_format.specs.declared.error.PmtError.{PmtError}
pub use Rattle.pm_format.specs.declared.header.Header.{Header}
pub use Rattle.pm_format.specs.LookUp.{archive_map, range_of}
pub use Rattle.pm_format.specs.Opened.{Opened}
unfoldable pub use Rattle.pm_format.specs.Opened.{opened}
pub use Rattle.pm_format.specs.Options.{Options}
pub use Rattle.pm_reader.specs.Answers.{Gives}
pub use Rattle.pm_reader.specs.Metadata.{metadata_read}
pub use Rattle.pm_reader.specs.Opening.{header_of, root_of}
pub use Rattle.pm_walk.specs.Collecting.{AreOrdered}
pub use Rattle.pm_walk.specs.Parts.{ids_of, parts, tile_count}
pub use Rattle.pm_walk.specs.Walk.{Walked}
unfoldable pub use Rattle.pm_walk.specs.Walk.{walked}
pub use Rattle.pm_walk.specs.declared.error.WalkError.{WalkError}
pub use Rattle.pm_writer.specs.Archivable.{IsArchivable}
pub use Rattle.pm_writer.specs.Archive.{canon}
unfoldable pub use Rattle.pm_writer.specs.Archive.{archive}
pub use Rattle.pm_writer.specs.Causes.{ArchiveFits}
pub use Rattle.pm_writer.specs.Pieces.{IsHidden}
pub use Rattle.pm_writer.specs.Places.{places_of, places_read}
pub use Rattle.pm_writer.specs.Took.{Took}
pub use Rattle.pm_writer.specs.Writing.{add_to, data_end, has_failed, Writes}
pub use Rattle.pm_writer.specs.declared.places.ArchivePlaces.{ArchivePlaces}
pub use Rattle.pm_writer.specs.declared.state.WriterState.{WriterState}
pub use Rattle.std.specs.FinMap.{entries, FinMap, get}
pub use Rattle.std.specs.Option.{option_and_then, option_map}
pub use Rattle.std.specs.Ordering.{nat_cmp}
pub use Rattle.std.specs.Str.{IsUtf8}
pub use Rattle.tile_extract.specs.Extract.{IsEmpty, IsMetadataRefused, MayBeTile, ReadCauses}
pub use Rattle.tile_extract.specs.Part.{options_with_zooms}
pub use Rattle.tile_extract.specs.Written.{Adds, ByRoom, EndsBy, put_all, Puts, PutsAll, Rises}
pub use Rattle.tile_ids.specs.declared.id.TheConstants.{MAX_TILE_ID}
