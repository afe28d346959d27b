-- What the crate's specs and sources name of the crates below, passed on from one place. Declares nothing.
pub use Rattle.base_values.specs.Counts.{Rose}
pub use Rattle.byte_media.specs.Kept.{KeepsMedium}
pub use Rattle.pm_format.specs.Directory.{Entry}
pub use Rattle.pm_format.specs.LookUp.{archive_map, range_of}
pub use Rattle.pm_format.specs.Opened.{Opened}
unfoldable pub use Rattle.pm_format.specs.Opened.{opened}
pub use Rattle.pm_format.specs.Options.{Options}
pub use Rattle.pm_format.specs.Sound.{Sound}
pub use Rattle.pm_format.specs.declared.error.PmtError.{PmtError}
pub use Rattle.pm_format.specs.declared.header.Header.{Header}
pub use Rattle.pm_reader.specs.Metadata.{metadata_read}
pub use Rattle.pm_reader.specs.Opening.{header_of, IsOpenRefusal, OpensAs, root_of}
pub use Rattle.pm_reader.specs.Reads.{ReadsOnly}
pub use Rattle.pm_walk.specs.Collecting.{AllLieIn, AreOrdered}
pub use Rattle.pm_walk.specs.Intervals.{AreApart, in_intervals}
pub use Rattle.pm_walk.specs.Parts.{parts, tile_count}
pub use Rattle.pm_walk.specs.Walk.{Walked}
unfoldable pub use Rattle.pm_walk.specs.Walk.{walked}
pub use Rattle.pm_writer.specs.Archivable.{IsArchivable}
pub use Rattle.pm_writer.specs.Archive.{canon}
unfoldable pub use Rattle.pm_writer.specs.Archive.{archive}
pub use Rattle.pm_writer.specs.Causes.{ArchiveFits}
pub use Rattle.pm_writer.specs.Pieces.{IsHidden}
pub use Rattle.pm_writer.specs.Places.{places_of, places_read}
pub use Rattle.pm_writer.specs.Writing.{add_to, data_end, has_failed, Writes}
pub use Rattle.pm_writer.specs.declared.places.ArchivePlaces.{ArchivePlaces}
pub use Rattle.std.specs.List.{filter, list_any}
pub use Rattle.std.specs.FinMap.{entries, FinMap, get}
pub use Rattle.std.specs.Ordering.{nat_cmp}
pub use Rattle.std.specs.Str.{IsUtf8}
pub use Rattle.tile_ids.specs.Coord.{Coord, IsCoord}
pub use Rattle.tile_ids.specs.Hilbert.{id_of, number_of, pyramid}
unfoldable pub use Rattle.tile_ids.specs.Hilbert.{coord_of}
pub use Rattle.tile_ids.specs.declared.id.TheConstants.{MAX_TILE_ID}
