-- What the crate's specs and sources name of the crates below, passed on from one place. Declares nothing.
pub use Rattle.base_values.specs.Counts.{Rose}
pub use Rattle.byte_media.specs.Kept.{KeepsMedium}
pub use Rattle.byte_streams.specs.Input.{IsShort}
pub use Rattle.byte_streams.specs.Kept.{KeepsSink, KeepsSource}
pub use Rattle.byte_streams.specs.Streams.{Gains, GainsFront, IsAtEnd}
pub use Rattle.hex.specs.Hex.{encode_lower, encode_upper}
unfoldable pub use Rattle.hex.specs.Hex.{encode_with}
pub use Rattle.mb_tables.specs.Kind.{layout_words}
pub use Rattle.pm_format.specs.LookUp.{archive_map}
pub use Rattle.pm_format.specs.declared.compression.Compression.{Compression}
pub use Rattle.pm_writer.specs.Places.{places_read}
pub use Rattle.pm_writer.specs.declared.places.ArchivePlaces.{ArchivePlaces}
pub use Rattle.std.specs.Fmt.{decimal, signed_decimal}
pub use Rattle.std.specs.List.{list_all}
pub use Rattle.tile_bridge.specs.Convert.{ConvertCauses, ConvertLeaves, HasAggregate, IsArchiveOf, IsEmpty, IsPlain, LeavesPart}
pub use Rattle.tile_bridge.specs.Outcome.{outcome}
pub use Rattle.tile_bridge.specs.declared.error.ConvertError.{ConvertError}
pub use Rattle.tile_bridge.specs.declared.report.ConvertReport.{ConvertReport}
pub use Rattle.tile_ids.specs.Coord.{Coord}
pub use Rattle.tile_ids.specs.Hilbert.{id_of}
pub use Rattle.tileset_script.specs.Bulk.{bulk_script}
pub use Rattle.tileset_script.specs.Reading.{script_text, ScriptNeverFails}
pub use Rattle.tileset_script.specs.Script.{Script}
unfoldable pub use Rattle.tileset_script.specs.Script.{script_of}
pub use Rattle.tileset_script.specs.Words.{command, IsCommand}
