-- What the crate's specs and sources name of the crates below, passed on from one place. Declares nothing.
pub use Rattle.base_values.specs.Counts.{Grew, Rose}
pub use Rattle.bounded_lru.specs.Bounded.{Bounded, bounded, fits, IsWithin, used, weight_of, with_pair}
pub use Rattle.byte_streams.specs.Kept.{KeepsSink, KeepsSource}
pub use Rattle.byte_streams.specs.Streams.{Gains, GainsFront, IsAtEnd}
pub use Rattle.byte_streams.specs.declared.input.TheConstants.{MAX_INPUT}
unfoldable pub use Rattle.line_words.specs.Lines.{lines_of}
pub use Rattle.line_words.specs.Number.{number_to}
pub use Rattle.line_words.specs.Parting.{words_of}
unfoldable pub use Rattle.line_words.specs.Parting.{parted}
pub use Rattle.pm_format.specs.LookUp.{archive_tile}
unfoldable pub use Rattle.pm_format.specs.Opened.{opened}
pub use Rattle.pm_format.specs.declared.error.PmtError.{PmtError}
pub use Rattle.pm_reader.specs.Archives.{ReadsByHops, UsesOneLength}
pub use Rattle.pm_reader.specs.Opening.{HasVersionOf, IsOpen, IsOpenFailure, IsOpenRefusal, version_of}
pub use Rattle.pm_reader.specs.Reads.{GrewBetween, ReadsOnly}
pub use Rattle.pm_reader.specs.Versions.{Agree}
pub use Rattle.std.specs.List.{list_all}
pub use Rattle.std.specs.Map.{lookup}
pub use Rattle.std.specs.Option.{option_and_then, option_map}
pub use Rattle.std.specs.Str.{bytes_eq}
