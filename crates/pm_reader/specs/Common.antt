-- What the crate's specs and sources name of the crates below, passed on from one place. Declares nothing.
pub use Rattle.base_values.specs.Counts.{Grew, Rose}
pub use Rattle.bounded_lru.specs.Bounded.{Bounded, bounded, fits, IsWithin, Puts, used, with_pair}
pub use Rattle.byte_media.specs.declared.backend.BackendResponse.{BackendResponse}
pub use Rattle.pm_format.specs.Directory.{column, Entry, entry, offset_of}
unfoldable pub use Rattle.pm_format.specs.Directory.{dir_of}
pub use Rattle.pm_format.specs.Faults.{FaultsStand}
pub use Rattle.pm_format.specs.LookUp.{archive_tile, data_of, directory_at, entry_from, hops, hops_from, leaf_of, range_of}
unfoldable pub use Rattle.pm_format.specs.LookUp.{hops_by, tile_by}
pub use Rattle.pm_format.specs.Opened.{Opened, opened_front, root_decoded, root_placed}
unfoldable pub use Rattle.pm_format.specs.Opened.{opened}
pub use Rattle.pm_format.specs.Scan.{covers}
unfoldable pub use Rattle.pm_format.specs.Scan.{scan}
pub use Rattle.pm_format.specs.declared.error.PmtError.{PmtError}
pub use Rattle.pm_format.specs.declared.header.Header.{Header}
pub use Rattle.std.specs.Borrow.{Bor, RestsIfErr, sem}
pub use Rattle.std.specs.Option.{option_to_list, SomeIff}
pub use Rattle.std.specs.Str.{IsUtf8}
unfoldable pub use Rattle.std.specs.Str.{is_utf8}
unfoldable pub use Rattle.tile_json.specs.Reading.{tilejson_in}
