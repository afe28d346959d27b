-- What the crate's specs and sources name of the crates below, passed on from one place. Declares nothing.
pub use Rattle.base_values.specs.Counts.{Rose}
pub use Rattle.byte_media.specs.Kept.{KeepsMedium, ReadsOnly}
pub use Rattle.byte_media.specs.Media.{EndsBelow, IsWithin, written}
pub use Rattle.pm_contents.specs.Contents.{Finds, Holds, IsAlike, IsTold}
pub use Rattle.pm_contents.specs.Pieces.{BothTold, LeavesPiece, WroteFront}
pub use Rattle.pm_contents.specs.Places.{found_in, IsBytes, place_in, put_new}
pub use Rattle.pm_contents.specs.Sought.{FoundAs, IsSought, piece_sought, place_sought}
pub use Rattle.pm_format.specs.Directory.{DirFits, Entry, entry, IsWritable, wide_as}
unfoldable pub use Rattle.pm_format.specs.Directory.{dir_bytes, dir_of}
unfoldable pub use Rattle.pm_format.specs.Header.{head}
pub use Rattle.pm_format.specs.Faults.{FaultsStand}
pub use Rattle.pm_format.specs.LookUp.{archive_map, archive_tile, data_of, hops, leaf_of, range_of}
unfoldable pub use Rattle.pm_format.specs.LookUp.{reached, tile_by}
pub use Rattle.pm_format.specs.Opened.{Opened}
unfoldable pub use Rattle.pm_format.specs.Opened.{opened}
pub use Rattle.pm_format.specs.Options.{default_options, Options}
unfoldable pub use Rattle.pm_format.specs.Scan.{scan}
unfoldable pub use Rattle.pm_format.specs.Varint.{u64_at, varint}
pub use Rattle.pm_format.specs.Vectors.{one_tile}
pub use Rattle.pm_format.specs.WellFormed.{AllAtMost, below_root, ConsistsOf, data_part, first_id, header_of, Parts, root_of, WellFormed}
unfoldable pub use Rattle.pm_format.specs.WellFormed.{archive_bytes}
pub use Rattle.pm_format.specs.declared.compression.Compression.{Compression}
pub use Rattle.pm_format.specs.declared.error.PmtError.{PmtError}
pub use Rattle.pm_format.specs.declared.header.Header.{Header}
pub use Rattle.std.specs.FinMap.{entries, find, FinMap, from_entries, get, is_sorted}
pub use Rattle.std.specs.Ordering.{nat_cmp}
pub use Rattle.std.specs.Vec.{vec_capacity}
unfoldable pub use Rattle.tile_hash.specs.Xxh3.{xxh3_64}
pub use Rattle.tile_ids.specs.Hilbert.{id_of}
pub use Rattle.tile_ids.specs.declared.id.TheConstants.{MAX_TILE_ID}
