-- The header that a writer begins with.
use Rattle.std.specs.Prelude.{◌≡◌, ℕ, List, [], ◌∷◌, take, slice_set, true, pos, negsuc, Ok, Err, codes, refl}
use Rattle.pm_format.specs.declared.header.Header.{Header}
use Rattle.pm_format.specs.declared.header.TheConstants.{HEADER_SIZE, ROOT_END}
use Rattle.pm_format.specs.declared.compression.Compression.{Compression}
use Rattle.pm_format.specs.declared.compression.Compression.TheVariants as compression
use Rattle.pm_format.specs.declared.tile_type.TileType.{TileType}
use Rattle.pm_format.specs.declared.tile_type.TileType.TheVariants as tile_type
use Rattle.pm_format.specs.declared.error.PmtError.TheVariants as errors
use Rattle.pm_format.specs.Header.{head, header_bytes}

abbrev pub default_header : Compression → TileType → Header
default_header tile_compression tile_type = record {
  version = 3;
  root_offset = HEADER_SIZE;
  root_length = 0;
  metadata_offset = ROOT_END;
  metadata_length = 0;
  leaf_offset = 0;
  leaf_length = 0;
  data_offset = 0;
  data_length = 0;
  n_addressed_tiles = 0;
  n_tile_entries = 0;
  n_tile_contents = 0;
  clustered = true;
  internal_compression = compression.None;
  tile_compression = tile_compression;
  tile_type = tile_type;
  min_zoom = 0;
  max_zoom = 22;
  min_longitude = negsuc 1799999999;
  min_latitude = negsuc 850511289;
  max_longitude = pos 1800000000;
  max_latitude = pos 850511290;
  center_zoom = 0;
  center_longitude = pos 0;
  center_latitude = pos 0;
}

-- the header of an archive of one tile, of one byte, at zoom 0
abbrev pub one_tile_header : Header
one_tile_header = record (default_header compression.None tile_type.Unknown) {
  root_length = 5;
  metadata_length = 2;
  data_offset = 16386;
  data_length = 1;
  n_addressed_tiles = 1;
  n_tile_entries = 1;
  n_tile_contents = 1;
}

abbrev pub one_tile_bytes : List ℕ
one_tile_bytes =
    80 ∷ 77 ∷ 84 ∷ 105 ∷ 108 ∷ 101 ∷ 115 ∷ 3 ∷
    127 ∷ 0 ∷ 0 ∷ 0 ∷ 0 ∷ 0 ∷ 0 ∷ 0 ∷
    5 ∷ 0 ∷ 0 ∷ 0 ∷ 0 ∷ 0 ∷ 0 ∷ 0 ∷
    0 ∷ 64 ∷ 0 ∷ 0 ∷ 0 ∷ 0 ∷ 0 ∷ 0 ∷
    2 ∷ 0 ∷ 0 ∷ 0 ∷ 0 ∷ 0 ∷ 0 ∷ 0 ∷
    0 ∷ 0 ∷ 0 ∷ 0 ∷ 0 ∷ 0 ∷ 0 ∷ 0 ∷
    0 ∷ 0 ∷ 0 ∷ 0 ∷ 0 ∷ 0 ∷ 0 ∷ 0 ∷
    2 ∷ 64 ∷ 0 ∷ 0 ∷ 0 ∷ 0 ∷ 0 ∷ 0 ∷
    1 ∷ 0 ∷ 0 ∷ 0 ∷ 0 ∷ 0 ∷ 0 ∷ 0 ∷
    1 ∷ 0 ∷ 0 ∷ 0 ∷ 0 ∷ 0 ∷ 0 ∷ 0 ∷
    1 ∷ 0 ∷ 0 ∷ 0 ∷ 0 ∷ 0 ∷ 0 ∷ 0 ∷
    1 ∷ 0 ∷ 0 ∷ 0 ∷ 0 ∷ 0 ∷ 0 ∷ 0 ∷
    1 ∷ 1 ∷ 1 ∷ 0 ∷ 0 ∷ 22 ∷
    0 ∷ 46 ∷ 182 ∷ 148 ∷
    70 ∷ 58 ∷ 78 ∷ 205 ∷
    0 ∷ 210 ∷ 73 ∷ 107 ∷
    186 ∷ 197 ∷ 177 ∷ 50 ∷
    0 ∷
    0 ∷ 0 ∷ 0 ∷ 0 ∷
    0 ∷ 0 ∷ 0 ∷ 0 ∷ []

pub one_tile_written : header_bytes one_tile_header ≡ one_tile_bytes
one_tile_written = refl

pub one_tile_read : head one_tile_bytes ≡ Ok one_tile_header
unfolding head
one_tile_read = refl

pub one_byte_short : head (take 126 one_tile_bytes) ≡ Err errors.InvalidHeader
unfolding head
one_byte_short = refl

pub another_version : head (codes "PMxxxxx") ≡ Err errors.UnsupportedPmTilesVersion
unfolding head
another_version = refl

pub no_label : head (slice_set one_tile_bytes 97 9) ≡ Err errors.InvalidCompression
unfolding head
no_label = refl
