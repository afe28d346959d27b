-- The header, by places (PMTiles specification version 3, header).
use Rattle.std.specs.Prelude.{ℕ, List, [], ◌∷◌, ◌++◌, ◌<◌, ◌^◌, length, take, drop, slice_get, slice_index, nat_lt, nat_eq, Bool, true, false, if◌then◌else◌, codes, ℤ, FitsSigned, Option, Some, None, Result, Ok, Err}
use Rattle.std.specs.Str.{bytes_eq}
use Rattle.pm_format.specs.Common.{cast_signed, cast_unsigned, from_le_bytes, to_le_bytes, w32, w64, Width}
use Rattle.pm_format.specs.declared.compression.Compression.{Compression}
use Rattle.pm_format.specs.declared.compression.Compression.TheVariants as compression
use Rattle.pm_format.specs.declared.tile_type.TileType.{TileType}
use Rattle.pm_format.specs.declared.tile_type.TileType.TheVariants as tile_type
use Rattle.pm_format.specs.declared.error.PmtError.{PmtError}
use Rattle.pm_format.specs.declared.error.PmtError.TheVariants as errors
use Rattle.pm_format.specs.declared.header.Header.{Header}
use Rattle.pm_format.specs.declared.header.TheConstants.{HEADER_SIZE}

abbrev pub magic : List ℕ
magic = codes "PMTiles"

-- labels and types by their bytes, counted from 0
abbrev pub compressions : List Compression
compressions = compression.Unknown ∷ compression.None ∷ compression.Gzip ∷ compression.Brotli ∷ compression.Zstd ∷ []

abbrev pub tile_types : List TileType
tile_types = tile_type.Unknown ∷ tile_type.Mvt ∷ tile_type.Png ∷ tile_type.Jpeg ∷ tile_type.Webp ∷ tile_type.Avif ∷ tile_type.Mlt ∷ []

abbrev pub compression_byte : Compression → ℕ
compression_byte compression.Unknown = 0
compression_byte compression.None = 1
compression_byte compression.Gzip = 2
compression_byte compression.Brotli = 3
compression_byte compression.Zstd = 4

abbrev pub tile_type_byte : TileType → ℕ
tile_type_byte tile_type.Unknown = 0
tile_type_byte tile_type.Mvt = 1
tile_type_byte tile_type.Png = 2
tile_type_byte tile_type.Jpeg = 3
tile_type_byte tile_type.Webp = 4
tile_type_byte tile_type.Avif = 5
tile_type_byte tile_type.Mlt = 6

-- the number at a place, the low byte first
abbrev pub word_at : Width → ℕ → List ℕ → ℕ
word_at w at b = from_le_bytes w (drop at b)

abbrev pub byte_at : ℕ → List ℕ → ℕ
byte_at at b = slice_index b at

-- ten millionths of a degree at a place
abbrev pub degrees_at : ℕ → List ℕ → ℤ
degrees_at at b = cast_signed w32 (word_at w32 at b)

-- the fields at their places, with the labels and the type that were found
abbrev pub fields : List ℕ → Compression → Compression → TileType → Header
fields b directories tiles type = record {
  version = byte_at 7 b;
  root_offset = word_at w64 8 b;
  root_length = word_at w64 16 b;
  metadata_offset = word_at w64 24 b;
  metadata_length = word_at w64 32 b;
  leaf_offset = word_at w64 40 b;
  leaf_length = word_at w64 48 b;
  data_offset = word_at w64 56 b;
  data_length = word_at w64 64 b;
  n_addressed_tiles = word_at w64 72 b;
  n_tile_entries = word_at w64 80 b;
  n_tile_contents = word_at w64 88 b;
  clustered = nat_eq (byte_at 96 b) 1;
  internal_compression = directories;
  tile_compression = tiles;
  tile_type = type;
  min_zoom = byte_at 100 b;
  max_zoom = byte_at 101 b;
  min_longitude = degrees_at 102 b;
  min_latitude = degrees_at 106 b;
  max_longitude = degrees_at 110 b;
  max_latitude = degrees_at 114 b;
  center_zoom = byte_at 118 b;
  center_longitude = degrees_at 119 b;
  center_latitude = degrees_at 123 b;
}

-- the labels of directories and tiles, and then the type
abbrev pub labelled : List ℕ → Option Compression → Option Compression → Option TileType → Result Header PmtError
labelled b None tiles type = Err errors.InvalidCompression
labelled b (Some directories) None type = Err errors.InvalidCompression
labelled b (Some directories) (Some tiles) None = Err errors.InvalidTileType
labelled b (Some directories) (Some tiles) (Some type) = Ok (fields b directories tiles type)

-- the header, or the first refusal
unfoldable pub head : List ℕ → Result Header PmtError
head b =
    if nat_lt (length b) 7 then Err errors.InvalidHeader else
    (if bytes_eq (take 7 b) magic then
    (if nat_lt (length b) HEADER_SIZE then Err errors.InvalidHeader else
    labelled b (slice_get compressions (byte_at 97 b)) (slice_get compressions (byte_at 98 b)) (slice_get tile_types (byte_at 99 b)))
    else (if bytes_eq (take 2 b) (codes "PM") then Err errors.UnsupportedPmTilesVersion else Err errors.InvalidMagicNumber))

abbrev pub bit : Bool → ℕ
bit true = 1
bit false = 0

abbrev pub word_bytes : ℕ → List ℕ
word_bytes n = to_le_bytes w64 n

abbrev pub degree_bytes : ℤ → List ℕ
degree_bytes z = to_le_bytes w32 (cast_unsigned w32 z)

-- the same table, written
abbrev pub header_bytes : Header → List ℕ
header_bytes h =
    magic ++ (h.version ∷ []
    ++ (word_bytes h.root_offset ++ (word_bytes h.root_length
    ++ (word_bytes h.metadata_offset ++ (word_bytes h.metadata_length
    ++ (word_bytes h.leaf_offset ++ (word_bytes h.leaf_length
    ++ (word_bytes h.data_offset ++ (word_bytes h.data_length
    ++ (word_bytes h.n_addressed_tiles ++ (word_bytes h.n_tile_entries ++ (word_bytes h.n_tile_contents
    ++ (bit h.clustered ∷ compression_byte h.internal_compression ∷ compression_byte h.tile_compression ∷ tile_type_byte h.tile_type ∷ h.min_zoom ∷ h.max_zoom ∷ []
    ++ (degree_bytes h.min_longitude ++ (degree_bytes h.min_latitude ++ (degree_bytes h.max_longitude ++ (degree_bytes h.max_latitude
    ++ (h.center_zoom ∷ [] ++ (degree_bytes h.center_longitude ++ degree_bytes h.center_latitude)))))))))))))))))))

-- the numbers of a header lie within their types
pub record HeaderFits (h : Header) : Type 0 where
  pub version : h.version < 2 ^ 8
  pub root_offset : h.root_offset < 2 ^ 64
  pub root_length : h.root_length < 2 ^ 64
  pub metadata_offset : h.metadata_offset < 2 ^ 64
  pub metadata_length : h.metadata_length < 2 ^ 64
  pub leaf_offset : h.leaf_offset < 2 ^ 64
  pub leaf_length : h.leaf_length < 2 ^ 64
  pub data_offset : h.data_offset < 2 ^ 64
  pub data_length : h.data_length < 2 ^ 64
  pub n_addressed_tiles : h.n_addressed_tiles < 2 ^ 64
  pub n_tile_entries : h.n_tile_entries < 2 ^ 64
  pub n_tile_contents : h.n_tile_contents < 2 ^ 64
  pub min_zoom : h.min_zoom < 2 ^ 8
  pub max_zoom : h.max_zoom < 2 ^ 8
  pub min_longitude : FitsSigned w32 h.min_longitude
  pub min_latitude : FitsSigned w32 h.min_latitude
  pub max_longitude : FitsSigned w32 h.max_longitude
  pub max_latitude : FitsSigned w32 h.max_latitude
  pub center_zoom : h.center_zoom < 2 ^ 8
  pub center_longitude : FitsSigned w32 h.center_longitude
  pub center_latitude : FitsSigned w32 h.center_latitude
