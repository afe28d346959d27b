-- What is written as a header is read again.
use Rattle.pm_format.proofs.Common.{ap, arith, bit, Bool, compression_byte, compressions, degree_bytes, false, fields, FitsSigned, from_le_bytes-to_le_bytes_4, from_le_bytes-to_le_bytes_8, head}
use Rattle.pm_format.proofs.Common.{Header, header_bytes, HEADER_SIZE, HeaderFits, ints, length, length-append, List, nat_eq, nat_lt, nat_tests, Ok, refl, slice_get, Some, tile_type_byte, tile_types}
use Rattle.pm_format.proofs.Common.{to_z-of_z, true, w32, ℕ, ℤ, ◌++◌, ◌+◌, ◌<◌, ◌^◌, ◌∙◌, ◌≡◌}
use Rattle.std.specs.Int.{from_le_bytes, cast_signed, cast_unsigned}
use Rattle.pm_format.specs.declared.compression.Compression.{Compression}
use Rattle.pm_format.specs.declared.compression.Compression.TheVariants as compression
use Rattle.pm_format.specs.declared.tile_type.TileType.{TileType}
use Rattle.pm_format.specs.declared.tile_type.TileType.TheVariants as tile_type

pub compression_again : (label : Compression) → slice_get compressions (compression_byte label) ≡ Some label
compression_again compression.Unknown = refl
compression_again compression.None = refl
compression_again compression.Gzip = refl
compression_again compression.Brotli = refl
compression_again compression.Zstd = refl

pub type_again : (type : TileType) → slice_get tile_types (tile_type_byte type) ≡ Some type
type_again tile_type.Unknown = refl
type_again tile_type.Mvt = refl
type_again tile_type.Png = refl
type_again tile_type.Jpeg = refl
type_again tile_type.Webp = refl
type_again tile_type.Avif = refl
type_again tile_type.Mlt = refl

pub bit_again : (b : Bool) → nat_eq (bit b) 1 ≡ b
bit_again true = refl
bit_again false = refl

pub degrees_again : (z : ℤ) → FitsSigned w32 z → cast_signed w32 (from_le_bytes w32 (degree_bytes z)) ≡ z
degrees_again z fits =
    let low : cast_unsigned w32 z < 2 ^ 32 = omega (arith, ints) in
    ap (cast_signed w32) (from_le_bytes-to_le_bytes_4 (cast_unsigned w32 z) low) ∙ to_z-of_z w32 z fits

pub header_length : (h : Header) → length (header_bytes h) ≡ HEADER_SIZE
header_length h = refl

pub fields_again : (h : Header) (rest : List ℕ) → HeaderFits h → fields (header_bytes h ++ rest) h.internal_compression h.tile_compression h.tile_type ≡ h
fields_again h rest f =
    let a = from_le_bytes-to_le_bytes_8 h.root_offset f.root_offset in
    let b = from_le_bytes-to_le_bytes_8 h.root_length f.root_length in
    let c = from_le_bytes-to_le_bytes_8 h.metadata_offset f.metadata_offset in
    let d = from_le_bytes-to_le_bytes_8 h.metadata_length f.metadata_length in
    let e = from_le_bytes-to_le_bytes_8 h.leaf_offset f.leaf_offset in
    let g = from_le_bytes-to_le_bytes_8 h.leaf_length f.leaf_length in
    let i = from_le_bytes-to_le_bytes_8 h.data_offset f.data_offset in
    let j = from_le_bytes-to_le_bytes_8 h.data_length f.data_length in
    let k = from_le_bytes-to_le_bytes_8 h.n_addressed_tiles f.n_addressed_tiles in
    let l = from_le_bytes-to_le_bytes_8 h.n_tile_entries f.n_tile_entries in
    let m = from_le_bytes-to_le_bytes_8 h.n_tile_contents f.n_tile_contents in
    let n = bit_again h.clustered in
    let p = degrees_again h.min_longitude f.min_longitude in
    let q = degrees_again h.min_latitude f.min_latitude in
    let r = degrees_again h.max_longitude f.max_longitude in
    let s = degrees_again h.max_latitude f.max_latitude in
    let t = degrees_again h.center_longitude f.center_longitude in
    let u = degrees_again h.center_latitude f.center_latitude in
    rw (a, b, c, d, e, g, i, j, k, l, m, n, p, q, r, s, t, u) refl

pub head_again : (h : Header) (rest : List ℕ) → HeaderFits h → head (header_bytes h ++ rest) ≡ Ok h
unfolding head
head_again h rest f =
    let size : length (header_bytes h ++ rest) ≡ HEADER_SIZE + length rest = length-append (header_bytes h) rest ∙ ap (λ n. n + length rest) (header_length h) in
    let long : nat_lt (length (header_bytes h ++ rest)) 7 ≡ false = grind (arith, nat_tests) in
    let whole : nat_lt (length (header_bytes h ++ rest)) HEADER_SIZE ≡ false = grind (arith, nat_tests) in
    let directories = compression_again h.internal_compression in
    let tiles = compression_again h.tile_compression in
    let type = type_again h.tile_type in
    rw (long, whole, directories, tiles, type) (ap Ok (fields_again h rest f))
