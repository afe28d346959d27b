-- What the header of an archive says, in lines.
use Rattle.std.specs.Prelude.{ℕ, ℤ, Bool, cond, ◌++◌, List, codes}
use Rattle.tile_command.specs.Common.{decimal, degrees_text, Compression, Header, TileType}
use Rattle.pm_format.specs.declared.compression.Compression.TheVariants as compression
use Rattle.pm_format.specs.declared.tile_type.TileType.TheVariants as types

abbrev pub type_word : TileType → List ℕ
type_word types.Unknown = codes "unknown"
type_word types.Mvt = codes "mvt"
type_word types.Png = codes "png"
type_word types.Jpeg = codes "jpg"
type_word types.Webp = codes "webp"
type_word types.Avif = codes "avif"
type_word types.Mlt = codes "mlt"

abbrev pub compression_word : Compression → List ℕ
compression_word compression.Unknown = codes "unknown"
compression_word compression.None = codes "none"
compression_word compression.Gzip = codes "gzip"
compression_word compression.Brotli = codes "brotli"
compression_word compression.Zstd = codes "zstd"

abbrev pub said_word : Bool → List ℕ
said_word is_so = cond is_so (codes "yes") (codes "no")

-- numbers of degrees, parted by commas
unfoldable pub bounds_text : ℤ → ℤ → ℤ → ℤ → List ℕ
bounds_text west south east north = degrees_text west ++ (codes "," ++ (degrees_text south ++ (codes "," ++ (degrees_text east ++ (codes "," ++ degrees_text north)))))

abbrev pub center_text : ℤ → ℤ → ℕ → List ℕ
center_text longitude latitude zoom = degrees_text longitude ++ (codes "," ++ (degrees_text latitude ++ (codes "," ++ decimal zoom)))

unfoldable pub labels_text : Header → List ℕ
labels_text h =
    codes "version " ++ (decimal h.version ++ (codes "\ntype " ++ (type_word h.tile_type
    ++ (codes "\ntile compression " ++ (compression_word h.tile_compression
    ++ (codes "\ndirectory compression " ++ (compression_word h.internal_compression ++ codes "\n")))))))

unfoldable pub bounds_line : Header → List ℕ
bounds_line h = codes "bounds " ++ (bounds_text h.min_longitude h.min_latitude h.max_longitude h.max_latitude ++ codes " degrees\n")

unfoldable pub center_line : Header → List ℕ
center_line h = codes "center " ++ (center_text h.center_longitude h.center_latitude h.center_zoom ++ codes "\n")

unfoldable pub extents_text : Header → List ℕ
extents_text h = codes "zooms " ++ (decimal h.min_zoom ++ (codes " to " ++ (decimal h.max_zoom ++ (codes "\n" ++ (bounds_line h ++ center_line h)))))

unfoldable pub counts_text : Header → List ℕ
counts_text h =
    codes "addressed tiles " ++ (decimal h.n_addressed_tiles ++ (codes "\ntile entries " ++ (decimal h.n_tile_entries
    ++ (codes "\ntile contents " ++ (decimal h.n_tile_contents
    ++ (codes "\nclustered " ++ (said_word h.clustered ++ codes "\n")))))))

unfoldable pub front_text : Header → List ℕ
front_text h =
    codes "root directory " ++ (decimal h.root_length ++ (codes " bytes at " ++ (decimal h.root_offset
    ++ (codes "\nmetadata " ++ (decimal h.metadata_length ++ (codes " bytes at " ++ (decimal h.metadata_offset ++ codes "\n")))))))

unfoldable pub rest_text : Header → List ℕ
rest_text h =
    codes "leaf directories " ++ (decimal h.leaf_length ++ (codes " bytes at " ++ (decimal h.leaf_offset
    ++ (codes "\ntile data " ++ (decimal h.data_length ++ (codes " bytes at " ++ (decimal h.data_offset ++ codes "\n")))))))

unfoldable pub kind_text : Header → List ℕ
kind_text h = labels_text h ++ extents_text h

unfoldable pub parts_text : Header → List ℕ
parts_text h = counts_text h ++ (front_text h ++ rest_text h)

unfoldable pub header_text : Header → List ℕ
header_text h = kind_text h ++ parts_text h
