-- The names of compressions in HTTP (RFC 9110, content codings).
use Rattle.std.specs.Prelude.{ℕ, List, codes, Option, Some, None}
use Rattle.pm_format.specs.declared.compression.Compression.{Compression}
use Rattle.pm_format.specs.declared.compression.Compression.TheVariants as compression

abbrev pub encoding_text : Compression → Option (List ℕ)
encoding_text compression.Unknown = None
encoding_text compression.None = None
encoding_text compression.Gzip = Some (codes "gzip")
encoding_text compression.Brotli = Some (codes "br")
encoding_text compression.Zstd = Some (codes "zstd")
