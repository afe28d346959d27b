-- What the tiles of a set say of an archive: the zooms of those of at least one byte, and how these are compressed.
use Rattle.std.specs.Prelude.{◌≡◌, ℕ, ◌&&◌, ◌||◌, not, Bool, true, false, cond, nat_eq, min, max, List, [], ◌∷◌, Option, Some, None, fold, refl}
use Rattle.set_options.specs.Common.{Blob, blob_cell, Cell, entries, TileType}
use Rattle.mb_tables.specs.Tiles.{Place, TileSet}
use Rattle.pm_format.specs.declared.compression.Compression.{Compression}
use Rattle.pm_format.specs.declared.compression.Compression.TheVariants as labels
use Rattle.pm_format.specs.declared.tile_type.TileType.TheVariants as types
use Rattle.set_options.specs.declared.facts.TileFacts.{TileFacts}

-- bytes that begin as gzip begins (RFC 1952)
abbrev pub is_gzip : List ℕ → Bool
is_gzip (a ∷ b ∷ bytes) = nat_eq a 31 && nat_eq b 139
is_gzip _ = false

-- the least and the greatest zoom, with one more
abbrev pub with_zoom : Option (ℕ × ℕ) → ℕ → Option (ℕ × ℕ)
with_zoom None zoom = Some (zoom, zoom)
with_zoom (Some zooms) zoom = Some (min zooms.0 zoom, max zooms.1 zoom)

-- a tile more of at least one byte, which begins as gzip begins, or doesn't
abbrev pub with_filled : TileFacts → ℕ → Bool → TileFacts
with_filled f zoom gzip = record { zooms = with_zoom f.zooms zoom; gzip = f.gzip || gzip; plain = f.plain || not gzip }

-- a tile more; null, and no byte, say nothing
abbrev pub with_bytes : TileFacts → ℕ → List ℕ → TileFacts
with_bytes f zoom [] = f
with_bytes f zoom (byte ∷ bytes) = with_filled f zoom (is_gzip (byte ∷ bytes))

abbrev pub with_cell : TileFacts → ℕ → Cell → TileFacts
with_cell f zoom (Blob bytes) = with_bytes f zoom bytes
with_cell f zoom _ = f

abbrev pub with_tile : TileFacts → Place × Option (List ℕ) → TileFacts
with_tile f e = with_cell f e.0.zoom (blob_cell e.1)

abbrev pub no_facts : TileFacts
no_facts = record { zooms = None; gzip = false; plain = false }

-- what all tiles say
abbrev pub facts_of : TileSet → TileFacts
facts_of tiles = fold with_tile no_facts (entries tiles)

-- Vector tiles are gzip where all of them begin so, uncompressed where none does, and unknown where some
-- do. Others are as they are.
abbrev pub label_of : TileType → TileFacts → Compression
label_of types.Mvt f = cond f.plain (cond f.gzip labels.Unknown labels.None) labels.Gzip
label_of _ f = labels.None

pub nothing_filled : label_of types.Mvt no_facts ≡ labels.Gzip
nothing_filled = refl

pub two_tiles : with_bytes (with_bytes (with_bytes no_facts 3 (31 ∷ 139 ∷ 8 ∷ [])) 1 []) 5 (31 ∷ []) ≡ record { zooms = Some (3, 5); gzip = true; plain = true }
two_tiles = refl

pub some_gzip : label_of types.Mvt (record { zooms = Some (3, 5); gzip = true; plain = true }) ≡ labels.Unknown
some_gzip = refl

pub images : label_of types.Png (record { zooms = Some (3, 5); gzip = false; plain = true }) ≡ labels.None
images = refl
