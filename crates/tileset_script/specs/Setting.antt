-- The options that lines of a script give.
use Rattle.std.specs.Prelude.{◌≡◌, ℕ, ◌^◌, ℤ, Bool, true, false, List, [], ◌∷◌, if◌then◌else◌, Option, Some, None, codes, negsuc, pos, refl}
use Rattle.tileset_script.specs.Common.{bytes_eq, integer_below, list_any, number_to, option_and_then, option_map}
use Rattle.pm_format.specs.Options.{Options, default_options}
use Rattle.pm_format.specs.declared.compression.Compression.{Compression}
use Rattle.pm_format.specs.declared.compression.Compression.TheVariants as compressions
use Rattle.pm_format.specs.declared.tile_type.TileType.{TileType}
use Rattle.pm_format.specs.declared.tile_type.TileType.TheVariants as types
use Rattle.tileset_script.specs.declared.script.options.ScriptOptions.{ScriptOptions}
use Rattle.tileset_script.specs.LeafEntries.{leaf_entries_of}
use Rattle.tileset_script.specs.Text.{text_of}
use Rattle.tileset_script.specs.declared.script.setting.Setting.{Setting}
use Rattle.tileset_script.specs.declared.script.setting.Setting.TheVariants as given
use Rattle.tileset_script.specs.declared.script.setting.Setting.TheVariants.{Force, Verify, TileCompression, InternalCompression, MinZoom, MaxZoom, CenterZoom, MaxLeafEntries, Bounds, Center, Metadata}

abbrev pub type_named : List ℕ → Option TileType
type_named word =
    if bytes_eq word (codes "unknown") then Some types.Unknown else
    (if bytes_eq word (codes "mvt") then Some types.Mvt else
    (if bytes_eq word (codes "png") then Some types.Png else
    (if bytes_eq word (codes "jpeg") then Some types.Jpeg else
    (if bytes_eq word (codes "webp") then Some types.Webp else
    (if bytes_eq word (codes "avif") then Some types.Avif else
    (if bytes_eq word (codes "mlt") then Some types.Mlt else None))))))

abbrev pub compression_named : List ℕ → Option Compression
compression_named word =
    if bytes_eq word (codes "unknown") then Some compressions.Unknown else
    (if bytes_eq word (codes "none") then Some compressions.None else
    (if bytes_eq word (codes "gzip") then Some compressions.Gzip else
    (if bytes_eq word (codes "brotli") then Some compressions.Brotli else
    (if bytes_eq word (codes "zstd") then Some compressions.Zstd else None))))

-- a number of 32 bits
abbrev pub degrees_of : List ℕ → Option ℤ
degrees_of word = integer_below (2 ^ 31) word

abbrev pub zoom_of : List ℕ → Option ℕ
zoom_of word = number_to 255 word

-- the option of this name without a value
abbrev pub without_value : List ℕ → Option Setting
without_value name =
    if bytes_eq name (codes "force") then Some Force else
    (if bytes_eq name (codes "verify") then Some Verify else None)

-- the option of this name with one value
abbrev pub with_value : List ℕ → List ℕ → Option Setting
with_value name word =
    if bytes_eq name (codes "type") then option_map given.TileType (type_named word) else
    (if bytes_eq name (codes "tile-compression") then option_map TileCompression (compression_named word) else
    (if bytes_eq name (codes "internal-compression") then option_map InternalCompression (compression_named word) else
    (if bytes_eq name (codes "min-zoom") then option_map MinZoom (zoom_of word) else
    (if bytes_eq name (codes "max-zoom") then option_map MaxZoom (zoom_of word) else
    (if bytes_eq name (codes "center-zoom") then option_map CenterZoom (zoom_of word) else
    (if bytes_eq name (codes "max-leaf-entries") then option_map MaxLeafEntries (leaf_entries_of word) else
    (if bytes_eq name (codes "metadata") then option_map Metadata (text_of word) else None)))))))

abbrev pub center_of : List ℕ → List ℕ → Option Setting
center_of a b = option_and_then (λ lon. option_map (λ lat. Center lon lat) (degrees_of b)) (degrees_of a)

abbrev pub bounds_of : List ℕ → List ℕ → List ℕ → List ℕ → Option Setting
bounds_of a b c d = option_and_then (λ w. option_and_then (λ s. option_and_then (λ e. option_map (λ n. Bounds w s e n) (degrees_of d)) (degrees_of c)) (degrees_of b)) (degrees_of a)

-- the option of a name and its values
abbrev pub setting_of : List ℕ → List (List ℕ) → Option Setting
setting_of name [] = without_value name
setting_of name (a ∷ []) = with_value name a
setting_of name (a ∷ b ∷ []) = if bytes_eq name (codes "center") then center_of a b else None
setting_of name (a ∷ b ∷ c ∷ []) = None
setting_of name (a ∷ b ∷ c ∷ d ∷ []) = if bytes_eq name (codes "bounds") then bounds_of a b c d else None
setting_of name (a ∷ b ∷ c ∷ d ∷ e ∷ words) = None

-- the last type that is given
abbrev pub type_in : TileType → List Setting → TileType
type_in type [] = type
type_in type (given.TileType t ∷ settings) = type_in t settings
type_in type (_ ∷ settings) = type_in type settings

abbrev pub is_force : Setting → Bool
is_force Force = true
is_force _ = false

abbrev pub is_verify : Setting → Bool
is_verify Verify = true
is_verify _ = false

-- what is said of the archive, with one setting more; the type stands already
abbrev pub with_setting : Options → Setting → Options
with_setting o Force = o
with_setting o Verify = o
with_setting o (given.TileType t) = o
with_setting o (TileCompression c) = record o { tile_compression = c }
with_setting o (InternalCompression c) = record o { internal_compression = c }
with_setting o (MinZoom n) = record o { min_zoom = n }
with_setting o (MaxZoom n) = record o { max_zoom = n }
with_setting o (CenterZoom n) = record o { center_zoom = n }
with_setting o (MaxLeafEntries n) = record o { max_leaf_entries = n }
with_setting o (Bounds w s e n) = record o { min_longitude = w; min_latitude = s; max_longitude = e; max_latitude = n }
with_setting o (Center lon lat) = record o { center_longitude = lon; center_latitude = lat }
with_setting o (Metadata text) = record o { metadata = text }

abbrev pub with_settings : Options → List Setting → Options
with_settings o [] = o
with_settings o (setting ∷ settings) = with_settings (with_setting o setting) settings

-- the defaults of the last type, and what is given in order
abbrev pub writer_of : List Setting → Options
writer_of settings = with_settings (default_options (type_in types.Unknown settings)) settings

-- the options that settings give
abbrev pub options_of : List Setting → ScriptOptions
options_of settings = record { force = list_any is_force settings; verify = list_any is_verify settings; writer = writer_of settings }

pub last_type_counts : writer_of (given.TileType types.Mvt ∷ MinZoom 3 ∷ given.TileType types.Png ∷ MinZoom 4 ∷ []) ≡ record (default_options types.Png) { min_zoom = 4 }
last_type_counts = refl

pub label_stays : writer_of (TileCompression compressions.None ∷ given.TileType types.Mvt ∷ []) ≡ record (default_options types.Mvt) { tile_compression = compressions.None }
label_stays = refl

pub bounds_line : setting_of (codes "bounds") (codes "-1" ∷ codes "0" ∷ codes "2" ∷ codes "3" ∷ []) ≡ Some (Bounds (negsuc 0) (pos 0) (pos 2) (pos 3))
bounds_line = refl

pub flags : options_of (Verify ∷ MinZoom 1 ∷ []) ≡ record { force = false; verify = true; writer = record (default_options types.Unknown) { min_zoom = 1 } }
flags = refl

pub flag_with_value : setting_of (codes "force") (codes "1" ∷ []) ≡ None
flag_with_value = refl
