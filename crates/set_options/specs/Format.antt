-- The type of tiles that a text under the name `format` says.
use Rattle.std.specs.Prelude.{◌≡◌, ℕ, ◌||◌, Bool, cond, List, Option, Some, None, codes, refl}
use Rattle.set_options.specs.Common.{str_eq_ignore_ascii_case, TileType}
use Rattle.pm_format.specs.declared.tile_type.TileType.TheVariants as types
use Rattle.set_options.specs.Extents.{trimmed}

-- whether a word is a name, ASCII case aside
abbrev pub is_name : List ℕ → List ℕ → Bool
is_name word name = str_eq_ignore_ascii_case word name

-- a name, or the media type with it behind
abbrev pub is_image : List ℕ → List ℕ → List ℕ → Bool
is_image word name media_type = is_name word name || is_name word media_type

abbrev pub is_mvt : List ℕ → Bool
is_mvt word =
    is_name word (codes "pbf") || (is_name word (codes "mvt") || (is_name word (codes "application/x-protobuf")
    || (is_name word (codes "application/vnd.mapbox-vector-tile") || (is_name word (codes "x-protobuf") || is_name word (codes "protobuf")))))

abbrev pub is_jpeg : List ℕ → Bool
is_jpeg word = is_image word (codes "jpg") (codes "image/jpg") || is_image word (codes "jpeg") (codes "image/jpeg")

-- the type that a word names
unfoldable pub type_named : List ℕ → TileType
type_named word =
    cond (is_mvt word) types.Mvt
    (cond (is_image word (codes "png") (codes "image/png")) types.Png
    (cond (is_jpeg word) types.Jpeg
    (cond (is_image word (codes "webp") (codes "image/webp")) types.Webp
    (cond (is_image word (codes "avif") (codes "image/avif")) types.Avif
    (cond (is_image word (codes "mlt") (codes "application/vnd.maplibre-vector-tile")) types.Mlt types.Unknown)))))

-- the type of a text, blanks around it aside; unknown where there is none
abbrev pub type_of : Option (List ℕ) → TileType
type_of None = types.Unknown
type_of (Some text) = type_named (trimmed text)

pub vector_tiles : type_of (Some (codes " PBF ")) ≡ types.Mvt
unfolding type_named
vector_tiles = refl

pub a_media_type : type_of (Some (codes "image/jpeg")) ≡ types.Jpeg
unfolding type_named
a_media_type = refl

pub another_word : type_of (Some (codes "gif")) ≡ types.Unknown
unfolding type_named
another_word = refl
