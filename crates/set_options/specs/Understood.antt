-- Whether a row of metadata is in a form that its name asks for.
use Rattle.std.specs.Prelude.{◌≡◌, ℕ, Bool, true, false, is_some, if◌then◌else◌, List, Some, codes, refl}
use Rattle.set_options.specs.Common.{as_object, bytes_eq, option_and_then, read, TileType}
use Rattle.pm_format.specs.declared.tile_type.TileType.TheVariants as types
use Rattle.set_options.specs.Extents.{bounds_in, center_in}
use Rattle.set_options.specs.Format.{type_named, type_of}

abbrev pub is_known : TileType → Bool
is_known types.Unknown = false
is_known _ = true

-- `format` names a type of tiles, `bounds` and `center` are in form, `json` is an object;
-- nothing is asked of other names
abbrev pub is_understood : List ℕ → List ℕ → Bool
is_understood name value =
    if bytes_eq name (codes "format") then is_known (type_of (Some value))
    else (if bytes_eq name (codes "bounds") then is_some (bounds_in value)
    else (if bytes_eq name (codes "center") then is_some (center_in value)
    else (if bytes_eq name (codes "json") then is_some (option_and_then as_object (read value)) else true)))

pub a_type : is_understood (codes "format") (codes "pbf") ≡ true
unfolding type_named
a_type = refl

pub no_type : is_understood (codes "format") (codes "gif") ≡ false
unfolding type_named
no_type = refl

pub another_name : (value : List ℕ) → is_understood (codes "name") value ≡ true
another_name value = refl
