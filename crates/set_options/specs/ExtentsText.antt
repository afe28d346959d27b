-- The bounds and the center of a header, where a set has to say them.
use Rattle.std.specs.Prelude.{◌≡◌, ℕ, ◌++◌, ◌&&◌, ◌||◌, ℤ, pos, negsuc, Bool, not, cond, nat_eq, List, Option, Some, None, codes, refl}
use Rattle.set_options.specs.Common.{decimal, Header, int_cmp, is_eq, is_gt, is_lt}
use Rattle.set_options.specs.DegreesText.{degrees_text}
use Rattle.pm_format.specs.HeaderDefaults.{default_header}
use Rattle.pm_format.specs.declared.compression.Compression.TheVariants as compression
use Rattle.pm_format.specs.declared.tile_type.TileType.TheVariants as types
use Rattle.set_options.specs.Extents.{is_latitude, middle_of}
use Rattle.set_options.specs.declared.extents.SetBounds.{SetBounds}
use Rattle.set_options.specs.declared.extents.SetCenter.{SetCenter}
use Rattle.tile_json.specs.declared.extent.TileBounds.{TileBounds}
use Rattle.tile_json.specs.declared.extent.TileBounds.TheVariants as bounds
use Rattle.tile_json.specs.declared.extent.TileCenter.{TileCenter}
use Rattle.tile_json.specs.declared.extent.TileCenter.TheVariants as center

-- west, south, east and north in degrees
abbrev pub bounds_text : Header → List ℕ
bounds_text h = degrees_text h.min_longitude ++ (codes "," ++ (degrees_text h.min_latitude ++ (codes "," ++ (degrees_text h.max_longitude ++ (codes "," ++ degrees_text h.max_latitude)))))

-- longitude and latitude in degrees, and the zoom
abbrev pub center_text : Header → List ℕ
center_text h = degrees_text h.center_longitude ++ (codes "," ++ (degrees_text h.center_latitude ++ (codes "," ++ decimal h.center_zoom)))

abbrev pub bounds_of : Header → SetBounds
bounds_of h = record { west = h.min_longitude; south = h.min_latitude; east = h.max_longitude; north = h.max_latitude }

unfoldable pub same : ℤ → ℤ → Bool
same a b = is_eq (int_cmp a b)

-- the bounds of the world, with which a header begins
unfoldable pub are_of_world : SetBounds → Bool
are_of_world b = same b.west (negsuc 1799999999) && (same b.south (negsuc 850511289) && (same b.east (pos 1800000000) && same b.north (pos 850511290)))

-- from -180 to 180 degrees
unfoldable pub is_longitude : ℤ → Bool
is_longitude d = not (is_gt (int_cmp d (pos 1800000000))) && not (is_lt (int_cmp d (negsuc 1799999999)))

-- a latitude that is read back
unfoldable pub is_said_latitude : ℤ → Bool
is_said_latitude d = is_latitude d

unfoldable pub is_above : ℤ → ℤ → Bool
is_above a b = is_gt (int_cmp a b)

unfoldable pub are_in_range : SetBounds → Bool
are_in_range b = is_longitude b.west && (is_said_latitude b.south && (is_longitude b.east && is_said_latitude b.north))

-- bounds that are read back from what a set says
unfoldable pub are_sayable : SetBounds → Bool
are_sayable b = are_in_range b && not (is_above b.south b.north)

-- whether a header's center is at the place of another
unfoldable pub is_at : Header → SetCenter → Bool
is_at h c = same h.center_longitude c.longitude && same h.center_latitude c.latitude

-- whether a header's center is at the least zoom, or at zoom 0 in the bounds of the world, with which a header begins
unfoldable pub is_at_first_zoom : Header → SetBounds → Bool
is_at_first_zoom h b = nat_eq h.center_zoom h.min_zoom || (nat_eq h.center_zoom 0 && are_of_world b)

-- whether a header's center is the one that a set of these bounds has without a word
unfoldable pub is_middle_of : Header → SetBounds → Bool
is_middle_of h b = is_at h (middle_of b h.min_zoom) && is_at_first_zoom h b

-- A set without a center has the middle of its bounds, at its least zoom. Of the world's bounds none is said at zoom 0
-- either, with which a header begins.
unfoldable pub has_own_center : Header → Bool
has_own_center h = not (are_sayable (bounds_of h) && is_middle_of h (bounds_of h))

-- what a set says of them: nothing where it would have the same without a word
abbrev pub bounds_said : Header → Option TileBounds
bounds_said h = cond (are_of_world (bounds_of h)) None (Some (bounds.Text (bounds_text h)))

abbrev pub center_said : Header → Option TileCenter
center_said h = cond (has_own_center h) (Some (center.Text (center_text h))) None

-- the header that a writer begins with says neither
pub nothing_said : (bounds_said (default_header compression.None types.Png) ≡ None) × (center_said (default_header compression.None types.Png) ≡ None)
unfolding same are_of_world is_longitude is_said_latitude is_above are_in_range are_sayable is_at is_at_first_zoom is_middle_of has_own_center
nothing_said = (refl, refl)
