-- Documents as values of JSON: that which describes an archive (TileJSON 3.0.0), and the metadata of a set.
use Rattle.std.specs.Prelude.{◌≡◌, ℕ, ◌++◌, List, [], ◌∷◌, Option, Some, None, codes, fold, map, option_map, unwrap_or, refl}
use Rattle.tile_command.specs.Common.{array, as_it_is, Cell, Data, entries, items_of, layers_data, Members, Names, no_members, null, object, put, put_some, read, string, text_cell, Text, TileBounds, TileCenter, TileJson, VectorLayer, with_entries, zoom_data}
use Rattle.tile_json.specs.declared.extent.TileBounds.TheVariants as bounds
use Rattle.tile_json.specs.declared.extent.TileCenter.TheVariants as centers
use Rattle.tile_command.specs.HeaderLines.{bounds_text, center_text}

-- the value that a text of JSON is, or the text itself where it is none
abbrev pub json_or_text : List ℕ → Data
json_or_text text = unwrap_or (read text) (string text)

-- a list of the numbers that a text has, parted by commas
abbrev pub numbers_data : List ℕ → Data
numbers_data numbers = json_or_text (codes "[" ++ (numbers ++ codes "]"))

abbrev pub bounds_data : TileBounds → Data
bounds_data (bounds.Whole west south east north) = numbers_data (bounds_text west south east north)
bounds_data (bounds.Text text) = string text

abbrev pub center_data : TileCenter → Data
center_data (centers.Whole longitude latitude zoom) = numbers_data (center_text longitude latitude zoom)
center_data (centers.Text text) = string text

-- members with the bounds and the center, if they are said
abbrev pub with_extents : TileJson → Members → Members
with_extents x ms =
    put_some (codes "center") (option_map center_data x.center) (put_some (codes "bounds") (option_map bounds_data x.bounds) ms)

-- members with the texts that say what a set is
abbrev pub with_names : TileJson → Members → Members
with_names x ms =
    put_some (codes "description") (option_map string x.description)
    (put_some (codes "version") (option_map string x.version)
    (put_some (codes "name") (option_map string x.name) ms))

-- members with the other texts that are said
abbrev pub with_texts : TileJson → Members → Members
with_texts x ms =
    put_some (codes "template") (option_map string x.template)
    (put_some (codes "legend") (option_map string x.legend)
    (put_some (codes "attribution") (option_map string x.attribution) ms))

-- members with the zooms that are said
abbrev pub with_zooms : TileJson → Members → Members
with_zooms x ms = put_some (codes "maxzoom") (option_map zoom_data x.maxzoom) (put_some (codes "minzoom") (option_map zoom_data x.minzoom) ms)

abbrev pub texts_data : List (List ℕ) → Data
texts_data texts = array (items_of (map string texts))

abbrev pub members_of : Data → Members
members_of (object ms) = ms
members_of d = no_members

abbrev pub layer_members : Option (List VectorLayer) → Members
layer_members None = no_members
layer_members (Some layers) = members_of (layers_data layers)

-- the layers, what has no field of its own, and over them the fields that are said
abbrev pub tilejson_data : TileJson → Data
tilejson_data x = object
    (with_extents x (with_zooms x (with_texts x (with_names x (put (codes "tiles") (texts_data x.tiles) (put (codes "tilejson") (string (codes "3.0.0"))
    (with_entries as_it_is (layer_members x.vector_layers) (entries x.other))))))))

abbrev pub cell_data : Cell → Data
cell_data (Text text) = string text
cell_data cell = null

abbrev pub with_stored : Members → List ℕ × Option (List ℕ) → Members
with_stored ms e = put e.0 (cell_data (text_cell e.1)) ms

-- each name of a set's metadata with its text, or null
abbrev pub names_members : Names → Members
names_members names = fold with_stored no_members (entries names)

abbrev pub names_data : Names → Data
names_data names = object (names_members names)

pub a_west_and_a_south : bounds_data (bounds.Text (codes "1,2")) ≡ string (codes "1,2")
a_west_and_a_south = refl
