-- The JSON of layers of vector tiles.
use Rattle.std.specs.Prelude.{ℕ, codes, List, [], ◌∷◌, Option, Some, None, map, option_map}
use Rattle.mb_metadata.specs.Common.{array, Data, entries, FinMap, items_of, Members, nat_cmp, no_members, number, object, put, slice_cmp, string, unsigned, VectorLayer}

-- members, with each entry put at its name
abbrev pub with_entries : {V : Type 0} → (V → Data) → Members → List (List ℕ × V) → Members
with_entries value ms [] = ms
with_entries value ms (e ∷ es) = with_entries value (put e.0 (value e.1) ms) es

abbrev pub as_it_is : Data → Data
as_it_is d = d

-- an object of texts
abbrev pub texts_data : FinMap (slice_cmp nat_cmp) (List ℕ) → Data
texts_data fields = object (with_entries string no_members (entries fields))

-- a member, if it is there
abbrev pub put_some : List ℕ → Option Data → Members → Members
put_some name None ms = ms
put_some name (Some d) ms = put name d ms

abbrev pub zoom_data : ℕ → Data
zoom_data zoom = number (unsigned zoom)

-- the members of a layer: those that have no field of their own, and over them the fields that are there
abbrev pub layer_members : VectorLayer → Members
layer_members l =
    put_some (codes "maxzoom") (option_map zoom_data l.maxzoom)
    (put_some (codes "minzoom") (option_map zoom_data l.minzoom)
    (put_some (codes "description") (option_map string l.description)
    (put (codes "fields") (texts_data l.fields)
    (put (codes "id") (string l.id)
    (with_entries as_it_is no_members (entries l.other))))))

abbrev pub layer_data : VectorLayer → Data
layer_data l = object (layer_members l)

-- an object with the list of layers
abbrev pub layers_data : List VectorLayer → Data
layers_data layers = object (put (codes "vector_layers") (array (items_of (map layer_data layers))) no_members)
