-- What the metadata of an archive, a text of JSON, adds to a document.
use Rattle.std.specs.Prelude.{◌≡◌, ℕ, List, ◌||◌, codes, Option, Some, None, option_map, option_and_then, if◌then◌else◌, refl}
use Rattle.tile_json.specs.Common.{array, as_object, boolean, Data, has_float, insert, member, Members, no_members, null, Num, number, object, string}
use Rattle.std.specs.Str.{bytes_eq}
use Rattle.serde_json.specs.Read.{read}
use Rattle.tile_json.specs.LayerReading.{layers_of}
use Rattle.tile_json.specs.declared.document.TileJson.{TileJson}

abbrev pub with_other : TileJson → List ℕ → Data → TileJson
with_other x name d = record x { other = insert x.other name d }

-- Texts of five names fill their fields. The zooms are those of the header, so that texts of
-- their names are passed over.
abbrev pub with_text : TileJson → List ℕ → List ℕ → TileJson
with_text x name text =
    if bytes_eq name (codes "description") then record x { description = Some text } else
    (if bytes_eq name (codes "attribution") then record x { attribution = Some text } else
    (if bytes_eq name (codes "legend") then record x { legend = Some text } else
    (if bytes_eq name (codes "name") then record x { name = Some text } else
    (if bytes_eq name (codes "version") then record x { version = Some text } else
    (if bytes_eq name (codes "minzoom") || bytes_eq name (codes "maxzoom") then x else with_other x name (string text))))))

-- of the others only the layers have a name
abbrev pub with_value : TileJson → List ℕ → Data → Option TileJson
with_value x name d =
    if bytes_eq name (codes "vector_layers") then option_map (λ layers. record x { vector_layers = Some layers }) (layers_of d) else Some (with_other x name d)

abbrev pub with_member : TileJson → List ℕ → Data → Option TileJson
with_member x name null = with_value x name null
with_member x name (boolean b) = with_value x name (boolean b)
with_member x name (number n) = with_value x name (number n)
with_member x name (string text) = Some (with_text x name text)
with_member x name (array ds) = with_value x name (array ds)
with_member x name (object ms) = with_value x name (object ms)

abbrev pub with_members : TileJson → Members → Option TileJson
with_members x no_members = Some x
with_members x (member name d ms) = option_and_then (λ y. with_members y ms) (with_member x name d)

-- a text of JSON in which no number is held as a float
abbrev pub whole_data : List ℕ → Option Data
whole_data text = option_and_then (λ d. if has_float d then None else Some d) (read text)

-- the document with the members of the object that the text is
unfoldable pub tilejson_in : TileJson → List ℕ → Option TileJson
tilejson_in x text = option_and_then (with_members x) (option_and_then as_object (whole_data text))

-- a text of a zoom is passed over, and its number isn't
pub zoom_as_text : (x : TileJson) (text : List ℕ) → with_member x (codes "minzoom") (string text) ≡ Some x
zoom_as_text x text = refl

pub zoom_as_number : (x : TileJson) (n : Num) → with_member x (codes "minzoom") (number n) ≡ Some (with_other x (codes "minzoom") (number n))
zoom_as_number x n = refl

-- texts under the names of other fields are kept as they are
pub template_as_text : (x : TileJson) (text : List ℕ) → with_member x (codes "template") (string text) ≡ Some (with_other x (codes "template") (string text))
template_as_text x text = refl

pub layers_as_text : (x : TileJson) (text : List ℕ) → with_member x (codes "vector_layers") (string text) ≡ Some (with_other x (codes "vector_layers") (string text))
layers_as_text x text = refl

pub layers_as_null : (x : TileJson) → with_member x (codes "vector_layers") null ≡ None
layers_as_null x = refl
