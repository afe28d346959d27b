-- What the names of metadata are to have by a document.
use Rattle.std.specs.Prelude.{◌≡◌, ℕ, codes, false, ◌++◌, List, Option, All, IfSome, map, option_map, option_to_list, unwrap_or}
use Rattle.mb_metadata.specs.Common.{compact_text, Data, decimal, entries, FinMap, has_float, nat_cmp, signed_decimal, slice_cmp, State, TileBounds, TileCenter, TileJson, VectorLayer}
use Rattle.mb_metadata.specs.LayerJson.{layers_data}
use Rattle.mb_metadata.specs.NameEdits.{put_any, put_of}
use Rattle.mb_metadata.specs.declared.name_edits.NameEdit.{NameEdit}
use Rattle.serde_json.specs.Find.{as_str}
use Rattle.tile_json.specs.declared.extent.TileBounds.TheVariants as bounds
use Rattle.tile_json.specs.declared.extent.TileCenter.TheVariants as center

abbrev pub JsonMap : Type 0
JsonMap = FinMap (slice_cmp nat_cmp) Data

-- no number of the values is held as a float
abbrev pub HasNoFloat : JsonMap → Type 0
HasNoFloat m = All (λ e. has_float e.1 ≡ false) (entries m)

abbrev pub LayersHaveNoFloat : List VectorLayer → Type 0
LayersHaveNoFloat layers = All (λ l. HasNoFloat l.other) layers

-- the same of all values of a document
pub record IsWithoutFloat (t : TileJson) : Type 0 where
  pub other : HasNoFloat t.other
  pub layers : IfSome t.vector_layers LayersHaveNoFloat

-- a text as it is, another value as its compact JSON
abbrev pub data_text : Data → List ℕ
data_text d = unwrap_or (as_str d) (compact_text d)

abbrev pub other_edits : JsonMap → List NameEdit
other_edits other = map (λ e. put_of e.0 (data_text e.1)) (entries other)

-- numbers parted by commas, or the text that stands for them
abbrev pub bounds_text : TileBounds → List ℕ
bounds_text (bounds.Text text) = text
bounds_text (bounds.Whole west south east north) = signed_decimal west ++ (codes "," ++ (signed_decimal south ++ (codes "," ++ (signed_decimal east ++ (codes "," ++ signed_decimal north)))))

abbrev pub center_text : TileCenter → List ℕ
center_text (center.Text text) = text
center_text (center.Whole lon lat zoom) = signed_decimal lon ++ (codes "," ++ (signed_decimal lat ++ (codes "," ++ decimal zoom)))

-- the compact JSON of layers
abbrev pub layers_text : List VectorLayer → List ℕ
layers_text layers = compact_text (layers_data layers)

-- edits, followed by one more if there is a text
abbrev pub then_put : List NameEdit → List ℕ → Option (List ℕ) → List NameEdit
then_put edits name text = edits ++ option_to_list (put_any name text)

-- edits, followed by those of the texts of a document, and by those of what isn't a text
abbrev pub then_texts : List NameEdit → TileJson → List NameEdit
then_texts edits t =
    then_put (then_put (then_put (then_put (then_put (then_put edits
    (codes "name") t.name)
    (codes "version") t.version)
    (codes "description") t.description)
    (codes "attribution") t.attribution)
    (codes "legend") t.legend)
    (codes "template") t.template

abbrev pub then_extents : List NameEdit → TileJson → List NameEdit
then_extents edits t =
    then_put (then_put (then_put (then_put edits
    (codes "bounds") (option_map bounds_text t.bounds))
    (codes "center") (option_map center_text t.center))
    (codes "minzoom") (option_map decimal t.minzoom))
    (codes "maxzoom") (option_map decimal t.maxzoom)

-- the edits of a document: what has no field of its own, the fields, and the layers. Of two edits of
-- one name the later counts
abbrev pub document_edits : TileJson → List NameEdit
document_edits t = then_put (then_extents (then_texts (other_edits t.other) t) t) (codes "json") (option_map layers_text t.vector_layers)

abbrev pub insert_edits : TileJson → State → List NameEdit
insert_edits t s = document_edits t
