-- The layers that a value of JSON lists (TileJSON 3.0.0, `vector_layers`).
use Rattle.std.specs.Prelude.{◌≡◌, refl, ℕ, List, [], ◌∷◌, codes, nat_lt, Option, Some, None, option_map, option_and_then, if◌then◌else◌}
use Rattle.tile_json.specs.Common.{as_array, as_number, as_object, as_str, as_u64, Data, empty, FinMap, get_member, item, Items, member, Members, nat_cmp, no_items, no_members, null, number, object}
use Rattle.tile_json.specs.Common.{slice_cmp, string, unsigned}
use Rattle.tile_json.specs.Members.{without, with_all, with_texts}
use Rattle.tile_json.specs.declared.layer.VectorLayer.{VectorLayer}

-- 0 to 255
abbrev pub zoom_of : Data → Option ℕ
zoom_of d = option_and_then (λ n. if nat_lt n 256 then Some n else None) (option_and_then as_u64 (as_number d))

-- what is missing or null says nothing
abbrev pub optional : {A : Type 0} → (Data → Option A) → Option Data → Option (Option A)
optional read None = Some None
optional read (Some null) = Some None
optional read (Some d) = option_map Some (read d)

-- the members that have none of a layer's names
abbrev pub others : Members → Members
others ms = without (codes "maxzoom") (without (codes "minzoom") (without (codes "description") (without (codes "fields") (without (codes "id") ms))))

-- what is made of five things, where all of them are there
abbrev pub of_five : {A B C D E R : Type 0} → (A → B → C → D → E → R) → Option A → Option B → Option C → Option D → Option E → Option R
of_five make a b c d e = option_and_then (λ x. option_and_then (λ y. option_and_then (λ z. option_and_then (λ v. option_map (λ w. make x y z v w) e) d) c) b) a

abbrev pub id_in : Members → Option (List ℕ)
id_in ms = option_and_then as_str (get_member (codes "id") ms)

abbrev pub fields_in : Members → Option (FinMap (slice_cmp nat_cmp) (List ℕ))
fields_in ms = option_and_then (with_texts empty) (option_and_then as_object (get_member (codes "fields") ms))

abbrev pub description_in : Members → Option (Option (List ℕ))
description_in ms = optional as_str (get_member (codes "description") ms)

abbrev pub minzoom_in : Members → Option (Option ℕ)
minzoom_in ms = optional zoom_of (get_member (codes "minzoom") ms)

abbrev pub maxzoom_in : Members → Option (Option ℕ)
maxzoom_in ms = optional zoom_of (get_member (codes "maxzoom") ms)

-- the layer of what its members say
abbrev pub layer_made : Members → List ℕ → FinMap (slice_cmp nat_cmp) (List ℕ) → Option (List ℕ) → Option ℕ → Option ℕ → VectorLayer
layer_made ms id fields description minzoom maxzoom =
    record { id = id; fields = fields; description = description; minzoom = minzoom; maxzoom = maxzoom; other = with_all empty (others ms) }

-- a text `id`, and `fields` of texts; `description` a text, `minzoom` and `maxzoom` zooms, if they are there
abbrev pub layer_with : Members → Option VectorLayer
layer_with ms = of_five (layer_made ms) (id_in ms) (fields_in ms) (description_in ms) (minzoom_in ms) (maxzoom_in ms)

abbrev pub layer_of : Data → Option VectorLayer
layer_of d = option_and_then layer_with (as_object d)

abbrev pub layers_in : Items → Option (List VectorLayer)
layers_in no_items = Some []
layers_in (item d ds) = option_and_then (λ layer. option_map (λ layers. layer ∷ layers) (layers_in ds)) (layer_of d)

abbrev pub layers_of : Data → Option (List VectorLayer)
layers_of d = option_and_then layers_in (as_array d)

pub least_layer : (id : List ℕ) → layer_of (object (member (codes "fields") (object no_members) (member (codes "id") (string id) no_members)))
    ≡ Some record { id = id; fields = empty; description = None; minzoom = None; maxzoom = None; other = empty }
least_layer id = refl

pub layer_without_fields : (id : List ℕ) → layer_of (object (member (codes "id") (string id) no_members)) ≡ None
layer_without_fields id = refl

pub zoom_of_256 : zoom_of (number (unsigned 256)) ≡ None
zoom_of_256 = refl

pub null_zoom : optional zoom_of (Some null) ≡ Some None
null_zoom = refl
