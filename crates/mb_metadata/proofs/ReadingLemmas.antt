-- What a set says of itself, field by field.
use Rattle.mb_metadata.proofs.Common.{bounds_said, center_said, codes, Data, document_said, document_within, FinMap, json_said, layers_said, List, metadata_of, Names, nat_cmp, None, Option}
use Rattle.mb_metadata.proofs.Common.{others_said, said, slice_cmp, span, State, TileBounds, TileCenter, TileJson, VectorLayer, zoom_at, zooms_of, ℕ, [], ◌∙◌, ◌≡◌}
use Rattle.mb_metadata.specs.declared.metadata.Metadata.{Metadata}

abbrev Text : Type 0
Text = Option (List ℕ)

module _ (names : Names) {tiles : List (List ℕ)} {name version description attribution legend template : Text} {minzoom maxzoom : Option ℕ} {bounds : Option TileBounds} {center : Option TileCenter} {other : FinMap (slice_cmp nat_cmp) Data} where
  pub document_same :
      tiles ≡ [] → name ≡ said names (codes "name") → version ≡ said names (codes "version") → description ≡ said names (codes "description")
      → attribution ≡ said names (codes "attribution") → legend ≡ said names (codes "legend") → template ≡ said names (codes "template")
      → minzoom ≡ zoom_at names (codes "minzoom") → maxzoom ≡ zoom_at names (codes "maxzoom") → bounds ≡ bounds_said names → center ≡ center_said names
      → other ≡ others_said names → ◌≡◌ {A = TileJson} record {
        tiles = tiles;
        name = name;
        version = version;
        description = description;
        attribution = attribution;
        legend = legend;
        template = template;
        minzoom = minzoom;
        maxzoom = maxzoom;
        bounds = bounds;
        center = center;
        vector_layers = None;
        other = other;
      } (document_said names)
  document_same t n v d a l m p q b c o i = record {
    tiles = t i;
    name = n i;
    version = v i;
    description = d i;
    attribution = a i;
    legend = l i;
    template = m i;
    minzoom = p i;
    maxzoom = q i;
    bounds = b i;
    center = c i;
    vector_layers = None;
    other = o i;
  }

module _ (id : List ℕ) (s : State) {file : List ℕ} {layer_type agg_tiles_hash : Text} {tilejson document : TileJson} {tiles : Option (ℕ × ℕ)} {layers : Option (List VectorLayer)} {json : Option Data} where
  pub metadata_same :
      file ≡ id → layer_type ≡ said s.metadata (codes "type") → agg_tiles_hash ≡ said s.metadata (codes "agg_tiles_hash")
      → document ≡ document_said s.metadata → layers ≡ layers_said s.metadata → json ≡ json_said s.metadata → tiles ≡ span (zooms_of s.tiles)
      → tilejson ≡ document_within tiles document layers → ◌≡◌ {A = Metadata} record { id = file; layer_type = layer_type; tilejson = tilejson; json = json; agg_tiles_hash = agg_tiles_hash } (metadata_of id s)
  metadata_same f t h d l j z w =
      let whole : tilejson ≡ document_within (span (zooms_of s.tiles)) (document_said s.metadata) (layers_said s.metadata) = w ∙ (λ i. document_within (z i) (d i) (l i)) in
      λ i. record { id = f i; layer_type = t i; tilejson = whole i; json = j i; agg_tiles_hash = h i }
