-- The zooms that a set says, by those of its tiles.
use Rattle.std.specs.Prelude.{◌≡◌, refl, ℕ, min, max, List, map, Option, Some, None, option_map, unwrap_or}
use Rattle.mb_metadata.specs.Common.{TileJson, VectorLayer}

-- The least and the greatest zoom of the tiles, and the least and the greatest that are said. Where one isn't said,
-- that of the tiles is taken for it.
abbrev pub minzoom_within : Option (ℕ × ℕ) → Option ℕ → Option ℕ → Option ℕ
minzoom_within None p q = p
minzoom_within (Some tiles) p q = Some (min tiles.0 (min (unwrap_or q tiles.1) (unwrap_or p tiles.0)))

abbrev pub maxzoom_within : Option (ℕ × ℕ) → Option ℕ → Option ℕ → Option ℕ
maxzoom_within None p q = q
maxzoom_within (Some tiles) p q = Some (min tiles.1 (max tiles.0 (max (unwrap_or q tiles.1) (unwrap_or p tiles.0))))

-- a layer by the zooms that it says itself
abbrev pub layer_within : Option (ℕ × ℕ) → VectorLayer → VectorLayer
layer_within tiles layer = record layer { minzoom = minzoom_within tiles layer.minzoom layer.maxzoom; maxzoom = maxzoom_within tiles layer.minzoom layer.maxzoom }

abbrev pub layers_within : Option (ℕ × ℕ) → List VectorLayer → List VectorLayer
layers_within tiles layers = map (layer_within tiles) layers

-- a document with layers, and the zooms of both
abbrev pub document_within : Option (ℕ × ℕ) → TileJson → Option (List VectorLayer) → TileJson
document_within tiles document layers = record document {
  minzoom = minzoom_within tiles document.minzoom document.maxzoom;
  maxzoom = maxzoom_within tiles document.minzoom document.maxzoom;
  vector_layers = option_map (layers_within tiles) layers;
}

-- 2 and 4 are said, and there are tiles from 0 to 6
pub least_of_tiles : minzoom_within (Some (0, 6)) (Some 2) (Some 4) ≡ Some 0
least_of_tiles = refl

pub greatest_as_said : maxzoom_within (Some (0, 6)) (Some 2) (Some 4) ≡ Some 4
greatest_as_said = refl

-- none is said
pub least_unsaid : minzoom_within (Some (3, 6)) None None ≡ Some 3
least_unsaid = refl

pub greatest_unsaid : maxzoom_within (Some (3, 6)) None None ≡ Some 6
greatest_unsaid = refl

-- more is said than there is
pub least_said_above : minzoom_within (Some (3, 6)) (Some 5) (Some 9) ≡ Some 3
least_said_above = refl

pub greatest_said_above : maxzoom_within (Some (3, 6)) (Some 5) (Some 9) ≡ Some 6
greatest_said_above = refl

-- all that is said lies below the tiles
pub least_said_below : minzoom_within (Some (3, 6)) (Some 1) (Some 2) ≡ Some 1
least_said_below = refl

pub greatest_said_below : maxzoom_within (Some (3, 6)) (Some 1) (Some 2) ≡ Some 3
greatest_said_below = refl

-- there are no tiles
pub without_tiles : minzoom_within None (Some 9) (Some 2) ≡ Some 9
without_tiles = refl
