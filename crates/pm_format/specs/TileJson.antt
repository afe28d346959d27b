-- What a header says of the tiles, as a document has it.
use Rattle.std.specs.Prelude.{ℕ, List, Some, None}
use Rattle.std.specs.FinMap.{empty}
use Rattle.tile_json.specs.declared.document.TileJson.{TileJson}
use Rattle.tile_json.specs.declared.extent.TileBounds.{TileBounds}
use Rattle.tile_json.specs.declared.extent.TileBounds.TheVariants as bounds
use Rattle.tile_json.specs.declared.extent.TileCenter.{TileCenter}
use Rattle.tile_json.specs.declared.extent.TileCenter.TheVariants as center
use Rattle.pm_format.specs.declared.header.Header.{Header}

abbrev pub bounds_of : Header → TileBounds
bounds_of h = bounds.Whole h.min_longitude h.min_latitude h.max_longitude h.max_latitude

abbrev pub center_of : Header → TileCenter
center_of h = center.Whole h.center_longitude h.center_latitude h.center_zoom

-- the sources, and the zooms, bounds and center of the header; nothing else is said
abbrev pub tilejson_of : Header → List (List ℕ) → TileJson
tilejson_of h sources = record {
  tiles = sources;
  name = None;
  version = None;
  description = None;
  attribution = None;
  legend = None;
  template = None;
  minzoom = Some h.min_zoom;
  maxzoom = Some h.max_zoom;
  bounds = Some (bounds_of h);
  center = Some (center_of h);
  vector_layers = None;
  other = empty;
}
