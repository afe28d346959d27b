-- What a set says of itself: each name of its metadata in its field, and its zooms by those of its tiles.
use Rattle.std.specs.Prelude.{ℕ, List, [], codes, None, Result, Ok}
use Rattle.mb_metadata.specs.Common.{MbtError, Names, State, TileJson}
use Rattle.mb_metadata.specs.Clamping.{document_within}
use Rattle.mb_metadata.specs.SaidJson.{json_said, layers_said}
use Rattle.mb_metadata.specs.Others.{others_said}
use Rattle.mb_metadata.specs.Said.{bounds_said, center_said, said}
use Rattle.mb_metadata.specs.ZoomText.{zoom_at}
use Rattle.mb_metadata.specs.Zooms.{span, zooms_of}
use Rattle.mb_metadata.specs.declared.metadata.Metadata.{Metadata}

-- the document that the names alone say, without layers
abbrev pub document_said : Names → TileJson
document_said names = record {
  tiles = [];
  name = said names (codes "name");
  version = said names (codes "version");
  description = said names (codes "description");
  attribution = said names (codes "attribution");
  legend = said names (codes "legend");
  template = said names (codes "template");
  minzoom = zoom_at names (codes "minzoom");
  maxzoom = zoom_at names (codes "maxzoom");
  bounds = bounds_said names;
  center = center_said names;
  vector_layers = None;
  other = others_said names;
}

-- what the set of a file's name says
abbrev pub metadata_of : List ℕ → State → Metadata
metadata_of id s = record {
  id = id;
  layer_type = said s.metadata (codes "type");
  tilejson = document_within (span (zooms_of s.tiles)) (document_said s.metadata) (layers_said s.metadata);
  json = json_said s.metadata;
  agg_tiles_hash = said s.metadata (codes "agg_tiles_hash");
}

abbrev pub metadata_answer : List ℕ → State → Result Metadata MbtError
metadata_answer id s = Ok (metadata_of id s)
