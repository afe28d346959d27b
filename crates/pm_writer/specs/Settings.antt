-- The options of a writer as it keeps them.
use Rattle.std.specs.Prelude.{ℕ, List, codes, Option, unwrap_or}
use Rattle.pm_writer.specs.Common.{Options}
use Rattle.pm_writer.specs.declared.settings.Settings.{Settings}

-- the options that these settings and this metadata are
abbrev pub options_with : Settings → List ℕ → Options
options_with s metadata = record {
  internal_compression = s.internal_compression;
  tile_compression = s.tile_compression;
  tile_type = s.tile_type;
  min_zoom = s.min_zoom;
  max_zoom = s.max_zoom;
  min_longitude = s.min_longitude;
  min_latitude = s.min_latitude;
  max_longitude = s.max_longitude;
  max_latitude = s.max_latitude;
  center_zoom = s.center_zoom;
  center_longitude = s.center_longitude;
  center_latitude = s.center_latitude;
  metadata = metadata;
  max_leaf_entries = s.max_leaf_entries;
}

-- the metadata, {} where nothing was said
abbrev pub metadata_of : Option (List ℕ) → List ℕ
metadata_of said = unwrap_or said (codes "{}")
