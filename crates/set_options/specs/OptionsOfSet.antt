-- The options of an archive that a set gives.
use Rattle.std.specs.Prelude.{◌≡◌, ℕ, pos, List, Option, Some, None, codes, unwrap_or}
use Rattle.set_options.specs.Common.{Names, option_and_then, text_at}
use Rattle.mb_loaded.specs.State.{State}
use Rattle.pm_format.specs.Options.{Options, default_options}
use Rattle.set_options.specs.ArchiveJson.{IsTextOf, archive_data}
use Rattle.set_options.specs.Extents.{bounds_in, center_in, middle_of}
use Rattle.set_options.specs.Facts.{facts_of, label_of}
use Rattle.set_options.specs.Format.{type_of}
use Rattle.set_options.specs.declared.extents.SetBounds.{SetBounds}
use Rattle.set_options.specs.declared.extents.SetCenter.{SetCenter}
use Rattle.set_options.specs.declared.facts.TileFacts.{TileFacts}
use Rattle.set_options.specs.declared.options.SetOptions.{SetOptions}

-- what names and tiles say, with this text as the archive's metadata
abbrev pub said_of : Names → TileFacts → List ℕ → SetOptions
said_of names facts text = record {
  tile_type = type_of (text_at names (codes "format"));
  tile_compression = label_of (type_of (text_at names (codes "format"))) facts;
  zooms = unwrap_or facts.zooms (0, 0);
  bounds = option_and_then bounds_in (text_at names (codes "bounds"));
  center = option_and_then center_in (text_at names (codes "center"));
  metadata = text;
}

-- options are what names and tiles say
abbrev pub AreSaidOf : Names → TileFacts → SetOptions → Type 0
AreSaidOf names facts o = IsTextOf o.metadata (archive_data names) × (o ≡ said_of names facts o.metadata)

-- what a set says, with this text as the archive's metadata
abbrev pub said_by : State → List ℕ → SetOptions
said_by s text = said_of s.metadata (facts_of s.tiles) text

-- options are what a set says of itself
abbrev pub IsSaidBy : State → SetOptions → Type 0
IsSaidBy s o = AreSaidOf s.metadata (facts_of s.tiles) o

-- bounds that aren't said are the whole world
abbrev pub with_bounds : Option SetBounds → Options → Options
with_bounds None o = o
with_bounds (Some b) o = record o { min_longitude = b.west; min_latitude = b.south; max_longitude = b.east; max_latitude = b.north }

abbrev pub with_center_zoom : Option ℕ → Options → Options
with_center_zoom None o = o
with_center_zoom (Some zoom) o = record o { center_zoom = zoom }

-- the center of a set that says none, at its least zoom: the middle of its bounds, and degrees 0, the middle of the
-- world, where it says none either
abbrev pub unsaid_center : Option SetBounds → ℕ → SetCenter
unsaid_center None zoom = record { longitude = pos 0; latitude = pos 0; zoom = Some zoom }
unsaid_center (Some b) zoom = middle_of b zoom

-- a center without a zoom is at zoom 0
abbrev pub with_center : SetCenter → Options → Options
with_center c o = with_center_zoom c.zoom (record o { center_longitude = c.longitude; center_latitude = c.latitude })

-- the options of the archive's writer
abbrev pub writer_of : SetOptions → Options
writer_of o = with_center (unwrap_or o.center (unsaid_center o.bounds o.zooms.0)) (with_bounds o.bounds (record (default_options o.tile_type) {
  tile_compression = o.tile_compression;
  min_zoom = o.zooms.0;
  max_zoom = o.zooms.1;
  metadata = o.metadata;
}))

-- the options that a set gives, with this text as the archive's metadata
abbrev pub options_of_set : State → List ℕ → Options
options_of_set s text = writer_of (said_by s text)

-- options are those of a set
pub record AreOptionsOfSet (s : State) (o : Options) : Type 0 where
  pub text : List ℕ
  pub is_text : IsTextOf text (archive_data s.metadata)
  pub are : o ≡ options_of_set s text
