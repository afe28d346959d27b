-- A part of an archive: the tiles whose ids lie in intervals, and what the archive of it says beside them.
use Rattle.std.specs.Prelude.{ℕ, List, if◌then◌else◌, Option, Some, None, Result, Ok, Err}
use Rattle.tile_extract.specs.Common.{Header, in_intervals, metadata_read, Opened, opened, Options, PmtError}
use Rattle.pm_format.specs.declared.compression.Compression.TheVariants as compression
use Rattle.tile_extract.specs.declared.part.TilePart.{TilePart}

-- the part of a map whose ids lie in the intervals
abbrev pub cut : (ℕ → Option (List ℕ)) → TilePart → ℕ → Option (List ℕ)
cut tiles part id = if in_intervals id part.intervals then tiles id else None

-- Labels, type, degrees, centre and metadata of an archive, and some zooms. Directories are labelled plain, as those of
-- each archive that opens.
abbrev pub options_with_zooms : Header → List ℕ → ℕ → ℕ → Options
options_with_zooms h text least greatest = record {
  internal_compression = compression.None;
  tile_compression = h.tile_compression;
  tile_type = h.tile_type;
  min_zoom = least;
  max_zoom = greatest;
  min_longitude = h.min_longitude;
  min_latitude = h.min_latitude;
  max_longitude = h.max_longitude;
  max_latitude = h.max_latitude;
  center_zoom = h.center_zoom;
  center_longitude = h.center_longitude;
  center_latitude = h.center_latitude;
  metadata = text;
  max_leaf_entries = 4096;
}

-- those of the archive of a part
abbrev pub part_options : Header → List ℕ → TilePart → Options
part_options h text part = options_with_zooms h text part.min_zoom part.max_zoom

abbrev pub options_with : Header → TilePart → Result (List ℕ) PmtError → Option Options
options_with h part (Ok text) = Some (part_options h text part)
options_with h part (Err e) = None

abbrev pub options_opened : List ℕ → TilePart → Result Opened PmtError → Option Options
options_opened b part (Ok o) = options_with o.0 part (metadata_read b o.0)
options_opened b part (Err e) = None

-- those of the bytes of an archive, where they open and have metadata
abbrev pub options_of : List ℕ → TilePart → Option Options
options_of b part = options_opened b part (opened b)
