-- Where the parts of an archive lie, and what it counts.
use Rattle.std.specs.Prelude.{◌≡◌, ℕ, ◌+◌, Bool, List, [], length, nat_eq, if◌then◌else◌, Option, Some, None, Result, Ok, Err, refl}
use Rattle.pm_writer.specs.Common.{dir_of, head, Header, header_of, one_tile, Opened, opened, Options, PmtError, u64_at}
use Rattle.pm_format.specs.declared.compression.Compression.TheVariants as compression
use Rattle.pm_writer.specs.DirectoriesRead.{directories_read, leaves_among, uppers_among}
use Rattle.pm_writer.specs.Archive.{archive, ids_of, parts_of, rising}
use Rattle.pm_writer.specs.declared.cutting.Directories.{Directories}
use Rattle.pm_writer.specs.declared.places.ArchivePlaces.{ArchivePlaces}
use Rattle.pm_writer.specs.declared.settings.Settings.{Settings}

-- those of the archive of adds
abbrev pub places_of : Options → List (ℕ × List ℕ) → ArchivePlaces
places_of o adds =
    let h = header_of o (rising (ids_of adds)) (parts_of o adds) in
    record {
      length = length (archive o adds);
      root_length = h.root_length;
      leaf_offset = h.leaf_offset;
      leaf_length = h.leaf_length;
      leaves = length (parts_of o adds).leaves;
      uppers = length (parts_of o adds).uppers;
      data_offset = h.data_offset;
      data_length = h.data_length;
      addressed = h.n_addressed_tiles;
      entries = h.n_tile_entries;
      contents = h.n_tile_contents;
    }

-- as they are read from bytes that open
abbrev pub places_opened : List ℕ → Result Opened PmtError → Option ArchivePlaces
places_opened b (Err e) = None
places_opened b (Ok o) = Some (record {
  length = length b;
  root_length = o.0.root_length;
  leaf_offset = o.0.leaf_offset;
  leaf_length = o.0.leaf_length;
  leaves = leaves_among (directories_read b o);
  uppers = uppers_among (directories_read b o);
  data_offset = o.0.data_offset;
  data_length = o.0.data_length;
  addressed = o.0.n_addressed_tiles;
  entries = o.0.n_tile_entries;
  contents = o.0.n_tile_contents;
})

-- by the header, the directories that the root leads to, and the length of the bytes, where they open
abbrev pub places_read : List ℕ → Option ArchivePlaces
places_read b = places_opened b (opened b)

-- those of directories behind data, with the counts of tiles, entries and contents, as they are kept
-- while an archive is finished
abbrev pub places_with : Directories → ℕ → ℕ → ℕ → ℕ → ℕ → ArchivePlaces
places_with d data_offset data_length addressed entries contents = record {
  length = data_offset + data_length + length d.below.items;
  root_length = length d.root.items;
  leaf_offset = if nat_eq d.leaves 0 then 0 else (data_offset + data_length);
  leaf_length = length d.below.items;
  leaves = d.leaves;
  uppers = d.uppers;
  data_offset = data_offset;
  data_length = data_length;
  addressed = addressed;
  entries = entries;
  contents = contents;
}

-- the header of settings and places
abbrev pub header_with : Settings → ArchivePlaces → ℕ → Bool → Header
header_with s p metadata_length clustered = record {
  version = 3;
  root_offset = 127;
  root_length = p.root_length;
  metadata_offset = 16384;
  metadata_length = metadata_length;
  leaf_offset = p.leaf_offset;
  leaf_length = p.leaf_length;
  data_offset = p.data_offset;
  data_length = p.data_length;
  n_addressed_tiles = p.addressed;
  n_tile_entries = p.entries;
  n_tile_contents = p.contents;
  clustered = clustered;
  internal_compression = compression.None;
  tile_compression = s.tile_compression;
  tile_type = s.tile_type;
  min_zoom = s.min_zoom;
  max_zoom = s.max_zoom;
  min_longitude = s.min_longitude;
  min_latitude = s.min_latitude;
  max_longitude = s.max_longitude;
  max_latitude = s.max_latitude;
  center_zoom = s.center_zoom;
  center_longitude = s.center_longitude;
  center_latitude = s.center_latitude;
}

-- the places of the archive of one tile of one byte, and of no archive
abbrev pub one_tile_places : ArchivePlaces
one_tile_places = record {
  length = 16387;
  root_length = 5;
  leaf_offset = 0;
  leaf_length = 0;
  leaves = 0;
  uppers = 0;
  data_offset = 16386;
  data_length = 1;
  addressed = 1;
  entries = 1;
  contents = 1;
}

pub one_tile_read : places_read one_tile ≡ Some one_tile_places
unfolding opened head dir_of u64_at
one_tile_read = refl

pub nothing_read : places_read [] ≡ None
unfolding opened head
nothing_read = refl
