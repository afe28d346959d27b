use Rattle.pm_format.proofs.Common.{append_assoc, arith, HEADER_SIZE, length, rules, sym, take_all, ◌∙◌, ◌≤◌}
use Rattle.pm_format.proofs.header.writing.put_header.Goals as goal

pub returns-clause-bytes : goal.returns-clause-bytes
returns-clause-bytes c =
    let whole : length c.put_center.new.bytes ≤ HEADER_SIZE = omega arith in
    sym (take_all HEADER_SIZE c.put_center.new.bytes whole)
    ∙ rw (c.put_center.ensures, c.put_bounds.ensures, c.put_labels.ensures, c.put_counts.ensures, c.put_places.ensures, c.put-2.ensures, c.put.ensures)
    (simp append_assoc)

pub returns-clause-fits : goal.returns-clause-fits
returns-clause-fits c = record {
  version = search rules;
  root_offset = search rules;
  root_length = search rules;
  metadata_offset = search rules;
  metadata_length = search rules;
  leaf_offset = search rules;
  leaf_length = search rules;
  data_offset = search rules;
  data_length = search rules;
  n_addressed_tiles = search rules;
  n_tile_entries = search rules;
  n_tile_contents = search rules;
  min_zoom = search rules;
  max_zoom = search rules;
  min_longitude = search rules;
  min_latitude = search rules;
  max_longitude = search rules;
  max_latitude = search rules;
  center_zoom = search rules;
  center_longitude = search rules;
  center_latitude = search rules;
}
