-- What a set of tables holds, or the first refusal of the tests.
use Rattle.std.specs.Prelude.{Option, Some, None, Result, Ok, Err}
use Rattle.mb_load.specs.Common.{algorithm_of, by_place, content_rows, contents_by_id, dates_in, first_refusal, id_in, InvalidDataFormat, layout_of, MbtError, MbtType, Metadata, names_of}
use Rattle.mb_load.specs.Common.{patch_type_of, State, Tables, tile_table, tiles_of}
use Rattle.mb_load.specs.LoadingOrder.{refusals}

-- what the tables of a layout hold
abbrev pub held_in : MbtType → Tables → State
held_in layout t = record {
  layout = layout;
  algorithm = algorithm_of (t.rows Metadata);
  patch_type = patch_type_of t.descriptions;
  tiles = tiles_of layout t;
  metadata = names_of (t.rows Metadata);
  ids = by_place (id_in layout) (t.rows (tile_table layout));
  contents = contents_by_id (content_rows layout t);
  dates = by_place (dates_in layout) (t.rows (tile_table layout));
}

-- a refusal, or what the tables of a layout hold
abbrev pub unless_refused : MbtType → Tables → Option MbtError → Result State MbtError
unless_refused layout t (Some refusal) = Err refusal
unless_refused layout t None = Ok (held_in layout t)

abbrev pub stated : Option MbtType → Tables → Result State MbtError
stated None t = Err InvalidDataFormat
stated (Some layout) t = unless_refused layout t (first_refusal (refusals layout t))

-- the first refusal of a set of tables, or what it holds
abbrev pub state_of : Tables → Result State MbtError
state_of t = stated (layout_of t.descriptions) t
