-- What a load answers, and what is due of rows.
use Rattle.std.specs.Prelude.{◌≡◌, false, List, Option, Some, None, Result, Ok, Err, filter_map}
use Rattle.mb_load.specs.Common.{algorithm_of, by_place, Cell, contents_by_id, dates_in, first_refusal, from_entries, Held, id_in, is_free, MbtError, MbtType, names_of, nothing_edited, State, tile_in}
use Rattle.mb_load.specs.LoadingOrder.{row_refusals}
use Rattle.mb_tables.specs.declared.patch_type.PatchType.{PatchType}

-- the state that is due, with nothing edited; or the refusal that is due, unless memory ran out or the store failed
abbrev pub Loads : Result State MbtError → Result Held MbtError → Type 0
Loads due (Ok held) = (due ≡ Ok held.state) × (held.edited ≡ nothing_edited)
Loads due (Err e) = is_free e ≡ false → due ≡ Err e

-- what rows of metadata, of contents and of tiles hold
abbrev pub held_by : MbtType → Option PatchType → List (List Cell) → List (List Cell) → List (List Cell) → State
held_by layout patch_type metadata contents rows = record {
  layout = layout;
  algorithm = algorithm_of metadata;
  patch_type = patch_type;
  tiles = from_entries (filter_map (tile_in layout contents) rows);
  metadata = names_of metadata;
  ids = by_place (id_in layout) rows;
  contents = contents_by_id contents;
  dates = by_place (dates_in layout) rows;
}

-- a refusal, or what is held
abbrev pub due_by : State → Option MbtError → Result State MbtError
due_by s (Some refusal) = Err refusal
due_by s None = Ok s

abbrev pub rows_due : MbtType → Option PatchType → List (List Cell) → List (List Cell) → List (List Cell) → Result State MbtError
rows_due layout patch_type metadata contents rows = due_by (held_by layout patch_type metadata contents rows) (first_refusal (row_refusals layout metadata contents rows))
