-- The part of a set that is converted: its tiles whose ids lie in intervals.
use Rattle.std.specs.Prelude.{ℕ, Bool, List, Option, Some, None, filter}
use Rattle.std.specs.FinMap.{retain_keys}
use Rattle.pm_walk.specs.Intervals.{in_intervals}
use Rattle.tile_streaming.specs.Common.{address, TileSet}
use Rattle.tile_streaming.specs.declared.mark.Mark.{Mark}
use Rattle.tile_streaming.specs.declared.mark.MarkedSet.{MarkedSet}

-- the tiles whose ids lie in intervals; without intervals all of them
abbrev pub part_of : Option (List (ℕ × ℕ)) → TileSet → TileSet
part_of None tiles = tiles
part_of (Some intervals) tiles = retain_keys tiles (λ p. in_intervals (address p) intervals)

-- whether the id of a mark lies in intervals
abbrev pub lies : List (ℕ × ℕ) → Mark → Bool
lies intervals m = in_intervals m.id intervals

-- the marks of these tiles
abbrev pub marks_of_part : Option (List (ℕ × ℕ)) → List Mark → List Mark
marks_of_part None marks = marks
marks_of_part (Some intervals) marks = filter (lies intervals) marks

-- those of a set of which marks are held
abbrev pub part_in : Option (List (ℕ × ℕ)) → MarkedSet → List Mark
part_in part m = marks_of_part part m.marks.items
