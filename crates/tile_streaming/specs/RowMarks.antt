-- The marks of rows of tiles.
use Rattle.std.specs.Prelude.{List, Option, filter_map, option_and_then, option_map}
use Rattle.tile_streaming.specs.Common.{Cell, MbtType, tile_in}
use Rattle.tile_streaming.specs.Contents.{mark_of_cell}
use Rattle.mb_constraints.specs.TileRows.{contents_in}
use Rattle.tile_streaming.specs.Marks.{mark_of}
use Rattle.tile_streaming.specs.declared.mark.ContentMark.{ContentMark}
use Rattle.tile_streaming.specs.declared.mark.Mark.{Mark}

-- the mark of the contents of a row, its own or those of its id among these contents
abbrev pub content_mark_in : MbtType → List (List Cell) → List Cell → Option ContentMark
content_mark_in layout contents row = option_and_then mark_of_cell (contents_in layout contents row)

-- the mark of a row; none where it is no tile
abbrev pub mark_in : MbtType → List (List Cell) → List Cell → Option Mark
mark_in layout contents row = option_map mark_of (tile_in layout contents row)

abbrev pub marks_in : MbtType → List (List Cell) → List (List Cell) → List Mark
marks_in layout contents rows = filter_map (mark_in layout contents) rows
