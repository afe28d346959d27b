-- The lines of a report before the bytes, by what was answered.
use Rattle.std.specs.Prelude.{ℕ, ◌++◌, List, [], ◌∷◌, Option}
use Rattle.tileset.specs.Common.{ConvertReport, Coord}
use Rattle.tileset.specs.Report.{number_lines, query_line}

abbrev pub answer_lines : List Coord → List (Option (List ℕ)) → List ℕ
answer_lines [] tiles = []
answer_lines (c ∷ cs) [] = []
answer_lines (c ∷ cs) (tile ∷ tiles) = query_line c tile ++ answer_lines cs tiles

abbrev pub summary : List Coord → ConvertReport → List ℕ
summary queries r = answer_lines queries r.answers ++ number_lines r.aggregate r.places.addressed r.places.entries r.places.contents r.places.length
