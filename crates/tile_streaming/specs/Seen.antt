-- What is known of the rows of tiles that were read so far, and what is due of all of them.
use Rattle.std.specs.Prelude.{◌≡◌, Bool, true, false, List, Some, None, Result, Ok, Err, filter_map}
use Rattle.tile_streaming.specs.Common.{algorithm_of, Cell, first_refusal, from_entries, HashAlgorithm, is_free, MbtError, MbtType, Metadata, names_of, row_refusals, Tables, tile_in, tile_table}
use Rattle.tile_streaming.specs.Contents.{AreContents}
use Rattle.tile_streaming.specs.RowTests.{AreFindings}
use Rattle.tile_streaming.specs.Marks.{AreMarksOf}
use Rattle.tile_streaming.specs.RowMarks.{marks_in}
use Rattle.tile_streaming.specs.declared.mark.MarkedSet.{MarkedSet}
use Rattle.tile_streaming.specs.declared.seen_rows.SeenRows.{SeenRows}

-- the findings and the marks are those of rows
pub record SeesRows (layout : MbtType) (a : HashAlgorithm) (contents rows : List (List Cell)) (seen : SeenRows) : Type 0 where
  pub findings : AreFindings layout a contents rows seen.findings
  pub marks : seen.marks.items ≡ marks_in layout contents rows

-- what is known of rows that a store tells, or of some that its answers could be of where it tells nothing
pub record SeesTold {X : Type 0} (known : List (List Cell) → X → Type 0) (tells : Bool) (told : List (List Cell)) (seen : X) : Type 0 where
  pub rows : List (List Cell)
  pub are_told : tells ≡ true → rows ≡ told
  pub sees : known rows seen

-- rows pass the tests of loading, and the set is theirs
pub record IsMarkedOf (kind : MbtType) (metadata contents rows : List (List Cell)) (m : MarkedSet) : Type 0 where
  pub pass : first_refusal (row_refusals kind metadata contents rows) ≡ None
  pub layout : m.layout ≡ kind
  pub algorithm : m.algorithm ≡ algorithm_of metadata
  pub names : m.names ≡ names_of metadata
  pub marks : AreMarksOf (from_entries (filter_map (tile_in kind contents) rows)) m.marks.items

-- the marked set of rows of metadata, of contents and of tiles, or their first refusal, unless memory ran out
-- or the store failed
abbrev pub AreMarked : MbtType → List (List Cell) → List (List Cell) → List (List Cell) → Result MarkedSet MbtError → Type 0
AreMarked layout metadata contents rows (Ok m) = IsMarkedOf layout metadata contents rows m
AreMarked layout metadata contents rows (Err e) = is_free e ≡ false → first_refusal (row_refusals layout metadata contents rows) ≡ Some e

-- the answer of the rows that a store tells, or of some that its answers could be of
pub record AreMarkedFrom (layout : MbtType) (tells : Bool) (told : Tables) (r : Result MarkedSet MbtError) : Type 0 where
  pub metadata : List (List Cell)
  pub contents : List (List Cell)
  pub rows : List (List Cell)
  pub contents_are : AreContents layout tells told contents
  pub names_told : tells ≡ true → metadata ≡ told.rows Metadata
  pub rows_told : tells ≡ true → rows ≡ told.rows (tile_table layout)
  pub due : AreMarked layout metadata contents rows r
