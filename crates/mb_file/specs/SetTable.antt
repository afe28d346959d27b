-- The rows of a set that the rows of its tables are read as.
use Rattle.std.specs.Prelude.{cond, filter_map, List, Option, Some, None}
use Rattle.mb_reading.specs.Filling.{misplaced}
use Rattle.mb_reading.specs.Rows.{is_placed, row_in}
use Rattle.mb_reading.specs.declared.filling.Step.{Step}
use Rattle.mb_reading.specs.declared.filling.Step.TheVariants.{Added}
use Rattle.mb_tables.specs.declared.cell.Cell.{Cell}
use Rattle.mb_tables.specs.declared.table.TableName.{TableName}
use Rattle.mb_file.specs.Cursor.{Stored}
use Rattle.mb_file.specs.Record.{values_in}
use Rattle.mb_file.specs.declared.columns.Columns.{Columns}

-- the row that a row of a table is read as; None where it has a value that no set has there
abbrev pub row_read : TableName → Columns → Stored → Option (List Cell)
row_read table columns stored = row_in table (values_in columns stored.0 stored.1)

-- what becomes of a row
abbrev pub step_of : TableName → List Cell → Step
step_of table row = cond (is_placed table row) Added (misplaced row)

-- a row, where it is one of the set: a row of tiles has a place of zoom 0 to 30
abbrev pub if_placed : TableName → Option (List Cell) → Option (List Cell)
if_placed table None = None
if_placed table (Some row) = cond (is_placed table row) (Some row) None

-- the row of the set that a row of a table is
abbrev pub set_row : TableName → Columns → Stored → Option (List Cell)
set_row table columns stored = if_placed table (row_read table columns stored)

-- the rows of the set that are among rows of a table
unfoldable pub set_rows : TableName → Columns → List Stored → List (List Cell)
set_rows table columns rows = filter_map (set_row table columns) rows
