-- The values that a row has in the columns of its set.
use Rattle.std.specs.Prelude.{ℕ, ℤ, cond, List, [], ◌∷◌, Option, Some, None, slice_get}
use Rattle.sqlite_record.specs.Affinity.{as_real}
use Rattle.sqlite_record.specs.Record.{decode}
use Rattle.sqlite_value.specs.Order.{Row}
use Rattle.sqlite_value.specs.declared.value.Value.{Value}
use Rattle.sqlite_value.specs.declared.value.Value.TheVariants.{Int, Null}
use Rattle.mb_file.specs.declared.columns.Column.{Column}
use Rattle.mb_file.specs.declared.columns.Columns.{Columns}

-- a value of a record by its place, None behind the last one
abbrev pub field : List ℕ → ℕ → Option Value
field bytes at = slice_get (decode bytes) at

-- what a record has in a column, the column's default where it is too short for it
abbrev pub shown_in : Column → Option Value → Value
shown_in column None = column.default
shown_in column (Some value) = cond column.is_real (as_real value) value

-- what a row has in a column: its rowid in that of its key
abbrev pub value_in : Column → ℤ → List ℕ → Value
value_in column rowid bytes = cond column.is_key (Int rowid) (shown_in column (field bytes column.at))

-- the same, null where there is no such column
abbrev pub value_if : Option Column → ℤ → List ℕ → Value
value_if None rowid bytes = Null
value_if (Some column) rowid bytes = value_in column rowid bytes

-- what a row has in the columns of its set
abbrev pub values_in : Columns → ℤ → List ℕ → Row
values_in columns rowid bytes =
    value_in columns.first rowid bytes ∷ value_in columns.second rowid bytes ∷ value_if columns.third rowid bytes
    ∷ value_if columns.fourth rowid bytes ∷ value_if columns.fifth rowid bytes ∷ []
