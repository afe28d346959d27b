-- Values of the database as cells.
use Rattle.std.specs.Prelude.{◌≡◌, ◌⊎◌, IsUtf8}
use Rattle.mb_sqlite.specs.Common.{Cell, Value}
use Rattle.sqlite_value.specs.declared.value.Value.TheVariants as sql
use Rattle.mb_tables.specs.declared.cell.Cell.TheVariants.{Null, Int, Text, Blob, Other}

-- a value is read as this cell; a floating point number, and a text that isn't UTF-8, is a value of another kind
abbrev pub IsReadAs : Value → Cell → Type 0
IsReadAs sql.Null cell = cell ≡ Null
IsReadAs (sql.Int n) cell = cell ≡ Int n
IsReadAs (sql.Real x) cell = cell ≡ Other
IsReadAs (sql.Text t) cell = ((cell ≡ Text t) × IsUtf8 t) ⊎ ((cell ≡ Other) × (¬ IsUtf8 t))
IsReadAs (sql.Blob b) cell = cell ≡ Blob b

-- a cell is written as this value; one of another kind isn't written
abbrev pub IsWrittenAs : Cell → Value → Type 0
IsWrittenAs Null value = value ≡ sql.Null
IsWrittenAs (Int n) value = value ≡ sql.Int n
IsWrittenAs (Text t) value = value ≡ sql.Text t
IsWrittenAs (Blob b) value = value ≡ sql.Blob b
IsWrittenAs Other value = ⊥
