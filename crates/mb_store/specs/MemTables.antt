-- What the tables in memory hold.
use Rattle.std.specs.Prelude.{◌≡◌, Bool, List}
use Rattle.mb_store.specs.Common.{Cell, is_keyed, TableDesc, TableName, Tables}
use Rattle.mb_store.specs.ByTable.{at}
use Rattle.mb_store.specs.Store.{IsSound}
use Rattle.mb_store.specs.TableRows.{AreStored, rows_in}
use Rattle.mb_store.specs.declared.by_table.ByTable.{ByTable}
use Rattle.mb_store.specs.declared.table_rows.TableRows.{TableRows}

-- the rows of each table
abbrev pub MemTables : Type 0
MemTables = ByTable TableRows

-- the rows of a table
abbrev pub rows_at : MemTables → TableName → List (List Cell)
rows_at m table = rows_in (at m table)

abbrev pub tables_of : List TableDesc → MemTables → Tables
tables_of ds m = record { descriptions = ds; rows = rows_at m }

-- which tables are described as keyed
abbrev pub AreKeyed : List TableDesc → ByTable Bool → Type 0
AreKeyed ds keyed = (table : TableName) → at keyed table ≡ is_keyed ds table

-- the rows of each table are stored in order
abbrev pub AreAllStored : MemTables → Type 0
AreAllStored m = (table : TableName) → AreStored table (at m table)

-- the tables are as a store tells them, and their rows are stored in order
pub record IsKept (ds : List TableDesc) (m : MemTables) : Type 0 where
  pub sound : IsSound (tables_of ds m)
  pub stored : AreAllStored m
