-- What holds of the tables that a store tells, and how a row is added.
use Rattle.std.specs.Prelude.{ℕ, ◌≡◌, ◌<◌, ◌^◌, Bool, true, false, cond, ◌&&◌, ◌++◌, List, [], ◌∷◌, length, All, AllPairs, fold, insert}
use Rattle.mb_store.specs.Common.{bytes_eq, Cell, clash, is_gt, is_keyed, is_table, list_any, names_apart, position_or_len, row_cmp, table_eq, TableDesc, TableName, Tables, width}

-- whether a unique index keeps the row out
abbrev pub is_duplicate : Tables → TableName → List Cell → Bool
is_duplicate t table row = is_keyed t.descriptions table && list_any (clash table row) (t.rows table)

-- what holds of all that a store tells
pub record IsSound (t : Tables) : Type 0 where
  pub names : names_apart t.descriptions ≡ true
  pub described : (table : TableName) → is_table t.descriptions table ≡ false → t.rows table ≡ []
  pub keys : (table : TableName) → is_keyed t.descriptions table ≡ true → AllPairs (λ r s. clash table r s ≡ false) (t.rows table)
  pub widths : (table : TableName) → All (λ row. length row ≡ width table) (t.rows table)
  pub counts : (table : TableName) → length (t.rows table) < 2 ^ 64

-- a row goes before the first row of a greater key
abbrev pub place_for : TableName → List Cell → List (List Cell) → ℕ
place_for table row rows = position_or_len (λ r. is_gt (row_cmp table r row)) rows

abbrev pub placed : TableName → List Cell → List (List Cell) → List (List Cell)
placed table row rows = insert rows (place_for table row rows) row

-- more rows are added one after another
abbrev pub all_placed : TableName → List (List Cell) → List (List Cell) → List (List Cell)
all_placed table rows more = fold (λ rows row. placed table row rows) rows more

-- one table's rows are these, and each other's as before
abbrev pub with_rows : (TableName → List (List Cell)) → TableName → List (List Cell) → TableName → List (List Cell)
with_rows rows table new u = cond (table_eq u table) new (rows u)

-- a row is added to a table
abbrev pub with_row : Tables → TableName → List Cell → Tables
with_row t table row = record { descriptions = t.descriptions; rows = with_rows t.rows table (placed table row (t.rows table)) }

-- a table has no rows any more
abbrev pub without_rows : Tables → TableName → Tables
without_rows t table = record { descriptions = t.descriptions; rows = with_rows t.rows table [] }

-- tables as they are described, without rows
abbrev pub no_rows : List TableDesc → Tables
no_rows ds = record { descriptions = ds; rows = λ table. [] }

-- the descriptions of a list are added, but for those of names that are described
abbrev pub with_tables : List TableDesc → List TableDesc → List TableDesc
with_tables ds [] = ds
with_tables ds (e ∷ es) = with_tables (cond (list_any (λ d. bytes_eq d.name e.name) ds) ds (ds ++ e ∷ [])) es

-- a store's tables, with these described too
abbrev pub created : Tables → List TableDesc → Tables
created t es = record t { descriptions = with_tables t.descriptions es }
