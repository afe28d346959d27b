-- What is read of the database of a connection.
use Rattle.std.specs.Prelude.{Bool, ℕ, ℤ, pos, true, ◌≡◌, ◌+◌, ◌-◌, ◌^◌, drop, int_lt, List, [], ◌∷◌, Option, Some, None, Ok, MatchOption, min, option_to_list, take}
use Rattle.mb_sqlite.specs.Common.{AllZip, Cell, column, Ghosts, Held, Images, Metadata, QueriesRowInside, Row, RowKey, Shown, state, TableName, TilesData, width}
use Rattle.sqlite_value.specs.declared.value.Value.TheVariants as sql
use Rattle.mb_tables.specs.declared.key.RowKey.TheVariants.{Tile, TextId, IntId}
use Rattle.mb_sqlite.specs.Statements.{count_text, first_page_text, found_text, page_text}
use Rattle.mb_sqlite.specs.Stored.{IsReadAs}

-- the cells of a table's row are those of an answer's first values
abbrev pub IsRowOf : TableName → Row → List Cell → Type 0
IsRowOf table answer row = AllZip IsReadAs (take (width table) answer) row

-- whether a number is above one, if one is given
abbrev pub is_above : Option ℤ → ℤ → Bool
is_above None n = true
is_above (Some m) n = int_lt m n

-- the `rowid`s of answers on a table rise, from above one, if one is given, to the last; so no row
-- is in two pages in a row
abbrev pub RisesTo : TableName → Option ℤ → List Row → Option ℤ → Type 0
RisesTo table from [] last = last ≡ from
RisesTo table from (answer ∷ answers) last = (n : ℤ) × (column answer (width table) ≡ sql.Int n) × (is_above from n ≡ true) × RisesTo table (Some n) answers last

-- a number as SQL takes it
abbrev pub sql_number : ℕ → ℤ
sql_number n = pos (min n (2 ^ 63 - 1))

-- the values of a key of the table's kind
abbrev pub key_values : TableName → RowKey → Option Row
key_values Images (TextId text) = Some (sql.Text text ∷ [])
key_values Images _ = None
key_values Metadata (TextId text) = Some (sql.Text text ∷ [])
key_values Metadata _ = None
key_values TilesData (IntId id) = Some (sql.Int id ∷ [])
key_values TilesData _ = None
key_values _ (Tile zoom column row) = Some (sql.Int (pos zoom) ∷ sql.Int (pos column) ∷ sql.Int (pos row) ∷ [])
key_values _ _ = None

-- in a transaction that is begun on a connection
abbrev pub Within : {S : Type 0} → Held S → (Held S → Held S → Type 0) → Type 0
Within {S} old P = (seen : Held S) × P (record old { in_transaction = true }) seen

module _ {S : Type 0} (g : Ghosts S) (table : TableName) (old new : Held S) where
  -- the database has so many rows of the table
  abbrev pub IsCounted : ℕ → Type 0
  IsCounted n = (row : Row) × QueriesRowInside (count_text table) [] (state g old) (state g new) (Ok row) × (column row 0 ≡ sql.Int (pos n))

  -- it shows these answers on the table: behind a `rowid`, if one is given, after so many, at most so many
  abbrev pub AreShown : Option ℤ → ℕ → ℕ → List Row → Type 0
  AreShown from passed most found = MatchOption from (Shown (first_page_text table) (sql.Int (sql_number most) ∷ sql.Int (sql_number passed) ∷ []) (state g old) (state g new) found)
      (λ n. Shown (page_text table) (sql.Int (sql_number most) ∷ sql.Int (sql_number passed) ∷ sql.Int n ∷ []) (state g old) (state g new) found)

  -- it shows these answers, of which the first ones, at most so many, are read; and the last one's `rowid`. The answer
  -- after them, if there is one, is behind it.
  abbrev pub AreRead : Option ℤ × ℕ → ℕ → List Row → Option ℤ → Type 0
  AreRead start limit found last = AreShown start.0 start.1 (limit + 1) found × RisesTo table start.0 (take limit found) last × (beyond : Option ℤ) × RisesTo table last (take 1 (drop limit found)) beyond

  -- it shows these rows of the table: behind a `rowid`, if one is given, after so many, at most so many;
  -- and the last one's `rowid`
  abbrev pub ArePaged : Option ℤ × ℕ → ℕ → List (List Cell) → Option ℤ → Type 0
  ArePaged start limit rows last = (found : List Row) × AllZip (IsRowOf table) (take limit found) rows × AreRead start limit found last

  -- it shows this row first of those with these values as their key, or none
  abbrev pub IsFirst : Row → Option (List Cell) → Type 0
  IsFirst values row = (found : List Row) × Shown (found_text table) values (state g old) (state g new) found × AllZip (IsRowOf table) (take 1 found) (option_to_list row)

  -- it shows this row first of those with the key, or none
  abbrev pub IsFound : RowKey → Option (List Cell) → Type 0
  IsFound key row = MatchOption (key_values table key) (row ≡ None) (λ values. IsFirst values row)
