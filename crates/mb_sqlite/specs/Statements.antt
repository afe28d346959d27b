-- The texts of the statements on a table, by its name and its columns.
use Rattle.std.specs.Prelude.{ℕ, ◌+◌, codes, ◌++◌, List, [], ◌∷◌, map}
use Rattle.mb_sqlite.specs.Common.{ColumnDesc, columns_of, key_columns, table_text, TableName}

-- texts with another one between them
abbrev pub joined : List ℕ → List (List ℕ) → List ℕ
joined between [] = []
joined between (t ∷ []) = t
joined between (t ∷ ts) = t ++ between ++ joined between ts

-- the names of a table's columns
abbrev pub names_of : TableName → List (List ℕ)
names_of table = map (λ (c : ColumnDesc). c.name) (columns_of table)

-- a value of a statement by its number, from 1 to 9
abbrev pub numbered : ℕ → List ℕ
numbered n = codes "?" ++ (48 + n) ∷ []

-- as many values as there are texts, from a number on
abbrev pub values_from : ℕ → List (List ℕ) → List (List ℕ)
values_from n [] = []
values_from n (t ∷ ts) = numbered n ∷ values_from (n + 1) ts

-- columns are equal to the values from a number on, texts byte for byte
abbrev pub equal_from : ℕ → List (List ℕ) → List (List ℕ)
equal_from n [] = []
equal_from n (t ∷ ts) = (t ++ codes " = " ++ numbered n ++ codes " COLLATE BINARY") ∷ equal_from (n + 1) ts

-- rows with the key of the first values
abbrev pub with_key : TableName → List ℕ
with_key table = codes " WHERE " ++ joined (codes " AND ") (equal_from 1 (key_columns table))

-- the number of rows
abbrev pub count_text : TableName → List ℕ
count_text table = codes "SELECT count(*) FROM " ++ table_text table

-- rows by their `rowid`, where a condition holds, at most the first value, after as many as the second
abbrev pub ordered_text : TableName → List ℕ → List ℕ
ordered_text table condition = codes "SELECT " ++ joined (codes ", ") (names_of table) ++ codes ", rowid FROM " ++ table_text table ++ condition ++ codes " ORDER BY rowid LIMIT ?1 OFFSET ?2"

-- rows from the first one on
abbrev pub first_page_text : TableName → List ℕ
first_page_text table = ordered_text table []

-- rows with a `rowid` above the third value
abbrev pub page_text : TableName → List ℕ
page_text table = ordered_text table (codes " WHERE rowid > ?3")

-- the first row of a key
abbrev pub found_text : TableName → List ℕ
found_text table = codes "SELECT " ++ joined (codes ", ") (names_of table) ++ codes " FROM " ++ table_text table ++ with_key table ++ codes " ORDER BY rowid LIMIT 1"

-- removes the rows of a key
unfoldable pub removal_text : TableName → List ℕ
removal_text table = codes "DELETE FROM " ++ table_text table ++ with_key table

-- adds a row
unfoldable pub addition_text : TableName → List ℕ
addition_text table = codes "INSERT INTO " ++ table_text table ++ codes " (" ++ joined (codes ", ") (names_of table) ++ codes ") VALUES (" ++ joined (codes ", ") (values_from 1 (names_of table)) ++ codes ")"
