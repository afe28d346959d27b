-- A row that a tree finds is one of its rows.
use Rattle.std.proofs.Common.{ap, ap₂, Bool, cond, false, inl, inr, IfSome, int_lt, is_lt, length, List, None, Option, option_map, pos, refl, Some, subst, sym, to_z, of_z, true, w64, [], ℕ, ℤ, ◌∙◌, ◌∷◌, ◌≡◌, SFits}
use Rattle.std.proofs.lemmas.Bool.{cases_Bool}
use Rattle.std.proofs.lemmas.Int.{to_z-of_z}
use Rattle.std.proofs.Common.{Ordering}
use Rattle.sqlite_btree.specs.Batch.{IsFound}
use Rattle.sqlite_btree.specs.Cut.{from_cut, IsIn}
use Rattle.sqlite_btree.specs.Stored.{by_rowid}
use Rattle.mb_reading.specs.Filling.{misplaced}
use Rattle.mb_reading.specs.Cells.{place_cell}
use Rattle.mb_reading.specs.Rows.{hashed_row, is_placed, pair_of, placed_row, row_in}
use Rattle.mb_reading.specs.declared.filling.Step.{Step}
use Rattle.mb_reading.specs.declared.filling.Step.TheVariants.{Added, Outside, TooDeep}
use Rattle.mb_tables.specs.Table.{width}
use Rattle.mb_tables.specs.declared.cell.Cell.{Cell}
use Rattle.mb_tables.specs.declared.cell.Cell.TheVariants.{Blob, Int, Null, Other, Text}
use Rattle.mb_tables.specs.declared.table.TableName.{TableName}
use Rattle.mb_tables.specs.declared.table.TableName.TheVariants.{Images, Map, Metadata, TileCache, Tiles, TilesData, TilesShallow, TilesWithHash}
use Rattle.sqlite_value.specs.Order.{column, Row}
use Rattle.mb_file.specs.Cursor.{Stored}
use Rattle.mb_file.specs.Record.{values_in}
use Rattle.mb_file.specs.RowAt.{IsRowAt}
use Rattle.mb_file.specs.SetTable.{if_placed, row_read, set_row, step_of}
use Rattle.mb_file.specs.declared.columns.Columns.{Columns}

from_one : {X : Type 0} (side : X → Ordering) (xs : List X) (x : X) (rest : List X) → from_cut side xs ≡ x ∷ rest → IsIn x xs
from_one side [] x rest e = absurd (let h = e in cc)
from_one side (y ∷ xs) x rest e = elim (cases_Bool (is_lt (side y))) [
  | inl low ↦ inr (from_one side xs x rest (rw low at e))
  | inr high ↦ let h : y ∷ xs ≡ x ∷ rest = rw high at e in let same : x ≡ y = cc in inl same
]

-- a row that is found by its rowid, as it was passed on
pub found_in : (n : ℤ) (bytes : List ℕ) (rows : List Stored) (found : Bool) → SFits w64 n → found ≡ true
    → IsFound (by_rowid (to_z w64 (of_z w64 n))) rows (to_z w64 (of_z w64 n), bytes) found → IsIn (n, bytes) rows
found_in n bytes rows found fits is h =
    let at = to_z-of_z w64 n fits in
    let there : IsFound (by_rowid (to_z w64 (of_z w64 n))) rows (to_z w64 (of_z w64 n), bytes) true = subst (IsFound (by_rowid (to_z w64 (of_z w64 n))) rows (to_z w64 (of_z w64 n), bytes)) is h in
    subst (λ (k : ℤ). IsIn (k, bytes) rows) at (from_one _ rows _ there.1.0 there.1.1)

-- what a record is read as, by its number as it was passed on
pub read_as : (table : TableName) (columns : Columns) (stored : Stored) (k : ℤ) (slice : List ℕ) (answer : Row) (row : List Cell) → k ≡ stored.0 → slice ≡ stored.1
    → answer ≡ values_in columns k slice → row_in table answer ≡ Some row → row_read table columns stored ≡ Some row
read_as table columns stored k slice answer row at lent shown is =
    ap (row_in table) (sym (shown ∙ ap₂ (λ (j : ℤ) (b : List ℕ). values_in columns j b) at lent)) ∙ is

-- a row that its record is read as, by its rowid as it was passed on
pub row_given : (table : TableName) (columns : Columns) (n k : ℤ) (bytes slice : List ℕ) (answer : Row) (row : List Cell) (rows : List Stored) → k ≡ n → slice ≡ bytes
    → answer ≡ values_in columns k slice → row_in table answer ≡ Some row → IsIn (k, bytes) rows → IsRowAt table columns rows n row
row_given table columns n k bytes slice answer row rows at lent shown is among = record {
  bytes = bytes;
  among = subst (λ (j : ℤ). IsIn (j, bytes) rows) at among;
  is = read_as table columns (n, bytes) k slice answer row at lent shown is;
}

-- a row without a place isn't one that is added
not_added : (row : List Cell) → misplaced row ≡ Added → ⊥
not_added [] e = let h = e in cc
not_added (Null ∷ more) e = let h = e in cc
not_added (Text t ∷ more) e = let h = e in cc
not_added (Blob b ∷ more) e = let h = e in cc
not_added (Other ∷ more) e = let h = e in cc
not_added (Int z ∷ []) e = let h = e in cc
not_added (Int z ∷ Null ∷ more) e = let h = e in cc
not_added (Int z ∷ Text t ∷ more) e = let h = e in cc
not_added (Int z ∷ Blob b ∷ more) e = let h = e in cc
not_added (Int z ∷ Other ∷ more) e = let h = e in cc
not_added (Int z ∷ Int c ∷ []) e = let h = e in cc
not_added (Int z ∷ Int c ∷ Null ∷ more) e = let h = e in cc
not_added (Int z ∷ Int c ∷ Text t ∷ more) e = let h = e in cc
not_added (Int z ∷ Int c ∷ Blob b ∷ more) e = let h = e in cc
not_added (Int z ∷ Int c ∷ Other ∷ more) e = let h = e in cc
not_added (Int z ∷ Int c ∷ Int r ∷ more) e = by (int_lt z (pos 31)) e
  where
    by : (deep : Bool) → cond deep Outside TooDeep ≡ Added → ⊥
    by true e = let h = e in cc
    by false e = let h = e in cc

module _ (table : TableName) (row : List Cell) (step : Step) (is : step ≡ step_of table row) where
  -- a row that is added is one of the set
  pub row_added : step ≡ Added → Some row ≡ if_placed table (Some row)
  row_added added = sym (by (is_placed table row) refl)
    where
      by : (placed : Bool) → is_placed table row ≡ placed → cond placed (Some row) None ≡ Some row
      by true e = refl
      by false e = absurd (not_added row (let h = rw e at is in let a = added in cc))

  -- another one isn't
  pub row_passed : ¬ (step ≡ Added) → None ≡ if_placed table (Some row)
  row_passed added = sym (by (is_placed table row) refl)
    where
      by : (placed : Bool) → is_placed table row ≡ placed → cond placed (Some row) None ≡ None
      by true e = absurd (added (rw e at is))
      by false e = refl

-- a row of the set is as wide as the row was
pub wide_if : (table : TableName) (row : List Cell) (o : Option (List Cell)) → o ≡ if_placed table (Some row) → length row ≡ width table → IfSome o (λ r. length r ≡ width table)
wide_if table row o is wide = subst (λ (o : Option (List Cell)). IfSome o (λ r. length r ≡ width table)) (sym is) (by (is_placed table row))
  where
    by : (placed : Bool) → IfSome (cond placed (Some row) None) (λ r. length r ≡ width table)
    by true = wide
    by false = tt

-- a row is as wide as its table
wide_row : (table : TableName) (r : Row) (row : List Cell) → row_in table r ≡ Some row → length row ≡ width table
wide_row table r row read = by table read
  where
    mapped : (o : Option Cell) → option_map (placed_row r) o ≡ Some row → length row ≡ 4
    mapped None e = absurd (let h = e in cc)
    mapped (Some c) e = let same : row ≡ placed_row r c = cc in ap length same

    paired : (a b : Option Cell) → pair_of a b ≡ Some row → length row ≡ 2
    paired (Some a) (Some b) e = let same : row ≡ a ∷ b ∷ [] = cc in ap length same
    paired (Some a) None e = absurd (let h = e in cc)
    paired None b e = absurd (let h = e in cc)

    hashed : (a b : Option Cell) → hashed_row r a b ≡ Some row → length row ≡ 5
    hashed (Some a) (Some b) e = let same : row ≡ place_cell (column r 0) ∷ place_cell (column r 1) ∷ place_cell (column r 2) ∷ a ∷ b ∷ [] = cc in ap length same
    hashed (Some a) None e = absurd (let h = e in cc)
    hashed None b e = absurd (let h = e in cc)

    by : (table : TableName) → row_in table r ≡ Some row → length row ≡ width table
    by Tiles e = mapped _ e
    by TilesWithHash e = hashed _ _ e
    by Map e = mapped _ e
    by Images e = paired _ _ e
    by TilesShallow e = mapped _ e
    by TilesData e = paired _ _ e
    by TileCache e = absurd (let h = e in cc)
    by Metadata e = paired _ _ e

pub wide_set : (table : TableName) (columns : Columns) (r : Stored) (row : List Cell) → set_row table columns r ≡ Some row → length row ≡ width table
wide_set table columns r row set = by (row_read table columns r) refl set
  where
    by : (o : Option (List Cell)) → row_read table columns r ≡ o → if_placed table o ≡ Some row → length row ≡ width table
    by None read e = absurd (let h = e in cc)
    by (Some x) read e = placed (is_placed table x) e
      where
        placed : (b : Bool) → cond b (Some x) None ≡ Some row → length row ≡ width table
        placed true e = let same : x ≡ row = cc in wide_row table (values_in columns r.0 r.1) row (read ∙ ap Some same)
        placed false e = absurd (let h = e in cc)

-- a row of the set has a place, where its table has places
pub placed_set : (table : TableName) (columns : Columns) (r : Stored) (row : List Cell) → set_row table columns r ≡ Some row → is_placed table row ≡ true
placed_set table columns r row set = by (row_read table columns r) set
  where
    by : (o : Option (List Cell)) → if_placed table o ≡ Some row → is_placed table row ≡ true
    by None e = absurd (let h = e in cc)
    by (Some x) e = placed (is_placed table x) refl e
      where
        placed : (b : Bool) → is_placed table x ≡ b → cond b (Some x) None ≡ Some row → is_placed table row ≡ true
        placed true is e = let same : row ≡ x = cc in ap (is_placed table) same ∙ is
        placed false is e = absurd (let h = e in cc)
