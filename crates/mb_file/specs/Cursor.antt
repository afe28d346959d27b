-- The rows of a table by their rowids, as a cursor over its tree takes them.
use Rattle.std.specs.Prelude.{◌≡◌, ℕ, ℤ, Bool, true, false, List, [], ◌∷◌, ◌++◌, map, Option, Some, None, Result, MatchResult}
use Rattle.sqlite_btree.specs.Batch.{IsBatchOf, IsFilled, left_in, taken}
use Rattle.sqlite_btree.specs.declared.batch.Batch.{Batch}
use Rattle.sqlite_btree.specs.Chain.{Layout}
use Rattle.sqlite_btree.specs.Cut.{from_cut}
use Rattle.sqlite_btree.specs.Stored.{as_row, by_rowid, IsLaidIn, IsTable}
use Rattle.sqlite_pages.specs.Calls.{IsClean, FailsFor}
use Rattle.sqlite_pages.specs.PageMap.{PageMap}
use Rattle.sqlite_pages.specs.declared.error.Error.{Error}
use Rattle.sqlite_pages.specs.declared.pages.Pages.{Ghosts}
use Rattle.mb_file.specs.declared.cursor.Cursor.{Cursor}

-- a row of a table: its rowid and its record
abbrev pub Stored : Type 0
Stored = ℤ × List ℕ

-- the rows from a rowid on; none past the last one
abbrev pub rows_from : Option ℤ → List Stored → List Stored
rows_from None rows = []
rows_from (Some next) rows = from_cut (by_rowid next) rows

-- those of a table's rows that a cursor has left
abbrev pub left_of : Cursor → List Stored → List Stored
left_of cursor rows = rows_from cursor.next rows

-- the row that it took last
abbrev pub row_of : Cursor → Stored
row_of cursor = as_row (taken cursor.batch)

-- the rows that a cursor holds are the first of those that it has left
pub record IsAmong (layout : Layout) (usable : ℕ) (pages : PageMap) (rows : List Stored) (cursor : Cursor) : Type 0 where
  pub valid : IsBatchOf layout usable cursor.batch
  pub rest : List Stored
  pub parts : left_of cursor rows ≡ map as_row (left_in pages cursor.batch) ++ rest

-- the first row that was left is taken, or none was and is left
abbrev pub Took : List Stored → Cursor → Cursor → Bool → Type 0
Took rows old new true = left_of old rows ≡ row_of new ∷ left_of new rows
Took rows old new false = (left_of old rows ≡ []) × (left_of new rows ≡ [])

-- a call on a table's tree with an answer of which this holds, or a cause of its failure
abbrev pub TakesRow : {P : Type 0} (g : Ghosts P) (early late : P) (root : ℕ) (old new : Cursor) (result : Result Bool Error) → Type 0
TakesRow g early late root old new result =
    IsClean g late → (layout : Layout) (rows : List Stored) → IsLaidIn layout (g.pages early) → IsTable (g.size early) layout root rows
    → IsAmong layout (g.size early) (g.pages early) rows old
    → MatchResult result
    (λ found. Took rows old new found × IsAmong layout (g.size early) (g.pages early) rows new)
    (FailsFor g early late ⊥)

-- a batch that has rows left stays, and another one is filled with the first rows from a rowid on
abbrev pub FillsEmpty : {P : Type 0} (g : Ghosts P) (early late : P) (root : ℕ) (next : ℤ) (old new : Batch) (result : Result (Unit {0}) Error) → Type 0
FillsEmpty g early late root next old new result =
    IsClean g late → (layout : Layout) (rows : List Stored) → IsLaidIn layout (g.pages early) → IsTable (g.size early) layout root rows
    → IsBatchOf layout (g.size early) old
    → (rest : List Stored) → from_cut (by_rowid next) rows ≡ map as_row (left_in (g.pages early) old) ++ rest
    → MatchResult result
    (λ _. IsFilled as_row (from_cut (by_rowid next) rows) layout (g.size early) (g.pages early) new)
    (FailsFor g early late ⊥)
