-- The rows of a table in the order of its tree. Of a table WITHOUT ROWID nothing is told.
use Rattle.std.specs.Prelude.{◌≡◌, ℕ, Bool, true, false, List, [], ◌∷◌, Result, MatchResult}
use Rattle.sqlite_btree.specs.Chain.{Layout}
use Rattle.sqlite_btree.specs.Stored.{IsLaidIn, IsTable}
use Rattle.sqlite_pages.specs.Calls.{IsClean, FailsFor}
use Rattle.sqlite_pages.specs.PageMap.{PageMap}
use Rattle.sqlite_pages.specs.declared.error.Error.{Error}
use Rattle.sqlite_pages.specs.declared.pages.Pages.{Ghosts}
use Rattle.mb_file.specs.Cursor.{IsAmong, left_of, row_of, Stored}
use Rattle.mb_file.specs.declared.course.Course.{Course}
use Rattle.mb_file.specs.declared.course.Course.TheVariants.{Keys, Rows}

-- whether its table is WITHOUT ROWID
abbrev pub has_key : Course → Bool
has_key (Rows cursor) = false
has_key (Keys walk) = true

-- those of a table's rows that are left
abbrev pub left_in : Course → List Stored → List Stored
left_in (Rows cursor) rows = left_of cursor rows
left_in (Keys walk) rows = []

-- the row that was taken last: its number and its record
abbrev pub row_in : Course → Stored
row_in (Rows cursor) = row_of cursor
row_in (Keys walk) = (walk.count, walk.record.items)

-- it stands in a table's rows
abbrev pub IsIn : Layout → ℕ → PageMap → List Stored → Course → Type 0
IsIn layout usable pages rows (Rows cursor) = IsAmong layout usable pages rows cursor
IsIn layout usable pages rows (Keys walk) = ⊥

-- the first row that was left is taken, or none was and is left
abbrev pub Passed : List Stored → Course → Course → Bool → Type 0
Passed rows old new true = left_in old rows ≡ row_in new ∷ left_in new rows
Passed rows old new false = (left_in old rows ≡ []) × (left_in new rows ≡ [])

abbrev pub PassesRow : {P : Type 0} (g : Ghosts P) (early late : P) (root : ℕ) (old new : Course) (result : Result Bool Error) → Type 0
PassesRow g early late root old new result =
    IsClean g late → (layout : Layout) (rows : List Stored) → IsLaidIn layout (g.pages early) → IsTable (g.size early) layout root rows
    → IsIn layout (g.size early) (g.pages early) rows old
    → MatchResult result
    (λ found. Passed rows old new found × IsIn layout (g.size early) (g.pages early) rows new)
    (FailsFor g early late ⊥)
