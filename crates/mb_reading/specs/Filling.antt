-- What answers of a file leave in a store.
use Rattle.std.specs.Prelude.{◌≡◌, pos, int_lt, Bool, true, false, not, ◌&&◌, ◌++◌, cond, List, [], ◌∷◌, Option, Some, None, fold, MatchBool, MatchOption}
use Rattle.mb_reading.specs.Common.{Cell, contents_of, faults_of, Images, Int, is_duplicate, IsSteady, MbtType, Metadata, no_rows, Normalized, Row, set_tables, TableName, Tables, tile_table, Tiles}
use Rattle.mb_reading.specs.Common.{told_of, with_row}
use Rattle.mb_store.specs.declared.mem_store.MemStore.{MemStore}
use Rattle.mb_reading.specs.declared.filling.Filling.{Filling}
use Rattle.mb_reading.specs.declared.filling.Step.{Step}
use Rattle.mb_reading.specs.declared.filling.Step.TheVariants.{Added, NoNumber, TooDeep, Outside, Repeated, Odd}
use Rattle.mb_reading.specs.LeftOut.{counted, nothing_left}
use Rattle.mb_reading.specs.Rows.{is_placed, row_in}
use Rattle.mb_reading.specs.declared.left_out.LeftOut.{LeftOut}
use Rattle.mb_reading.specs.declared.set_read.SetRead.{SetRead}

-- no call of a store failed, and none is to fail
pub record NeverFails (s : MemStore) : Type 0 where
  pub steady : IsSteady s
  pub unfailed : faults_of s ≡ 0

-- with a row more, where the table has no row of its key
abbrev pub with_new : TableName → List Cell → Tables → Tables
with_new table row t = cond (is_duplicate t table row) t (with_row t table row)

-- with the row of an answer, where it is one and has a place
abbrev pub with_read : TableName → Tables → Option (List Cell) → Tables
with_read table t None = t
with_read table t (Some row) = cond (is_placed table row) (with_new table row t) t

abbrev pub taken : TableName → Tables → Row → Tables
taken table t answer = with_read table t (row_in table answer)

-- with the rows of answers, the first of each key
abbrev pub filled : TableName → Tables → List Row → Tables
filled table t answers = fold (taken table) t answers

-- what becomes of a row without a place of zoom 0 to 30
abbrev pub misplaced : List Cell → Step
misplaced (Int zoom ∷ Int column ∷ Int row ∷ more) = cond (int_lt zoom (pos 31)) Outside TooDeep
misplaced _ = NoNumber

-- what becomes of the row of an answer
abbrev pub step_by : TableName → Tables → Option (List Cell) → Step
step_by table t None = Odd
step_by table t (Some row) = cond (is_placed table row) (cond (is_duplicate t table row) Repeated Added) (misplaced row)

abbrev pub step_of : TableName → Tables → Row → Step
step_of table t answer = step_by table t (row_in table answer)

-- tables that are read, and what is left out of them
abbrev pub Read : Type 0
Read = Tables × LeftOut

abbrev pub read_of : SetRead → Read
read_of r = (told_of r.store, r.left_out)

-- before the first answer
abbrev pub start : MbtType → Read
start layout = (no_rows (set_tables layout), nothing_left)

-- with an answer, and with all answers
abbrev pub noted : TableName → Read → Row → Read
noted table x answer = (taken table x.0 answer, counted table answer (step_of table x.0 answer) x.1)

abbrev pub read_on : TableName → Read → List Row → Read
read_on table x answers = fold (noted table) x answers

-- the tables of whose own layout a set may be none: `tiles` is read of any set, and a row of the
-- metadata may be left out
abbrev pub may_lack : TableName → Bool
may_lack Tiles = false
may_lack Metadata = false
may_lack _ = true

-- an answer is a row of its table, which has none of its key yet, or one without a place
abbrev pub fits_one : TableName → Tables → Option (List Cell) → Bool
fits_one table t None = false
fits_one table t (Some row) = not (is_placed table row && is_duplicate t table row)

-- each answer is a row of its table, and none with a place has a key of an earlier one
abbrev pub fits : TableName → Tables → List Row → Bool
fits table t [] = true
fits table t (answer ∷ answers) = fits_one table t (row_in table answer) && fits table (taken table t answer) answers

-- nothing is left out of a table of a layout but rows without a place
abbrev pub Fits : TableName → Tables → List Row → Type 0
Fits table t answers = may_lack table ≡ true → fits table t answers ≡ true

-- an answer is no row of a table of a layout, or has a key twice
abbrev pub Misfits : TableName → Tables → List Row → Type 0
Misfits table t answers = may_lack table ≡ true → fits table t answers ≡ false

-- the answers were taken one after another: their rows are in the store, or one of them was refused
unfoldable pub HasTaken : TableName → Read → List Row → Filling → Type 0
HasTaken table x answers f = MatchOption f.refused ((read_of f.so_far ≡ read_on table x answers) × Fits table x.0 answers) (λ _. Misfits table x.0 answers)

-- one more answer is taken
abbrev pub Takes : TableName → Row → Filling → Filling → Type 0
Takes table answer old new = (x : Read) (answers : List Row) → HasTaken table x answers old → HasTaken table x (answers ++ answer ∷ []) new

-- a store has the rows of all answers that were taken
abbrev pub IsFull : TableName → Filling → SetRead → Type 0
IsFull table f s = (x : Read) (answers : List Row) → HasTaken table x answers f → (read_of s ≡ read_on table x answers) × Fits table x.0 answers

-- the answers that were taken aren't those of a table that a set may lack
abbrev pub IsOdd : TableName → Filling → Type 0
IsOdd table f = (x : Read) (answers : List Row) → HasTaken table x answers f → (may_lack table ≡ true) × (fits table x.0 answers ≡ false)

-- whether an answer of which this became is a row of its table, with a key of its own
abbrev pub is_fit : Step → Bool
is_fit Added = true
is_fit NoNumber = true
is_fit TooDeep = true
is_fit Outside = true
is_fit _ = false

-- a table is filled with the rows of some answers, where it is to be; else the tables stand
unfoldable pub IsFilled : Bool → TableName → Read → Read → Type 0
IsFilled has table old new = MatchBool has ((answers : List Row) × (new ≡ read_on table old answers)) (new ≡ old)

-- the table that has the contents of a normalised layout; the others have none
abbrev pub content_table : MbtType → TableName
content_table (Normalized view schema) = contents_of schema
content_table _ = Images

abbrev pub has_contents : MbtType → Bool
has_contents (Normalized view schema) = true
has_contents _ = false

-- these are tables of a layout with the rows of some answers: of the metadata, if there is one, of the contents, if the
-- layout has a table of them, and of the tiles
unfoldable pub IsRead : MbtType → Read → Type 0
IsRead layout t =
    (has_names : Bool) × (names : Read) × (contents : Read) × IsFilled has_names Metadata (start layout) names
    × IsFilled (has_contents layout) (content_table layout) names contents × IsFilled true (tile_table layout) contents t

-- the tables of a set that was read, in one of the layouts
unfoldable pub IsSet : Read → Type 0
IsSet t = (layout : MbtType) × IsRead layout t
