-- The row with a key, by the numbers of rows.
use Rattle.std.proofs.Common.{ap, arith, Bool, false, inl, inr, int_lt, length, List, None, Option, refl, Some, slice_index_or, subst, suc, sym, true, zero, [], ℕ, ℤ, ◌<◌, ◌∙◌, ◌∷◌, ◌≡◌, ◌⊎◌}
use Rattle.std.specs.Prelude.{AllPairs, Contains, find}
use Rattle.std.specs.List.{cons_option}
use Rattle.std.proofs.lemmas.Bool.{cases_Bool}
use Rattle.std.proofs.lemmas.Int.{ints}
use Rattle.std.proofs.lemmas.List.Elements.{Contains-append_cases, Contains-append_right}
use Rattle.sqlite_btree.specs.Cut.{Each, IsIn}
use Rattle.mb_tables.proofs.CellLemmas.{cells_eq-Decides}
use Rattle.mb_tables.specs.Cell.{cells_eq, is_null}
use Rattle.mb_tables.specs.Key.{clash, has_key, key_cells}
use Rattle.mb_tables.specs.Common.{list_any}
use Rattle.mb_tables.specs.Table.{key_of}
use Rattle.mb_tables.specs.declared.cell.Cell.{Cell}
use Rattle.mb_tables.specs.declared.key.RowKey.{RowKey}
use Rattle.mb_tables.specs.declared.key.RowKey.TheVariants.{IntId, TextId, Tile}
use Rattle.mb_tables.specs.declared.table.TableName.{TableName}
use Rattle.mb_file.proofs.CursorLemmas.{Rise}
use Rattle.mb_file.proofs.NotedLemmas.{first_number, first_set_row, no_numbers}
use Rattle.mb_file.specs.Cursor.{Stored}
use Rattle.mb_file.specs.Noted.{number_at, numbers_of}
use Rattle.mb_file.specs.SetTable.{set_row, set_rows}
use Rattle.mb_file.specs.declared.columns.Columns.{Columns}
use Rattle.mb_file.specs.declared.numbers.Numbered.{Numbered}

each_at : {X : Type 0} (P : X → Type 0) (xs : List X) (x : X) → Each P xs → IsIn x xs → P x
each_at P [] x all among = absurd among
each_at P (y ∷ ys) x all (inl same) = subst P (sym same) all.0
each_at P (y ∷ ys) x all (inr among) = each_at P ys x all.1 among

not_itself : (x y : ℤ) → int_lt x y ≡ true → x ≡ y → ⊥
not_itself x y lt same = absurd (grind (arith, ints))

-- no two rows have one rowid
pub one_rowid : (rows : List Stored) (a b : Stored) → Rise rows → IsIn a rows → IsIn b rows → a.0 ≡ b.0 → a ≡ b
one_rowid [] a b rise ina inb same = absurd ina
one_rowid (x ∷ rows) a b rise (inl isa) (inl isb) same = isa ∙ sym isb
one_rowid (x ∷ rows) a b rise (inl isa) (inr inb) same = absurd (not_itself x.0 b.0 (each_at (λ y. int_lt x.0 y.0 ≡ true) rows b rise.0 inb) (ap (λ (r : Stored). r.0) (sym isa) ∙ same))
one_rowid (x ∷ rows) a b rise (inr ina) (inl isb) same = absurd (not_itself x.0 a.0 (each_at (λ y. int_lt x.0 y.0 ≡ true) rows a rise.0 ina) (ap (λ (r : Stored). r.0) (sym isb) ∙ sym same))
one_rowid (x ∷ rows) a b rise (inr ina) (inr inb) same = one_rowid rows a b rise.1 ina inb same

at_front : {X : Type 0} (x : X) (xs : List X) → Contains (x ∷ xs) x
at_front x xs = (0, omega arith, refl)

behind_option : {X : Type 0} (o : Option X) (xs : List X) (x : X) → Contains xs x → Contains (cons_option o xs) x
behind_option None xs x has = has
behind_option (Some y) xs x has = Contains-append_right (y ∷ []) xs x has

is_one : {X : Type 0} (y x : X) → Contains (y ∷ []) x → y ≡ x
is_one y x has = one has.0 has.1 has.2
  where
    one : (k : ℕ) → k < 1 → slice_index_or (y ∷ []) k x ≡ x → y ≡ x
    one zero below is = is
    one (suc k) below is = absurd (omega (arith, below))

module _ (secret : ℕ) (table : TableName) (columns : Columns) where
  -- each row that has a number is among those that are numbered
  pub is_numbered : (rows : List Stored) (r : Stored) (item : Numbered) → IsIn r rows → number_at secret table columns r ≡ Some item → Contains (numbers_of secret table columns rows) item
  is_numbered [] r item among is = absurd among
  is_numbered (y ∷ rows) r item (inl same) is =
      let at : number_at secret table columns y ≡ Some item = ap (number_at secret table columns) (sym same) ∙ is in
      subst (λ (xs : List Numbered). Contains xs item)
      (sym (first_number secret table columns y rows ∙ ap (λ (o : Option Numbered). cons_option o (numbers_of secret table columns rows)) at)) (at_front item (numbers_of secret table columns rows))
  is_numbered (y ∷ rows) r item (inr among) is =
      subst (λ (xs : List Numbered). Contains xs item) (sym (first_number secret table columns y rows))
      (behind_option (number_at secret table columns y) (numbers_of secret table columns rows) item (is_numbered rows r item among is))

  abbrev NumberedIn : List Stored → Numbered → Type 0
  NumberedIn rows item = (r : Stored) × IsIn r rows × (number_at secret table columns r ≡ Some item)

  one_of : (y : Stored) (rows : List Stored) (item : Numbered) (o : Option Numbered) → number_at secret table columns y ≡ o → (Contains (numbers_of secret table columns rows) item → NumberedIn rows item)
      → Contains (cons_option o (numbers_of secret table columns rows)) item → NumberedIn (y ∷ rows) item
  one_of y rows item None is later has = let below = later has in (below.0, inr below.1, below.2)
  one_of y rows item (Some z) is later has = by (Contains-append_cases (z ∷ []) (numbers_of secret table columns rows) item has)
    where
      by : Contains (z ∷ []) item ⊎ Contains (numbers_of secret table columns rows) item → NumberedIn (y ∷ rows) item
      by (inl here) = (y, inl refl, is ∙ ap Some (is_one z item here))
      by (inr there) = let below = later there in (below.0, inr below.1, below.2)

  -- and each of these is a row's
  pub numbers_row : (rows : List Stored) (item : Numbered) → Contains (numbers_of secret table columns rows) item → (r : Stored) × IsIn r rows × (number_at secret table columns r ≡ Some item)
  numbers_row [] item has = absurd (omega (arith, has.1, ap length (no_numbers secret table columns)))
  numbers_row (y ∷ rows) item has =
      one_of y rows item (number_at secret table columns y) refl (λ below. numbers_row rows item below) (subst (λ (xs : List Numbered). Contains xs item) (first_number secret table columns y rows) has)

module _ (table : TableName) (columns : Columns) where
  no_set_rows : set_rows table columns [] ≡ []
  unfolding set_rows
  no_set_rows = refl

  -- a row that is one of the set is among its rows
  pub is_set_row : (rows : List Stored) (r : Stored) (row : List Cell) → IsIn r rows → set_row table columns r ≡ Some row → Contains (set_rows table columns rows) row
  is_set_row [] r row among is = absurd among
  is_set_row (y ∷ rows) r row (inl same) is =
      let at : set_row table columns y ≡ Some row = ap (set_row table columns) (sym same) ∙ is in
      subst (λ (xs : List (List Cell)). Contains xs row)
      (sym (first_set_row table columns y rows ∙ ap (λ (o : Option (List Cell)). cons_option o (set_rows table columns rows)) at)) (at_front row (set_rows table columns rows))
  is_set_row (y ∷ rows) r row (inr among) is =
      subst (λ (xs : List (List Cell)). Contains xs row) (sym (first_set_row table columns y rows))
      (behind_option (set_row table columns y) (set_rows table columns rows) row (is_set_row rows r row among is))

  -- no row of the set passes a test that no row of the table passes
  pub finds_none : (p : List Cell → Bool) (rows : List Stored) → ((r : Stored) (row : List Cell) → IsIn r rows → set_row table columns r ≡ Some row → p row ≡ false)
      → find p (set_rows table columns rows) ≡ None
  finds_none p [] none = ap (find p) no_set_rows
  finds_none p (y ∷ rows) none =
      ap (find p) (first_set_row table columns y rows) ∙ by (set_row table columns y) refl (finds_none p rows (λ r row among is. none r row (inr among) is))
    where
      by : (o : Option (List Cell)) → set_row table columns y ≡ o → find p (set_rows table columns rows) ≡ None → find p (cons_option o (set_rows table columns rows)) ≡ None
      by None is rest = rest
      by (Some row) is rest = rw (none y row (inl refl) is) rest

-- the first element that passes a test
find_at : {X : Type 0} (p : X → Bool) (xs : List X) (k : ℕ) (d : X) → k < length xs → p (slice_index_or xs k d) ≡ true → ((j : ℕ) → j < k → p (slice_index_or xs j d) ≡ false)
    → find p xs ≡ Some (slice_index_or xs k d)
find_at p [] k d below is none = absurd (omega (arith, below))
find_at p (x ∷ xs) zero d below is none = rw is refl
find_at p (x ∷ xs) (suc k) d below is none =
    rw (none 0 (omega arith)) (find_at p xs k d (omega (arith, below)) is (λ j lt. none (suc j) (omega (arith, lt))))

no_null : (key : RowKey) → list_any is_null (key_cells key) ≡ false
no_null (Tile zoom column row) = refl
no_null (IntId id) = refl
no_null (TextId id) = refl

-- two rows with one key clash
both_clash : (table : TableName) (key : RowKey) (r s : List Cell) → has_key table key r ≡ true → has_key table key s ≡ true → clash table r s ≡ true
both_clash table key r s hasr hass =
    let isr : key_of table r ≡ key_cells key = (cells_eq-Decides (key_of table r) (key_cells key)).0 hasr in
    let iss : key_of table s ≡ key_cells key = (cells_eq-Decides (key_of table s) (key_cells key)).0 hass in
    let same : cells_eq (key_of table r) (key_of table s) ≡ true = (cells_eq-Decides (key_of table r) (key_of table s)).1 (isr ∙ sym iss) in
    let null : list_any is_null (key_of table r) ≡ false = ap (list_any is_null) isr ∙ no_null key in
    rw (same, null) refl

-- the row with a key is found, where no two rows clash
pub finds_one : (table : TableName) (key : RowKey) (rows : List (List Cell)) (row : List Cell) → AllPairs (λ r s. clash table r s ≡ false) rows → Contains rows row → has_key table key row ≡ true
    → find (has_key table key) rows ≡ Some row
finds_one table key rows row apart has is =
    let k : ℕ = has.0 in
    let at : slice_index_or rows k row ≡ row = has.2 in
    let here : has_key table key (slice_index_or rows k row) ≡ true = ap (has_key table key) at ∙ is in
    find_at (has_key table key) rows k row has.1 here (λ j lt. none j lt here) ∙ ap Some at
  where
    none : (j : ℕ) → j < has.0 → has_key table key (slice_index_or rows has.0 row) ≡ true → has_key table key (slice_index_or rows j row) ≡ false
    none j lt here = elim (cases_Bool (has_key table key (slice_index_or rows j row))) [
      | inl there ↦ absurd (let c = both_clash table key (slice_index_or rows j row) (slice_index_or rows has.0 row) there here in let f = apart j has.0 row lt has.1 in cc)
      | inr not_there ↦ not_there
    ]
