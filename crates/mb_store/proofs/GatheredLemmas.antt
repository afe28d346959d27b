-- What a store tells of gathered rows: where they are put, which are refused, and what stays.
use Rattle.mb_store.proofs.Common.{All, All-cons, All-head, All-nil, All-tail, all_rows, AllByRecursion, and_from, and_parts, ap, apart_from_distinct, AreFirst, AreSeen, AreStored, arith, at, Bool}
use Rattle.mb_store.proofs.Common.{both_ways, Cell, cells_cmp, cells_eq, cells_eq-Decides, clash, cond, DuplicateRow, eq-eqb, eq_by_cmp, eq_by_cmp_equiv, eqb-true, Equal, Err, false, false≢true}
use Rattle.mb_store.proofs.Common.{Gathered, gathered_at, get_or, Greater, has_own, is_eq, is_null, IsDistinct-from_apart, IsDistinct-push, IsInOrder, IsStrictlySortedBy, key_of, length, length-map}
use Rattle.mb_store.proofs.Common.{length_permutation, Less, List, list_any, list_any-append, list_any-IsPermutation, MbtError, MemTables, nat_cmp, no_rows, not, numbers_cells, Ok, Ordering}
use Rattle.mb_store.proofs.Common.{ordering_then, OutOfMemory, own_key, placed, recursion_from_All, refl, RefusesTwice, Result, rows_at, rows_of, same_numbers, same_table, Sees, Stored, stored_cmp}
use Rattle.mb_store.proofs.Common.{stored_total, subst, sym, table_eq, table_eq-refl, TableDesc, TableName, TableRows, Tables, tables_of, told_at, told_tables, true, width, with_rows, ℕ, [], ◌&&◌}
use Rattle.mb_store.proofs.Common.{◌++◌, ◌<◌, ◌==◌, ◌^◌, ◌||◌, ◌↔◌, ◌∙◌, ◌∷◌, ◌≡◌}
use Rattle.mb_store.proofs.PushLemmas.{any_tested, clash_single}
use Rattle.mb_store.proofs.RowsPut.{AreApart, all_permuted, all_sorted, last_placed, none_passes}
use Rattle.mb_store.proofs.StoredLemmas.{All-insert_key, own_is, placed_in, rows_ordered}

-- tables that tell the same
pub tables_same : (ds : List TableDesc) (f g : TableName → List (List Cell)) → ((t : TableName) → f t ≡ g t) → ◌≡◌ {A = Tables} (record { descriptions = ds; rows = f }) (record { descriptions = ds; rows = g })
tables_same ds f g same i = record { descriptions = ds; rows = λ t. same t i }

no_more : (b : Bool) → ◌≡◌ {A = List Stored} (cond b [] []) []
no_more true = refl
no_more false = refl

-- where nothing is gathered the ordered rows are told
pub told_settled : (m : MemTables) (g : Gathered) → g.rows.items ≡ [] → (t : TableName) → told_at m g t ≡ rows_at m t
unfolding told_at
told_settled m g none t = ap (λ xs. rows_of (all_rows (at m t).stored.keys (cond (table_eq t g.table) xs []))) none ∙ ap (λ xs. rows_of (all_rows (at m t).stored.keys xs)) (no_more (table_eq t g.table))

pub tables_settled : (ds : List TableDesc) (m : MemTables) (g : Gathered) → g.rows.items ≡ [] → told_tables ds m g ≡ tables_of ds m
tables_settled ds m g none = tables_same ds (told_at m g) (rows_at m) (told_settled m g none)

pub tables_none : (ds : List TableDesc) (m : MemTables) (g : Gathered) → g.rows.items ≡ [] → ((t : TableName) → rows_at m t ≡ []) → told_tables ds m g ≡ no_rows ds
tables_none ds m g none empty = tables_same ds (told_at m g) (λ t. []) (λ t. told_settled m g none t ∙ empty t)

-- the rows of the table itself, and of any other
pub told_own : (m : MemTables) (g : Gathered) (table : TableName) → g.table ≡ table → (at m table).stored.keys ≡ [] → told_at m g table ≡ rows_of (all_rows [] g.rows.items)
unfolding told_at
told_own m g table own none =
    ap (λ t. rows_of (all_rows (at m table).stored.keys (cond (table_eq table t) g.rows.items []))) own
    ∙ (ap (λ b. rows_of (all_rows (at m table).stored.keys (cond b g.rows.items []))) (table_eq-refl table)
    ∙ ap (λ ks. rows_of (all_rows ks g.rows.items)) none)

pub told_other : (m : MemTables) (g : Gathered) (u : TableName) → table_eq u g.table ≡ false → told_at m g u ≡ rows_at m u
unfolding told_at
told_other m g u e = ap (λ b. rows_of (all_rows (at m u).stored.keys (cond b g.rows.items []))) e

-- other rows in a table's place, put there once more
pub put_again : (m n l : MemTables) (table : TableName) (first second : TableRows) → ((u : TableName) → at n u ≡ cond (table_eq u table) first (at m u)) → ((u : TableName) → at l u ≡ cond (table_eq u table) second (at n u)) → (u : TableName) → at l u ≡ cond (table_eq u table) second (at m u)
put_again m n l table first second e f u = f u ∙ (ap (λ r. cond (table_eq u table) second r) (e u) ∙ by (table_eq u table))
  where
    by : (b : Bool) → cond b second (cond b first (at m u)) ≡ cond b second (at m u)
    by true = refl
    by false = refl

-- rows that go from the list to their places are told as before
pub put_told : (m n : MemTables) (g h : Gathered) (rows : TableRows) → ((u : TableName) → at n u ≡ cond (table_eq u g.table) rows (at m u)) → h.table ≡ g.table → all_rows rows.stored.keys h.rows.items ≡ all_rows (at m g.table).stored.keys g.rows.items → (u : TableName) → told_at n h u ≡ told_at m g u
unfolding told_at
put_told m n g h rows put own same u = (λ i. rows_of (all_rows (put u i).stored.keys (cond (table_eq u (own i)) h.rows.items []))) ∙ by (table_eq u g.table) refl
  where
    by : (b : Bool) → table_eq u g.table ≡ b → rows_of (all_rows (cond b rows (at m u)).stored.keys (cond b h.rows.items [])) ≡ rows_of (all_rows (at m u).stored.keys (cond b g.rows.items []))
    by true e = ap rows_of (same ∙ ap (λ t. all_rows (at m t).stored.keys g.rows.items) (sym (same_table u g.table e)))
    by false e = refl

-- what holds of ordered rows and of those that are put there
pub all_hold : (P : Stored → Type 0) (keys xs : List Stored) → All P keys → AllByRecursion P xs → All P (all_rows keys xs)
all_hold P keys [] all more = all
all_hold P keys (x ∷ xs) all more = All-insert_key P (all_rows keys xs) x (all_hold P keys xs all more.1) more.0

-- the gathered rows have the table's width
wide_at : (g : Gathered) (u : TableName) → AreFirst g.table g.rows.items → AllByRecursion (λ (s : Stored). length s.0 ≡ width u) (gathered_at g u)
wide_at g u first = by (table_eq u g.table) refl
  where
    by : (b : Bool) → table_eq u g.table ≡ b → AllByRecursion (λ (s : Stored). length s.0 ≡ width u) (cond b g.rows.items [])
    by true e = subst (λ t. AllByRecursion (λ (s : Stored). length s.0 ≡ width t) g.rows.items) (sym (same_table u g.table e)) (recursion_from_All (λ (s : Stored). length s.0 ≡ width g.table) g.rows.items first.wide)
    by false e = tt

-- all rows that are told stand in order
pub told_order : (m : MemTables) (g : Gathered) (table : TableName) → IsStrictlySortedBy stored_cmp (at m table).stored.keys → AreStored table (at m table) → AreFirst g.table g.rows.items → IsInOrder table (told_at m g table)
unfolding told_at
told_order m g table sorted stored first =
    rows_ordered table (all_rows (at m table).stored.keys (gathered_at g table)) (all_sorted (at m table).stored.keys (gathered_at g table) sorted)
    (all_hold (λ (s : Stored). length s.0 ≡ width table) (at m table).stored.keys (gathered_at g table) stored.wide (wide_at g table first))

-- where a test passes none, it fails of each
others : {X : Type 0} (p : X → Bool) (xs : List X) → list_any p xs ≡ false → AllByRecursion (λ x. p x ≡ false) xs
others p [] none = tt
others p (x ∷ xs) none = by (p x) refl none (others p xs)
  where
    by : (b : Bool) → p x ≡ b → (b || list_any p xs) ≡ false → (list_any p xs ≡ false → AllByRecursion (λ x. p x ≡ false) xs) → (p x ≡ false) × AllByRecursion (λ x. p x ≡ false) xs
    by true e h next = absurd (false≢true (sym h))
    by false e h next = (e, next h)

untied : (r q : Ordering) → is_eq r ≡ false → is_eq (ordering_then r q) ≡ false
untied Less q h = refl
untied Equal q h = absurd (false≢true (sym h))
untied Greater q h = refl

all_untied : (row : List Cell) (n : ℕ) (xs : List Stored) → AllByRecursion (λ (s : Stored). cells_eq (own_key row) (own_key s.0) ≡ false) xs → AllByRecursion (λ y. is_eq (stored_cmp (row, n) y) ≡ false) xs
all_untied row n [] all = tt
all_untied row n (x ∷ xs) all = (untied (cells_cmp (own_key row) (own_key x.0)) (nat_cmp n x.1) all.0, all_untied row n xs all.1)

-- a row of another key than those of a list is placed among all of them
placed_last : (table : TableName) (row : List Cell) (xs : List Stored) → length row ≡ width table → All (λ (s : Stored). length s.0 ≡ width table) xs → list_any (λ (s : Stored). cells_eq (own_key row) (own_key s.0)) xs ≡ false → rows_of (all_rows [] (xs ++ (row, 0) ∷ [])) ≡ placed table row (rows_of (all_rows [] xs))
placed_last table row xs own wide none =
    let other : AllByRecursion (λ (s : Stored). cells_eq (own_key row) (own_key s.0) ≡ false) xs = others (λ (s : Stored). cells_eq (own_key row) (own_key s.0)) xs none in
    ap rows_of (last_placed [] xs (row, 0) (all_untied row 0 xs other))
    ∙ placed_in table row 0 (all_rows [] xs) own
    (all_hold (λ (s : Stored). length s.0 ≡ width table) [] xs (All-nil (λ (s : Stored). length s.0 ≡ width table)) (recursion_from_All (λ (s : Stored). length s.0 ≡ width table) xs wide))
    (λ k d far e. absurd (false≢true (sym (all_hold (λ (s : Stored). cells_eq (own_key row) (own_key s.0) ≡ false) [] xs (All-nil (λ (s : Stored). cells_eq (own_key row) (own_key s.0) ≡ false)) other k d far) ∙ ap is_eq e)))

-- it clashes with one of them where one has its key
pub clash_among : (table : TableName) (keyed : Bool) (row : List Cell) (numbers : ℕ × ℕ × ℕ) (xs : List Stored) → keyed ≡ true → length row ≡ width table → own_key row ≡ numbers_cells numbers → All (λ (s : Stored). length s.0 ≡ width table) xs → AreApart xs → (keyed && list_any (clash table row) (rows_of (all_rows [] xs))) ≡ list_any (λ (s : Stored). cells_eq (own_key row) (own_key s.0)) xs
clash_among table keyed row numbers xs is own small wide apart =
    let all : All (λ (s : Stored). length s.0 ≡ width table) (all_rows [] xs) = all_hold (λ (s : Stored). length s.0 ≡ width table) [] xs (All-nil (λ (s : Stored). length s.0 ≡ width table)) (recursion_from_All (λ (s : Stored). length s.0 ≡ width table) xs wide) in
    let key : key_of table row ≡ numbers_cells numbers = sym (own_is table row own) ∙ small in
    clash_single table keyed true row (rows_of (all_rows [] xs)) (sym (λ i. is i && not (list_any is_null (key i))))
    ∙ (any_tested (λ other. cells_eq (key_of table row) (key_of table other)) (λ (s : Stored). cells_eq (own_key row) (own_key s.0)) (all_rows [] xs)
    (λ k d far i. cells_eq (sym (own_is table row own) i) (sym (own_is table (get_or (all_rows [] xs) k d).0 (all k d far)) i))
    ∙ sym (list_any-IsPermutation (λ (s : Stored). cells_eq (own_key row) (own_key s.0)) xs (all_rows [] xs) (all_permuted xs apart)))

-- a row more at the end of the list is told at its place
pub told_pushed : (m : MemTables) (g h : Gathered) (table : TableName) (row : List Cell) → g.table ≡ table → h.table ≡ table → (at m table).stored.keys ≡ [] → h.rows.items ≡ g.rows.items ++ (row, 0) ∷ [] → length row ≡ width table → AreFirst table g.rows.items → list_any (λ (s : Stored). cells_eq (own_key row) (own_key s.0)) g.rows.items ≡ false → (u : TableName) → told_at m h u ≡ with_rows (told_at m g) table (placed table row (told_at m g table)) u
told_pushed m g h table row own still empty more wide first none u = by (table_eq u table) refl
  where
    here : told_at m h table ≡ placed table row (told_at m g table)
    here = told_own m h table still empty ∙ (ap (λ xs. rows_of (all_rows [] xs)) more ∙ (placed_last table row g.rows.items wide first.wide none ∙ ap (placed table row) (sym (told_own m g table own empty))))

    by : (b : Bool) → table_eq u table ≡ b → told_at m h u ≡ cond b (placed table row (told_at m g table)) (told_at m g u)
    by true e = ap (told_at m h) (same_table u table e) ∙ here
    by false e = told_other m h u (ap (table_eq u) still ∙ e) ∙ sym (told_other m g u (ap (table_eq u) own ∙ e))

-- rows that stay in the list are told as before
pub told_still : (m : MemTables) (g h : Gathered) → h.table ≡ g.table → h.rows.items ≡ g.rows.items → (u : TableName) → told_at m h u ≡ told_at m g u
unfolding told_at
told_still m g h own same u i = rows_of (all_rows (at m u).stored.keys (cond (table_eq u (own i)) (same i) []))

-- a list in memory isn't longer than a count
pub told_count : (m : MemTables) (g : Gathered) (table : TableName) → g.table ≡ table → (at m table).stored.keys ≡ [] → AreApart g.rows.items → length g.rows.items < 2 ^ 63 → length (told_at m g table) < 2 ^ 64
told_count m g table own empty apart small =
    let rows : length (told_at m g table) ≡ length (rows_of (all_rows [] g.rows.items)) = ap (λ (rs : List (List Cell)). length rs) (told_own m g table own empty) in
    let all : length (rows_of (all_rows [] g.rows.items)) ≡ length (all_rows [] g.rows.items) = length-map (all_rows [] g.rows.items) (λ (s : Stored). s.0) in
    let same : length (all_rows [] g.rows.items) ≡ length g.rows.items = length_permutation g.rows.items (all_rows [] g.rows.items) (all_permuted g.rows.items apart) in
    omega (arith, rows, all, same, small)

-- a row of another key more leaves the rows apart
pub apart_more : (xs : List Stored) (row : List Cell) → AreApart xs → list_any (λ (s : Stored). cells_eq (own_key row) (own_key s.0)) xs ≡ false → AreApart (xs ++ (row, 0) ∷ [])
apart_more xs row apart none i j d less far = apart_from_distinct (eq_by_cmp stored_cmp) (xs ++ (row, 0) ∷ []) i j d
    (IsDistinct-push (eq_by_cmp_equiv stored_total) xs (row, 0) (IsDistinct-from_apart (eq_by_cmp stored_cmp) xs apart) (none_passes (eq_by_cmp stored_cmp (row, 0)) xs (all_untied row 0 xs (others (λ (s : Stored). cells_eq (own_key row) (own_key s.0)) xs none)))) less far

-- whether one of the rows has three numbers, with one more
module _ (numbers n : ℕ × ℕ × ℕ) where
  numbers_same : same_numbers numbers n ≡ true → numbers_cells n ≡ numbers_cells numbers
  numbers_same h =
      let all = and_parts ((numbers.0 == n.0) && (numbers.1 == n.1)) (numbers.2 == n.2) h in
      let two = and_parts (numbers.0 == n.0) (numbers.1 == n.1) all.0 in
      λ i. numbers_cells (sym (eqb-true numbers.0 n.0 two.0) i, sym (eqb-true numbers.1 n.1 two.1) i, sym (eqb-true numbers.2 n.2 all.1) i)

  same_cells : numbers_cells n ≡ numbers_cells numbers → same_numbers numbers n ≡ true
  same_cells e =
      let a : numbers.0 ≡ n.0 = cc in
      let b : numbers.1 ≡ n.1 = cc in
      let d : numbers.2 ≡ n.2 = cc in
      and_from ((numbers.0 == n.0) && (numbers.1 == n.1)) (numbers.2 == n.2) (and_from (numbers.0 == n.0) (numbers.1 == n.1) (eq-eqb numbers.0 n.0 a) (eq-eqb numbers.1 n.1 b)) (eq-eqb numbers.2 n.2 d)

  numbers_eq : same_numbers numbers n ≡ cells_eq (numbers_cells n) (numbers_cells numbers)
  numbers_eq = both_ways (same_numbers numbers n) (cells_eq (numbers_cells n) (numbers_cells numbers))
      (λ h. (cells_eq-Decides (numbers_cells n) (numbers_cells numbers)).1 (numbers_same h))
      (λ h. same_cells ((cells_eq-Decides (numbers_cells n) (numbers_cells numbers)).0 h))

  pub seen_more : (xs : List Stored) (row : List Cell) → own_key row ≡ numbers_cells numbers → cond (same_numbers numbers n) true (has_own (numbers_cells n) xs) ≡ has_own (numbers_cells n) (xs ++ (row, 0) ∷ [])
  seen_more xs row e =
      ap (λ b. cond b true (has_own (numbers_cells n) xs)) (numbers_eq ∙ ap (cells_eq (numbers_cells n)) (sym e))
      ∙ (joined (cells_eq (numbers_cells n) (own_key row)) (has_own (numbers_cells n) xs) ∙ sym (list_any-append (λ (s : Stored). cells_eq (numbers_cells n) (own_key s.0)) xs ((row, 0) ∷ [])))
    where
      joined : (b c : Bool) → cond b true c ≡ (c || (b || false))
      joined true true = refl
      joined true false = refl
      joined false true = refl
      joined false false = refl

-- a row more leaves what was seen
pub seen_pushed : (g h : Gathered) (numbers : ℕ × ℕ × ℕ) (row : List Cell) → own_key row ≡ numbers_cells numbers → AreSeen g → has_own (own_key row) g.rows.items ≡ false → Sees numbers g.seen.keys h.seen.keys → h.rows.items ≡ g.rows.items ++ (row, 0) ∷ [] → AreSeen h
seen_pushed g h numbers row e seen none sees more = record {
  apart = subst AreApart (sym more) (apart_more g.rows.items row seen.apart none);
  seen = λ n. sees n ∙ (ap (cond (same_numbers numbers n) true) (seen.seen n) ∙ (seen_more numbers n g.rows.items row e ∙ ap (has_own (numbers_cells n)) (sym more)));
}

-- of more rows, those in front
pub first_left : (table : TableName) (xs ys : List Stored) (row : Stored) → ys ≡ xs ++ row ∷ [] → AreFirst table ys → AreFirst table xs
first_left table xs ys row e first = record {
  wide = front (λ (s : Stored). length s.0 ≡ width table) xs (subst (All (λ (s : Stored). length s.0 ≡ width table)) e first.wide);
  first = front (λ (s : Stored). s.1 ≡ 0) xs (subst (All (λ (s : Stored). s.1 ≡ 0)) e first.first);
}
  where
    front : (P : Stored → Type 0) (xs : List Stored) → All P (xs ++ row ∷ []) → All P xs
    front P [] all = All-nil P
    front P (x ∷ xs) all = All-cons P x xs (All-head P x (xs ++ row ∷ []) all) (front P xs (All-tail P x (xs ++ row ∷ []) all))

-- a new row isn't one that stands already
pub new_is : {T : Type 0} (x : T) (table : TableName) (b : Bool) → RefusesTwice table b (Ok x) → b ≡ false
new_is x table true h = absurd (differ (h.1 refl))
  where
    differ : Ok x ≡ Err (DuplicateRow table) → ⊥
    differ e = cc
new_is x table false h = refl

-- the error that is given refuses
pub refused_by : {T : Type 0} (e : MbtError) (table : TableName) (b : Bool) → ((e ≡ DuplicateRow table) ↔ (b ≡ true)) → RefusesTwice {A = T} table b (Err e)
refused_by {T} e table b both = ((λ h. both.0 (same h)), (λ h. ap Err (both.1 h)))
  where
    same : ◌≡◌ {A = Result T MbtError} (Err e) (Err (DuplicateRow table)) → e ≡ DuplicateRow table
    same h = cc

pub wanting : (table : TableName) → OutOfMemory ≡ DuplicateRow table → ⊥
wanting table h = cc

-- a list of the length 0
pub no_length : (xs : List Stored) → length xs ≡ 0 → xs ≡ []
no_length [] e = refl
no_length (x ∷ xs) e = absurd (omega arith)
