-- What calls on the ordered and the gathered rows make of all that is told.
use Rattle.mb_store.proofs.Common.{All, all_rows, ap, AreAllStored, AreFirst, AreSeen, AreStored, arith, at, Bool, Cell, cells_cmp, cells_eq, cells_eq-Decides, clash, cond, Equal, Err, false}
use Rattle.mb_store.proofs.Common.{Gathered, gathered_at, get_or, Greater, has_equal, has_own, insert_key, is_eq, key_of, length, Less, List, list_any, match_ordering, MbtError, MemTables, nat_cmp}
use Rattle.mb_store.proofs.Common.{numbers_cells, Ok, OnErr, OnOk, Ordering, ordering_then, own_key, placed, recursion_from_All, refl, RefusesTwice, Result, rows_at, rows_of, same_table, Stored}
use Rattle.mb_store.proofs.Common.{stored_cmp, subst, sym, table_eq, table_eq-refl, TableName, told_at, true, width, with_rows, ℕ, [], ◌&&◌, ◌++◌, ◌<◌, ◌^◌, ◌||◌, ◌∙◌, ◌∷◌, ◌≡◌}
use Rattle.mb_store.proofs.GatheredLemmas.{all_hold, clash_among, new_is, told_count, told_other, told_own, told_pushed, told_settled, told_still}
use Rattle.mb_store.proofs.PushLemmas.{any_tested}
use Rattle.mb_store.proofs.StoredLemmas.{own_is, stored_count}
use Rattle.mb_store.proofs.WithRows.{with_rows-own}

abbrev Rows : Type 0
Rows = TableName → List (List Cell)

-- a test of keys passes one of the rows with one more where it passes that or one of the others
module _ (key : List Cell) where
  abbrev has : Stored → Bool
  has s = cells_eq key (own_key s.0)

  tied : (k z : Stored) → stored_cmp k z ≡ Equal → has k ≡ has z
  tied k z e = ap (cells_eq key) ((cells_eq-Decides (own_key k.0) (own_key z.0)).0 (ap is_eq (first (cells_cmp (own_key k.0) (own_key z.0)) (nat_cmp k.1 z.1) e)))
    where
      first : (r q : Ordering) → ordering_then r q ≡ Equal → r ≡ Equal
      first Less q h = h
      first Equal q h = refl
      first Greater q h = h

  twice : (a b r : Bool) → a ≡ b → (b || r) ≡ (a || (b || r))
  twice true true r e = refl
  twice true false r e = absurd (differ e)
    where
      differ : true ≡ false → ⊥
      differ h = cc
  twice false b r e = refl

  turned : (a b r : Bool) → (a || (b || r)) ≡ (b || (a || r))
  turned true true r = refl
  turned true false r = refl
  turned false b r = refl

  any_put : (ks : List Stored) (k : Stored) → list_any has (insert_key stored_cmp ks k) ≡ (has k || list_any has ks)
  any_put [] k = refl
  any_put (z ∷ zs) k = by (stored_cmp k z) refl (any_put zs k)
    where
      by : (r : Ordering) → stored_cmp k z ≡ r → list_any has (insert_key stored_cmp zs k) ≡ (has k || list_any has zs) → list_any has (match_ordering r (k ∷ z ∷ zs) (z ∷ zs) (z ∷ insert_key stored_cmp zs k)) ≡ (has k || (has z || list_any has zs))
      by Less e next = refl
      by Equal e next = twice (has k) (has z) (list_any has zs) (tied k z e)
      by Greater e next = ap (λ b. has z || b) next ∙ turned (has z) (has k) (list_any has zs)

  any_all : (keys xs : List Stored) → list_any has (all_rows keys xs) ≡ (list_any has keys || list_any has xs)
  any_all keys [] = none (list_any has keys)
    where
      none : (b : Bool) → b ≡ (b || false)
      none true = refl
      none false = refl
  any_all keys (x ∷ xs) = any_put (all_rows keys xs) x ∙ (ap (λ b. has x || b) (any_all keys xs) ∙ turned (has x) (list_any has keys) (list_any has xs))

told_mine : (m : MemTables) (g : Gathered) (table : TableName) → g.table ≡ table → told_at m g table ≡ rows_of (all_rows (at m table).stored.keys g.rows.items)
unfolding told_at
told_mine m g table own =
    ap (λ t. rows_of (all_rows (at m table).stored.keys (cond (table_eq table t) g.rows.items []))) own
    ∙ ap (λ b. rows_of (all_rows (at m table).stored.keys (cond b g.rows.items []))) (table_eq-refl table)

-- whether a row has a key, among the ordered and the gathered rows
pub equal_told : (m : MemTables) (g : Gathered) (table : TableName) (row : List Cell) → length row ≡ width table → g.table ≡ table → AreStored table (at m table) → AreFirst g.table g.rows.items → has_equal table row (told_at m g table) ≡ (has_equal table row (rows_at m table) || has_own (own_key row) g.rows.items)
equal_told m g table row wide own stored first =
    let keys : List Stored = (at m table).stored.keys in
    let xs : List Stored = g.rows.items in
    let there : All (λ (s : Stored). length s.0 ≡ width table) xs = subst (λ t. All (λ (s : Stored). length s.0 ≡ width t) xs) own first.wide in
    let all : All (λ (s : Stored). length s.0 ≡ width table) (all_rows keys xs) = all_hold (λ (s : Stored). length s.0 ≡ width table) keys xs stored.wide (recursion_from_All (λ (s : Stored). length s.0 ≡ width table) xs there) in
    ap (has_equal table row) (told_mine m g table own)
    ∙ (tested (all_rows keys xs) all ∙ (any_all (own_key row) keys xs ∙ ap (λ b. b || has_own (own_key row) xs) (sym (tested keys stored.wide))))
  where
    tested : (ks : List Stored) → All (λ (s : Stored). length s.0 ≡ width table) ks → has_equal table row (rows_of ks) ≡ list_any (has (own_key row)) ks
    tested ks all = any_tested (λ other. cells_eq (key_of table row) (key_of table other)) (has (own_key row)) ks
        (λ k d far i. cells_eq (sym (own_is table row wide) i) (sym (own_is table (get_or ks k d).0 (all k d far)) i))

on_ok : {T : Type 0} (r : Result T MbtError) (P : Type 0) → P → OnOk r P
on_ok (Ok x) P h = h
on_ok (Err e) P h = tt

-- a table whose rows aren't the gathered ones
module _ (m n : MemTables) (g : Gathered) (table : TableName) (other : table_eq table g.table ≡ false) (others : (u : TableName) → table_eq u table ≡ false → at n u ≡ at m u) where
  kept_at : (u : TableName) → table_eq u table ≡ false → told_at n g u ≡ told_at m g u
  unfolding told_at
  kept_at u e = ap (λ r. rows_of (all_rows r.stored.keys (gathered_at g u))) (others u e)

  pub beside_with : (new : List (List Cell)) → rows_at n table ≡ new → ◌≡◌ {A = Rows} (told_at n g) (with_rows (told_at m g) table new)
  beside_with new is i u = at_each u i
    where
      by : (u : TableName) (b : Bool) → table_eq u table ≡ b → told_at n g u ≡ cond b new (told_at m g u)
      by u true e = ap (told_at n g) (same_table u table e) ∙ (told_other n g table other ∙ is)
      by u false e = kept_at u e

      at_each : (u : TableName) → told_at n g u ≡ with_rows (told_at m g) table new u
      at_each u = by u (table_eq u table) refl

  pub beside_same : rows_at n table ≡ rows_at m table → ◌≡◌ {A = Rows} (told_at n g) (told_at m g)
  beside_same is i u = at_each u i
    where
      here : told_at n g table ≡ told_at m g table
      here = told_other n g table other ∙ (is ∙ sym (told_other m g table other))

      by : (u : TableName) (b : Bool) → table_eq u table ≡ b → told_at n g u ≡ told_at m g u
      by u true e = subst (λ t. told_at n g t ≡ told_at m g t) (sym (same_table u table e)) here
      by u false e = kept_at u e

      at_each : (u : TableName) → told_at n g u ≡ told_at m g u
      at_each u = by u (table_eq u table) refl

  pub beside_ok : {T : Type 0} (r : Result T MbtError) (row : List Cell) → OnOk r ((u : TableName) → rows_at n u ≡ with_rows (rows_at m) table (placed table row (rows_at m table)) u) → OnOk r (told_at n g ≡ with_rows (told_at m g) table (placed table row (told_at m g table)))
  beside_ok (Err e) row ok = tt
  beside_ok (Ok x) row ok = beside_with (placed table row (told_at m g table)) (ok table ∙ (with_rows-own (rows_at m) table (placed table row (rows_at m table)) ∙ ap (placed table row) (sym (told_other m g table other))))

  pub beside_err : {T : Type 0} (r : Result T MbtError) → OnErr r ((u : TableName) → rows_at n u ≡ rows_at m u) → OnErr r (told_at n g ≡ told_at m g)
  beside_err (Err e) err = beside_same (err table)
  beside_err (Ok x) err = tt

  pub beside_count : {T : Type 0} (r : Result T MbtError) → AreAllStored n → OnOk r (length (told_at n g table) < 2 ^ 64)
  beside_count r stored = on_ok r (length (told_at n g table) < 2 ^ 64) (subst (λ (rows : List (List Cell)). length rows < 2 ^ 64) (sym (told_other n g table other)) (stored_count table (at n table) (stored table)))

-- tables beside which nothing is gathered any more
module _ (m n : MemTables) (g : Gathered) (none : g.rows.items ≡ []) (f : Rows) (told : told_at m g ≡ f) where
  pub plain : ◌≡◌ {A = Rows} (rows_at m) f
  plain = (λ i u. sym (told_settled m g none u) i) ∙ told

  pub settled_with : (table : TableName) (new : List (List Cell)) → ((u : TableName) → rows_at n u ≡ with_rows (rows_at m) table new u) → ◌≡◌ {A = Rows} (told_at n g) (with_rows f table new)
  settled_with table new is = (λ i u. (told_settled n g none u ∙ is u) i) ∙ (λ i. with_rows (plain i) table new)

  pub settled_ok : {T : Type 0} (r : Result T MbtError) (table : TableName) (row : List Cell) → OnOk r ((u : TableName) → rows_at n u ≡ with_rows (rows_at m) table (placed table row (rows_at m table)) u) → OnOk r (told_at n g ≡ with_rows f table (placed table row (f table)))
  settled_ok (Err e) table row ok = tt
  settled_ok (Ok x) table row ok = settled_with table (placed table row (rows_at m table)) ok ∙ (λ i. with_rows f table (placed table row (plain i table)))

  pub settled_err : {T : Type 0} (r : Result T MbtError) → OnErr r ((u : TableName) → rows_at n u ≡ rows_at m u) → OnErr r (told_at n g ≡ f)
  settled_err (Err e) err = (λ i u. (told_settled n g none u ∙ err u) i) ∙ plain
  settled_err (Ok x) err = tt

  pub settled_count : {T : Type 0} (r : Result T MbtError) (table : TableName) → AreAllStored n → OnOk r (length (told_at n g table) < 2 ^ 64)
  settled_count r table stored = on_ok r (length (told_at n g table) < 2 ^ 64) (subst (λ (rows : List (List Cell)). length rows < 2 ^ 64) (sym (told_settled n g none table)) (stored_count table (at n table) (stored table)))

-- a table whose rows are let go, the gathered ones too
pub cut_told : (m n : MemTables) (g h : Gathered) (f : Rows) (table : TableName) → told_at m g ≡ f → g.table ≡ table → h.rows.items ≡ [] → ((u : TableName) → rows_at n u ≡ with_rows (rows_at m) table [] u) → ◌≡◌ {A = Rows} (told_at n h) (with_rows f table [])
cut_told m n g h f table told own none left i u = at_each u i
  where
    by : (u : TableName) (b : Bool) → table_eq u table ≡ b → ◌≡◌ {A = List (List Cell)} (cond b [] (rows_at m u)) (cond b [] (f u))
    by u true e = refl
    by u false e = sym (told_other m g u (ap (table_eq u) own ∙ e)) ∙ ap (λ (h : Rows). h u) told

    at_each : (u : TableName) → told_at n h u ≡ with_rows f table [] u
    at_each u = told_settled n h none u ∙ (left u ∙ by u (table_eq u table) refl)

-- a table whose rows are all gathered, and taken
pub list_taken : (m : MemTables) (g h : Gathered) (table : TableName) → g.table ≡ table → (at m table).stored.keys ≡ [] → h.rows.items ≡ [] → ◌≡◌ {A = Rows} (told_at m h) (with_rows (told_at m g) table [])
list_taken m g h table own empty none i u = at_each u i
  where
    by : (u : TableName) (b : Bool) → table_eq u table ≡ b → rows_at m u ≡ cond b [] (told_at m g u)
    by u true e = ap (λ t. rows_at m t) (same_table u table e) ∙ ap rows_of empty
    by u false e = sym (told_other m g u (ap (table_eq u) own ∙ e))

    at_each : (u : TableName) → told_at m h u ≡ with_rows (told_at m g) table [] u
    at_each u = told_settled m h none u ∙ by u (table_eq u table) refl

-- a row that is gathered
module _ (m : MemTables) (g h : Gathered) (f : Rows) (table : TableName) (row : List Cell) (told : told_at m g ≡ f) (own : g.table ≡ table) (empty : (at m table).stored.keys ≡ []) (wide : length row ≡ width table) (first : AreFirst g.table g.rows.items) where
  here : AreFirst table g.rows.items
  here = subst (λ t. AreFirst t g.rows.items) own first

  pub gathered_duplicate : {T : Type 0} (r : Result T MbtError) (keyed : Bool) (numbers : ℕ × ℕ × ℕ) → keyed ≡ true → own_key row ≡ numbers_cells numbers → AreSeen g → RefusesTwice g.table (has_own (own_key row) g.rows.items) r → RefusesTwice table (keyed && list_any (clash table row) (f table)) r
  gathered_duplicate r keyed numbers is small seen twice =
      let same : (keyed && list_any (clash table row) (f table)) ≡ has_own (own_key row) g.rows.items =
      ap (λ (h : Rows). keyed && list_any (clash table row) (h table)) (sym told)
      ∙ (ap (λ (rows : List (List Cell)). keyed && list_any (clash table row) rows) (told_own m g table own empty)
      ∙ clash_among table keyed row numbers g.rows.items is wide small here.wide seen.apart) in
      subst (λ b. RefusesTwice table b r) (sym same) (subst (λ t. RefusesTwice t (has_own (own_key row) g.rows.items) r) own twice)

  pub gathered_ok : {T : Type 0} (r : Result T MbtError) → h.table ≡ g.table → RefusesTwice g.table (has_own (own_key row) g.rows.items) r → OnOk r (h.rows.items ≡ g.rows.items ++ (row, 0) ∷ []) → OnOk r (told_at m h ≡ with_rows f table (placed table row (f table)))
  gathered_ok (Err e) still twice more = tt
  gathered_ok (Ok x) still twice more =
      (λ i u. told_pushed m g h table row own (still ∙ own) empty more wide here (new_is x g.table (has_own (own_key row) g.rows.items) twice) u i)
      ∙ (λ i. with_rows (told i) table (placed table row (told i table)))

  pub gathered_err : {T : Type 0} (r : Result T MbtError) → h.table ≡ g.table → OnErr r (h.rows.items ≡ g.rows.items) → OnErr r (told_at m h ≡ f)
  gathered_err (Ok x) still same = tt
  gathered_err (Err e) still same = (λ i u. told_still m g h still same u i) ∙ told

  pub gathered_count : {T : Type 0} (r : Result T MbtError) → h.table ≡ g.table → AreSeen h → OnOk r (length (told_at m h table) < 2 ^ 64)
  gathered_count r still seen = on_ok r (length (told_at m h table) < 2 ^ 64) (told_count m h table (still ∙ own) empty seen.apart (omega (arith, h.rows.ok.0, h.rows.ok.1, h.rows.small)))
