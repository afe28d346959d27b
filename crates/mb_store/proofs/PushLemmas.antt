-- Rows that are pushed: whether one has their key, and what stands afterwards.
use Rattle.mb_store.proofs.Common.{All, All-head, All-tail, ap, AreStored, arith, Bool, Cell, cells_cmp, cells_eq, clash, DuplicateRow, Equal, Err, false, false≢true, find, get_or, Greater, has_equal}
use Rattle.mb_store.proofs.Common.{insert_key, is_at, is_early, is_eq, is_null, is_some, IsErrOf, key_of, length, Less, List, list_any, list_any_at, MbtError, nat_cmp, not, Ordering, ordering_then}
use Rattle.mb_store.proofs.Common.{own_key, placed, refl, Result, rows_in, rows_of, Stored, stored_cmp, sym, TableName, TableRows, true, width, ℕ, [], ◌&&◌, ◌<◌, ◌||◌, ◌↔◌, ◌∙◌, ◌∷◌, ◌≡◌, ◌≤◌}
use Rattle.mb_store.proofs.Ordered.{list_any-and}
use Rattle.mb_store.proofs.StoredLemmas.{any_among, early_is, own_is, placed_in}

-- a number 0 ties with 0
tied_first : (r : Ordering) (n : ℕ) → n < 1 → is_eq r ≡ is_eq (ordering_then r (nat_cmp 0 n))
tied_first Less n lt = refl
tied_first Equal n lt = let zero : 0 ≡ n = omega arith in ap (λ m. is_eq (nat_cmp 0 m)) zero
tied_first Greater n lt = refl

pub any_tested : (q : List Cell → Bool) (p : Stored → Bool) (keys : List Stored) → All (λ s. q s.0 ≡ p s) keys → list_any q (rows_of keys) ≡ list_any p keys
any_tested q p [] all = refl
any_tested q p (s ∷ ss) all = λ i. All-head (λ s. q s.0 ≡ p s) s ss all i || any_tested q p ss (All-tail (λ s. q s.0 ≡ p s) s ss all) i

module _ (table : TableName) (r : TableRows) (stored : AreStored table r) where
  same_key : (row : List Cell) → length row ≡ width table → (k : ℕ) (d : Stored) → k < length r.stored.keys → cells_eq (key_of table row) (key_of table (get_or r.stored.keys k d).0) ≡ is_eq (cells_cmp (own_key row) (own_key (get_or r.stored.keys k d).0))
  same_key row own k d far i = is_eq (cells_cmp (sym (own_is table row own) i) (sym (own_is table (get_or r.stored.keys k d).0 (stored.wide k d far)) i))

  -- whether a row has the key of one of all rows
  pub equal_found : (row : List Cell) → length row ≡ width table → has_equal table row (rows_in r) ≡ is_some (find (is_early row r.next) r.stored.keys)
  equal_found row own = any_among (λ other. cells_eq (key_of table row) (key_of table other)) (is_early row r.next) r.stored.keys
      (λ k d far. same_key row own k d far ∙ early_is (is_eq (cells_cmp (own_key row) (own_key (get_or r.stored.keys k d).0))) (get_or r.stored.keys k d).1 r.next (stored.earlier k d far))

  module _ (row : List Cell) (own : length row ≡ width table) (first : r.next ≤ 1) where
    tied : (k : ℕ) (d : Stored) → k < length r.stored.keys → is_eq (cells_cmp (own_key row) (own_key (get_or r.stored.keys k d).0)) ≡ is_eq (stored_cmp (row, 0) (get_or r.stored.keys k d))
    tied k d far = let less : (get_or r.stored.keys k d).1 < r.next = stored.earlier k d far in tied_first (cells_cmp (own_key row) (own_key (get_or r.stored.keys k d).0)) (get_or r.stored.keys k d).1 (omega (arith, first, less))

    -- where all have the number 0, the row with this number finds it
    pub first_found : has_equal table row (rows_in r) ≡ list_any (is_at (stored_cmp (row, 0))) r.stored.keys
    first_found = any_tested (λ other. cells_eq (key_of table row) (key_of table other)) (is_at (stored_cmp (row, 0))) r.stored.keys (λ k d far. same_key row own k d far ∙ tied k d far)

    -- and it goes to its place where it finds none
    pub first_placed : list_any (is_at (stored_cmp (row, 0))) r.stored.keys ≡ false → rows_of (insert_key stored_cmp r.stored.keys (row, 0)) ≡ placed table row (rows_in r)
    first_placed none = placed_in table row 0 r.stored.keys own stored.wide (λ k d far e. absurd (false≢true (sym none ∙ list_any_at (is_at (stored_cmp (row, 0))) r.stored.keys k d far (sym (tied k d far) ∙ ap is_eq e))))

-- a row clashes with one of the rows of a keyed table where it has its key and none of its own key's cells is Null
pub clash_single : (table : TableName) (keyed single : Bool) (row : List Cell) (rows : List (List Cell)) → single ≡ (keyed && not (list_any is_null (key_of table row))) → (keyed && list_any (clash table row) rows) ≡ (single && has_equal table row rows)
clash_single table keyed single row rows e =
    ap (λ b. keyed && b) (list_any-and (λ other. cells_eq (key_of table row) (key_of table other)) (not (list_any is_null (key_of table row))) rows)
    ∙ (moved keyed (has_equal table row rows) (not (list_any is_null (key_of table row))) ∙ ap (λ b. b && has_equal table row rows) (sym e))
  where
    moved : (a b c : Bool) → (a && (b && c)) ≡ ((a && c) && b)
    moved false b c = refl
    moved true true true = refl
    moved true true false = refl
    moved true false true = refl
    moved true false false = refl

-- what is added wasn't there
pub not_added : (there b : Bool) → not there ≡ not b → there ≡ b
not_added true true e = refl
not_added true false e = sym e
not_added false true e = sym e
not_added false false e = refl

-- where no row has the key, a call that answers otherwise refuses no duplicate
pub none_equal : {T : Type 0} (r : Result T MbtError) (table : TableName) (b : Bool) → b ≡ false → (r ≡ Err (DuplicateRow table) → ⊥) → IsErrOf r (DuplicateRow table) ↔ (b ≡ true)
none_equal r table b none other = ((λ h. absurd (other h)), (λ h. absurd (false≢true (sym none ∙ h))))
