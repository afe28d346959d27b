-- A table's stored rows while a commit is made.
use Rattle.mb_store.proofs.Common.{add-one, All, All-cons, All-filter, All-head, All-nil, All-push, All-tail, and_parts, ap, append_assoc, AreAdded, AreBeingAdded, AreChanges, AreStored, arith, Bool}
use Rattle.mb_store.proofs.Common.{Cell, cells_cmp, cells_eq, cells_eq-Decides, Change, CommitsTable, cond, drop, drop-cons, early_rows, eqb-true, Equal, false, false≢true, filter, filter_every}
use Rattle.mb_store.proofs.Common.{filter_none, filter_passes, find, get_or, get_or-drop, get_or-take, get_or_default, Greater, has_key, IfSome, is_at, is_changed, is_early, is_eq, is_own, key_cells}
use Rattle.mb_store.proofs.Common.{key_of, keys_of, late_rows, le-ltb, length, length-drop, length-take, Less, List, list_any, list_any_at, lt-ltb, map, nat_cmp, nat_cmp_total, nat_lt, None, not}
use Rattle.mb_store.proofs.Common.{Option, option_map_or, option_to_list, Ordering, ordering_then, other_rows, own_key, put_of, refl, remove_key, removed, rows_in, rows_of, same_key, same_table, Some}
use Rattle.mb_store.proofs.Common.{Stored, stored_cmp, subst, suc, sym, table_eq, TableName, TableRows, take, take-suc, take_all, tied_itself, true, width, with_put, ℕ, [], ◌&&◌, ◌++◌, ◌+◌, ◌<◌, ◌==◌}
use Rattle.mb_store.proofs.Common.{◌∙◌, ◌∷◌, ◌≡◌, ◌≤◌}
use Rattle.std.proofs.lemmas.List.Filters.{length-filter_both}
use Rattle.mb_store.proofs.StoredLemmas.{All-remove_key, filter-insert_key-in, filter-insert_key-out, filter-remove_key, found_is, found_passes, has_key_is}

-- tests in a row
module _ {X : Type 0} where
  -- a test that another one doesn't stop passes the same
  pub filter_through : (p q : X → Bool) (xs : List X) → All (λ x. p x ≡ true → q x ≡ true) xs → filter p (filter q xs) ≡ filter p xs
  filter_through p q [] through = refl
  filter_through p q (x ∷ xs) through = by (q x) refl (p x) refl (filter_through p q xs (All-tail (λ x. p x ≡ true → q x ≡ true) x xs through))
    where
      by : (b : Bool) → q x ≡ b → (c : Bool) → p x ≡ c → filter p (filter q xs) ≡ filter p xs → filter p (cond (q x) (x ∷ filter q xs) (filter q xs)) ≡ cond (p x) (x ∷ filter p xs) (filter p xs)
      by true e c f next = ap (λ b. filter p (cond b (x ∷ filter q xs) (filter q xs))) e ∙ ap (λ rest. cond (p x) (x ∷ rest) rest) next
      by false e true f next = absurd (false≢true (sym e ∙ All-head (λ x. p x ≡ true → q x ≡ true) x xs through f))
      by false e false f next = ap (λ b. filter p (cond b (x ∷ filter q xs) (filter q xs))) e ∙ (next ∙ sym (ap (λ c. cond c (x ∷ filter p xs) (filter p xs)) f))

  -- where two tests share nothing, none of the second is left
  pub filter_stopped : (p q : X → Bool) → ((x : X) → p x ≡ true → q x ≡ false) → (xs : List X) → filter p (filter q xs) ≡ []
  filter_stopped p q apart [] = refl
  filter_stopped p q apart (x ∷ xs) = by (q x) refl (p x) refl (filter_stopped p q apart xs)
    where
      by : (b : Bool) → q x ≡ b → (c : Bool) → p x ≡ c → filter p (filter q xs) ≡ [] → filter p (cond (q x) (x ∷ filter q xs) (filter q xs)) ≡ []
      by true e true f next = absurd (false≢true (sym (apart x f) ∙ e))
      by true e false f next = ap (λ b. filter p (cond b (x ∷ filter q xs) (filter q xs))) e ∙ (ap (λ c. cond c (x ∷ filter p (filter q xs)) (filter p (filter q xs))) f ∙ next)
      by false e c f next = ap (λ b. filter p (cond b (x ∷ filter q xs) (filter q xs))) e ∙ next

  -- what passes none of a list passes none of a part of it
  pub filter_still : (p q : X → Bool) (xs : List X) → filter p xs ≡ [] → filter p (filter q xs) ≡ []
  filter_still p q [] none = refl
  filter_still p q (x ∷ xs) none = by (q x) refl (p x) refl none (filter_still p q xs)
    where
      no_cons : (y : X) (ys : List X) → y ∷ ys ≡ [] → ⊥
      no_cons y ys h = cc

      by : (b : Bool) → q x ≡ b → (c : Bool) → p x ≡ c → cond (p x) (x ∷ filter p xs) (filter p xs) ≡ [] → (filter p xs ≡ [] → filter p (filter q xs) ≡ []) → filter p (cond (q x) (x ∷ filter q xs) (filter q xs)) ≡ []
      by b e true f none next = absurd (no_cons x (filter p xs) (sym (ap (λ c. cond c (x ∷ filter p xs) (filter p xs)) f) ∙ none))
      by true e false f none next = ap (λ b. filter p (cond b (x ∷ filter q xs) (filter q xs))) e ∙ (ap (λ c. cond c (x ∷ filter p (filter q xs)) (filter p (filter q xs))) f ∙ next (sym (ap (λ c. cond c (x ∷ filter p xs) (filter p xs)) f) ∙ none))
      by false e false f none next = ap (λ b. filter p (cond b (x ∷ filter q xs) (filter q xs))) e ∙ next (sym (ap (λ c. cond c (x ∷ filter p xs) (filter p xs)) f) ∙ none)

  -- what has no other part is one part
  pub filter_one_part : (p a b : X → Bool) (xs : List X) → All (λ x. p x ≡ true → a x ≡ false → b x ≡ true) xs → ((x : X) → b x ≡ true → p x ≡ true) → filter a xs ≡ [] → filter p xs ≡ filter b xs
  filter_one_part p a b [] other within none = refl
  filter_one_part p a b (x ∷ xs) other within none = by (a x) refl (p x) refl (b x) refl none (filter_one_part p a b xs (All-tail (λ x. p x ≡ true → a x ≡ false → b x ≡ true) x xs other) within)
    where
      no_cons : (y : X) (ys : List X) → y ∷ ys ≡ [] → ⊥
      no_cons y ys h = cc

      by : (r : Bool) → a x ≡ r → (s : Bool) → p x ≡ s → (t : Bool) → b x ≡ t → cond (a x) (x ∷ filter a xs) (filter a xs) ≡ [] → (filter a xs ≡ [] → filter p xs ≡ filter b xs) → cond (p x) (x ∷ filter p xs) (filter p xs) ≡ cond (b x) (x ∷ filter b xs) (filter b xs)
      by true e s f t g none next = absurd (no_cons x (filter a xs) (sym (ap (λ c. cond c (x ∷ filter a xs) (filter a xs)) e) ∙ none))
      by false e true f true g none next = ap (λ c. cond c (x ∷ filter p xs) (filter p xs)) f ∙ (ap (λ rest. x ∷ rest) (next (sym (ap (λ c. cond c (x ∷ filter a xs) (filter a xs)) e) ∙ none)) ∙ sym (ap (λ c. cond c (x ∷ filter b xs) (filter b xs)) g))
      by false e true f false g none next = absurd (false≢true (sym g ∙ All-head (λ x. p x ≡ true → a x ≡ false → b x ≡ true) x xs other f e))
      by false e false f true g none next = absurd (false≢true (sym f ∙ within x g))
      by false e false f false g none next = ap (λ c. cond c (x ∷ filter p xs) (filter p xs)) f ∙ (next (sym (ap (λ c. cond c (x ∷ filter a xs) (filter a xs)) e) ∙ none) ∙ sym (ap (λ c. cond c (x ∷ filter b xs) (filter b xs)) g))

-- what holds of those that pass a test
module _ {X : Type 0} (p : X → Bool) (P : X → Type 0) where
  pub of_passed : (xs : List X) → All P (filter p xs) → All (λ x. p x ≡ true → P x) xs
  of_passed [] all = All-nil (λ x. p x ≡ true → P x)
  of_passed (x ∷ xs) all = by (p x) refl all (λ rest. of_passed xs rest)
    where
      by : (b : Bool) → p x ≡ b → All P (cond b (x ∷ filter p xs) (filter p xs)) → (All P (filter p xs) → All (λ x. p x ≡ true → P x) xs) → All (λ x. p x ≡ true → P x) (x ∷ xs)
      by true e all tail = All-cons (λ x. p x ≡ true → P x) x xs (λ _. All-head P x (filter p xs) all) (tail (All-tail P x (filter p xs) all))
      by false e all tail = All-cons (λ x. p x ≡ true → P x) x xs (λ h. absurd (false≢true (sym e ∙ h))) (tail all)

  to_passed : (xs : List X) → All (λ x. p x ≡ true → P x) xs → All P (filter p xs)
  to_passed xs all k d far = All-filter p (λ x. p x ≡ true → P x) xs all k d far (filter_passes p xs k d far)

-- what holds of all that a list is turned into
module _ {X Y : Type 0} (f : X → Y) (P : Y → Type 0) where
  of_map : (xs : List X) → All P (map f xs) → All (λ x. P (f x)) xs
  of_map [] all = All-nil (λ x. P (f x))
  of_map (x ∷ xs) all = All-cons (λ x. P (f x)) x xs (All-head P (f x) (map f xs) all) (of_map xs (All-tail P (f x) (map f xs) all))

  to_map : (xs : List X) → All (λ x. P (f x)) xs → All P (map f xs)
  to_map [] all = All-nil P
  to_map (x ∷ xs) all = All-cons P (f x) (map f xs) (All-head (λ x. P (f x)) x xs all) (to_map xs (All-tail (λ x. P (f x)) x xs all))

-- rows that pass a test are those of the stored rows that pass it
pub filter-rows_of : (q : List Cell → Bool) (keys : List Stored) → filter q (rows_of keys) ≡ rows_of (filter (λ s. q s.0) keys)
filter-rows_of q [] = refl
filter-rows_of q (s ∷ ss) = by (q s.0) (filter-rows_of q ss)
  where
    by : (b : Bool) → filter q (rows_of ss) ≡ rows_of (filter (λ s. q s.0) ss) → cond b (s.0 ∷ filter q (rows_of ss)) (filter q (rows_of ss)) ≡ rows_of (cond b (s ∷ filter (λ s. q s.0) ss) (filter (λ s. q s.0) ss))
    by true next = ap (λ rest. s.0 ∷ rest) next
    by false next = next

-- a row that a change of the table puts has its key and the table's width
pub fits_of : (table : TableName) (c : Change) → table_eq c.table table ≡ true → is_own c ≡ true → IfSome c.row (λ row. (has_key table c.key row ≡ true) × (length row ≡ width table))
fits_of table c here own = by c.row refl
  where
    by : (row : Option (List Cell)) → c.row ≡ row → IfSome row (λ row. (has_key table c.key row ≡ true) × (length row ≡ width table))
    by None e = tt
    by (Some row) e =
        let both = and_parts (has_key c.table c.key row) (length row == width c.table) (sym (ap (λ r. option_map_or (λ row. has_key c.table c.key row && (length row == width c.table)) r true) e) ∙ own) in
        let same : c.table ≡ table = same_table c.table table here in
        subst (λ t. (has_key t c.key row ≡ true) × (length row ≡ width t)) same (both.0, eqb-true (length row) (width c.table) both.1)

no_other : (b : Bool) → (b ≡ true → ⊥) → b ≡ false
no_other true h = absurd (h refl)
no_other false h = refl

both_true : (a b : Bool) → a ≡ true → b ≡ true → (a && b) ≡ true
both_true true true e f = refl
both_true true false e f = f
both_true false b e f = e

second_false : (a b : Bool) → b ≡ false → (a && b) ≡ false
second_false true b e = e
second_false false b e = refl

table_eq-same : (t u table : TableName) → table_eq t table ≡ true → table_eq u table ≡ true → table_eq t u ≡ true
table_eq-same t u table e f = subst (λ v. table_eq t v ≡ true) (sym (same_table u table f)) e

module _ (table : TableName) where
  -- two changes of the table have no row in common
  not_shared : (c d : Change) → table_eq c.table table ≡ true → table_eq d.table table ≡ true → same_key c d ≡ false → (row : List Cell) → has_key table c.key row ≡ true → has_key table d.key row ≡ true → ⊥
  not_shared c d mine other apart row h k =
      let one : key_of table row ≡ key_cells c.key = (cells_eq-Decides (key_of table row) (key_cells c.key)).0 h in
      let two : key_of table row ≡ key_cells d.key = (cells_eq-Decides (key_of table row) (key_cells d.key)).0 k in
      false≢true (sym apart ∙ both_true (table_eq c.table d.table) (cells_eq (key_cells c.key) (key_cells d.key)) (table_eq-same c.table d.table table mine other) ((cells_eq-Decides (key_cells c.key) (key_cells d.key)).1 (sym one ∙ two)))

  -- a test that the put row fails passes the same rows
  put-out : (p : Stored → Bool) (c : Change) (n : ℕ) (keys : List Stored) → (table_eq c.table table ≡ true → IfSome c.row (λ row. p (row, n) ≡ false)) → filter p (with_put table c n keys) ≡ filter p keys
  put-out p c n keys out = by (table_eq c.table table) refl c.row refl
    where
      by : (b : Bool) → table_eq c.table table ≡ b → (o : Option (List Cell)) → c.row ≡ o → filter p (with_put table c n keys) ≡ filter p keys
      by false e o f = ap (λ b. filter p (cond b (put_of c.row n keys) keys)) e
      by true e None f = ap (λ b. filter p (cond b (put_of c.row n keys) keys)) e ∙ ap (λ o. filter p (put_of o n keys)) f
      by true e (Some row) f = ap (λ b. filter p (cond b (put_of c.row n keys) keys)) e ∙ (ap (λ o. filter p (put_of o n keys)) f ∙ filter-insert_key-out p keys (row, n) (subst (λ o. IfSome o (λ row. p (row, n) ≡ false)) f (out e)))

  -- of the row that a change puts, its own key's rows are that row alone, where there were none
  put-in : (c : Change) (start n : ℕ) (keys : List Stored) → table_eq c.table table ≡ true → IfSome c.row (λ row. (has_key table c.key row ≡ true) × (length row ≡ width table)) → start ≤ n → All (λ (s : Stored). s.1 < n) keys → late_rows table start c keys ≡ [] → rows_of (late_rows table start c (with_put table c n keys)) ≡ option_to_list c.row
  put-in c start n keys mine fits later earlier none = by c.row refl
    where
      late : nat_lt n start ≡ false
      late = le-ltb n start later

      by : (o : Option (List Cell)) → c.row ≡ o → rows_of (late_rows table start c (with_put table c n keys)) ≡ option_to_list c.row
      by None f = ap (λ b. rows_of (late_rows table start c (cond b (put_of c.row n keys) keys))) mine ∙ (ap (λ o. rows_of (late_rows table start c (put_of o n keys))) f ∙ (ap rows_of none ∙ sym (ap option_to_list f)))
      by (Some row) f =
          let own = subst (λ o. IfSome o (λ row. (has_key table c.key row ≡ true) × (length row ≡ width table))) f fits in
          ap (λ b. rows_of (late_rows table start c (cond b (put_of c.row n keys) keys))) mine ∙ (ap (λ o. rows_of (late_rows table start c (put_of o n keys))) f
          ∙ (ap rows_of (filter-insert_key-in (λ s. not (nat_lt s.1 start) && has_key table c.key s.0) keys row n (both_true (not (nat_lt n start)) (has_key table c.key row) (ap not late) own.0) earlier none)
          ∙ sym (ap option_to_list f)))

-- one more change is made
module _ (table : TableName) (changes : List Change) (sound : AreChanges changes) (done start : ℕ) (old : List Stored) (rows next : TableRows) (c : Change) (lt : done < length changes) (at : c ≡ get_or changes done c) (now : AreBeingAdded table changes done start old rows) (made : next.stored.keys ≡ with_put table c rows.next rows.stored.keys) where
  own : (mine : table_eq c.table table ≡ true) → IfSome c.row (λ row. (has_key table c.key row ≡ true) × (length row ≡ width table))
  own mine = fits_of table c mine (subst (λ d. is_own d ≡ true) (sym at) (sound.own done c lt))

  with_row : (P : List Cell → Type 0) → ((row : List Cell) → has_key table c.key row ≡ true → P row) → table_eq c.table table ≡ true → IfSome c.row P
  with_row P f mine = by c.row (own mine)
    where
      by : (o : Option (List Cell)) → IfSome o (λ row. (has_key table c.key row ≡ true) × (length row ≡ width table)) → IfSome o P
      by None h = tt
      by (Some row) h = f row h.0

  same : (p : Stored → Bool) → ((row : List Cell) → table_eq c.table table ≡ true → has_key table c.key row ≡ true → p (row, rows.next) ≡ false) → filter p next.stored.keys ≡ filter p rows.stored.keys
  same p out = ap (filter p) made ∙ put-out table p c rows.next rows.stored.keys (λ mine. with_row (λ row. p (row, rows.next) ≡ false) (λ row h. out row mine h) mine)

  late_same : (d : Change) → table_eq d.table table ≡ true → (table_eq c.table table ≡ true → (row : List Cell) → has_key table c.key row ≡ true → has_key table d.key row ≡ true → ⊥) → late_rows table start d next.stored.keys ≡ late_rows table start d rows.stored.keys
  late_same d mine apart = same (λ s. not (nat_lt s.1 start) && has_key table d.key s.0) (λ row here h. second_false (not (nat_lt rows.next start)) (has_key table d.key row) (no_other (has_key table d.key row) (λ k. apart here row h k)))

  front : take (suc done) changes ≡ take done changes ++ c ∷ []
  front = take-suc changes done c lt ∙ ap (λ d. take done changes ++ d ∷ []) (sym at)

  rest : drop done changes ≡ c ∷ drop (suc done) changes
  rest = drop-cons changes done c lt ∙ ap (λ d. d ∷ drop (suc done) changes) (sym at)

  early_next : early_rows start next.stored.keys ≡ old
  early_next = same (λ s. nat_lt s.1 start) (λ row mine h. le-ltb rows.next start now.later) ∙ now.early

  others_next : other_rows changes table next.stored.keys ≡ other_rows changes table old
  others_next =
      same (λ s. not (is_changed changes table s.0)) (λ row mine h. ap not (list_any_at (λ d. table_eq d.table table && has_key table d.key row) changes done c lt (subst (λ d. (table_eq d.table table && has_key table d.key row) ≡ true) at (both_true (table_eq c.table table) (has_key table c.key row) mine h))))
      ∙ now.others

  abbrev IsPut : TableRows → Change → Type 0
  IsPut r d = table_eq d.table table ≡ true → rows_of (late_rows table start d r.stored.keys) ≡ option_to_list d.row

  abbrev IsLeft : TableRows → Change → Type 0
  IsLeft r d = table_eq d.table table ≡ true → late_rows table start d r.stored.keys ≡ []

  -- the change itself, whatever stands past the end
  here_is : (d : Change) → c ≡ get_or changes done d
  here_is d = at ∙ get_or_default changes done c d lt

  put_next : All (IsPut next) (take (suc done) changes)
  put_next = subst (All (IsPut next)) (sym front) (All-push (IsPut next) (take done changes) c before own_row)
    where
      before : All (IsPut next) (take done changes)
      before k d far mine =
          let long : k < done = omega (arith, length-take done changes) in
          let apart : same_key (get_or changes k d) (get_or changes done d) ≡ false = sound.apart k done d long lt in
          let apart_c : same_key (get_or changes k d) c ≡ false = subst (λ e. same_key (get_or changes k d) e ≡ false) (sym (here_is d)) apart in
          let apart_k : same_key (get_or (take done changes) k d) c ≡ false = subst (λ e. same_key e c ≡ false) (sym (get_or-take done changes k d long)) apart_c in
          ap rows_of (late_same (get_or (take done changes) k d) mine (λ here row h i. not_shared table (get_or (take done changes) k d) c mine here apart_k row i h)) ∙ now.put k d far mine

      own_row : IsPut next c
      own_row mine = ap rows_of (ap (late_rows table start c) made) ∙ put-in table c start rows.next rows.stored.keys mine (own mine) now.later now.stored.earlier (All-head (IsLeft rows) c (drop (suc done) changes) (subst (All (IsLeft rows)) rest now.left) mine)

  left_next : All (IsLeft next) (drop (suc done) changes)
  left_next k d far mine =
      let long : suc done + k < length changes = omega (arith, length-drop (suc done) changes) in
      let apart : same_key (get_or changes done d) (get_or changes (suc done + k) d) ≡ false = sound.apart done (suc done + k) d (omega arith) long in
      let apart_c : same_key c (get_or changes (suc done + k) d) ≡ false = subst (λ e. same_key e (get_or changes (suc done + k) d) ≡ false) (sym (here_is d)) apart in
      let apart_k : same_key c (get_or (drop (suc done) changes) k d) ≡ false = subst (λ e. same_key c e ≡ false) (sym (get_or-drop (suc done) changes k d)) apart_c in
      late_same (get_or (drop (suc done) changes) k d) mine (λ here row h i. not_shared table c (get_or (drop (suc done) changes) k d) here mine apart_k row h i)
      ∙ All-tail (IsLeft rows) c (drop (suc done) changes) (subst (All (IsLeft rows)) rest now.left) k d far mine

  pub added_next : AreStored table next → rows.next ≤ next.next → AreBeingAdded table changes (done + 1) start old next
  added_next stored later = record {
    stored = stored;
    later = omega (arith, now.later);
    early = early_next;
    others = others_next;
    put = subst (λ n. All (IsPut next) (take n changes)) (sym (add-one done)) put_next;
    left = subst (λ n. All (IsLeft next) (drop n changes)) (sym (add-one done)) left_next;
  }

-- before the first change is made
pub added_first : (table : TableName) (changes : List Change) (rows : TableRows) → AreStored table rows → AreBeingAdded table changes 0 rows.next rows.stored.keys rows
added_first table changes rows stored = record {
  stored = stored;
  later = omega arith;
  early = filter_every (λ s. nat_lt s.1 rows.next) rows.stored.keys (λ k d far. lt-ltb (get_or rows.stored.keys k d).1 rows.next (stored.earlier k d far));
  others = refl;
  put = All-nil _;
  left = λ k d far mine. filter_none (λ s. not (nat_lt s.1 rows.next) && has_key table (get_or changes k d).key s.0) rows.stored.keys (λ i s lt. ap (λ b. not b && has_key table (get_or changes k d).key (get_or rows.stored.keys i s).0) (lt-ltb (get_or rows.stored.keys i s).1 rows.next (stored.earlier i s lt)));
}

-- once all are made
pub added_all : (table : TableName) (changes : List Change) (done start : ℕ) (old : List Stored) (rows : TableRows) → length changes ≤ done → AreBeingAdded table changes done start old rows → AreAdded table changes start old rows.stored.keys
added_all table changes done start old rows all now = record {
  early = now.early;
  others = now.others;
  put = subst (All (λ c. table_eq c.table table ≡ true → rows_of (late_rows table start c rows.stored.keys) ≡ option_to_list c.row)) (take_all done changes all) now.put;
}

-- what is stored is stored still where some of it is removed
pub stored_filtered : (table : TableName) (p : Stored → Bool) (old new : TableRows) → new.stored.keys ≡ filter p old.stored.keys → new.next ≡ old.next → AreStored table old → AreStored table new
stored_filtered table p old new part next stored = record {
  wide = subst (All (λ (s : Stored). length s.0 ≡ width table)) (sym part) (All-filter p (λ (s : Stored). length s.0 ≡ width table) old.stored.keys stored.wide);
  earlier = subst (All (λ (s : Stored). s.1 < new.next)) (sym part) (All-filter p (λ (s : Stored). s.1 < new.next) old.stored.keys (λ k d far. let h : (get_or old.stored.keys k d).1 < old.next = stored.earlier k d far in omega (arith, next)));
  count = let l : length new.stored.keys ≡ length (filter p old.stored.keys) = ap length part in omega (arith, l, length-filter_both p (λ s. not (p s)) (λ s. refl) old.stored.keys, stored.count);
}

-- what the removed rows leave
module _ (start : ℕ) where
  through : (p : Stored → Bool) (ks keys : List Stored) → All (λ (k : Stored). All (λ s. p s ≡ true → is_early k.0 start s ≡ false) keys) ks → filter p (removed ks start keys) ≡ filter p keys
  through p [] keys apart = refl
  through p (k ∷ ks) keys apart =
      through p ks (filter (λ s. not (is_early k.0 start s)) keys) (λ i j far. All-filter (λ s. not (is_early k.0 start s)) (λ s. p s ≡ true → is_early (get_or ks i j).0 start s ≡ false) keys (All-tail (λ (k : Stored). All (λ s. p s ≡ true → is_early k.0 start s ≡ false) keys) k ks apart i j far))
      ∙ filter_through p (λ s. not (is_early k.0 start s)) keys (λ i s far h. ap not (All-head (λ (k : Stored). All (λ s. p s ≡ true → is_early k.0 start s ≡ false) keys) k ks apart i s far h))

  pub removed-All : (P : Stored → Type 0) (ks keys : List Stored) → All P keys → All P (removed ks start keys)
  removed-All P [] keys all = all
  removed-All P (k ∷ ks) keys all = removed-All P ks (filter (λ s. not (is_early k.0 start s)) keys) (All-filter (λ s. not (is_early k.0 start s)) P keys all)

  still : (p : Stored → Bool) (ks keys : List Stored) → filter p keys ≡ [] → filter p (removed ks start keys) ≡ []
  still p [] keys none = none
  still p (k ∷ ks) keys none = still p ks (filter (λ s. not (is_early k.0 start s)) keys) (filter_still p (λ s. not (is_early k.0 start s)) keys none)

  gone : (ks keys : List Stored) → All (λ (k : Stored). filter (is_early k.0 start) (removed ks start keys) ≡ []) ks
  gone [] keys = All-nil _
  gone (k ∷ ks) keys = All-cons (λ (j : Stored). filter (is_early j.0 start) (removed ks start (filter (λ s. not (is_early k.0 start s)) keys)) ≡ []) k ks
      (still (is_early k.0 start) ks (filter (λ s. not (is_early k.0 start s)) keys) (filter_stopped (is_early k.0 start) (λ s. not (is_early k.0 start s)) (λ s h. ap not h) keys))
      (gone ks (filter (λ s. not (is_early k.0 start s)) keys))

-- the rows that are left are what the commit of the changes leaves
module _ (table : TableName) (changes : List Change) (start : ℕ) (old keys : List Stored) (wide : All (λ (s : Stored). length s.0 ≡ width table) keys) (added : AreAdded table changes start old keys) where
  abbrev ours : List Change
  ours = filter (λ c. table_eq c.table table) changes

  abbrev left : List Stored
  left = removed (keys_of table changes) start keys

  tied : (c : Change) (s : Stored) → length s.0 ≡ width table → is_early (key_cells c.key) start s ≡ (has_key table c.key s.0 && nat_lt s.1 start)
  tied c s own = ap (λ b. b && nat_lt s.1 start) (sym (has_key_is table c.key s.0 own))

  others_left : other_rows changes table left ≡ other_rows changes table keys
  others_left = through start (λ s. not (is_changed changes table s.0)) (keys_of table changes) keys
      (to_map (λ (c : Change). (key_cells c.key, 0)) (λ (k : Stored). All (λ s. not (is_changed changes table s.0) ≡ true → is_early k.0 start s ≡ false) keys) ours
      (to_passed (λ (c : Change). table_eq c.table table) (λ (c : Change). All (λ s. not (is_changed changes table s.0) ≡ true → is_early (key_cells c.key) start s ≡ false) keys) changes apart))
    where
      apart : All (λ (c : Change). table_eq c.table table ≡ true → All (λ s. not (is_changed changes table s.0) ≡ true → is_early (key_cells c.key) start s ≡ false) keys) changes
      apart k d far mine i s lt other =
          no_other (is_early (key_cells (get_or changes k d).key) start (get_or keys i s)) (λ h.
          let both = and_parts (has_key table (get_or changes k d).key (get_or keys i s).0) (nat_lt (get_or keys i s).1 start) (sym (tied (get_or changes k d) (get_or keys i s) (wide i s lt)) ∙ h) in
          let changed : is_changed changes table (get_or keys i s).0 ≡ true = list_any_at (λ c. table_eq c.table table && has_key table c.key (get_or keys i s).0) changes k d far (both_true (table_eq (get_or changes k d).table table) (has_key table (get_or changes k d).key (get_or keys i s).0) mine both.0) in
          false≢true (sym (ap not changed) ∙ other))

  late_left : (c : Change) → late_rows table start c left ≡ late_rows table start c keys
  late_left c = through start (λ s. not (nat_lt s.1 start) && has_key table c.key s.0) (keys_of table changes) keys
      (λ k d far i s lt h. second_false (is_eq (cells_cmp (own_key (get_or (keys_of table changes) k d).0) (own_key (get_or keys i s).0))) (nat_lt (get_or keys i s).1 start) (not_late (nat_lt (get_or keys i s).1 start) (has_key table c.key (get_or keys i s).0) h))
    where
      not_late : (b r : Bool) → (not b && r) ≡ true → b ≡ false
      not_late true r h = absurd (false≢true h)
      not_late false r h = refl

  early_gone : All (λ (c : Change). table_eq c.table table ≡ true → filter (is_early (key_cells c.key) start) left ≡ []) changes
  early_gone = of_passed (λ (c : Change). table_eq c.table table) (λ (c : Change). filter (is_early (key_cells c.key) start) left ≡ []) changes
      (of_map (λ (c : Change). (key_cells c.key, 0)) (λ (k : Stored). filter (is_early k.0 start) left ≡ []) ours (gone start (keys_of table changes) keys))

  own_left : (c : Change) → filter (is_early (key_cells c.key) start) left ≡ [] → filter (λ s. has_key table c.key s.0) left ≡ late_rows table start c left
  own_left c none = filter_one_part (λ s. has_key table c.key s.0) (is_early (key_cells c.key) start) (λ s. not (nat_lt s.1 start) && has_key table c.key s.0) left other
      (λ s h. (and_parts (not (nat_lt s.1 start)) (has_key table c.key s.0) h).1) none
    where
      late : (b r : Bool) → r ≡ true → (r && b) ≡ false → (not b && r) ≡ true
      late true r h f = absurd (false≢true (sym f ∙ both_true r true h refl))
      late false r h f = h

      wide_left : All (λ (s : Stored). length s.0 ≡ width table) left
      wide_left = removed-All start (λ (s : Stored). length s.0 ≡ width table) (keys_of table changes) keys wide

      other : All (λ s. has_key table c.key s.0 ≡ true → is_early (key_cells c.key) start s ≡ false → (not (nat_lt s.1 start) && has_key table c.key s.0) ≡ true) left
      other k d far h f = late (nat_lt (get_or left k d).1 start) (has_key table c.key (get_or left k d).0) h (sym (tied c (get_or left k d) (wide_left k d far)) ∙ f)

  pub commits : CommitsTable changes table (rows_of old) (rows_of left)
  commits = record {
    changed = λ k d far mine.
        filter-rows_of (has_key table (get_or changes k d).key) left
        ∙ (ap rows_of (own_left (get_or changes k d) (early_gone k d far mine) ∙ late_left (get_or changes k d))
        ∙ added.put k d far mine);
    others = filter-rows_of (λ row. not (is_changed changes table row)) left
        ∙ (ap rows_of (others_left ∙ added.others) ∙ sym (filter-rows_of (λ row. not (is_changed changes table row)) old));
  }

-- one more key is made
module _ (table : TableName) (changes : List Change) (i : ℕ) (c : Change) (lt : i < length changes) (at : c ≡ get_or changes i c) (made all : List Stored) (now : made ++ keys_of table (drop i changes) ≡ all) where
  rest_is : drop i changes ≡ c ∷ drop (i + 1) changes
  rest_is = drop-cons changes i c lt ∙ (λ j. sym at j ∷ drop (sym (add-one i) j) changes)

  abbrev more : List Change
  more = filter (λ (d : Change). table_eq d.table table) (drop (i + 1) changes)

  abbrev key_row : Change → Stored
  key_row d = (key_cells d.key, 0)

  whole : (b : Bool) → table_eq c.table table ≡ b → made ++ map key_row (cond b (c ∷ more) more) ≡ all
  whole b e = sym (ap (λ cs. made ++ keys_of table cs) rest_is ∙ ap (λ b. made ++ map key_row (cond b (c ∷ more) more)) e) ∙ now

  pub keys_own : table_eq c.table table ≡ true → (made ++ key_row c ∷ []) ++ keys_of table (drop (i + 1) changes) ≡ all
  keys_own mine = append_assoc made (key_row c ∷ []) (keys_of table (drop (i + 1) changes)) ∙ whole true mine

  pub keys_other : table_eq c.table table ≡ false → made ++ keys_of table (drop (i + 1) changes) ≡ all
  keys_other other = whole false other

-- the row that a change puts is as wide as its table
pub fits_wide : (table : TableName) (changes : List Change) (i : ℕ) (c : Change) → AreChanges changes → i < length changes → c ≡ get_or changes i c → table_eq c.table table ≡ true → IfSome c.row (λ row. length row ≡ width table)
fits_wide table changes i c sound lt at mine = by c.row (fits_of table c mine (subst (λ d. is_own d ≡ true) (sym at) (sound.own i c lt)))
  where
    by : (o : Option (List Cell)) → IfSome o (λ row. (has_key table c.key row ≡ true) × (length row ≡ width table)) → IfSome o (λ row. length row ≡ width table)
    by None h = tt
    by (Some row) h = h.1

-- nothing was added yet
pub early_still : (table : TableName) (r : TableRows) → AreStored table r → early_rows r.next r.stored.keys ≡ r.stored.keys
early_still table r stored = filter_every (λ s. nat_lt s.1 r.next) r.stored.keys (λ k d far. lt-ltb (get_or r.stored.keys k d).1 r.next (stored.earlier k d far))

-- what the steps of a commit make of a table
module _ (table : TableName) (changes : List Change) (old mid new : TableRows) (start : ℕ) (first : start ≡ old.next) where
  pub committed : (keys : List Stored) → keys ≡ keys_of table changes → AreStored table mid → AreAdded table changes old.next old.stored.keys mid.stored.keys → new.stored.keys ≡ removed keys start mid.stored.keys → CommitsTable changes table (rows_in old) (rows_in new)
  committed keys looked stored added left = subst (λ (ks : List Stored). CommitsTable changes table (rows_in old) (rows_of ks)) (sym (left ∙ (λ i. removed (looked i) (first i) mid.stored.keys))) (commits table changes old.next old.stored.keys mid.stored.keys stored.wide added)

  pub undone : early_rows old.next mid.stored.keys ≡ old.stored.keys → new.stored.keys ≡ early_rows start mid.stored.keys → rows_in new ≡ rows_in old
  undone early left = ap rows_of (left ∙ (ap (λ n. early_rows n mid.stored.keys) first ∙ early))

-- one early row is removed
module _ (row : List Cell) (start : ℕ) (keys new : List Stored) (first : Stored) (found : find (is_early row start) keys ≡ Some first) where
  early_first : (is_eq (cells_cmp (own_key row) (own_key first.0)) ≡ true) × (nat_lt first.1 start ≡ true)
  early_first = and_parts (is_eq (cells_cmp (own_key row) (own_key first.0))) (nat_lt first.1 start) (found_is (is_early row start) keys first found)

  pub others_same : new ≡ remove_key (is_at (stored_cmp (row, first.1))) keys → filter (λ s. not (is_early row start s)) new ≡ filter (λ s. not (is_early row start s)) keys
  others_same made = ap (filter (λ s. not (is_early row start s))) made ∙ filter-remove_key (λ s. not (is_early row start s)) (is_at (stored_cmp (row, first.1))) keys
      (λ s h. ap not (both_true (is_eq (cells_cmp (own_key row) (own_key s.0))) (nat_lt s.1 start) (key_tied s (cells_cmp (own_key row) (own_key s.0)) refl h) (subst (λ n. nat_lt n start ≡ true) (number_tied s (cells_cmp (own_key row) (own_key s.0)) refl h) early_first.1)))
    where
      key_tied : (s : Stored) (r : Ordering) → cells_cmp (own_key row) (own_key s.0) ≡ r → is_eq (ordering_then (cells_cmp (own_key row) (own_key s.0)) (nat_cmp first.1 s.1)) ≡ true → is_eq (cells_cmp (own_key row) (own_key s.0)) ≡ true
      key_tied s Less e h = absurd (false≢true (sym (ap (λ r. is_eq (ordering_then r (nat_cmp first.1 s.1))) e) ∙ h))
      key_tied s Equal e h = ap is_eq e
      key_tied s Greater e h = absurd (false≢true (sym (ap (λ r. is_eq (ordering_then r (nat_cmp first.1 s.1))) e) ∙ h))

      equal : (m n : ℕ) → is_eq (nat_cmp m n) ≡ true → m ≡ n
      equal m n h = grind (arith)

      number_tied : (s : Stored) (r : Ordering) → cells_cmp (own_key row) (own_key s.0) ≡ r → is_eq (ordering_then (cells_cmp (own_key row) (own_key s.0)) (nat_cmp first.1 s.1)) ≡ true → first.1 ≡ s.1
      number_tied s Less e h = absurd (false≢true (sym (ap (λ r. is_eq (ordering_then r (nat_cmp first.1 s.1))) e) ∙ h))
      number_tied s Equal e h = equal first.1 s.1 (sym (ap (λ r. is_eq (ordering_then r (nat_cmp first.1 s.1))) e) ∙ h)
      number_tied s Greater e h = absurd (false≢true (sym (ap (λ r. is_eq (ordering_then r (nat_cmp first.1 s.1))) e) ∙ h))

  pub there : list_any (is_at (stored_cmp (row, first.1))) keys ≡ true
  there = found_passes (is_early row start) (is_at (stored_cmp (row, first.1))) keys first found (tied (cells_cmp (own_key row) (own_key first.0)) refl early_first.0)
    where
      same : (n : ℕ) → is_eq (nat_cmp n n) ≡ true
      same n = ap is_eq (tied_itself nat_cmp_total n)

      tied : (r : Ordering) → cells_cmp (own_key row) (own_key first.0) ≡ r → is_eq (cells_cmp (own_key row) (own_key first.0)) ≡ true → is_eq (ordering_then (cells_cmp (own_key row) (own_key first.0)) (nat_cmp first.1 first.1)) ≡ true
      tied Less e h = absurd (false≢true (sym (ap is_eq e) ∙ h))
      tied Equal e h = ap (λ r. is_eq (ordering_then r (nat_cmp first.1 first.1))) e ∙ same first.1
      tied Greater e h = absurd (false≢true (sym (ap is_eq e) ∙ h))

-- what is stored is stored still without a row
pub stored_without : (table : TableName) (test : Stored → Bool) (old new : TableRows) (b : Bool) → new.stored.keys ≡ remove_key test old.stored.keys → new.next ≡ old.next → length new.stored.keys + cond b 1 0 ≡ length old.stored.keys → AreStored table old → AreStored table new
stored_without table test old new b made next len stored = record {
  wide = subst (All (λ (s : Stored). length s.0 ≡ width table)) (sym made) (All-remove_key (λ (s : Stored). length s.0 ≡ width table) test old.stored.keys stored.wide);
  earlier = subst (All (λ (s : Stored). s.1 < new.next)) (sym made) (All-remove_key (λ (s : Stored). s.1 < new.next) test old.stored.keys (λ k d far. let h : (get_or old.stored.keys k d).1 < old.next = stored.earlier k d far in omega (arith, next)));
  count = omega (arith, len, stored.count);
}

-- one less
pub one_less : (n m : ℕ) (b : Bool) → n + cond b 1 0 ≡ m → b ≡ true → n < m
one_less n m true e h = omega (arith, e)
one_less n m false e h = absurd (false≢true h)
