-- What a commit leaves under the keys of its changes, under each other key, and of all rows.
use Rattle.mb_store.proofs.Common.{All, All-cons, All-filter, All-nil, All-weaker, Any, Any-from_list_any, ap, Bool, cases_Bool, Cell, cells_eq, cells_eq-Decides, Change, CommitsTable, false}
use Rattle.mb_store.proofs.Common.{false≢true, filter, filter_within, find, find_only, get_or, has_key, IfSome, inl, inr, is_changed, key_cells, key_of, length, List, list_any_none, None, not, Option}
use Rattle.mb_store.proofs.Common.{option_to_list, refl, RowKey, Some, subst, sym, table_eq, TableName, true, ℕ, [], ◌&&◌, ◌<◌, ◌∙◌, ◌≡◌}
use Rattle.mb_store.proofs.EditLemmas.{of_passed}

not_both : (a b : Bool) → (a ≡ true → b ≡ true → ⊥) → (a && b) ≡ false
not_both true true f = absurd (f refl refl)
not_both true false f = refl
not_both false b f = refl

both : (a b : Bool) → (a && b) ≡ true → (a ≡ true) × (b ≡ true)
both true b h = (refl, h)
both false b h = absurd (false≢true h)

-- two keys of one row are equal
pub one_key : (table : TableName) (k l : RowKey) (row : List Cell) → has_key table k row ≡ true → has_key table l row ≡ true → cells_eq (key_cells k) (key_cells l) ≡ true
one_key table k l row h i =
    (cells_eq-Decides (key_cells k) (key_cells l)).1 (sym ((cells_eq-Decides (key_of table row) (key_cells k)).0 h) ∙ (cells_eq-Decides (key_of table row) (key_cells l)).0 i)

module _ (changes : List Change) (table : TableName) (old new : List (List Cell)) (made : CommitsTable changes table old new) where
  -- under the key of each change its row is found, or none
  pub found_committed : All (λ c. table_eq c.table table ≡ true → find (has_key table c.key) new ≡ c.row) changes
  found_committed = All-weaker (λ c. table_eq c.table table ≡ true → filter (has_key table c.key) new ≡ option_to_list c.row) (λ c. table_eq c.table table ≡ true → find (has_key table c.key) new ≡ c.row) (λ c f same. find_only (has_key table c.key) new c.row (f same)) changes made.changed

  -- rows that no change is of stay
  pub others_stay : (q : List Cell → Bool) → ((row : List Cell) → q row ≡ true → is_changed changes table row ≡ false) → filter q new ≡ filter q old
  others_stay q apart =
      let p : List Cell → Bool = λ row. not (is_changed changes table row) in
      let stays : (row : List Cell) → q row ≡ true → p row ≡ true = λ row h. ap not (apart row h) in
      sym (filter_within p q stays new) ∙ (ap (filter q) made.others ∙ filter_within p q stays old)

  -- so do those under a key that no change has
  pub left_committed : (key : RowKey) → All (λ c. table_eq c.table table ≡ true → cells_eq (key_cells c.key) (key_cells key) ≡ false) changes → filter (has_key table key) new ≡ filter (has_key table key) old
  left_committed key apart = others_stay (has_key table key) (λ row has.
      list_any_none (λ c. table_eq c.table table && has_key table c.key row) changes
      (All-weaker (λ c. table_eq c.table table ≡ true → cells_eq (key_cells c.key) (key_cells key) ≡ false) (λ c. (table_eq c.table table && has_key table c.key row) ≡ false)
      (λ c f. not_both (table_eq c.table table) (has_key table c.key row) (λ same own. false≢true (sym (f same) ∙ one_key table c.key key row own has)))
      changes apart))

  -- what holds of the old rows and of each row that is put holds of the new rows
  pub all_committed : (P : List Cell → Type 0) → All P old → All (λ c. table_eq c.table table ≡ true → IfSome c.row P) changes → All P new
  all_committed P olds puts =
      let p : List Cell → Bool = λ row. not (is_changed changes table row) in
      let Q : List (List Cell) → Type 0 = λ rows. All P rows in
      let stay : All (λ row. p row ≡ true → P row) new = of_passed p P new (subst Q (sym made.others) (All-filter p P old olds)) in
      λ k d lt. elim (cases_Bool (is_changed changes table (get_or new k d))) [
        | inl changed ↦ by_change k d lt (Any-from_list_any (λ c. table_eq c.table table && has_key table c.key (get_or new k d)) changes changed)
        | inr left ↦ stay k d lt (ap not left)
      ]
    where
      one : (o : Option (List Cell)) → IfSome o P → All P (option_to_list o)
      one None h = All-nil P
      one (Some x) h = All-cons P x [] h (All-nil P)

      by_change : (k : ℕ) (d : List Cell) → k < length new → Any (λ c. (table_eq c.table table && has_key table c.key (get_or new k d)) ≡ true) changes → P (get_or new k d)
      by_change k d lt (i, c, far, is, found) =
          let two = both (table_eq c.table table) (has_key table c.key (get_or new k d)) found in
          let M : Change → Type 0 = λ c. table_eq c.table table ≡ true → filter (has_key table c.key) new ≡ option_to_list c.row in
          let N : Change → Type 0 = λ c. table_eq c.table table ≡ true → IfSome c.row P in
          let Q : List (List Cell) → Type 0 = λ rows. All P rows in
          of_passed (has_key table c.key) P new (subst Q (sym (subst M is (made.changed i c far) two.0)) (one c.row (subst N is (puts i c far) two.0))) k d lt two.1
