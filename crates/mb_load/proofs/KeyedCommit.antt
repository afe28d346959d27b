-- What a commit of covering changes leaves under each key.
use Rattle.mb_load.proofs.Common.{All, All-weaker, all_committed, ap, Bool, Cell, cells_eq, cells_eq-Decides, Change, CommitsTable, Covers, false, false≢true, filter, get_or_from_slice_get, has_key}
use Rattle.mb_load.proofs.Common.{IfSome, IntId, key_cells, left_committed, List, Option, option_to_list, refl, RowKey, slice_get, slice_get_within, Some, subst, sym, table_eq, TableName, TextId}
use Rattle.mb_load.proofs.Common.{Tile, true, ℕ, ◌∙◌, ◌≡◌}

-- keys of equal cells are equal
pub same_keys : (k l : RowKey) → key_cells k ≡ key_cells l → k ≡ l
same_keys (Tile a b c) (Tile d e f) h = let x : a ≡ d = cc in let y : b ≡ e = cc in let z : c ≡ f = cc in λ i. Tile (x i) (y i) (z i)
same_keys (TextId s) (TextId t) h = let e : s ≡ t = cc in ap TextId e
same_keys (IntId m) (IntId n) h = let e : m ≡ n = cc in ap IntId e
same_keys _ _ h = cc

at : {X : Type 0} (P : X → Type 0) (xs : List X) → All P xs → (i : ℕ) (x : X) → slice_get xs i ≡ Some x → P x
at P xs all i x h = subst P (get_or_from_slice_get xs i x x h) (all i x (slice_get_within xs i x h))

module _ (edited : RowKey → Bool) (row : RowKey → Option (List Cell)) (table : TableName) (changes : List Change) (covers : Covers edited row table changes) (old new : List (List Cell)) (made : CommitsTable changes table old new) where
  -- rows under a key that wasn't edited stay
  pub unedited_stay : (key : RowKey) → edited key ≡ false → filter (has_key table key) new ≡ filter (has_key table key) old
  unedited_stay key left = left_committed changes table old new made key (All-weaker (λ c. table_eq c.table table ≡ true → (edited c.key ≡ true) × (c.row ≡ row c.key)) (λ c. table_eq c.table table ≡ true → cells_eq (key_cells c.key) (key_cells key) ≡ false) apart changes covers.only)
    where
      apart : (c : Change) → (table_eq c.table table ≡ true → (edited c.key ≡ true) × (c.row ≡ row c.key)) → table_eq c.table table ≡ true → cells_eq (key_cells c.key) (key_cells key) ≡ false
      apart c only same = by (cells_eq (key_cells c.key) (key_cells key)) refl
        where
          by : (b : Bool) → cells_eq (key_cells c.key) (key_cells key) ≡ b → cells_eq (key_cells c.key) (key_cells key) ≡ false
          by false e = e
          by true e = absurd (false≢true (sym left ∙ (ap edited (sym (same_keys c.key key ((cells_eq-Decides (key_cells c.key) (key_cells key)).0 e))) ∙ (only same).0)))

  -- under an edited key stands its row, or none
  pub edited_stand : (key : RowKey) → edited key ≡ true → filter (has_key table key) new ≡ option_to_list (row key)
  edited_stand key was =
      let m = covers.made key was in
      let only = at (λ c. table_eq c.table table ≡ true → (edited c.key ≡ true) × (c.row ≡ row c.key)) changes covers.only m.0 m.1 m.2 m.3 in
      let left = at (λ c. table_eq c.table table ≡ true → filter (has_key table c.key) new ≡ option_to_list c.row) changes made.changed m.0 m.1 m.2 m.3 in
      ap (λ k. filter (has_key table k) new) (sym m.4) ∙ (left ∙ (ap option_to_list only.1 ∙ ap (λ k. option_to_list (row k)) m.4))

  -- where the rows of a key fitted, or were edited and the new one fits, they fit
  pub fits_then : (key : RowKey) (Fits : List (List Cell) → Type 0) → (edited key ≡ true → Fits (option_to_list (row key))) → (edited key ≡ false → Fits (filter (has_key table key) old)) → Fits (filter (has_key table key) new)
  fits_then key Fits put kept = by (edited key) refl
    where
      by : (b : Bool) → edited key ≡ b → Fits (filter (has_key table key) new)
      by true e = subst Fits (sym (edited_stand key e)) (put e)
      by false e = subst Fits (sym (unedited_stay key e)) (kept e)

  -- what holds of the old rows and of each row that can be put holds of all new rows
  pub all_then : (P : List Cell → Type 0) → All P old → ((key : RowKey) → IfSome (row key) P) → All P new
  all_then P olds puts = all_committed changes table old new made P olds (All-weaker (λ c. table_eq c.table table ≡ true → (edited c.key ≡ true) × (c.row ≡ row c.key)) (λ c. table_eq c.table table ≡ true → IfSome c.row P) (λ c only same. subst (λ r. IfSome r P) (sym (only same).1) (puts c.key)) changes covers.only)
