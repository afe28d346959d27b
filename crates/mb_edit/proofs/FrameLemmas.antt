-- Rows that no change of a set is of stay.
use Rattle.mb_edit.proofs.Common.{ap, AreChangesOf, Bool, Cell, cell_at, cells_eq-Decides, Change, Commits, contains_key, drop, false, false≢true, filter, FinMap, front, front_read, get, get_or}
use Rattle.mb_edit.proofs.Common.{has_key, Hash, Held, IntId, is_null, is_some, IsOnBoard, key_cells, key_of, key_width, length, List, MbtType, Metadata, name_edited, Normalized, not, option_and_then}
use Rattle.mb_edit.proofs.Common.{Place, place_cmp, place_edited, place_of, refl, RowKey, Some, stands_in, suc, sym, table_eq, TableName, Tables, take, Text, TextId, Tile, tile_table, true, zero, ℕ}
use Rattle.mb_edit.proofs.Common.{[], ◌&&◌, ◌++◌, ◌<◌, ◌∙◌, ◌∷◌, ◌≡◌}
use Rattle.std.proofs.lemmas.List.Folds.{list_any_none}
use Rattle.mb_store.proofs.Committed.{others_stay}

none_of : (a b : Bool) → (a ≡ true → b ≡ false) → (a && b) ≡ false
none_of true b h = h refl
none_of false b h = refl

-- the rows that a test keeps stay, where no change of the table is of them
pub frame : (t t' : Tables) (changes : List Change) → Commits changes t t' → (table : TableName) (q : List Cell → Bool) → ((row : List Cell) → q row ≡ true → (k : ℕ) (d : Change) → k < length changes → table_eq (get_or changes k d).table table ≡ true → has_key table (get_or changes k d).key row ≡ false) → filter q (t'.rows table) ≡ filter q (t.rows table)
frame t t' changes made table q apart = others_stay changes table (t.rows table) (t'.rows table) (made.tables table) q (λ row kept.
    list_any_none (λ c. table_eq c.table table && has_key table c.key row) changes (λ k d lt. none_of (table_eq (get_or changes k d).table table) (has_key table (get_or changes k d).key row) (apart row kept k d lt)))

three_columns : (l : MbtType) → key_width (tile_table l) ≡ 3
three_columns (Normalized view Hash) = refl
three_columns _ = refl

-- a row under the key of a place begins with the place
begins : (row : List Cell) (p : Place) → take 3 row ≡ front p → row ≡ front p ++ drop 3 row
begins row p e = sym (take_drop 3 row) ∙ ap (λ l. l ++ drop 3 row) e
  where
    take_drop : (n : ℕ) (xs : List Cell) → take n xs ++ drop n xs ≡ xs
    take_drop zero [] = refl
    take_drop (suc n) (x ∷ xs) = ap (λ l. x ∷ l) (take_drop n xs)
    take_drop _ _ = refl

place_in : {A : Type 0} (m : FinMap place_cmp A) (row : List Cell) (p : Place) → place_of row ≡ Some p → contains_key m p ≡ true → stands_in m row ≡ true
place_in m row p at has = ap (λ o. is_some (option_and_then (get m) o)) at ∙ has

-- rows of places that weren't edited stay
module _ (h : Held) (t t' : Tables) (changes : List Change) (are : AreChangesOf h changes) (made : Commits changes t t') where
  pub tile_rows_stay : ((p : Place) → contains_key h.edited.places p ≡ true → IsOnBoard p) → filter (λ row. not (stands_in h.edited.places row)) (t'.rows (tile_table h.state.layout)) ≡ filter (λ row. not (stands_in h.edited.places row)) (t.rows (tile_table h.state.layout))
  tile_rows_stay on = frame t t' changes made (tile_table h.state.layout) (λ row. not (stands_in h.edited.places row)) (λ row kept k d lt is.
      other row kept (get_or changes k d).key (are.tiles.only k d lt is).0 (has_key (tile_table h.state.layout) (get_or changes k d).key row) refl)
    where
      at : (row : List Cell) (p : Place) → not (stands_in h.edited.places row) ≡ true → contains_key h.edited.places p ≡ true → has_key (tile_table h.state.layout) (Tile p.zoom p.column p.row) row ≡ true → ⊥
      at row p kept edited e =
          let cells : take 3 row ≡ front p = ap (λ n. take n row) (sym (three_columns h.state.layout)) ∙ (cells_eq-Decides (key_of (tile_table h.state.layout) row) (key_cells (Tile p.zoom p.column p.row))).0 e in
          let read : place_of row ≡ Some p = ap place_of (begins row p cells) ∙ front_read p (drop 3 row) (on p edited) in
          false≢true (sym (ap not (place_in h.edited.places row p read edited)) ∙ kept)

      other : (row : List Cell) → not (stands_in h.edited.places row) ≡ true → (key : RowKey) → place_edited h.edited key ≡ true → (b : Bool) → has_key (tile_table h.state.layout) key row ≡ b → has_key (tile_table h.state.layout) key row ≡ false
      other row kept key edited false e = e
      other row kept (Tile zoom column line) edited true e = absurd (at row (record { zoom = zoom; column = column; row = line }) kept edited e)
      other row kept _ edited true e = absurd (false≢true edited)

  -- rows of a null name stay
  pub null_names_stay : filter (λ row. is_null (cell_at 0 row)) (t'.rows Metadata) ≡ filter (λ row. is_null (cell_at 0 row)) (t.rows Metadata)
  null_names_stay = frame t t' changes made Metadata (λ row. is_null (cell_at 0 row)) (λ row null k d lt is.
      other row null (get_or changes k d).key (are.names.only k d lt is).0 (has_key Metadata (get_or changes k d).key row) refl)
    where
      named : (row : List Cell) (text : List ℕ) → is_null (cell_at 0 row) ≡ true → take 1 row ≡ Text text ∷ [] → ⊥
      named [] text n e = cc
      named (x ∷ row) text n e = let s : x ≡ Text text = cc in false≢true (ap is_null (sym s) ∙ n)

      other : (row : List Cell) → is_null (cell_at 0 row) ≡ true → (key : RowKey) → name_edited h.edited key ≡ true → (b : Bool) → has_key Metadata key row ≡ b → has_key Metadata key row ≡ false
      other row null key edited false e = e
      other row null (TextId text) edited true e = absurd (named row text null ((cells_eq-Decides (key_of Metadata row) (key_cells (TextId text))).0 e))
      other row null (Tile zoom column line) edited true e = absurd (false≢true edited)
      other row null (IntId n) edited true e = absurd (false≢true edited)
