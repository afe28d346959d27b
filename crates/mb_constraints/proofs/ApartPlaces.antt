-- Rows that a unique index keeps apart have no place twice.
use Rattle.mb_constraints.proofs.Common.{AllPairs, ap, are_distinct, arith, Bool, Cell, cell_at, cells_eq, cells_eq-Decides, cond, cons_option, contents_in, contents_of, false, false≢true, filter_map}
use Rattle.mb_constraints.proofs.Common.{get_or_from_slice_get, Hash, is_null, List, list_any, map, MbtType, nat_lt, None, none-some, Normalized, not, NoUniquenessConstraint, number_below, Option}
use Rattle.mb_constraints.proofs.Common.{option_and_then, Place, place_cmp, place_of, place_twice, pos, refl, slice_get, slice_get_within, Some, suc, sym, take, tile_in, tile_of, true, unless, ℕ, ℤ}
use Rattle.mb_constraints.proofs.Common.{[], ◌&&◌, ◌^◌, ◌∙◌, ◌∷◌, ◌≡◌}
use Rattle.std.specs.Ordering.{eq_by_cmp}
use Rattle.mb_lists.proofs.Items.{equal_of}
use Rattle.mb_lists.proofs.Places.{places_antisymmetric}
use Rattle.mb_store.specs.Store.{IsSound}
use Rattle.mb_tables.specs.Described.{is_keyed}
use Rattle.mb_tables.specs.Kind.{tile_table}
use Rattle.mb_tables.specs.Key.{clash}
use Rattle.mb_tables.specs.Table.{Tables, key_of}
use Rattle.mb_tables.specs.declared.cell.Cell.TheVariants.{Int}

-- a place's numbers are its row's first three cells
number_is : (limit : ℕ) (c : Cell) (n : ℕ) → number_below limit c ≡ Some n → c ≡ Int (pos n)
number_is limit (Int (pos m)) n h = by (nat_lt m limit) h
  where
    by : (b : Bool) → cond b (Some m) None ≡ Some n → Int (pos m) ≡ Int (pos n)
    by true k = let same : m ≡ n = cc in ap (λ x. Int (pos x)) same
    by false k = absurd (none-some n k)
number_is limit _ n h = absurd (none-some n h)

three : (row : List Cell) (a b c : ℤ) → cell_at 0 row ≡ Int a → cell_at 1 row ≡ Int b → cell_at 2 row ≡ Int c → take 3 row ≡ Int a ∷ Int b ∷ Int c ∷ []
three (x ∷ y ∷ z ∷ rest) a b c h k l = λ i. h i ∷ k i ∷ l i ∷ []
three _ a b c h k l = cc

abbrev place_cells : Place → List Cell
place_cells p = Int (pos p.zoom) ∷ Int (pos p.column) ∷ Int (pos p.row) ∷ []

pub cells_of_place : (row : List Cell) (p : Place) → place_of row ≡ Some p → take 3 row ≡ place_cells p
cells_of_place row p h = zoomed (number_below 31 (cell_at 0 row)) refl
  where
    lined : (z x : ℕ) (o : Option ℕ) → number_below 31 (cell_at 0 row) ≡ Some z → number_below (2 ^ z) (cell_at 1 row) ≡ Some x → number_below (2 ^ z) (cell_at 2 row) ≡ o → take 3 row ≡ place_cells p
    lined z x (Some y) e f g =
        let is : place_of row ≡ Some (record { zoom = z; column = x; row = y }) = simp (e, f, g) in
        let same : record { zoom = z; column = x; row = y } ≡ p = cc in
        three row (pos z) (pos x) (pos y) (number_is 31 (cell_at 0 row) z e) (number_is (2 ^ z) (cell_at 1 row) x f) (number_is (2 ^ z) (cell_at 2 row) y g) ∙ ap place_cells same
    lined z x None e f g = let is : place_of row ≡ None = simp (e, f, g) in absurd (none-some p (sym is ∙ h))

    columned : (z : ℕ) (o : Option ℕ) → number_below 31 (cell_at 0 row) ≡ Some z → number_below (2 ^ z) (cell_at 1 row) ≡ o → take 3 row ≡ place_cells p
    columned z (Some x) e f = lined z x (number_below (2 ^ z) (cell_at 2 row)) e f refl
    columned z None e f = let is : place_of row ≡ None = simp (e, f) in absurd (none-some p (sym is ∙ h))

    zoomed : (o : Option ℕ) → number_below 31 (cell_at 0 row) ≡ o → take 3 row ≡ place_cells p
    zoomed (Some z) e = columned z (number_below (2 ^ z) (cell_at 1 row)) e refl
    zoomed None e = let is : place_of row ≡ None = simp e in absurd (none-some p (sym is ∙ h))

pub tile_has_place : (row : List Cell) (cell : Cell) (t : Place × Option (List ℕ)) → tile_of row cell ≡ Some t → place_of row ≡ Some t.0
tile_has_place row cell t h = go (place_of row) (contents_of cell) refl refl
  where
    go : (p : Option Place) (c : Option (Option (List ℕ))) → place_of row ≡ p → contents_of cell ≡ c → place_of row ≡ Some t.0
    go (Some p) (Some c) e f =
        let is : tile_of row cell ≡ Some (p, c) = simp (e, f) in
        let both : Some (p, c) ≡ Some t = sym is ∙ h in
        e ∙ ap (λ (o : Option (Place × Option (List ℕ))). option_and_then (λ x. Some x.0) o) both
    go (Some p) None e f = let is : tile_of row cell ≡ None = simp (e, f) in absurd (none-some t (sym is ∙ h))
    go None (Some c) e f = let is : tile_of row cell ≡ None = simp (e, f) in absurd (none-some t (sym is ∙ h))
    go None None e f = let is : tile_of row cell ≡ None = simp (e, f) in absurd (none-some t (sym is ∙ h))

pub in_has_place : (layout : MbtType) (ids : List (List Cell)) (row : List Cell) (t : Place × Option (List ℕ)) → tile_in layout ids row ≡ Some t → place_of row ≡ Some t.0
in_has_place layout ids row t h = by (contents_in layout ids row) h
  where
    by : (o : Option Cell) → option_and_then (tile_of row) o ≡ Some t → place_of row ≡ Some t.0
    by (Some cell) k = tile_has_place row cell t k
    by None k = absurd (none-some t k)

-- the key of a tile table is its place
pub key_is : (layout : MbtType) (row : List Cell) → key_of (tile_table layout) row ≡ take 3 row
key_is (Normalized view Hash) row = refl
key_is _ row = refl

unclashed : (layout : MbtType) (ids : List (List Cell)) (r s : List Cell) (p q : Place × Option (List ℕ)) → tile_in layout ids r ≡ Some p → tile_in layout ids s ≡ Some q → clash (tile_table layout) r s ≡ false → eq_by_cmp place_cmp p.0 q.0 ≡ false
unclashed layout ids r s p q e f apart = by (eq_by_cmp place_cmp p.0 q.0) refl
  where
    first : key_of (tile_table layout) r ≡ place_cells p.0
    first = key_is layout r ∙ cells_of_place r p.0 (in_has_place layout ids r p e)

    second : key_of (tile_table layout) s ≡ place_cells q.0
    second = key_is layout s ∙ cells_of_place s q.0 (in_has_place layout ids s q f)

    clashes : p.0 ≡ q.0 → clash (tile_table layout) r s ≡ true
    clashes same =
        let keys : cells_eq (key_of (tile_table layout) r) (key_of (tile_table layout) s) ≡ true = (cells_eq-Decides (key_of (tile_table layout) r) (key_of (tile_table layout) s)).1 (first ∙ (ap place_cells same ∙ sym second)) in
        ap (λ b. b && not (list_any is_null (key_of (tile_table layout) r))) keys ∙ ap (λ (l : List Cell). not (list_any is_null l)) first

    by : (b : Bool) → eq_by_cmp place_cmp p.0 q.0 ≡ b → eq_by_cmp place_cmp p.0 q.0 ≡ false
    by false k = k
    by true k = absurd (false≢true (sym apart ∙ clashes (places_antisymmetric p.0 q.0 (equal_of (place_cmp p.0 q.0) k))))

module _ (layout : MbtType) (ids : List (List Cell)) where
  abbrev places : List (List Cell) → List Place
  places rows = map (λ (t : Place × Option (List ℕ)). t.0) (filter_map (tile_in layout ids) rows)

  none_equal : (r : List Cell) (p : Place × Option (List ℕ)) → tile_in layout ids r ≡ Some p → (rows : List (List Cell)) → ((k : ℕ) (s : List Cell) → slice_get rows k ≡ Some s → clash (tile_table layout) r s ≡ false) → list_any (eq_by_cmp place_cmp p.0) (places rows) ≡ false
  none_equal r p e [] h = refl
  none_equal r p e (s ∷ rows) h = by (tile_in layout ids s) refl (none_equal r p e rows (λ k x at. h (suc k) x at))
    where
      by : (o : Option (Place × Option (List ℕ))) → tile_in layout ids s ≡ o → list_any (eq_by_cmp place_cmp p.0) (places rows) ≡ false → list_any (eq_by_cmp place_cmp p.0) (map (λ (t : Place × Option (List ℕ)). t.0) (cons_option o (filter_map (tile_in layout ids) rows))) ≡ false
      by None f ih = ih
      by (Some q) f ih = rw (unclashed layout ids r s p q e f (h 0 s refl)) ih

  places_apart : (rows : List (List Cell)) → AllPairs (λ r s. clash (tile_table layout) r s ≡ false) rows → are_distinct place_cmp (places rows) ≡ true
  places_apart [] h = refl
  places_apart (r ∷ rows) h = by (tile_in layout ids r) refl (places_apart rows (λ i j d less lt. h (suc i) (suc j) d (omega arith) (omega arith)))
    where
      with_first : (k : ℕ) (s : List Cell) → slice_get rows k ≡ Some s → clash (tile_table layout) r s ≡ false
      with_first k s at = let lt = slice_get_within rows k s at in ap (clash (tile_table layout) r) (sym (get_or_from_slice_get rows k s s at)) ∙ h 0 (suc k) s (omega arith) (omega (arith, lt))

      by : (o : Option (Place × Option (List ℕ))) → tile_in layout ids r ≡ o → are_distinct place_cmp (places rows) ≡ true → are_distinct place_cmp (map (λ (t : Place × Option (List ℕ)). t.0) (cons_option o (filter_map (tile_in layout ids) rows))) ≡ true
      by None f ih = ih
      by (Some p) f ih = ap (λ b. not b && are_distinct place_cmp (places rows)) (none_equal r p f rows with_first) ∙ ih

pub never_twice : (t : Tables) (layout : MbtType) (ids : List (List Cell)) → IsSound t → is_keyed t.descriptions (tile_table layout) ≡ true → place_twice layout ids (t.rows (tile_table layout)) ≡ None
never_twice t layout ids sound keyed = ap (λ b. unless b NoUniquenessConstraint) (places_apart layout ids (t.rows (tile_table layout)) (sound.keys (tile_table layout) keyed))
