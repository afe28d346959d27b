-- What is read at a place is read of the rows under its key.
use Rattle.mb_load.proofs.Common.{All, All-head, All-tail, AllPairs, AllPairs-head, AllPairs-tail, and_from, ap, arith, at_place, Bool, Cell, cell_at, cells_eq, cells_eq-Decides, cells_of_place}
use Rattle.mb_load.proofs.Common.{clash, cond, cons_option, Decides-ltb, eq_by_cmp, equal_of, false, false≢true, filter, filter_map, filter_none, find, found, front, get_or, has_key, inl, inr, Int}
use Rattle.mb_load.proofs.Common.{is_eq, is_null, is_some, IsOnBoard, key_cells, key_is, key_of, length, List, list_any, MbtType, nat_lt, None, none-some, not, number_below, Option, option_and_then}
use Rattle.mb_load.proofs.Common.{option_map, Place, place_cmp, place_of, places_antisymmetric, places_total, pos, refl, RowKey, Some, subst, sym, TableName, tied_itself, tile_key, tile_table, true}
use Rattle.mb_load.proofs.Common.{ℕ, [], ◌<◌, ◌^◌, ◌∙◌, ◌∷◌, ◌≡◌, ◌≤◌, ◌⊎◌}
use Rattle.mb_loaded.proofs.ChangeSteps.{front_same}

-- a row of a place has the key of this place, and of no other
pub key_of_place : (layout : MbtType) (p q : Place) (row : List Cell) → place_of row ≡ Some q → has_key (tile_table layout) (tile_key p) row ≡ eq_by_cmp place_cmp p q
key_of_place layout p q row h = by (has_key (tile_table layout) (tile_key p) row) refl (eq_by_cmp place_cmp p q) refl
  where
    cells : key_of (tile_table layout) row ≡ front q
    cells = key_is layout row ∙ cells_of_place row q h

    by : (a : Bool) → has_key (tile_table layout) (tile_key p) row ≡ a → (b : Bool) → eq_by_cmp place_cmp p q ≡ b → has_key (tile_table layout) (tile_key p) row ≡ eq_by_cmp place_cmp p q
    by true e true f = e ∙ sym f
    by false e false f = e ∙ sym f
    by true e false f =
        let same : p ≡ q = front_same p q (sym ((cells_eq-Decides (key_of (tile_table layout) row) (front p)).0 e) ∙ cells) in
        absurd (false≢true (sym f ∙ (ap (λ z. eq_by_cmp place_cmp z q) same ∙ ap is_eq (tied_itself places_total q))))
    by false e true f =
        let same : p ≡ q = places_antisymmetric p q (equal_of (place_cmp p q) f) in
        absurd (false≢true (sym e ∙ (cells_eq-Decides (key_of (tile_table layout) row) (front p)).1 (cells ∙ ap front (sym same))))

-- what is read at a place
pub under_key : {A : Type 0} (layout : MbtType) (value : List Cell → Option (Place × A)) → ((row : List Cell) (e : Place × A) → value row ≡ Some e → place_of row ≡ Some e.0) → (p : Place) (rows : List (List Cell)) → found value p (filter (has_key (tile_table layout) (tile_key p)) rows) ≡ found value p rows
under_key layout value placed p [] = refl
under_key {A} layout value placed p (row ∷ rows) = by (value row) refl (has_key (tile_table layout) (tile_key p) row) refl (under_key layout value placed p rows)
  where
    rest : List (List Cell)
    rest = filter (has_key (tile_table layout) (tile_key p)) rows

    by : (o : Option (Place × A)) → value row ≡ o → (b : Bool) → has_key (tile_table layout) (tile_key p) row ≡ b → found value p rest ≡ found value p rows → found value p (cond b (row ∷ rest) rest) ≡ found value p (row ∷ rows)
    by None e true f ih = rw e ih
    by None e false f ih = rw e ih
    by (Some v) e true f ih = let t : eq_by_cmp place_cmp p v.0 ≡ true = sym (key_of_place layout p v.0 row (placed row v e)) ∙ f in rw (e, t) refl
    by (Some v) e false f ih = let t : eq_by_cmp place_cmp p v.0 ≡ false = sym (key_of_place layout p v.0 row (placed row v e)) ∙ f in rw (e, t) ih

pub at_place_placed : {A : Type 0} (value : List Cell → Option A) (row : List Cell) (e : Place × A) → at_place value row ≡ Some e → place_of row ≡ Some e.0
at_place_placed {A} value row e h = by (place_of row) refl (value row) h
  where
    by : (o : Option Place) → place_of row ≡ o → (v : Option A) → option_and_then (λ place. option_map (λ v. (place, v)) v) o ≡ Some e → place_of row ≡ Some e.0
    by (Some p) f (Some v) h = let same : (p, v) ≡ e = cc in f ∙ ap (λ (x : Place × A). Some x.0) same
    by _ f _ h = cc

-- rows that a unique index keeps apart are alone under their keys
pub alone_under : (table : TableName) (key : RowKey) → list_any is_null (key_cells key) ≡ false → (rows : List (List Cell)) → AllPairs (λ r s. clash table r s ≡ false) rows → length (filter (has_key table key) rows) ≤ 1
alone_under table key whole [] h = omega arith
alone_under table key whole (row ∷ rows) h = by (has_key table key row) refl (alone_under table key whole rows (AllPairs-tail (λ r s. clash table r s ≡ false) row rows h))
  where
    far : All (λ s. clash table row s ≡ false) rows
    far = AllPairs-head (λ r s. clash table r s ≡ false) row rows h

    not_later : has_key table key row ≡ true → (s : List Cell) → clash table row s ≡ false → has_key table key s ≡ false
    not_later e s apart = by (has_key table key s) refl
      where
        by : (b : Bool) → has_key table key s ≡ b → has_key table key s ≡ false
        by false f = f
        by true f =
            let first : key_of table row ≡ key_cells key = (cells_eq-Decides (key_of table row) (key_cells key)).0 e in
            let second : key_of table s ≡ key_cells key = (cells_eq-Decides (key_of table s) (key_cells key)).0 f in
            absurd (false≢true (sym apart ∙ and_from (cells_eq (key_of table row) (key_of table s)) (not (list_any is_null (key_of table row))) ((cells_eq-Decides (key_of table row) (key_of table s)).1 (first ∙ sym second)) (ap (λ k. not (list_any is_null k)) first ∙ ap not whole)))

    by : (b : Bool) → has_key table key row ≡ b → length (filter (has_key table key) rows) ≤ 1 → length (cond b (row ∷ filter (has_key table key) rows) (filter (has_key table key) rows)) ≤ 1
    by false e ih = ih
    by true e ih = subst (λ l. length (row ∷ l) ≤ 1) (sym (filter_none (has_key table key) rows (λ k d lt. not_later e (get_or rows k d) (far k d lt)))) (omega arith)

-- what the first row has at a place, by what it has of another kind there
abbrev pub Joins : {A B : Type 0} → (List Cell → Option (Place × A)) → (List Cell → Option (Place × B)) → (A → Option B) → List Cell → Type 0
Joins {A} {B} first second f row = ((first row ≡ None) × (second row ≡ None)) ⊎ ((p : Place) × (a : A) × (b : B) × (first row ≡ Some (p, a)) × (second row ≡ Some (p, b)) × (f a ≡ Some b))

pub found_through : {A B : Type 0} (first : List Cell → Option (Place × A)) (second : List Cell → Option (Place × B)) (f : A → Option B) (p : Place) (rows : List (List Cell)) → All (Joins first second f) rows → found second p rows ≡ option_and_then f (found first p rows)
found_through first second f p [] h = refl
found_through {A} {B} first second f p (row ∷ rows) h = by (All-head (Joins first second f) row rows h) (found_through first second f p rows (All-tail (Joins first second f) row rows h))
  where
    by : Joins first second f row → found second p rows ≡ option_and_then f (found first p rows) → found second p (row ∷ rows) ≡ option_and_then f (found first p (row ∷ rows))
    by (inl (e, g)) ih = rw (e, g) ih
    by (inr (q, a, b, e, g, v)) ih = rw (e, g) (one (eq_by_cmp place_cmp p q))
      where
        one : (t : Bool) → cond t (Some b) (found second p rows) ≡ option_and_then f (cond t (Some a) (found first p rows))
        one true = sym v
        one false = ih

-- something is found of two kinds at once
abbrev pub Agrees : {A B : Type 0} → (List Cell → Option (Place × A)) → (List Cell → Option (Place × B)) → List Cell → Type 0
Agrees {A} {B} first second row = ((first row ≡ None) × (second row ≡ None)) ⊎ ((p : Place) × (a : A) × (b : B) × (first row ≡ Some (p, a)) × (second row ≡ Some (p, b)))

pub found_both : {A B : Type 0} (first : List Cell → Option (Place × A)) (second : List Cell → Option (Place × B)) (p : Place) (rows : List (List Cell)) → All (Agrees first second) rows → is_some (found first p rows) ≡ is_some (found second p rows)
found_both first second p [] h = refl
found_both {A} {B} first second p (row ∷ rows) h = by (All-head (Agrees first second) row rows h) (found_both first second p rows (All-tail (Agrees first second) row rows h))
  where
    by : Agrees first second row → is_some (found first p rows) ≡ is_some (found second p rows) → is_some (found first p (row ∷ rows)) ≡ is_some (found second p (row ∷ rows))
    by (inl (e, g)) ih = rw (e, g) ih
    by (inr (q, a, b, e, g)) ih = rw (e, g) (one (eq_by_cmp place_cmp p q))
      where
        one : (t : Bool) → is_some (cond t (Some a) (found first p rows)) ≡ is_some (cond t (Some b) (found second p rows))
        one true = refl
        one false = ih

pub agree_if_joined : {A B : Type 0} (first : List Cell → Option (Place × A)) (second : List Cell → Option (Place × B)) (f : A → Option B) (row : List Cell) → Joins first second f row → Agrees first second row
agree_if_joined first second f row (inl both) = inl both
agree_if_joined first second f row (inr (p, a, b, e, g, v)) = inr (p, a, b, e, g)

pub found_never : {A : Type 0} (value : List Cell → Option (Place × A)) (p : Place) (rows : List (List Cell)) → All (λ row. value row ≡ None) rows → found value p rows ≡ None
found_never value p [] h = refl
found_never value p (row ∷ rows) h = rw (All-head (λ row. value row ≡ None) row rows h) (found_never value p rows (All-tail (λ row. value row ≡ None) row rows h))

-- what is found at a place stands in a row of that place
pub found_row : {A : Type 0} (value : List Cell → Option (Place × A)) (p : Place) (rows : List (List Cell)) (a : A) (P : List Cell → Type 0) → All P rows → found value p rows ≡ Some a → (row : List Cell) × (q : Place) × (value row ≡ Some (q, a)) × (p ≡ q) × P row
found_row value p [] a P all h = cc
found_row {A} value p (row ∷ rows) a P all h = by (value row) refl h (found_row value p rows a P (All-tail P row rows all))
  where
    by : (o : Option (Place × A)) → value row ≡ o → find place_cmp p (cons_option o (filter_map value rows)) ≡ Some a → (found value p rows ≡ Some a → (row : List Cell) × (q : Place) × (value row ≡ Some (q, a)) × (p ≡ q) × P row) → (row : List Cell) × (q : Place) × (value row ≡ Some (q, a)) × (p ≡ q) × P row
    by None e h rest = rest h
    by (Some v) e h rest = one (eq_by_cmp place_cmp p v.0) refl h
      where
        one : (t : Bool) → eq_by_cmp place_cmp p v.0 ≡ t → cond t (Some v.1) (found value p rows) ≡ Some a → (row : List Cell) × (q : Place) × (value row ≡ Some (q, a)) × (p ≡ q) × P row
        one true f h = let same : v.1 ≡ a = cc in (row, v.0, e ∙ ap (λ x. Some (v.0, x)) same, places_antisymmetric p v.0 (equal_of (place_cmp p v.0) f), All-head P row rows all)
        one false f h = rest h

-- a place that is read lies at zoom 0 to 30
below : (limit : ℕ) (c : Cell) (n : ℕ) → number_below limit c ≡ Some n → n < limit
below limit (Int (pos m)) n h = by (nat_lt m limit) refl h
  where
    by : (b : Bool) → nat_lt m limit ≡ b → cond b (Some m) None ≡ Some n → n < limit
    by true e k = let same : m ≡ n = cc in subst (λ z. z < limit) same ((Decides-ltb m limit).0 e)
    by false e k = absurd (none-some n k)
below limit _ n h = absurd (none-some n h)

pub place_on_board : (row : List Cell) (p : Place) → place_of row ≡ Some p → IsOnBoard p
place_on_board row p h = zoomed (number_below 31 (cell_at 0 row)) refl
  where
    lined : (z x : ℕ) (o : Option ℕ) → number_below 31 (cell_at 0 row) ≡ Some z → number_below (2 ^ z) (cell_at 1 row) ≡ Some x → number_below (2 ^ z) (cell_at 2 row) ≡ o → IsOnBoard p
    lined z x (Some y) e f g =
        let is : place_of row ≡ Some (record { zoom = z; column = x; row = y }) = simp (e, f, g) in
        let same : record { zoom = z; column = x; row = y } ≡ p = cc in
        subst IsOnBoard same (record { zoom = below 31 (cell_at 0 row) z e; column = below (2 ^ z) (cell_at 1 row) x f; row = below (2 ^ z) (cell_at 2 row) y g })
    lined z x None e f g = let is : place_of row ≡ None = simp (e, f, g) in absurd (none-some p (sym is ∙ h))

    columned : (z : ℕ) (o : Option ℕ) → number_below 31 (cell_at 0 row) ≡ Some z → number_below (2 ^ z) (cell_at 1 row) ≡ o → IsOnBoard p
    columned z (Some x) e f = lined z x (number_below (2 ^ z) (cell_at 2 row)) e f refl
    columned z None e f = let is : place_of row ≡ None = simp (e, f) in absurd (none-some p (sym is ∙ h))

    zoomed : (o : Option ℕ) → number_below 31 (cell_at 0 row) ≡ o → IsOnBoard p
    zoomed (Some z) e = columned z (number_below (2 ^ z) (cell_at 1 row)) e refl
    zoomed None e = let is : place_of row ≡ None = simp e in absurd (none-some p (sym is ∙ h))
