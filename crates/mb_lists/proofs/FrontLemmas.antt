-- Rows of one key cell: what stands under a key, and what the entries of the rows have.
use Rattle.mb_lists.proofs.Common.{All, All-cons, All-head, All-tail, and_from, and_parts, ap, are_apart, are_distinct, arith, Blob, Bool, Cell, cell_at, cell_cmp, cell_cmp-IsAntisymmetric, cell_eq}
use Rattle.mb_lists.proofs.Common.{cell_eq-Decides, cells_eq, cells_eq-Decides, cells_total, cond, cons_option, content_entry, content_of, eq_by_cmp, eq_by_cmp_equiv, false, false≢true, filter}
use Rattle.mb_lists.proofs.Common.{filter_map, filter_none, find, fronts, has_name_kinds, Int, is_eq, is_null, is_text, length, List, list_any, name_entry, nat_cmp, None, not, Null, Option}
use Rattle.mb_lists.proofs.Common.{option_map, option_to_list, Other, refl, slice_cmp, Some, subst, suc, sym, take, Text, text_cell, text_of, tied_itself, true, unwrap_or, ℕ, [], ◌||◌, ◌∙◌, ◌∷◌, ◌≡◌}
use Rattle.mb_lists.proofs.Common.{◌≤◌}
use Rattle.std.specs.FinMap as fin
use Rattle.mb_lists.proofs.Items.{equal_of}
use Rattle.mb_tables.specs.Key.{has_key, key_cells}
use Rattle.mb_tables.specs.Table.{key_width}
use Rattle.mb_tables.specs.declared.key.RowKey.{RowKey}
use Rattle.mb_tables.specs.declared.key.RowKey.TheVariants.{Tile, TextId, IntId}
use Rattle.mb_tables.specs.declared.table.TableName.{TableName}

-- whether a row begins with an id
abbrev pub begins : Cell → List Cell → Bool
begins id row = cell_eq (cell_at 0 row) id

pub never_null : (id c : Cell) → is_null id ≡ false → is_null c ≡ true → cell_eq c id ≡ false
never_null id c h k = by (cell_eq c id) refl
  where
    by : (b : Bool) → cell_eq c id ≡ b → cell_eq c id ≡ false
    by false e = e
    by true e = absurd (false≢true (sym h ∙ (ap is_null (sym ((cell_eq-Decides c id).0 e)) ∙ k)))

-- the key of one cell
pub key_begins : (table : TableName) (key : RowKey) (id : Cell) → key_width table ≡ 1 → key_cells key ≡ id ∷ [] → is_null id ≡ false → (row : List Cell) → has_key table key row ≡ begins id row
key_begins table key id w k whole row = ap (λ n. cells_eq (take n row) (key_cells key)) w ∙ (ap (cells_eq (take 1 row)) k ∙ first row)
  where
    first : (row : List Cell) → cells_eq (take 1 row) (id ∷ []) ≡ begins id row
    first [] = by (cells_eq [] (id ∷ [])) refl ∙ sym (never_null id Null whole refl)
      where
        by : (b : Bool) → cells_eq [] (id ∷ []) ≡ b → cells_eq [] (id ∷ []) ≡ false
        by false e = e
        by true e = absurd (nothing ((cells_eq-Decides [] (id ∷ [])).0 e))
          where
            nothing : [] ≡ id ∷ [] → ⊥
            nothing h = cc
    first (x ∷ row) = by (cells_eq (x ∷ []) (id ∷ [])) refl (cell_eq x id) refl
      where
        by : (a : Bool) → cells_eq (x ∷ []) (id ∷ []) ≡ a → (b : Bool) → cell_eq x id ≡ b → cells_eq (x ∷ []) (id ∷ []) ≡ cell_eq x id
        by true e true f = e ∙ sym f
        by false e false f = e ∙ sym f
        by true e false f = let same : x ≡ id = cc_of ((cells_eq-Decides (x ∷ []) (id ∷ [])).0 e) in absurd (false≢true (sym f ∙ (cell_eq-Decides x id).1 same))
          where
            cc_of : x ∷ [] ≡ id ∷ [] → x ≡ id
            cc_of h = cc
        by false e true f = absurd (false≢true (sym e ∙ (cells_eq-Decides (x ∷ []) (id ∷ [])).1 (ap (λ c. c ∷ []) ((cell_eq-Decides x id).0 f))))

-- cells that a key has aren't null
pub key_whole : (key : RowKey) (id : Cell) → key_cells key ≡ id ∷ [] → is_null id ≡ false
key_whole (TextId t) id h = let e : Text t ≡ id = cc in ap is_null (sym e)
key_whole (IntId n) id h = let e : Int n ≡ id = cc in ap is_null (sym e)
key_whole (Tile z x y) id h = cc

-- no id twice
none_begin : (id : Cell) (rows : List (List Cell)) → is_null id ≡ false → list_any (eq_by_cmp cell_cmp id) (filter (λ c. not (is_null c)) (fronts rows)) ≡ false → All (λ row. begins id row ≡ false) rows
none_begin id [] whole h = λ k d lt. absurd (omega arith)
none_begin id (row ∷ rows) whole h = by (is_null (cell_at 0 row)) refl h (λ k. none_begin id rows whole k)
  where
    by : (b : Bool) → is_null (cell_at 0 row) ≡ b → list_any (eq_by_cmp cell_cmp id) (cond (not b) (cell_at 0 row ∷ filter (λ c. not (is_null c)) (fronts rows)) (filter (λ c. not (is_null c)) (fronts rows))) ≡ false → (list_any (eq_by_cmp cell_cmp id) (filter (λ c. not (is_null c)) (fronts rows)) ≡ false → All (λ row. begins id row ≡ false) rows) → All (λ row. begins id row ≡ false) (row ∷ rows)
    by true e h rest = All-cons (λ row. begins id row ≡ false) row rows (never_null id (cell_at 0 row) whole e) (rest h)
    by false e h rest =
        let two = both_false (eq_by_cmp cell_cmp id (cell_at 0 row)) (list_any (eq_by_cmp cell_cmp id) (filter (λ c. not (is_null c)) (fronts rows))) h in
        All-cons (λ row. begins id row ≡ false) row rows ((eq_by_cmp_equiv cells_total).symm (cell_at 0 row) id ∙ two.0) (rest two.1)
      where
        both_false : (a b : Bool) → (a || b) ≡ false → (a ≡ false) × (b ≡ false)
        both_false true b h = absurd (false≢true (sym h))
        both_false false b h = (refl, h)

two_cells : (row : List Cell) → length row ≡ 2 → row ≡ cell_at 0 row ∷ cell_at 1 row ∷ []
two_cells (a ∷ b ∷ []) h = refl
two_cells [] h = absurd (omega arith)
two_cells (a ∷ []) h = absurd (omega arith)
two_cells (a ∷ b ∷ c ∷ rest) h = absurd (omega arith)

itself : (id : Cell) → eq_by_cmp cell_cmp id id ≡ true
itself id = ap is_eq (tied_itself cells_total id)

-- the rows of an id are the row of its entry
pub filter_entry : (id : Cell) → is_null id ≡ false → (rows : List (List Cell)) → All (λ row. length row ≡ 2) rows → are_apart (fronts rows) ≡ true → filter (begins id) rows ≡ option_to_list (option_map (λ cell. id ∷ cell ∷ []) (fin.find cell_cmp id (filter_map content_entry rows)))
filter_entry id whole [] w h = refl
filter_entry id whole (row ∷ rows) w h = by (is_null (cell_at 0 row)) refl h (λ k. filter_entry id whole rows (All-tail (λ row. length row ≡ 2) row rows w) k)
  where
    by : (b : Bool) → is_null (cell_at 0 row) ≡ b → are_distinct cell_cmp (cond (not b) (cell_at 0 row ∷ filter (λ c. not (is_null c)) (fronts rows)) (filter (λ c. not (is_null c)) (fronts rows))) ≡ true → (are_apart (fronts rows) ≡ true → filter (begins id) rows ≡ option_to_list (option_map (λ cell. id ∷ cell ∷ []) (fin.find cell_cmp id (filter_map content_entry rows)))) → filter (begins id) (row ∷ rows) ≡ option_to_list (option_map (λ cell. id ∷ cell ∷ []) (fin.find cell_cmp id (cons_option (cond b None (Some (cell_at 0 row, cell_at 1 row))) (filter_map content_entry rows))))
    by true e h rest = ap (λ b. cond b (row ∷ filter (begins id) rows) (filter (begins id) rows)) (never_null id (cell_at 0 row) whole e) ∙ rest h
    by false e h rest = one (eq_by_cmp cell_cmp id (cell_at 0 row)) refl
      where
        two : (not (list_any (eq_by_cmp cell_cmp (cell_at 0 row)) (filter (λ c. not (is_null c)) (fronts rows))) ≡ true) × (are_apart (fronts rows) ≡ true)
        two = and_parts _ _ h

        flipped : (b : Bool) → not b ≡ true → b ≡ false
        flipped false h = refl
        flipped true h = absurd (false≢true h)

        one : (b : Bool) → eq_by_cmp cell_cmp id (cell_at 0 row) ≡ b → filter (begins id) (row ∷ rows) ≡ option_to_list (option_map (λ cell. id ∷ cell ∷ []) (cond b (Some (cell_at 1 row)) (fin.find cell_cmp id (filter_map content_entry rows))))
        one true f =
            let same : id ≡ cell_at 0 row = cell_cmp-IsAntisymmetric id (cell_at 0 row) (equal_of (cell_cmp id (cell_at 0 row)) f) in
            let none : All (λ r. begins id r ≡ false) rows = none_begin id rows whole (ap (λ i. list_any (eq_by_cmp cell_cmp i) (filter (λ c. not (is_null c)) (fronts rows))) same ∙ flipped _ two.0) in
            ap (λ b. cond b (row ∷ filter (begins id) rows) (filter (begins id) rows)) ((eq_by_cmp_equiv cells_total).symm (cell_at 0 row) id ∙ f)
            ∙ (ap (λ l. row ∷ l) (filter_none (begins id) rows none)
            ∙ ap (λ r. r ∷ []) (two_cells row (All-head (λ row. length row ≡ 2) row rows w) ∙ ap (λ i. i ∷ cell_at 1 row ∷ []) (sym same)))
        one false f = ap (λ b. cond b (row ∷ filter (begins id) rows) (filter (begins id) rows)) ((eq_by_cmp_equiv cells_total).symm (cell_at 0 row) id ∙ f) ∙ rest two.1

-- and the entry is that of the rows of the id
pub entry_from : (id : Cell) → is_null id ≡ false → (rows : List (List Cell)) (o : Option Cell) → filter (begins id) rows ≡ option_to_list (option_map (λ cell. id ∷ cell ∷ []) o) → fin.find cell_cmp id (filter_map content_entry rows) ≡ o
entry_from id whole rows o h = sym (among rows) ∙ (ap (λ l. fin.find cell_cmp id (filter_map content_entry l)) h ∙ last o)
  where
    among : (rows : List (List Cell)) → fin.find cell_cmp id (filter_map content_entry (filter (begins id) rows)) ≡ fin.find cell_cmp id (filter_map content_entry rows)
    among [] = refl
    among (row ∷ rows) = by (is_null (cell_at 0 row)) refl (begins id row) refl (among rows)
      where
        rest : List (List Cell)
        rest = filter (begins id) rows

        by : (n : Bool) → is_null (cell_at 0 row) ≡ n → (b : Bool) → begins id row ≡ b → fin.find cell_cmp id (filter_map content_entry rest) ≡ fin.find cell_cmp id (filter_map content_entry rows) → fin.find cell_cmp id (filter_map content_entry (cond b (row ∷ rest) rest)) ≡ fin.find cell_cmp id (filter_map content_entry (row ∷ rows))
        by true e true f ih = absurd (false≢true (sym (never_null id (cell_at 0 row) whole e) ∙ f))
        by true e false f ih = rw e ih
        by false e true f ih = let t : eq_by_cmp cell_cmp id (cell_at 0 row) ≡ true = (eq_by_cmp_equiv cells_total).symm id (cell_at 0 row) ∙ f in rw (e, t) refl
        by false e false f ih = let t : eq_by_cmp cell_cmp id (cell_at 0 row) ≡ false = (eq_by_cmp_equiv cells_total).symm id (cell_at 0 row) ∙ f in rw (e, t) ih

    last : (o : Option Cell) → fin.find cell_cmp id (filter_map content_entry (option_to_list (option_map (λ cell. id ∷ cell ∷ []) o))) ≡ o
    last None = refl
    last (Some cell) = rw (whole, itself id) refl

fewer : (row : List Cell) (rows : List (List Cell)) (id : Cell) (b : Bool) → length (cond b (row ∷ filter (begins id) rows) (filter (begins id) rows)) ≤ 1 → length (filter (begins id) rows) ≤ 1
fewer row rows id true h = omega arith
fewer row rows id false h = h

never : (id : Cell) (rows : List (List Cell)) → filter (begins id) rows ≡ [] → list_any (eq_by_cmp cell_cmp id) (filter (λ c. not (is_null c)) (fronts rows)) ≡ false
never id [] e = refl
never id (r ∷ rows) e = cases (begins id r) refl (is_null (cell_at 0 r)) refl e (λ f. never id rows f)
  where
    cases : (b : Bool) → begins id r ≡ b → (n : Bool) → is_null (cell_at 0 r) ≡ n → cond b (r ∷ filter (begins id) rows) (filter (begins id) rows) ≡ [] → (filter (begins id) rows ≡ [] → list_any (eq_by_cmp cell_cmp id) (filter (λ c. not (is_null c)) (fronts rows)) ≡ false) → list_any (eq_by_cmp cell_cmp id) (cond (not n) (cell_at 0 r ∷ filter (λ c. not (is_null c)) (fronts rows)) (filter (λ c. not (is_null c)) (fronts rows))) ≡ false
    cases true f n g e rest = cc
    cases false f true g e rest = rest e
    cases false f false g e rest = rw ((eq_by_cmp_equiv cells_total).symm id (cell_at 0 r) ∙ f) (rest e)

-- where each id has at most one row no id stands twice
pub apart_from : (Keyed : Cell → Type 0) (rows : List (List Cell)) → All (λ row. is_null (cell_at 0 row) ≡ false → Keyed (cell_at 0 row)) rows → ((id : Cell) → is_null id ≡ false → Keyed id → length (filter (begins id) rows) ≤ 1) → are_apart (fronts rows) ≡ true
apart_from Keyed [] k h = refl
apart_from Keyed (row ∷ rows) k h = by (is_null (cell_at 0 row)) refl (apart_from Keyed rows (All-tail (λ row. is_null (cell_at 0 row) ≡ false → Keyed (cell_at 0 row)) row rows k) (λ id n p. fewer row rows id (begins id row) (h id n p)))
  where
    no_more : {X : Type 0} (xs : List X) → suc (length xs) ≤ 1 → xs ≡ []
    no_more [] h = refl
    no_more (x ∷ xs) h = absurd (omega arith)

    by : (b : Bool) → is_null (cell_at 0 row) ≡ b → are_apart (fronts rows) ≡ true → are_distinct cell_cmp (cond (not b) (cell_at 0 row ∷ filter (λ c. not (is_null c)) (fronts rows)) (filter (λ c. not (is_null c)) (fronts rows))) ≡ true
    by true e rest = rest
    by false e rest =
        let id = cell_at 0 row in
        let one : length (filter (begins id) (row ∷ rows)) ≤ 1 = h id e (All-head (λ row. is_null (cell_at 0 row) ≡ false → Keyed (cell_at 0 row)) row rows k e) in
        let more : suc (length (filter (begins id) rows)) ≤ 1 = subst (λ b. length (cond b (row ∷ filter (begins id) rows) (filter (begins id) rows)) ≤ 1) (itself id) one in
        and_from (not (list_any (eq_by_cmp cell_cmp id) (filter (λ c. not (is_null c)) (fronts rows)))) (are_apart (fronts rows)) (ap not (never id rows (no_more (filter (begins id) rows) more))) rest

-- contents that are there are those of the entry
pub content_found : (id : Cell) → is_null id ≡ false → (rows : List (List Cell)) → list_any (begins id) rows ≡ true → fin.find cell_cmp id (filter_map content_entry rows) ≡ Some (content_of rows id)
content_found id whole [] h = absurd (false≢true h)
content_found id whole (row ∷ rows) h = by (is_null (cell_at 0 row)) refl (begins id row) refl h (content_found id whole rows)
  where
    by : (n : Bool) → is_null (cell_at 0 row) ≡ n → (b : Bool) → begins id row ≡ b → (b || list_any (begins id) rows) ≡ true → (list_any (begins id) rows ≡ true → fin.find cell_cmp id (filter_map content_entry rows) ≡ Some (content_of rows id)) → fin.find cell_cmp id (filter_map content_entry (row ∷ rows)) ≡ Some (cell_at 1 (unwrap_or (cond b (Some row) (find (begins id) rows)) []))
    by true e true f h rest = absurd (false≢true (sym (never_null id (cell_at 0 row) whole e) ∙ f))
    by true e false f h rest = rw e (rest h)
    by false e true f h rest = let t : eq_by_cmp cell_cmp id (cell_at 0 row) ≡ true = (eq_by_cmp_equiv cells_total).symm id (cell_at 0 row) ∙ f in rw (e, t) refl
    by false e false f h rest = let t : eq_by_cmp cell_cmp id (cell_at 0 row) ≡ false = (eq_by_cmp_equiv cells_total).symm id (cell_at 0 row) ∙ f in rw (e, t) (rest h)

pub any_from_filter : {X : Type 0} (p : X → Bool) (xs : List X) (y : X) (ys : List X) → filter p xs ≡ y ∷ ys → list_any p xs ≡ true
any_from_filter p [] y ys h = cc
any_from_filter p (x ∷ xs) y ys h = by (p x) h (λ k. any_from_filter p xs y ys k)
  where
    by : (b : Bool) → cond b (x ∷ filter p xs) (filter p xs) ≡ y ∷ ys → (filter p xs ≡ y ∷ ys → list_any p xs ≡ true) → (b || list_any p xs) ≡ true
    by true h rest = refl
    by false h rest = rest h

-- an entry's key is the front of a row, and not null
pub entry_key : (P : List Cell → Type 0) (id cell : Cell) (rows : List (List Cell)) → All P rows → fin.find cell_cmp id (filter_map content_entry rows) ≡ Some cell → (row : List Cell) × (id ≡ cell_at 0 row) × (is_null (cell_at 0 row) ≡ false) × (cell_at 1 row ≡ cell) × P row
entry_key P id cell [] all h = cc
entry_key P id cell (row ∷ rows) all h = by (is_null (cell_at 0 row)) refl h (entry_key P id cell rows (All-tail P row rows all))
  where
    by : (n : Bool) → is_null (cell_at 0 row) ≡ n → fin.find cell_cmp id (cons_option (cond n None (Some (cell_at 0 row, cell_at 1 row))) (filter_map content_entry rows)) ≡ Some cell → (fin.find cell_cmp id (filter_map content_entry rows) ≡ Some cell → (row : List Cell) × (id ≡ cell_at 0 row) × (is_null (cell_at 0 row) ≡ false) × (cell_at 1 row ≡ cell) × P row) → (row : List Cell) × (id ≡ cell_at 0 row) × (is_null (cell_at 0 row) ≡ false) × (cell_at 1 row ≡ cell) × P row
    by true e h rest = rest h
    by false e h rest = one (eq_by_cmp cell_cmp id (cell_at 0 row)) refl h
      where
        one : (b : Bool) → eq_by_cmp cell_cmp id (cell_at 0 row) ≡ b → cond b (Some (cell_at 1 row)) (fin.find cell_cmp id (filter_map content_entry rows)) ≡ Some cell → (row : List Cell) × (id ≡ cell_at 0 row) × (is_null (cell_at 0 row) ≡ false) × (cell_at 1 row ≡ cell) × P row
        one true f h = let same : cell_at 1 row ≡ cell = cc in (row, cell_cmp-IsAntisymmetric id (cell_at 0 row) (equal_of (cell_cmp id (cell_at 0 row)) f), e, same, All-head P row rows all)
        one false f h = rest h

-- names are entries of texts
own_text : (value : Cell) → is_text value ≡ true → text_cell (text_of value) ≡ value
own_text (Text text) h = refl
own_text Null h = refl
own_text (Int n) h = absurd (false≢true h)
own_text (Blob bytes) h = absurd (false≢true h)
own_text Other h = absurd (false≢true h)

pub names_as_entries : (name : List ℕ) (rows : List (List Cell)) → All (λ row. has_name_kinds row ≡ true) rows → fin.find cell_cmp (Text name) (filter_map content_entry rows) ≡ option_map text_cell (fin.find (slice_cmp nat_cmp) name (filter_map name_entry rows))
names_as_entries name [] h = refl
names_as_entries name (row ∷ rows) h =
    let two = and_parts (is_text (cell_at 0 row)) (is_text (cell_at 1 row)) (All-head (λ row. has_name_kinds row ≡ true) row rows h) in
    by (cell_at 0 row) refl two.0 two.1 (names_as_entries name rows (All-tail (λ row. has_name_kinds row ≡ true) row rows h))
  where
    by : (c : Cell) → cell_at 0 row ≡ c → is_text c ≡ true → is_text (cell_at 1 row) ≡ true → fin.find cell_cmp (Text name) (filter_map content_entry rows) ≡ option_map text_cell (fin.find (slice_cmp nat_cmp) name (filter_map name_entry rows)) → fin.find cell_cmp (Text name) (filter_map content_entry (row ∷ rows)) ≡ option_map text_cell (fin.find (slice_cmp nat_cmp) name (filter_map name_entry (row ∷ rows)))
    by Null e k v ih = rw e ih
    by (Text t) e k v ih = rw e (one (eq_by_cmp (slice_cmp nat_cmp) name t))
      where
        one : (b : Bool) → cond b (Some (cell_at 1 row)) (fin.find cell_cmp (Text name) (filter_map content_entry rows)) ≡ option_map text_cell (cond b (Some (text_of (cell_at 1 row))) (fin.find (slice_cmp nat_cmp) name (filter_map name_entry rows)))
        one true = ap Some (sym (own_text (cell_at 1 row) v))
        one false = ih
    by (Int n) e k v ih = absurd (false≢true k)
    by (Blob b) e k v ih = absurd (false≢true k)
    by Other e k v ih = absurd (false≢true k)

pub text_cells : (a b : Option (Option (List ℕ))) → option_map text_cell a ≡ option_map text_cell b → a ≡ b
text_cells None None h = refl
text_cells (Some None) (Some None) h = refl
text_cells (Some (Some s)) (Some (Some t)) h = let e : s ≡ t = cc in ap (λ x. Some (Some x)) e
text_cells None (Some v) h = cc
text_cells (Some v) None h = cc
text_cells (Some None) (Some (Some t)) h = cc
text_cells (Some (Some s)) (Some None) h = cc
