-- The changes of entries, one after another.
use Rattle.mb_loaded.proofs.Common.{All, and_left, ap, Apart, arith, Bool, Cell, cell_cmp, cells_eq, cells_eq-Decides, cells_total, Change, change_by, Content, content_at, content_change}
use Rattle.mb_loaded.proofs.Common.{content_table, eq_by_cmp, false, false≢true, filter_map, front, get_or, get_or_default, get_or_from_slice_get, HashAlgorithm, id_at, id_key, inl, inr, Int, IntId}
use Rattle.mb_loaded.proofs.Common.{is_eq, Kept, key_width, length, List, listed_change, MbtType, Metadata, name_change, name_of, nat_cmp, nat_list_cmp_total, None, Option, option_and_then, Ordering}
use Rattle.mb_loaded.proofs.Common.{Place, place_cmp, place_of, places_total, Put, refl, Removed, row_of_content, row_of_name, row_of_tile, RowKey, slice_cmp, slice_get_within, Some, Standing}
use Rattle.mb_loaded.proofs.Common.{StoredName, StoredTile, sym, table_eq, TableName, take, Text, TextId, tied_itself, tile_change, tile_key, tile_table, true, with_any, ℕ, [], ◌&&◌, ◌++◌, ◌+◌, ◌<◌}
use Rattle.mb_loaded.proofs.Common.{◌∙◌, ◌∷◌, ◌≡◌, ◌⊎◌}
use Rattle.mb_loaded.proofs.Listed.{more}
use Rattle.mb_tables.specs.Key.{has_key, key_cells}

-- what a change is made of
pub change_cases : (s : Standing) (row : List Cell) (change : Option (List Cell) → Change) (c : Change) → change_by s row change ≡ Some c → (r : Option (List Cell)) × (change r ≡ c) × (((s ≡ Put) × (r ≡ Some row)) ⊎ ((s ≡ Removed) × (r ≡ None)))
change_cases Kept row change c h = cc
change_cases Put row change c h = (Some row, cc, inl (refl, refl))
change_cases Removed row change c h = (None, cc, inr (refl, refl))

and_second : (a b : Bool) → (b ≡ true → ⊥) → (a && b) ≡ false
and_second true true h = absurd (h refl)
and_second _ _ h = refl

module _ {K X : Type 0} {R : K → K → Ordering} (key : X → K) (cells : K → List Cell) (apart_cells : (k l : K) → cells k ≡ cells l → eq_by_cmp R k l ≡ true) (table : TableName) (change : X → Option Change) (of : (x : X) (c : Change) → change x ≡ Some c → (c.table ≡ table) × (key_cells c.key ≡ cells (key x))) where
  pub step : (base : List Change) → All (λ c. table_eq c.table table ≡ false) base → (xs : List X) (i : ℕ) (x : X) (old new : List Change) → Apart R key xs → i < length xs → x ≡ get_or xs i x → old ≡ base ++ filter_map change (take i xs) → new ≡ with_any old (change x) → new ≡ base ++ filter_map change (take (i + 1) xs)
  step base others xs i x old new apart lt at was is =
      is ∙ (ap (λ cs. with_any cs (change x)) was ∙ more change base xs i x lt at (λ c e. (
        (λ k d there. and_left (table_eq d.table c.table) (cells_eq (key_cells d.key) (key_cells c.key))
            (ap (table_eq d.table) (of x c e).0 ∙ (ap (λ (z : Change). table_eq z.table table) (sym (get_or_from_slice_get base k d d there)) ∙ others k d (slice_get_within base k d there)))),
        λ j y d less there f. and_second (table_eq d.table c.table) (cells_eq (key_cells d.key) (key_cells c.key)) (λ same.
            let k : cells (key y) ≡ cells (key x) = sym (of y d f).1 ∙ ((cells_eq-Decides (key_cells d.key) (key_cells c.key)).0 same ∙ (of x c e).1) in
            let here : get_or xs j x ≡ y = get_or_from_slice_get xs j y x there in
            let far : eq_by_cmp R (key (get_or xs j x)) (key (get_or xs i x)) ≡ false = apart.pairs j i x less lt in
            false≢true (sym far ∙ (ap (λ z. eq_by_cmp R (key z) (key (get_or xs i x))) here ∙ (ap (λ z. eq_by_cmp R (key y) (key z)) (sym at) ∙ apart_cells (key y) (key x) k)))),
      )))

-- the cells of keys tell the keys apart
pub front_same : (p q : Place) → front p ≡ front q → p ≡ q
front_same p q h = let z : p.zoom ≡ q.zoom = cc in let x : p.column ≡ q.column = cc in let y : p.row ≡ q.row = cc in λ i. record { zoom = z i; column = x i; row = y i }

places_by : (p q : Place) → front p ≡ front q → eq_by_cmp place_cmp p q ≡ true
places_by p q h = ap (eq_by_cmp place_cmp p) (sym (front_same p q h)) ∙ ap is_eq (tied_itself places_total p)

ids_by : (a b : Cell) → a ∷ [] ≡ b ∷ [] → eq_by_cmp cell_cmp a b ≡ true
ids_by a b h = let e : a ≡ b = cc in ap (eq_by_cmp cell_cmp a) (sym e) ∙ ap is_eq (tied_itself cells_total a)

names_by : (a b : List ℕ) → Text a ∷ [] ≡ Text b ∷ [] → eq_by_cmp (slice_cmp nat_cmp) a b ≡ true
names_by a b h = let e : a ≡ b = cc in ap (eq_by_cmp (slice_cmp nat_cmp) a) (sym e) ∙ ap is_eq (tied_itself nat_list_cmp_total a)

-- the changes of tiles, of contents and of names are of their tables and keys
pub of_tile : (layout : MbtType) (a : HashAlgorithm) (contents : List Content) (t : StoredTile) (c : Change) → tile_change layout a contents t ≡ Some c → (c.table ≡ tile_table layout) × (key_cells c.key ≡ front (place_of t))
of_tile layout a contents t c h =
    let m = change_cases t.standing (row_of_tile layout a contents t) (λ row. record { table = tile_table layout; key = tile_key (place_of t); row = row }) c h in
    (ap (λ (c : Change). c.table) (sym m.1), ap (λ (c : Change). key_cells c.key) (sym m.1))

pub id_cells : (id : Cell) (key : RowKey) → id_key id ≡ Some key → key_cells key ≡ id ∷ []
id_cells (Text text) key h = let e : TextId text ≡ key = cc in ap key_cells (sym e)
id_cells (Int n) key h = let e : IntId n ≡ key = cc in ap key_cells (sym e)
id_cells _ key h = cc

pub of_content : (layout : MbtType) (c : Content) (d : Change) → content_change layout c ≡ Some d → (d.table ≡ content_table layout) × (key_cells d.key ≡ c.id ∷ [])
of_content layout c d h = by (id_key c.id) refl h
  where
    by : (o : Option RowKey) → id_key c.id ≡ o → option_and_then (λ key. change_by c.standing (row_of_content c) (λ row. record { table = content_table layout; key = key; row = row })) o ≡ Some d → (d.table ≡ content_table layout) × (key_cells d.key ≡ c.id ∷ [])
    by None e h = cc
    by (Some key) e h =
        let m = change_cases c.standing (row_of_content c) (λ row. record { table = content_table layout; key = key; row = row }) d h in
        (ap (λ (c : Change). c.table) (sym m.1), ap (λ (c : Change). key_cells c.key) (sym m.1) ∙ id_cells c.id key e)

pub of_name : (n : StoredName) (c : Change) → name_change n ≡ Some c → (c.table ≡ Metadata) × (key_cells c.key ≡ Text n.name ∷ [])
of_name n c h =
    let m = change_cases n.standing (row_of_name n) (λ row. record { table = Metadata; key = TextId n.name; row = row }) c h in
    (ap (λ (c : Change). c.table) (sym m.1), ap (λ (c : Change). key_cells c.key) (sym m.1))

-- one more tile, one more of the contents, one more name
pub tile_step : (layout : MbtType) (a : HashAlgorithm) (contents : List Content) (ts : List StoredTile) (i : ℕ) (t : StoredTile) (old new : List Change) → Apart place_cmp place_of ts → i < length ts → t ≡ get_or ts i t → old ≡ filter_map (tile_change layout a contents) (take i ts) → new ≡ with_any old (tile_change layout a contents t) → new ≡ filter_map (tile_change layout a contents) (take (i + 1) ts)
tile_step layout a contents = step place_of front places_by (tile_table layout) (tile_change layout a contents) (of_tile layout a contents) [] (λ k d lt. absurd (omega arith))

content_step : (layout : MbtType) (contents : List Content) (base : List Change) → All (λ c. table_eq c.table (content_table layout) ≡ false) base → (order : List ℕ) (i : ℕ) (j : ℕ) (old new : List Change) → Apart cell_cmp (id_at contents) order → i < length order → j ≡ get_or order i j → old ≡ base ++ filter_map (listed_change layout contents) (take i order) → new ≡ with_any old (listed_change layout contents j) → new ≡ base ++ filter_map (listed_change layout contents) (take (i + 1) order)
content_step layout contents = step (id_at contents) (λ id. id ∷ []) ids_by (content_table layout) (listed_change layout contents) (λ j c h. of_content layout (content_at contents j) c h)

-- the same of an index that is read at another default
pub listed_step : (layout : MbtType) (contents : List Content) (base : List Change) → All (λ c. table_eq c.table (content_table layout) ≡ false) base → (order : List ℕ) (i d : ℕ) (old new : List Change) → Apart cell_cmp (id_at contents) order → i < length order → old ≡ base ++ filter_map (listed_change layout contents) (take i order) → new ≡ with_any old (listed_change layout contents (get_or order i d)) → new ≡ base ++ filter_map (listed_change layout contents) (take (i + 1) order)
listed_step layout contents base others order i d old new apart lt was is = content_step layout contents base others order i (get_or order i d) old new apart lt (get_or_default order i d (get_or order i d) lt) was is

pub name_step : (base : List Change) → All (λ c. table_eq c.table Metadata ≡ false) base → (ns : List StoredName) (i : ℕ) (n : StoredName) (old new : List Change) → Apart (slice_cmp nat_cmp) name_of ns → i < length ns → n ≡ get_or ns i n → old ≡ base ++ filter_map name_change (take i ns) → new ≡ with_any old (name_change n) → new ≡ base ++ filter_map name_change (take (i + 1) ns)
name_step = step name_of (λ n. Text n ∷ []) names_by Metadata name_change of_name

-- rows stand under their keys
pub keyed_row : (table : TableName) (key : RowKey) (id cell : Cell) (row : List Cell) → key_width table ≡ 1 → key_cells key ≡ id ∷ [] → row ≡ id ∷ cell ∷ [] → has_key table key row ≡ true
keyed_row table key id cell row w k r = rw (w, r) ((cells_eq-Decides (id ∷ []) (key_cells key)).1 (sym k))
