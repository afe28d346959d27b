-- The changes of all entries are those of the set.
use Rattle.mb_loaded.proofs.Common.{All, ap, Apart, AreChangesOf, at_key, Blob, blob_cell, Bool, Cache, Cell, cell_cmp, cell_cmp-IsAntisymmetric, cells_for, cells_kept, cells_total, Change, change_by}
use Rattle.mb_loaded.proofs.Common.{cond, contains_key, Content, content_at, content_row_by, content_table, content_value, contents_of, Dates, Decides-eqb, digest_cell, entries_by, equal_of, false}
use Rattle.mb_loaded.proofs.Common.{false≢true, filter_map, find, Flat, FlatWithHash, found_in, found_itself, from_entries, front, get, get_or, get_or_from_slice_get, hash_cell, HashAlgorithm, Held}
use Rattle.mb_loaded.proofs.Common.{held_of, id_at, id_edited, id_key, if_edited, inl, inr, Int, IntId, is_null, is_own_table, is_removed, is_some, IsAntisymmetric, IsName, IsTile, IsTotalOrder, Kept}
use Rattle.mb_loaded.proofs.Common.{List, listed_change, look_up, MbtType, Metadata, name_change, name_edited, name_of, name_row_by, name_value, names_antisymmetric, nat_cmp, nat_list_cmp_total}
use Rattle.mb_loaded.proofs.Common.{no_dates, None, Normalized, nothing, Null, Option, option_and_then, option_map, or_left, or_right, Ordering, PatchType, place_cmp, place_edited, place_of}
use Rattle.mb_loaded.proofs.Common.{places_antisymmetric, places_total, Put, refl, Removed, row_of_content, row_of_name, row_of_tile, RowKey, slice_cmp, slice_get, slice_get-get_or, slice_get_within}
use Rattle.mb_loaded.proofs.Common.{Some, Standing, StoredName, StoredTile, subst, sym, table_eq, table_number, TableName, Text, text_cell, text_of, TextId, Tile, tile_change, tile_dates, tile_id}
use Rattle.mb_loaded.proofs.Common.{tile_key, tile_row_by, tile_table, tile_value, tiles_held, true, unless_removed, unwrap_or, ℕ, ℤ, [], ◌++◌, ◌||◌, ◌∙◌, ◌∷◌, ◌≡◌, ◌⊎◌}
use Rattle.mb_tables.specs.CellKinds.{is_text}
use Rattle.mb_loaded.proofs.ChangeSteps.{change_cases, of_content, of_name, of_tile}
use Rattle.mb_loaded.proofs.Listed.{at_right, in_append, in_mapped, keeps_mapped}
use Rattle.mb_loaded.proofs.MoreContents.{at_left}
use Rattle.mb_tables.specs.declared.kind.NormalizedSchema.TheVariants.{Hash}

-- the tables of a layout are different
pub table_itself : (t u : TableName) → t ≡ u → table_eq t u ≡ true
table_itself t u h = (Decides-eqb (table_number t) (table_number u)).1 (ap table_number h)

pub contents_apart : (layout : MbtType) → table_eq (tile_table layout) (content_table layout) ≡ false
contents_apart (Normalized view Hash) = refl
contents_apart _ = refl

pub names_apart : (layout : MbtType) → (table_eq (tile_table layout) Metadata ≡ false) × (table_eq (content_table layout) Metadata ≡ false)
names_apart (Normalized view Hash) = (refl, refl)
names_apart _ = (refl, refl)

other : (t u : TableName) → table_eq t u ≡ false → table_eq u t ≡ false
other t u h = by (table_eq u t) refl
  where
    by : (b : Bool) → table_eq u t ≡ b → table_eq u t ≡ false
    by true e = absurd (false≢true (sym h ∙ (Decides-eqb (table_number t) (table_number u)).1 (sym ((Decides-eqb (table_number u) (table_number t)).0 e))))
    by false e = e

some_of : {A B : Type 0} (f : A → Option B) (o : Option A) → is_some (option_and_then f o) ≡ true → (x : A) × (o ≡ Some x) × (is_some (f x) ≡ true)
some_of f None h = absurd (false≢true h)
some_of f (Some x) h = (x, refl, h)

pub there : {A : Type 0} (o : Option A) → is_some o ≡ true → (x : A) × (o ≡ Some x)
there (Some x) h = (x, refl)
there None h = absurd (false≢true h)

-- an entry that was edited has a change
made_by : (s : Standing) (row : List Cell) (change : Option (List Cell) → Change) → is_some (if_edited s) ≡ true → (r : Option (List Cell)) × (change_by s row change ≡ Some (change r))
made_by Kept row change h = absurd (false≢true h)
made_by Put row change h = (Some row, refl)
made_by Removed row change h = (None, refl)

was_edited : (s : Standing) (row : List Cell) (change : Option (List Cell) → Change) (c : Change) → change_by s row change ≡ Some c → is_some (if_edited s) ≡ true
was_edited Kept row change c h = cc
was_edited _ row change c h = refl

module _ {K X : Type 0} {R : K → K → Ordering} (total : IsTotalOrder R) (anti : IsAntisymmetric R) (key : X → K) (xs : List X) (apart : Apart R key xs) where
  edited_item : (standing : X → Standing) (k : K) → contains_key (from_entries {R = R} (entries_by key (λ x. if_edited (standing x)) xs)) k ≡ true → (i : ℕ) × (x : X) × (slice_get xs i ≡ Some x) × (k ≡ key x) × (is_some (if_edited (standing x)) ≡ true)
  edited_item standing k h =
      let o = some_of (λ x. if_edited (standing x)) (find (at_key R key k) xs) (ap is_some (sym (look_up total key (λ x. if_edited (standing x)) k xs apart)) ∙ h) in
      let f = found_in (at_key R key k) xs o.0 o.1 in
      (f.0, o.0, f.1, anti k (key o.0) (equal_of (R k (key o.0)) f.2), o.2)

  item_value : {V : Type 0} (value : X → Option V) (i : ℕ) (x : X) → slice_get xs i ≡ Some x → get (from_entries {R = R} (entries_by key value xs)) (key x) ≡ value x
  item_value value i x at = look_up total key value (key x) xs apart ∙ ap (option_and_then value) (found_itself total key xs i x apart at)

-- the row that is put has what the state has
hash_of : (a : HashAlgorithm) (cell : Cell) (o : Option (List ℕ)) → contents_of cell ≡ Some o → (blob_cell o ≡ cell) × (hash_cell a o ≡ digest_cell a cell)
hash_of a (Blob bytes) o h = let e : Some bytes ≡ o = cc in (ap blob_cell (sym e), ap (hash_cell a) (sym e))
hash_of a Null o h = let e : None ≡ o = cc in (ap blob_cell (sym e), ap (hash_cell a) (sym e))
hash_of a _ o h = cc

own_id : (id : Cell) → unwrap_or (cond (is_null id) None (Some id)) Null ≡ id
own_id Null = refl
own_id _ = refl

same_cells : (layout : MbtType) (a : HashAlgorithm) (c : Content) (dates : Option Dates) (o : Option (List ℕ)) → contents_of c.cell ≡ Some o → cells_for layout a o (cond (is_null c.id) None (Some c.id)) dates ≡ cells_kept layout a c dates
same_cells Flat a c dates o h = ap (λ x. x ∷ []) (hash_of a c.cell o h).0
same_cells FlatWithHash a c dates o h = let e = hash_of a c.cell o h in ap (λ x. x ∷ hash_cell a o ∷ []) e.0 ∙ ap (λ y. c.cell ∷ y ∷ []) e.1
same_cells (Normalized view schema) a c dates o h = ap (λ x. x ∷ []) (own_id c.id)
same_cells Cache a c dates o h = let d = unwrap_or dates no_dates in ap (λ x. d.fetched ∷ d.expires ∷ d.etag ∷ x ∷ []) (hash_of a c.cell o h).0

row_is : (layout : MbtType) (a : HashAlgorithm) (contents : List Content) (t : StoredTile) → IsTile contents t → (r : Option (List Cell)) → ((t.standing ≡ Put) × (r ≡ Some (row_of_tile layout a contents t))) ⊎ ((t.standing ≡ Removed) × (r ≡ None)) → r ≡ option_map (λ o. front (place_of t) ++ cells_for layout a o (tile_id contents t) (tile_dates t)) (tile_value contents t)
row_is layout a contents t whole r (inr (gone, none)) = none ∙ ap (option_map (λ o. front (place_of t) ++ cells_for layout a o (tile_id contents t) (tile_dates t))) (sym (ap (λ s. unless_removed s (contents_of (content_at contents t.contents).cell)) gone))
row_is layout a contents t whole r (inl (put, some)) =
    let c = content_at contents t.contents in
    let o = there (contents_of c.cell) (whole (ap is_removed put)) in
    let value : tile_value contents t ≡ Some o.0 = ap (λ s. unless_removed s (contents_of c.cell)) put ∙ o.1 in
    let id : tile_id contents t ≡ cond (is_null c.id) None (Some c.id) = ap (λ s. unless_removed s (cond (is_null c.id) None (Some c.id))) put in
    let times : tile_dates t ≡ t.dates = ap (λ s. unless_removed s t.dates) put in
    some ∙ sym (ap (option_map (λ o. front (place_of t) ++ cells_for layout a o (tile_id contents t) (tile_dates t))) value
    ∙ ap (λ cells. Some (front (place_of t) ++ cells)) (ap (λ x. cells_for layout a o.0 x (tile_dates t)) id ∙ (ap (cells_for layout a o.0 (cond (is_null c.id) None (Some c.id))) times ∙ same_cells layout a c t.dates o.0 o.1)))

own_text : (value : Cell) → is_text value ≡ true → text_cell (text_of value) ≡ value
own_text (Text text) h = refl
own_text Null h = refl
own_text _ h = absurd (false≢true h)

-- each change of a list of three parts is of one of them
in_three : (a b c : List Change) (k : ℕ) (x : Change) → slice_get ((a ++ b) ++ c) k ≡ Some x → ((i : ℕ) × (slice_get a i ≡ Some x)) ⊎ (((i : ℕ) × (slice_get b i ≡ Some x)) ⊎ ((i : ℕ) × (slice_get c i ≡ Some x)))
in_three a b c k x h = elim (in_append (a ++ b) c k x h) [
  | inl p ↦ elim (in_append a b k x p) [ inl q ↦ inl (k, q) | inr q ↦ inr (inl q) ]
  | inr p ↦ inr (inr p)
]

each : (P : Change → Type 0) (cs : List Change) → ((k : ℕ) (c : Change) → slice_get cs k ≡ Some c → P c) → All P cs
each P cs f = λ k d lt. f k (get_or cs k d) (slice_get-get_or cs k d lt)

module _ (layout : MbtType) (a : HashAlgorithm) (p : Option PatchType) (contents : List Content) (order : List ℕ) (tiles : List StoredTile) (names : List StoredName) (ta : Apart place_cmp place_of tiles) (oa : Apart cell_cmp (id_at contents) order) (na : Apart (slice_cmp nat_cmp) name_of names) (whole : All (IsTile contents) tiles) (texts : All IsName names) where
  abbrev held : Held
  held = held_of layout a p contents order tiles names

  abbrev of_tiles : List Change
  of_tiles = filter_map (tile_change layout a contents) tiles

  abbrev of_ids : List Change
  of_ids = filter_map (listed_change layout contents) order

  abbrev of_names : List Change
  of_names = filter_map name_change names

  abbrev all : List Change
  all = (of_tiles ++ of_ids) ++ of_names

  -- the table of each part
  tile_tables : (k : ℕ) (c : Change) → slice_get of_tiles k ≡ Some c → c.table ≡ tile_table layout
  tile_tables k c h = let m = in_mapped (tile_change layout a contents) tiles k c h in (of_tile layout a contents m.1 c m.3).0

  id_tables : (k : ℕ) (c : Change) → slice_get of_ids k ≡ Some c → c.table ≡ content_table layout
  id_tables k c h = let m = in_mapped (listed_change layout contents) order k c h in (of_content layout (content_at contents m.1) c m.3).0

  name_tables : (k : ℕ) (c : Change) → slice_get of_names k ≡ Some c → c.table ≡ Metadata
  name_tables k c h = let m = in_mapped name_change names k c h in (of_name m.1 c m.3).0

  pub tiles_first : All (λ c. table_eq c.table (content_table layout) ≡ false) of_tiles
  tiles_first = each (λ c. table_eq c.table (content_table layout) ≡ false) of_tiles (λ k c h. ap (λ t. table_eq t (content_table layout)) (tile_tables k c h) ∙ contents_apart layout)

  pub names_last : All (λ c. table_eq c.table Metadata ≡ false) (of_tiles ++ of_ids)
  names_last = each (λ c. table_eq c.table Metadata ≡ false) (of_tiles ++ of_ids) (λ k c h. elim (in_append of_tiles of_ids k c h) [
    | inl q ↦ ap (λ t. table_eq t Metadata) (tile_tables k c q) ∙ (names_apart layout).0
    | inr q ↦ ap (λ t. table_eq t Metadata) (id_tables q.0 c q.1) ∙ (names_apart layout).1
  ])

  -- a change of another table
  not_here : {A : Type 0} (c : Change) (t u : TableName) → c.table ≡ t → table_eq t u ≡ false → table_eq c.table u ≡ true → A
  not_here c t u is apart h = absurd (false≢true (sym apart ∙ (ap (λ x. table_eq x u) (sym is) ∙ h)))

  -- tiles
  tile_made : (key : RowKey) → place_edited held.edited key ≡ true → (i : ℕ) × (c : Change) × (slice_get all i ≡ Some c) × (table_eq c.table (tile_table layout) ≡ true) × (c.key ≡ key)
  tile_made (Tile zoom column row) h =
      let e = edited_item places_total places_antisymmetric place_of tiles ta (λ t. t.standing) (record { zoom = zoom; column = column; row = row }) h in
      let t = e.1 in
      let change : Option (List Cell) → Change = λ r. record { table = tile_table layout; key = tile_key (place_of t); row = r } in
      let m = made_by t.standing (row_of_tile layout a contents t) change e.4 in
      let k = keeps_mapped (tile_change layout a contents) tiles e.0 t (change m.0) e.2 m.1 in
      (k.0, change m.0, at_left (of_tiles ++ of_ids) of_names k.0 _ (at_left of_tiles of_ids k.0 _ k.1), table_itself (tile_table layout) (tile_table layout) refl, ap tile_key (sym e.3))
  tile_made (TextId text) h = absurd (false≢true h)
  tile_made (IntId n) h = absurd (false≢true h)

  tile_has : {V : Type 0} (f : StoredTile → Option V) (t : StoredTile) (i : ℕ) → slice_get tiles i ≡ Some t → get (tiles_held f tiles) (place_of t) ≡ f t
  tile_has f t i at = item_value places_total places_antisymmetric place_of tiles ta f i t at

  tile_only : (t : StoredTile) (i : ℕ) (c : Change) → slice_get tiles i ≡ Some t → tile_change layout a contents t ≡ Some c → (place_edited held.edited c.key ≡ true) × (c.row ≡ tile_row_by held.state c.key)
  tile_only t i c at is =
      let change : Option (List Cell) → Change = λ r. record { table = tile_table layout; key = tile_key (place_of t); row = r } in
      let m = change_cases t.standing (row_of_tile layout a contents t) change c is in
      let key : c.key ≡ tile_key (place_of t) = ap (λ (c : Change). c.key) (sym m.1) in
      let here : t ≡ get_or tiles i t = sym (get_or_from_slice_get tiles i t t at) in
      let ok : IsTile contents t = subst (IsTile contents) (sym here) (whole i t (slice_get_within tiles i t at)) in
      let row : c.row ≡ option_map (λ o. front (place_of t) ++ cells_for layout a o (tile_id contents t) (tile_dates t)) (tile_value contents t) = ap (λ (c : Change). c.row) (sym m.1) ∙ row_is layout a contents t ok m.0 m.2 in (
        ap (place_edited held.edited) key ∙ (ap is_some (tile_has (λ t. if_edited t.standing) t i at) ∙ was_edited t.standing (row_of_tile layout a contents t) change c is),
        row ∙ (sym (ap (λ x. option_map (λ o. front (place_of t) ++ cells_for layout a o x (get held.state.dates (place_of t))) (get held.state.tiles (place_of t))) (tile_has (tile_id contents) t i at)
            ∙ (ap (λ x. option_map (λ o. front (place_of t) ++ cells_for layout a o (tile_id contents t) x) (get held.state.tiles (place_of t))) (tile_has tile_dates t i at)
            ∙ ap (option_map (λ o. front (place_of t) ++ cells_for layout a o (tile_id contents t) (tile_dates t))) (tile_has (tile_value contents) t i at)))
            ∙ ap (tile_row_by held.state) (sym key)),
      )

  -- contents
  content_made : (key : RowKey) (id : Cell) → id_key id ≡ Some key → contains_key held.edited.ids id ≡ true → (i : ℕ) × (c : Change) × (slice_get all i ≡ Some c) × (table_eq c.table (content_table layout) ≡ true) × (c.key ≡ key)
  content_made key id is h =
      let e = edited_item cells_total cell_cmp-IsAntisymmetric (id_at contents) order oa (λ i. (content_at contents i).standing) id h in
      let c = content_at contents e.1 in
      let change : Option (List Cell) → Change = λ r. record { table = content_table layout; key = key; row = r } in
      let m = made_by c.standing (row_of_content c) change e.4 in
      let own : id_key c.id ≡ Some key = ap id_key (sym e.3) ∙ is in
      let made : listed_change layout contents e.1 ≡ Some (change m.0) = ap (option_and_then (λ key. change_by c.standing (row_of_content c) (λ row. record { table = content_table layout; key = key; row = row }))) own ∙ m.1 in
      let k = keeps_mapped (listed_change layout contents) order e.0 e.1 (change m.0) e.2 made in
      let r = at_right of_tiles of_ids k.0 _ k.1 in
      (r.0, change m.0, at_left (of_tiles ++ of_ids) of_names r.0 _ r.1, table_itself (content_table layout) (content_table layout) refl, refl)

  contents_made : (key : RowKey) → id_edited held.edited key ≡ true → (i : ℕ) × (c : Change) × (slice_get all i ≡ Some c) × (table_eq c.table (content_table layout) ≡ true) × (c.key ≡ key)
  contents_made (TextId text) h = content_made (TextId text) (Text text) refl h
  contents_made (IntId n) h = content_made (IntId n) (Int n) refl h
  contents_made (Tile zoom column row) h = absurd (false≢true h)

  -- what a key of an id stands for
  of_id : {A : Type 0} (f : RowKey → A) (g : Cell → A) → ((text : List ℕ) → f (TextId text) ≡ g (Text text)) → ((n : ℤ) → f (IntId n) ≡ g (Int n)) → (id : Cell) (key : RowKey) → id_key id ≡ Some key → f key ≡ g id
  of_id f g t n (Text text) key h = let e : TextId text ≡ key = cc in ap f (sym e) ∙ t text
  of_id f g t n (Int m) key h = let e : IntId m ≡ key = cc in ap f (sym e) ∙ n m
  of_id f g t n _ key h = cc

  value_put : (i : ℕ) (r : Option (List Cell)) → (((content_at contents i).standing ≡ Put) × (r ≡ Some (row_of_content (content_at contents i)))) ⊎ (((content_at contents i).standing ≡ Removed) × (r ≡ None)) → is_some (id_key (content_at contents i).id) ≡ true → r ≡ option_map (λ cell. id_at contents i ∷ cell ∷ []) (content_value contents i)
  value_put i r h keyed = by (slice_get contents i) refl h keyed
    where
      by : (o : Option Content) → slice_get contents i ≡ o → (((unwrap_or o nothing).standing ≡ Put) × (r ≡ Some (row_of_content (unwrap_or o nothing)))) ⊎ (((unwrap_or o nothing).standing ≡ Removed) × (r ≡ None)) → is_some (id_key (unwrap_or o nothing).id) ≡ true → r ≡ option_map (λ cell. (unwrap_or o nothing).id ∷ cell ∷ []) (option_and_then (λ (c : Content). unless_removed c.standing (Some c.cell)) o)
      by (Some c) e (inl (put, some)) k = some ∙ ap (λ s. option_map (λ cell. c.id ∷ cell ∷ []) (unless_removed s (Some c.cell))) (sym put)
      by (Some c) e (inr (gone, none)) k = none ∙ ap (λ s. option_map (λ cell. c.id ∷ cell ∷ []) (unless_removed s (Some c.cell))) (sym gone)
      by None e h k = absurd (false≢true k)

  listed_has : {V : Type 0} (f : ℕ → Option V) (j i : ℕ) → slice_get order i ≡ Some j → get (from_entries {R = cell_cmp} (entries_by (id_at contents) f order)) (id_at contents j) ≡ f j
  listed_has f j i at = item_value cells_total cell_cmp-IsAntisymmetric (id_at contents) order oa f i j at

  content_only : (j i : ℕ) (c : Change) → slice_get order i ≡ Some j → listed_change layout contents j ≡ Some c → (id_edited held.edited c.key ≡ true) × (c.row ≡ content_row_by held.state c.key)
  content_only j i c at is = by (id_key (content_at contents j).id) refl is
    where
      by : (o : Option RowKey) → id_key (content_at contents j).id ≡ o → option_and_then (λ key. change_by (content_at contents j).standing (row_of_content (content_at contents j)) (λ row. record { table = content_table layout; key = key; row = row })) o ≡ Some c → (id_edited held.edited c.key ≡ true) × (c.row ≡ content_row_by held.state c.key)
      by None e h = cc
      by (Some key) e h =
          let x = content_at contents j in
          let change : Option (List Cell) → Change = λ r. record { table = content_table layout; key = key; row = r } in
          let m = change_cases x.standing (row_of_content x) change c h in
          let own : c.key ≡ key = ap (λ (c : Change). c.key) (sym m.1) in (
            ap (id_edited held.edited) own ∙ (of_id (id_edited held.edited) (contains_key held.edited.ids) (λ _. refl) (λ _. refl) x.id key e ∙ (ap is_some (listed_has (λ i. if_edited (content_at contents i).standing) j i at) ∙ was_edited x.standing (row_of_content x) change c h)),
            ap (λ (c : Change). c.row) (sym m.1) ∙ (value_put j m.0 m.2 (ap is_some e) ∙ sym (ap (content_row_by held.state) own ∙ (of_id (content_row_by held.state) (λ id. option_map (λ cell. id ∷ cell ∷ []) (get held.state.contents id)) (λ _. refl) (λ _. refl) x.id key e ∙ ap (option_map (λ cell. id_at contents j ∷ cell ∷ [])) (listed_has (content_value contents) j i at)))),
          )

  -- names
  names_made : (key : RowKey) → name_edited held.edited key ≡ true → (i : ℕ) × (c : Change) × (slice_get all i ≡ Some c) × (table_eq c.table Metadata ≡ true) × (c.key ≡ key)
  names_made (TextId name) h =
      let e = edited_item nat_list_cmp_total names_antisymmetric name_of names na (λ n. n.standing) name h in
      let change : Option (List Cell) → Change = λ r. record { table = Metadata; key = TextId e.1.name; row = r } in
      let m = made_by e.1.standing (row_of_name e.1) change e.4 in
      let k = keeps_mapped name_change names e.0 e.1 (change m.0) e.2 m.1 in
      let r = at_right (of_tiles ++ of_ids) of_names k.0 _ k.1 in
      (r.0, change m.0, r.1, refl, ap TextId (sym e.3))
  names_made (Tile zoom column row) h = absurd (false≢true h)
  names_made (IntId n) h = absurd (false≢true h)

  name_has : {V : Type 0} (f : StoredName → Option V) (n : StoredName) (i : ℕ) → slice_get names i ≡ Some n → get (from_entries {R = slice_cmp nat_cmp} (entries_by name_of f names)) n.name ≡ f n
  name_has f n i at = item_value nat_list_cmp_total names_antisymmetric name_of names na f i n at

  name_put : (n : StoredName) (r : Option (List Cell)) → IsName n → ((n.standing ≡ Put) × (r ≡ Some (row_of_name n))) ⊎ ((n.standing ≡ Removed) × (r ≡ None)) → r ≡ option_map (λ v. Text n.name ∷ text_cell v ∷ []) (name_value n)
  name_put n r ok (inl (s, some)) = some ∙ (ap (λ v. Some (Text n.name ∷ v ∷ [])) (sym (own_text n.value ok)) ∙ ap (λ s. option_map (λ v. Text n.name ∷ text_cell v ∷ []) (unless_removed s (Some (text_of n.value)))) (sym s))
  name_put n r ok (inr (s, none)) = none ∙ ap (λ s. option_map (λ v. Text n.name ∷ text_cell v ∷ []) (unless_removed s (Some (text_of n.value)))) (sym s)

  name_only : (n : StoredName) (i : ℕ) (c : Change) → slice_get names i ≡ Some n → name_change n ≡ Some c → (name_edited held.edited c.key ≡ true) × (c.row ≡ name_row_by held.state c.key)
  name_only n i c at is =
      let change : Option (List Cell) → Change = λ r. record { table = Metadata; key = TextId n.name; row = r } in
      let m = change_cases n.standing (row_of_name n) change c is in
      let key : c.key ≡ TextId n.name = ap (λ (c : Change). c.key) (sym m.1) in
      let here : n ≡ get_or names i n = sym (get_or_from_slice_get names i n n at) in
      let ok : IsName n = subst IsName (sym here) (texts i n (slice_get_within names i n at)) in (
        ap (name_edited held.edited) key ∙ (ap is_some (name_has (λ n. if_edited n.standing) n i at) ∙ was_edited n.standing (row_of_name n) change c is),
        ap (λ (c : Change). c.row) (sym m.1) ∙ (name_put n m.0 ok m.2 ∙ sym (ap (name_row_by held.state) key ∙ ap (option_map (λ v. Text n.name ∷ text_cell v ∷ [])) (name_has name_value n i at))),
      )

  pub are_changes : AreChangesOf held all
  are_changes = record {
    tiles = record {
      made = tile_made;
      only = each (λ c. table_eq c.table (tile_table layout) ≡ true → (place_edited held.edited c.key ≡ true) × (c.row ≡ tile_row_by held.state c.key)) all (λ k c h same. elim (in_three of_tiles of_ids of_names k c h) [
        | inl q ↦ let m = in_mapped (tile_change layout a contents) tiles q.0 c q.1 in tile_only m.1 m.0 c m.2 m.3
        | inr q ↦ elim q [
          | inl r ↦ not_here c (content_table layout) (tile_table layout) (id_tables r.0 c r.1) (other (tile_table layout) (content_table layout) (contents_apart layout)) same
          | inr r ↦ not_here c Metadata (tile_table layout) (name_tables r.0 c r.1) (other (tile_table layout) Metadata (names_apart layout).0) same
        ]
      ]);
    };
    contents = record {
      made = contents_made;
      only = each (λ c. table_eq c.table (content_table layout) ≡ true → (id_edited held.edited c.key ≡ true) × (c.row ≡ content_row_by held.state c.key)) all (λ k c h same. elim (in_three of_tiles of_ids of_names k c h) [
        | inl q ↦ not_here c (tile_table layout) (content_table layout) (tile_tables q.0 c q.1) (contents_apart layout) same
        | inr q ↦ elim q [
          | inl r ↦ let m = in_mapped (listed_change layout contents) order r.0 c r.1 in content_only m.1 m.0 c m.2 m.3
          | inr r ↦ not_here c Metadata (content_table layout) (name_tables r.0 c r.1) (other (content_table layout) Metadata (names_apart layout).1) same
        ]
      ]);
    };
    names = record {
      made = names_made;
      only = each (λ c. table_eq c.table Metadata ≡ true → (name_edited held.edited c.key ≡ true) × (c.row ≡ name_row_by held.state c.key)) all (λ k c h same. elim (in_three of_tiles of_ids of_names k c h) [
        | inl q ↦ not_here c (tile_table layout) Metadata (tile_tables q.0 c q.1) (names_apart layout).0 same
        | inr q ↦ elim q [
          | inl r ↦ not_here c (content_table layout) Metadata (id_tables r.0 c r.1) (names_apart layout).1 same
          | inr r ↦ let m = in_mapped name_change names r.0 c r.1 in name_only m.1 m.0 c m.2 m.3
        ]
      ]);
    };
    tables = each (λ c. is_own_table layout c.table ≡ true) all (λ k c h. elim (in_three of_tiles of_ids of_names k c h) [
      | inl q ↦ or_left (table_eq c.table (tile_table layout) || table_eq c.table (content_table layout)) (table_eq c.table Metadata) (or_left (table_eq c.table (tile_table layout)) (table_eq c.table (content_table layout)) (table_itself c.table (tile_table layout) (tile_tables q.0 c q.1)))
      | inr q ↦ elim q [
        | inl r ↦ or_left (table_eq c.table (tile_table layout) || table_eq c.table (content_table layout)) (table_eq c.table Metadata) (or_right (table_eq c.table (tile_table layout)) (table_eq c.table (content_table layout)) (table_itself c.table (content_table layout) (id_tables r.0 c r.1)))
        | inr r ↦ or_right (table_eq c.table (tile_table layout) || table_eq c.table (content_table layout)) (table_eq c.table Metadata) (table_itself c.table Metadata (name_tables r.0 c r.1))
      ]
    ]);
  }
