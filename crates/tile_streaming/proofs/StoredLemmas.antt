-- The contents that tables have for the tiles that they hold.
use Rattle.tile_streaming.proofs.Common.{address, address_within, All, and_from, ap, AreMarksOf, arith, beq, Bool, bytes_of, bytes_told, Cell, cell_bytes, cond, cons_option, content_cell, contents_of, entries, entries_sorted, eq_by_cmp, false, false≢true, filter, find, find_has, FitsPlace, found, fresh, get, get-empty, get-entries, Has, has_find, has_key, InRange, is_gzip, is_normalized, is_some, IsLoadable, IsLoadedFrom}
use Rattle.tile_streaming.proofs.Common.{cell_at, content_rows, id_key, is_eq, is_id, is_null, named_told, row_told, tile_told, IsSound, length, List, loads, Mark, MbtType, nat_eq, nat_le, nat_tests, None, Ok, Option, option_map, Place, place_cmp, place_of, refl, row_bytes, same_place, Some, sorted_true, State, state_of, state_whole, subst, sym, Tables, tile_key, tile_of, tile_table, TileSet, true, xxh3_64, ℕ, [], ◌^◌, ◌∙◌, ◌∷◌, ◌≡◌, ◌≤◌}
use Rattle.mb_constraints.specs.TileRows.{contents_in, id_in, tile_in}
use Rattle.mb_load.specs.LoadedFrom.{at_place}
use Rattle.mb_loaded.specs.Changing.{content_table}
use Rattle.mb_tables.proofs.ListLemmas.{find_only}
use Rattle.mb_tables.specs.Cell.{cell_cmp}
use Rattle.mb_tables.specs.Key.{key_cells}
use Rattle.mb_tables.specs.declared.key.RowKey.{RowKey}
use Rattle.mb_tables.specs.declared.key.RowKey.TheVariants.{IntId, TextId}
use Rattle.mb_tables.specs.declared.kind.NormalizedSchema.TheVariants.{DedupId, Hash}
use Rattle.mb_tables.proofs.TileLemmas.{places_total}
use Rattle.mb_tables.specs.declared.cell.Cell.TheVariants.{Blob, Int, Null, Other, Text}
use Rattle.mb_tables.specs.declared.kind.MbtType.TheVariants.{Cache, Flat, FlatWithHash, Normalized}
use Rattle.std.proofs.Common.{◌%◌}
use Rattle.std.proofs.lemmas.Option.{none-some, same_Some}
use Rattle.std.specs.FinMap.{find as found_in}
use Rattle.std.specs.Prelude.{option_and_then, option_to_list}
use Rattle.tile_streaming.proofs.KeyLemmas.{place_again}
use Rattle.tile_streaming.proofs.MarkLemmas.{AllRanged, entry_of}
use Rattle.tile_streaming.proofs.MemberLemmas.{all_of_has}
use Rattle.mb_tables.specs.declared.table.TableName.TheVariants.{Images}
use Rattle.tile_streaming.specs.Collisions.{content_told}
use Rattle.tile_streaming.specs.Layouts.{has_digests}
use Rattle.tile_streaming.specs.Stored.{HasBytes, IsStored, Stored}

-- what a cell of contents has
cell_has : (cell : Cell) (c : Option (List ℕ)) → contents_of cell ≡ Some c → cell_bytes cell ≡ bytes_of c
cell_has (Blob bytes) c h = let same : Some bytes ≡ c = cc in ap bytes_of same
cell_has Null c h = let same : None ≡ c = cc in ap bytes_of same
cell_has (Int n) c h = absurd (cc)
cell_has (Text text) c h = absurd (cc)
cell_has Other c h = absurd (cc)

-- the contents of a row's tile are those of its cell
tile_contents : (row : List Cell) (cell : Cell) (t : Place × Option (List ℕ)) → tile_of row cell ≡ Some t → contents_of cell ≡ Some t.1
tile_contents row cell t h = go (place_of row) (contents_of cell) refl refl
  where
    go : (p : Option Place) (c : Option (Option (List ℕ))) → place_of row ≡ p → contents_of cell ≡ c → contents_of cell ≡ Some t.1
    go (Some p) (Some c) e f =
        let is : tile_of row cell ≡ Some (p, c) = simp (e, f) in
        let both : Some (p, c) ≡ Some t = sym is ∙ h in
        f ∙ ap (λ (o : Option (Place × Option (List ℕ))). option_and_then (λ x. Some x.1) o) both
    go (Some p) None e f = let is : tile_of row cell ≡ None = simp (e, f) in absurd (none-some t (sym is ∙ h))
    go None (Some c) e f = let is : tile_of row cell ≡ None = simp (e, f) in absurd (none-some t (sym is ∙ h))
    go None None e f = let is : tile_of row cell ≡ None = simp (e, f) in absurd (none-some t (sym is ∙ h))

cell_of_layout : (layout : MbtType) (row : List Cell) → is_normalized layout ≡ false → contents_in layout [] row ≡ Some (content_cell layout row)
cell_of_layout Flat row h = refl
cell_of_layout FlatWithHash row h = refl
cell_of_layout Cache row h = refl
cell_of_layout (Normalized view schema) row h = absurd (false≢true (sym h))

row_contents : (layout : MbtType) (row : List Cell) (t : Place × Option (List ℕ)) → is_normalized layout ≡ false → tile_in layout [] row ≡ Some t → row_bytes layout row ≡ bytes_of t.1
row_contents layout row t plain h =
    let is : tile_of row (content_cell layout row) ≡ Some t = sym (ap (option_and_then (tile_of row)) (cell_of_layout layout row plain)) ∙ h in
    cell_has (content_cell layout row) t.1 (tile_contents row (content_cell layout row) t is)

-- the one row under a key that has something at a place
first_found : {A : Type 0} (value : List Cell → Option (Place × A)) (p : Place) (row : List Cell) (c : A) → found value p (row ∷ []) ≡ Some c → (t : Place × A) × (value row ≡ Some t) × (t.1 ≡ c)
first_found {A = A} value p row c h = by (value row) refl
  where
    by : (o : Option (Place × A)) → value row ≡ o → (t : Place × A) × (value row ≡ Some t) × (t.1 ≡ c)
    by None e = absurd (none-some c (sym (ap (λ o. found_in place_cmp p (cons_option o [])) e) ∙ h))
    by (Some t) e = at (eq_by_cmp place_cmp p t.0) (sym (ap (λ o. found_in place_cmp p (cons_option o [])) e) ∙ h)
      where
        at : (b : Bool) → cond b (Some t.1) None ≡ Some c → (t : Place × A) × (value row ≡ Some t) × (t.1 ≡ c)
        at true k = let same : t.1 ≡ c = cc in (t, e, same)
        at false k = absurd (none-some c k)

one_row : {A : Type 0} (value : List Cell → Option (Place × A)) (p : Place) (rows : List (List Cell)) (c : A) → length rows ≤ 1 → found value p rows ≡ Some c → (row : List Cell) × (rows ≡ option_to_list (Some row)) × (t : Place × A) × (value row ≡ Some t) × (t.1 ≡ c)
one_row value p [] c few h = absurd (none-some c h)
one_row value p (row ∷ []) c few h = let f = first_found value p row c h in (row, refl, f.0, f.1, f.2)
one_row value p (row ∷ (other ∷ rows)) c few h = absurd (omega (arith, few))

-- what a row has beside its place
beside : {A : Type 0} (value : List Cell → Option A) (row : List Cell) (t : Place × A) → at_place value row ≡ Some t → value row ≡ Some t.1
beside {A = A} value row t h = by (place_of row) (value row) refl h
  where
    by : (p : Option Place) (v : Option A) → value row ≡ v → option_and_then (λ place. option_map (λ v. (place, v)) (value row)) p ≡ Some t → value row ≡ Some t.1
    by None v e k = absurd (none-some t k)
    by (Some p) None e k = absurd (none-some t (sym (ap (option_map {U = Place × A} (λ v. (p, v))) e) ∙ k))
    by (Some p) (Some v) e k =
        let both : ◌≡◌ {A = Option (Place × A)} (Some (p, v)) (Some t) = sym (ap (option_map {U = Place × A} (λ v. (p, v))) e) ∙ k in
        e ∙ ap (option_map {U = A} (λ (x : Place × A). x.1)) both

-- which row has the contents
told_flat : (layout : MbtType) (t : Tables) (id : ℕ) → is_normalized layout ≡ false → row_told layout t id ≡ tile_told layout t id
told_flat Flat t id h = refl
told_flat FlatWithHash t id h = refl
told_flat Cache t id h = refl
told_flat (Normalized view schema) t id h = absurd (false≢true (sym h))

told_named : (layout : MbtType) (t : Tables) (id : ℕ) → is_normalized layout ≡ true → row_told layout t id ≡ option_and_then (named_told (content_table layout) t) (tile_told layout t id)
told_named (Normalized view schema) t id h = refl
told_named Flat t id h = absurd (false≢true h)
told_named FlatWithHash t id h = absurd (false≢true h)
told_named Cache t id h = absurd (false≢true h)

rows_named : (layout : MbtType) (t : Tables) → is_normalized layout ≡ true → content_rows layout t ≡ t.rows (content_table layout)
rows_named (Normalized view schema) t h = refl
rows_named Flat t h = absurd (false≢true h)
rows_named FlatWithHash t h = absurd (false≢true h)
rows_named Cache t h = absurd (false≢true h)

cell_named : (layout : MbtType) (row : List Cell) → is_normalized layout ≡ true → content_cell layout row ≡ cell_at 1 row
cell_named (Normalized view schema) row h = refl
cell_named Flat row h = absurd (false≢true h)
cell_named FlatWithHash row h = absurd (false≢true h)
cell_named Cache row h = absurd (false≢true h)

id_named : (layout : MbtType) (row : List Cell) (id : Cell) → is_normalized layout ≡ true → id_in layout row ≡ Some id → cell_at 3 row ≡ id
id_named (Normalized view schema) row id h e = by (is_null (cell_at 3 row)) e
  where
    by : (b : Bool) → cond b None (Some (cell_at 3 row)) ≡ Some id → cell_at 3 row ≡ id
    by true k = absurd (none-some id k)
    by false k = same_Some (cell_at 3 row) id k
id_named Flat row id h e = absurd (false≢true h)
id_named FlatWithHash row id h e = absurd (false≢true h)
id_named Cache row id h e = absurd (false≢true h)

-- the key of an id that contents can have
key_for : (layout : MbtType) (id : Cell) → is_normalized layout ≡ true → is_id layout id ≡ true → is_null id ≡ false → (key : RowKey) × (id_key id ≡ Some key) × (key_cells key ≡ id ∷ [])
key_for (Normalized view Hash) (Text text) n k w = (TextId text, refl, refl)
key_for (Normalized view DedupId) (Int number) n k w = (IntId number, refl, refl)
key_for (Normalized view schema) Null n k w = absurd (false≢true (sym w))
key_for (Normalized view Hash) (Int number) n k w = absurd (false≢true k)
key_for (Normalized view Hash) (Blob bytes) n k w = absurd (false≢true k)
key_for (Normalized view Hash) Other n k w = absurd (false≢true k)
key_for (Normalized view DedupId) (Text text) n k w = absurd (false≢true k)
key_for (Normalized view DedupId) (Blob bytes) n k w = absurd (false≢true k)
key_for (Normalized view DedupId) Other n k w = absurd (false≢true k)
key_for Flat id n k w = absurd (false≢true n)
key_for FlatWithHash id n k w = absurd (false≢true n)
key_for Cache id n k w = absurd (false≢true n)

-- the id of a tile, and the contents of the id
joined_parts : (ids : Option Cell) (look : Cell → Option Cell) (c : Option (List ℕ)) → option_and_then (λ id. option_and_then contents_of (look id)) ids ≡ Some c → (id : Cell) × (ids ≡ Some id) × (cell : Cell) × (look id ≡ Some cell) × (contents_of cell ≡ Some c)
joined_parts None look c h = absurd (none-some c h)
joined_parts (Some id) look c h = by (look id) refl
  where
    by : (o : Option Cell) → look id ≡ o → (x : Cell) × (Some id ≡ Some x) × (cell : Cell) × (look x ≡ Some cell) × (contents_of cell ≡ Some c)
    by None e = absurd (none-some c (sym (ap (option_and_then contents_of) e) ∙ h))
    by (Some cell) e = (id, refl, cell, e, sym (ap (option_and_then contents_of) e) ∙ h)

-- where contents stand under their digests
digest_table : (l : MbtType) → has_digests l ≡ true → content_table l ≡ Images
digest_table (Normalized view Hash) h = refl
digest_table (Normalized view DedupId) h = absurd (false≢true h)
digest_table Flat h = absurd (false≢true h)
digest_table FlatWithHash h = absurd (false≢true h)
digest_table Cache h = absurd (false≢true h)

pub digest_named : (l : MbtType) → has_digests l ≡ true → is_normalized l ≡ true
digest_named (Normalized view schema) h = refl
digest_named Flat h = absurd (false≢true h)
digest_named FlatWithHash h = absurd (false≢true h)
digest_named Cache h = absurd (false≢true h)

-- tables that load
module _ (t : Tables) (s : State) (sound : IsSound t) (due : state_of t ≡ Ok s) where
  from : IsLoadedFrom t (fresh s)
  from = loads t s sound due

  module _ (e : Place × Option (List ℕ)) (h : Has e (entries s.tiles)) (at : InRange e.0) where
    abbrev test : List Cell → Bool
    test = has_key (tile_table s.layout) (tile_key e.0)

    abbrev rows : List (List Cell)
    rows = t.rows (tile_table s.layout)

    there : get s.tiles e.0 ≡ Some e.1
    there = get-entries s.tiles e.0 ∙ has_find place_cmp places_total (entries s.tiles) e.0 e.1 (sorted_true _ (entries_sorted s.tiles)) h

    fit : FitsPlace s e.0 (filter test rows)
    fit = from.tiles e.0 (ap is_some (get-empty place_cmp e.0))

    -- the row of the tile
    tile_is : (row : List Cell) → filter test rows ≡ option_to_list (Some row) → tile_told s.layout t (address e.0) ≡ Some row
    tile_is row one =
        ap (λ q. find (has_key (tile_table s.layout) (tile_key q)) rows) (place_again e.0 at (address_within e.0 at))
        ∙ find_only test rows (Some row) one

    flat_row : is_normalized s.layout ≡ false → bytes_told s.layout t (address e.0) ≡ Some (bytes_of e.1)
    flat_row plain =
        let one = one_row (tile_in s.layout []) e.0 (filter test rows) e.1 fit.alone (fit.tile plain ∙ there) in
        ap (option_map (row_bytes s.layout)) (told_flat s.layout t (address e.0) plain ∙ tile_is one.0 one.1)
        ∙ ap Some (row_contents s.layout one.0 one.2 plain one.3 ∙ ap bytes_of one.4)

    named_row : is_normalized s.layout ≡ true → bytes_told s.layout t (address e.0) ≡ Some (bytes_of e.1)
    named_row norm =
        let joined = joined_parts (get s.ids e.0) (get s.contents) e.1 (sym (from.state.joined norm e.0) ∙ there) in
        let id = joined.0 in
        let cell = joined.2 in
        let one = one_row (at_place (id_in s.layout)) e.0 (filter test rows) id fit.alone (fit.id ∙ joined.1) in
        let names : cell_at 3 one.0 ≡ id = id_named s.layout one.0 id norm (beside (id_in s.layout) one.0 one.2 one.3 ∙ ap Some one.4) in
        let is = from.state.stored id cell joined.3 in
        let key = key_for s.layout id norm is.kind is.present in
        let table = content_table s.layout in
        let kept : filter (has_key table key.0) (t.rows table) ≡ option_to_list (Some (id ∷ cell ∷ [])) =
        ap (filter (has_key table key.0)) (sym (rows_named s.layout t norm)) ∙ (from.contents id key.0 key.2 (ap is_some (get-empty cell_cmp id)) ∙ ap (λ o. option_to_list (option_map (λ c. id ∷ c ∷ []) o)) joined.3) in
        let contents : named_told table t one.0 ≡ Some (id ∷ cell ∷ []) =
        ap (λ c. option_and_then (λ k. find (has_key table k) (t.rows table)) (id_key c)) names ∙ (ap (option_and_then (λ k. find (has_key table k) (t.rows table))) key.1 ∙ find_only (has_key table key.0) (t.rows table) (Some (id ∷ cell ∷ [])) kept) in
        ap (option_map (row_bytes s.layout)) (told_named s.layout t (address e.0) norm ∙ (ap (option_and_then (named_told table t)) (tile_is one.0 one.1) ∙ contents))
        ∙ ap Some (ap cell_bytes (cell_named s.layout (id ∷ cell ∷ []) norm) ∙ cell_has cell e.1 joined.4)

    -- the id that the row of a tile names
    pub told_id : is_normalized s.layout ≡ true → get s.ids e.0 ≡ option_map (cell_at 3) (tile_told s.layout t (address e.0))
    told_id norm =
        let joined = joined_parts (get s.ids e.0) (get s.contents) e.1 (sym (from.state.joined norm e.0) ∙ there) in
        let one = one_row (at_place (id_in s.layout)) e.0 (filter test rows) joined.0 fit.alone (fit.id ∙ joined.1) in
        let names : cell_at 3 one.0 ≡ joined.0 = id_named s.layout one.0 joined.0 norm (beside (id_in s.layout) one.0 one.2 one.3 ∙ ap Some one.4) in
        joined.1 ∙ sym (ap (option_map (cell_at 3)) (tile_is one.0 one.1) ∙ ap Some names)

    -- the bytes that they have for a tile
    pub told_row : bytes_told s.layout t (address e.0) ≡ Some (bytes_of e.1)
    told_row = by (is_normalized s.layout) refl
      where
        by : (b : Bool) → is_normalized s.layout ≡ b → bytes_told s.layout t (address e.0) ≡ Some (bytes_of e.1)
        by true n = named_row n
        by false n = flat_row n

  -- the contents that they have under a digest
  pub told_content : has_digests s.layout ≡ true → (d : List ℕ) → content_told t (Text d) ≡ get s.contents (Text d)
  told_content digests d =
      let table = digest_table s.layout digests in
      let norm = digest_named s.layout digests in
      let kept : filter (has_key Images (TextId d)) (t.rows Images) ≡ option_to_list (option_map (λ c. Text d ∷ c ∷ []) (get s.contents (Text d))) =
      ap (λ u. filter (has_key u (TextId d)) (t.rows u)) (sym table) ∙ ap (filter (has_key (content_table s.layout) (TextId d))) (sym (rows_named s.layout t norm)) ∙ from.contents (Text d) (TextId d) refl (ap is_some (get-empty cell_cmp (Text d))) in
      ap (option_map (cell_at 1)) (find_only (has_key Images (TextId d)) (t.rows Images) (option_map (λ c. Text d ∷ c ∷ []) (get s.contents (Text d))) kept) ∙ by (get s.contents (Text d))
    where
      by : (o : Option Cell) → option_map (cell_at 1) (option_map (λ c. Text d ∷ c ∷ []) o) ≡ o
      by None = refl
      by (Some c) = refl

same_number : (n : ℕ) → nat_eq n n ≡ true
same_number n = grind (arith, nat_tests)

same_answer : (b : Bool) → beq b b ≡ true
same_answer true = refl
same_answer false = refl

-- the entry of a tile
pub there_has : (tiles : TileSet) (e : Place × Option (List ℕ)) → Has e (entries tiles) → get tiles e.0 ≡ Some e.1
there_has tiles e h = get-entries tiles e.0 ∙ has_find place_cmp places_total (entries tiles) e.0 e.1 (sorted_true _ (entries_sorted tiles)) h

-- all places of a state that tables can hold are in range
pub loadable_ranged : (s : State) → IsLoadable s → AllRanged (entries s.tiles)
loadable_ranged s whole e h =
    let board = whole.on_board e.0 (ap is_some (there_has s.tiles e h)) in
    record { zoom = omega (arith, board.zoom); column = board.column; row = board.row }

pub state_ranged : (t : Tables) (s : State) → state_of t ≡ Ok s → AllRanged (entries s.tiles)
state_ranged t s due = loadable_ranged s (state_whole t s due).0

pub has_there : (tiles : TileSet) (p : Place) (c : Option (List ℕ)) → get tiles p ≡ Some c → Has (p, c) (entries tiles)
has_there tiles p c h = find_has place_cmp (λ a b e. same_place a b (ap is_eq e)) (entries tiles) p c (sym (get-entries tiles p) ∙ h)

-- the bytes that stand under the id of a tile's place
pub bytes_there : (stored : Stored) (tiles : TileSet) → HasBytes stored tiles → (e : Place × Option (List ℕ)) → Has e (entries tiles) → stored (address e.0) ≡ Some (bytes_of e.1)
bytes_there stored tiles has e h = has e.0 e.1 (there_has tiles e h)

-- tables that load have the bytes of all tiles
pub told_bytes : (t : Tables) (s : State) → IsSound t → state_of t ≡ Ok s → HasBytes (bytes_told s.layout t) s.tiles
told_bytes t s sound due p c h = let there = has_there s.tiles p c h in told_row t s sound due (p, c) there (state_ranged t s due (p, c) there)

-- each mark of tiles whose bytes are stored is stored
pub all_stored : (stored : Stored) (tiles : TileSet) (marks : List Mark) → AreMarksOf tiles marks → HasBytes stored tiles → All (IsStored stored) marks
all_stored stored tiles marks are has = all_of_has (IsStored stored) marks (λ m h.
    let e = entry_of tiles marks are m h in
    let told = bytes_there stored tiles has e.0 e.1 in
    let bytes = bytes_of e.0.1 in
    let sized = and_from _ _ (same_number (length bytes % 2 ^ 32)) (same_answer (nat_le (2 ^ 32) (length bytes))) in
    subst (IsStored stored) e.2 (bytes, told, and_from _ _ (and_from _ _ sized (same_number (xxh3_64 bytes))) (same_answer (is_gzip bytes))))
