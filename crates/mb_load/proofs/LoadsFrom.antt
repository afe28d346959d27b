-- A set that loads is loaded from its tables.
use Rattle.mb_load.proofs.Common.{algorithm_by, All, All-nil, All-weaker, AllOnBoard, and_parts, ap, AreTimes, at_place, bad_tile, begins, Bool, Cache, Cell, cell_at, cell_cmp, cells_total, codes}
use Rattle.mb_load.proofs.Common.{contains_key, content_entry, content_rows, content_table, contents_of, Dates, dates_in, due_by, entry_key, Err, false, false≢true, filter, filter_entry, filter_map}
use Rattle.mb_load.proofs.Common.{first_refusal, FitsPlace, Flat, FlatWithHash, found, fresh, get, get-empty, get-from_entries, get_or, has_key, has_tile_kinds, Hash, HashAlgorithm, Held, held_by}
use Rattle.mb_load.proofs.Common.{id_in, IfOk, in_has_place, index_missing, InvalidDataFormat, is_cache, is_id, is_keyed, is_normalized, is_null, is_number, is_some, is_text, IsContentOf, IsLoadable}
use Rattle.mb_load.proofs.Common.{IsLoadedFrom, IsOnBoard, IsSound, key_begins, key_cells, key_whole, key_width, layout_of, length, List, Loads, MbtError, MbtType, Metadata, metadata_missing}
use Rattle.mb_load.proofs.Common.{name_entry, names_as_entries, NamesAlgorithm, nat_cmp, nat_list_cmp_total, None, Normalized, NoUniquenessConstraint, Ok, Option, option_and_then, option_map}
use Rattle.mb_load.proofs.Common.{option_to_list, patch_type_of, PatchType, Place, place_cmp, place_of, places_total, refl, refusals, Result, row_refusals, RowKey, slice_cmp, Some, State, state_of}
use Rattle.mb_load.proofs.Common.{stated, subst, sym, TableName, Tables, Text, text_cell, TextId, tile_in, tile_key, tile_table, true, unknown_name, unless_refused, width, wrong_content_hash}
use Rattle.mb_load.proofs.Common.{wrong_hash, ℕ, [], ◌&&◌, ◌∙◌, ◌∷◌, ◌≡◌}
use Rattle.std.specs.FinMap as fin
use Rattle.mb_load.proofs.CommitLemmas.{no_contents, rows_of_contents}
use Rattle.mb_load.proofs.KeyReading.{Agrees, Joins, agree_if_joined, alone_under, at_place_placed, found_both, found_never, found_row, found_through, place_on_board, under_key}
use Rattle.mb_load.proofs.PutRowLemmas.{no_id, no_times}
use Rattle.mb_load.proofs.RowsPass.{ArePassing, both_none, cell_under, dates_row, holds, joins_row, passing, place_tested}
use Rattle.mb_load.proofs.StateLemmas.{state_is}

pub never_id : (l : MbtType) (row : List Cell) → is_normalized l ≡ false → at_place (id_in l) row ≡ None
never_id l row h = by (place_of row) (id_in l row) (no_id l row h)
  where
    by : (o : Option Place) (v : Option Cell) → v ≡ None → option_and_then {U = Place × Cell} (λ place. option_map {U = Place × Cell} (λ v. (place, v)) v) o ≡ None
    by (Some p) (Some v) h = cc
    by _ _ h = refl

never_dates : (l : MbtType) (row : List Cell) → is_cache l ≡ false → at_place (dates_in l) row ≡ None
never_dates l row h = by (place_of row) (dates_in l row) (no_times l row h)
  where
    by : (o : Option Place) (v : Option Dates) → v ≡ None → option_and_then {U = Place × Dates} (λ place. option_map {U = Place × Dates} (λ v. (place, v)) v) o ≡ None
    by (Some p) (Some v) h = cc
    by _ _ h = refl

no_dates_found : (l : MbtType) (row : List Cell) (e : Place × Dates) → is_cache l ≡ false → at_place (dates_in l) row ≡ Some e → ⊥
no_dates_found l row e n h = nothing e (sym (never_dates l row n) ∙ h)
  where
    nothing : (e : Place × Dates) → None ≡ Some e → ⊥
    nothing e h = cc

cache_times : (l : MbtType) (row : List Cell) (e : Place × Dates) → has_tile_kinds l row ≡ true → at_place (dates_in l) row ≡ Some e → AreTimes e.1
cache_times Cache row e h k = by (place_of row) k
  where
    d : Dates
    d = record { fetched = cell_at 3 row; expires = cell_at 4 row; etag = cell_at 5 row }

    kinds : AreTimes (record { fetched = cell_at 3 row; expires = cell_at 4 row; etag = cell_at 5 row })
    kinds =
        let two = and_parts (is_number (cell_at 3 row) && is_number (cell_at 4 row)) (is_text (cell_at 5 row)) h in
        let one = and_parts (is_number (cell_at 3 row)) (is_number (cell_at 4 row)) two.0 in
        record { fetched = one.0; expires = one.1; etag = two.1 }

    by : (o : Option Place) → option_and_then {U = Place × Dates} (λ place. Some (place, d)) o ≡ Some e → AreTimes e.1
    by (Some p) k = let same : d ≡ e.1 = times d e.1 (ap (option_and_then (λ (x : Place × Dates). Some x.1)) k) in subst AreTimes same kinds
      where
        times : (x y : Dates) → Some x ≡ Some y → x ≡ y
        times x y h = cc
    by None k = cc
cache_times (Normalized view schema) row e h k = absurd (no_dates_found (Normalized view schema) row e refl k)
cache_times Flat row e h k = absurd (no_dates_found Flat row e refl k)
cache_times FlatWithHash row e h k = absurd (no_dates_found FlatWithHash row e refl k)

and_true : (a b : Bool) → a ≡ true → b ≡ (a && b)
and_true a b h = ap (λ x. x && b) (sym h)

and_false : (a b : Bool) → a ≡ false → false ≡ (a && b)
and_false a b h = ap (λ x. x && b) (sym h)

-- what rows that pass hold is a state that tables can hold
module _ (layout : MbtType) (patch : Option PatchType) (metadata contents rows : List (List Cell)) (pass : ArePassing layout metadata contents rows) (none : is_normalized layout ≡ false → contents ≡ []) where
  abbrev s : State
  s = held_by layout patch metadata contents rows

  pub tile_get : (p : Place) → get s.tiles p ≡ found (tile_in layout contents) p rows
  tile_get p = get-from_entries places_total (filter_map (tile_in layout contents) rows) p

  pub id_get : (p : Place) → get s.ids p ≡ found (at_place (id_in layout)) p rows
  id_get p = get-from_entries places_total (filter_map (at_place (id_in layout)) rows) p

  pub dates_get : (p : Place) → get s.dates p ≡ found (at_place (dates_in layout)) p rows
  dates_get p = get-from_entries places_total (filter_map (at_place (dates_in layout)) rows) p

  pub content_get : (id : Cell) → get s.contents id ≡ fin.find cell_cmp id (filter_map content_entry contents)
  content_get id = get-from_entries cells_total (filter_map content_entry contents) id

  pub name_get : (name : List ℕ) → get s.metadata name ≡ fin.find (slice_cmp nat_cmp) name (filter_map name_entry metadata)
  name_get name = get-from_entries nat_list_cmp_total (filter_map name_entry metadata) name

  joined_rows : is_normalized layout ≡ true → All (Joins (at_place (id_in layout)) (tile_in layout contents) (cell_under contents)) rows
  joined_rows n = λ k d lt. joins_row layout contents (get_or rows k d) n (pass.places k d lt) (pass.references k d lt)

  same_join : (o : Option Cell) → option_and_then (cell_under contents) o ≡ option_and_then (λ id. option_and_then contents_of (get s.contents id)) o
  same_join None = refl
  same_join (Some id) = ap (option_and_then contents_of) (sym (content_get id))

  on_board : AllOnBoard s
  on_board p h = by (found (tile_in layout contents) p rows) refl (ap is_some (sym (tile_get p)) ∙ h)
    where
      by : (o : Option (Option (List ℕ))) → found (tile_in layout contents) p rows ≡ o → is_some o ≡ true → IsOnBoard p
      by (Some c) e h =
          let r = found_row (tile_in layout contents) p rows c (λ row. bad_tile layout contents row ≡ None) pass.places e in
          subst IsOnBoard (sym r.3) (place_on_board r.0 r.1 (in_has_place layout contents r.0 (r.1, c) r.2))
      by None e h = absurd (false≢true h)

  placed : (p : Place) → contains_key s.ids p ≡ (is_normalized layout && contains_key s.tiles p)
  placed p = by (is_normalized layout) refl
    where
      by : (b : Bool) → is_normalized layout ≡ b → contains_key s.ids p ≡ (is_normalized layout && contains_key s.tiles p)
      by true n = ap is_some (id_get p) ∙ (found_both (at_place (id_in layout)) (tile_in layout contents) p rows (All-weaker (Joins (at_place (id_in layout)) (tile_in layout contents) (cell_under contents)) (Agrees (at_place (id_in layout)) (tile_in layout contents)) (agree_if_joined (at_place (id_in layout)) (tile_in layout contents) (cell_under contents)) rows (joined_rows n)) ∙ (ap is_some (sym (tile_get p)) ∙ and_true (is_normalized layout) (contains_key s.tiles p) n))
      by false n = ap is_some (id_get p ∙ found_never (at_place (id_in layout)) p rows (λ k d lt. never_id layout (get_or rows k d) n)) ∙ and_false (is_normalized layout) (contains_key s.tiles p) n

  stored : (id cell : Cell) → get s.contents id ≡ Some cell → IsContentOf layout s.algorithm id cell
  stored id cell h = by (is_normalized layout) refl
    where
      by : (b : Bool) → is_normalized layout ≡ b → IsContentOf layout s.algorithm id cell
      by true n =
          let r = entry_key (λ row. (is_id layout (cell_at 0 row) ≡ true) × (wrong_content_hash layout s.algorithm row ≡ None)) id cell contents (λ k d lt. (pass.content_kinds k d lt, pass.content_hashes k d lt)) (sym (content_get id) ∙ h) in
          record {
            normalised = n;
            present = ap is_null r.1 ∙ r.2;
            kind = ap (is_id layout) r.1 ∙ r.4.0;
            digest = hash_same layout s.algorithm r.0 id cell r.1 r.3 ∙ r.4.1;
          }
        where
          hash_same : (l : MbtType) (a : HashAlgorithm) (row : List Cell) (id cell : Cell) → id ≡ cell_at 0 row → cell_at 1 row ≡ cell → wrong_content_hash l a (id ∷ cell ∷ []) ≡ wrong_content_hash l a row
          hash_same (Normalized view Hash) a row id cell e f = ap (λ c. wrong_hash a c id) (sym f) ∙ ap (wrong_hash a (cell_at 1 row)) e
          hash_same _ a row id cell e f = refl
      by false n = absurd (nothing (ap (λ l. fin.find cell_cmp id (filter_map content_entry l)) (sym (none n)) ∙ (sym (content_get id) ∙ h)))
        where
          nothing : None ≡ Some cell → ⊥
          nothing h = cc

  dated : (p : Place) → contains_key s.dates p ≡ (is_cache layout && contains_key s.tiles p)
  dated p = by (is_cache layout) refl
    where
      by : (b : Bool) → is_cache layout ≡ b → contains_key s.dates p ≡ (is_cache layout && contains_key s.tiles p)
      by true n = ap is_some (dates_get p) ∙ (found_both (at_place (dates_in layout)) (tile_in layout contents) p rows (λ k d lt. dates_row layout contents (get_or rows k d) n (pass.places k d lt)) ∙ (ap is_some (sym (tile_get p)) ∙ and_true (is_cache layout) (contains_key s.tiles p) n))
      by false n = ap is_some (dates_get p ∙ found_never (at_place (dates_in layout)) p rows (λ k d lt. never_dates layout (get_or rows k d) n)) ∙ and_false (is_cache layout) (contains_key s.tiles p) n

  pub is_loadable : IsLoadable s
  is_loadable = record {
    on_board = on_board;
    placed = placed;
    joined = λ n p. tile_get p ∙ (found_through (at_place (id_in layout)) (tile_in layout contents) (cell_under contents) p rows (joined_rows n) ∙ (same_join (found (at_place (id_in layout)) p rows) ∙ ap (option_and_then (λ id. option_and_then contents_of (get s.contents id))) (sym (id_get p))));
    stored = stored;
    dated = dated;
    times = λ p d h. let r = found_row (at_place (dates_in layout)) p rows d (λ row. has_tile_kinds layout row ≡ true) pass.tile_kinds (sym (dates_get p) ∙ h) in cache_times layout r.0 (r.1, d) r.4 r.2;
  }

  pub names_algorithm : NamesAlgorithm s
  names_algorithm =
      let same = ap (option_and_then {U = List ℕ} (λ text. text)) (name_get (codes "hash_algorithm")) in
      record { known = ap unknown_name same ∙ pass.known; named = ap algorithm_by same }

pub key_first : (layout : MbtType) → key_width (content_table layout) ≡ 1
key_first (Normalized view Hash) = refl
key_first _ = refl

content_width : (layout : MbtType) → width (content_table layout) ≡ 2
content_width (Normalized view Hash) = refl
content_width _ = refl

pub own_contents : (layout : MbtType) (ids : List (List Cell)) (row : List Cell) → is_normalized layout ≡ false → tile_in layout [] row ≡ tile_in layout ids row
own_contents (Normalized view schema) ids row h = absurd (false≢true (sym h))
own_contents _ ids row h = refl

-- rows under a key of one cell begin with it
pub filter_begins : (table : TableName) (key : RowKey) (id : Cell) → key_width table ≡ 1 → key_cells key ≡ id ∷ [] → (rows : List (List Cell)) → filter (has_key table key) rows ≡ filter (begins id) rows
filter_begins table key id w k rows = ap (λ f. filter f rows) (λ i row. key_begins table key id w k (key_whole key id k) row i)

module _ (t : Tables) (layout : MbtType) (sound : IsSound t) (laid : layout_of t.descriptions ≡ Some layout) (described : metadata_missing t.descriptions ≡ None) (indexed : index_missing t.descriptions layout ≡ None) (pass : ArePassing layout (t.rows Metadata) (content_rows layout t) (t.rows (tile_table layout))) where
  abbrev rows : List (List Cell)
  rows = t.rows (tile_table layout)

  abbrev contents : List (List Cell)
  contents = content_rows layout t

  abbrev patch : Option PatchType
  patch = patch_type_of t.descriptions

  abbrev state : State
  state = held_by layout patch (t.rows Metadata) contents rows

  no_rows : is_normalized layout ≡ false → contents ≡ []
  no_rows = no_contents layout t

  wide : All (λ row. length row ≡ 2) contents
  wide = by (is_normalized layout) refl
    where
      by : (b : Bool) → is_normalized layout ≡ b → All (λ row. length row ≡ 2) contents
      by true n = subst (All (λ row. length row ≡ 2)) (sym (rows_of_contents layout t n)) (subst (λ w. All (λ row. length row ≡ w) (t.rows (content_table layout))) (content_width layout) (sound.widths (content_table layout)))
      by false n = subst (All (λ row. length row ≡ 2)) (sym (no_contents layout t n)) (All-nil (λ row. length row ≡ 2))

  keyed : is_keyed t.descriptions (tile_table layout) ≡ true
  keyed = holds (is_keyed t.descriptions (tile_table layout)) NoUniquenessConstraint indexed

  fits : (p : Place) → FitsPlace state p (filter (has_key (tile_table layout) (tile_key p)) rows)
  fits p = record {
    alone = alone_under (tile_table layout) (tile_key p) refl rows (sound.keys (tile_table layout) keyed);
    tile = λ flat. under_key layout (tile_in layout []) (in_has_place layout []) p rows ∙ (ap (λ f. fin.find place_cmp p (filter_map f rows)) (λ i row. own_contents layout contents row flat i) ∙ sym (tile_get layout patch (t.rows Metadata) contents rows pass no_rows p));
    id = under_key layout (at_place (id_in layout)) (at_place_placed (id_in layout)) p rows ∙ sym (id_get layout patch (t.rows Metadata) contents rows pass no_rows p);
    dates = under_key layout (at_place (dates_in layout)) (at_place_placed (dates_in layout)) p rows ∙ sym (dates_get layout patch (t.rows Metadata) contents rows pass no_rows p);
  }

  pub loaded_from : IsLoadedFrom t (fresh state)
  loaded_from = record {
    layout = laid;
    patch_type = refl;
    described = described;
    indexed = indexed;
    state = is_loadable layout patch (t.rows Metadata) contents rows pass no_rows;
    with_ids = λ id e. absurd (false≢true (ap is_some (sym (get-empty cell_cmp id)) ∙ e));
    tiles = λ p _. fits p;
    contents = λ id key is _.
        filter_begins (content_table layout) key id (key_first layout) is contents
        ∙ (filter_entry id (key_whole key id is) contents wide pass.ids
        ∙ ap (λ o. option_to_list (option_map (λ cell. id ∷ cell ∷ []) o)) (sym (content_get layout patch (t.rows Metadata) contents rows pass no_rows id)));
    names = λ name _.
        filter_begins Metadata (TextId name) (Text name) refl refl (t.rows Metadata)
        ∙ (filter_entry (Text name) refl (t.rows Metadata) (sound.widths Metadata) pass.names
        ∙ (ap (λ o. option_to_list (option_map (λ cell. Text name ∷ cell ∷ []) o)) (names_as_entries name (t.rows Metadata) pass.name_kinds)
        ∙ (ap (λ o. option_to_list o) (both name (fin.find (slice_cmp nat_cmp) name (filter_map name_entry (t.rows Metadata))))
        ∙ ap (λ o. option_to_list (option_map (λ v. Text name ∷ text_cell v ∷ []) o)) (sym (name_get layout patch (t.rows Metadata) contents rows pass no_rows name)))));
    tile_rows = λ k d lt. record { kinds = pass.tile_kinds k d lt; place = place_tested layout contents (get_or rows k d) (pass.places k d lt); digest = pass.tile_hashes k d lt };
    content_rows = λ k d lt. record { width = wide k d lt; kind = pass.content_kinds k d lt; digest = pass.content_hashes k d lt };
    name_rows = pass.name_kinds;
  }
    where
      both : (name : List ℕ) (o : Option (Option (List ℕ))) → option_map (λ cell. Text name ∷ cell ∷ []) (option_map text_cell o) ≡ option_map (λ v. Text name ∷ text_cell v ∷ []) o
      both name None = refl
      both name (Some v) = refl

-- the tests over descriptions come first
unrefused : (t : Tables) (layout : MbtType) (s : State) (o : Option MbtError) → unless_refused layout t o ≡ Ok s → o ≡ None
unrefused t layout s (Some e) h = cc
unrefused t layout s None h = refl

due_none : (x s : State) (o : Option MbtError) → due_by x o ≡ Ok s → (o ≡ None) × (x ≡ s)
due_none x s (Some e) h = cc
due_none x s None h = (refl, cc)

-- a state that tables give: the layout of these, and the tests that they pass
record IsGiven (t : Tables) (s : State) : Type 0 where
  pub layout : MbtType
  pub laid : layout_of t.descriptions ≡ Some layout
  pub described : metadata_missing t.descriptions ≡ None
  pub indexed : index_missing t.descriptions layout ≡ None
  pub pass : ArePassing layout (t.rows Metadata) (content_rows layout t) (t.rows (tile_table layout))
  pub same : held_by layout (patch_type_of t.descriptions) (t.rows Metadata) (content_rows layout t) (t.rows (tile_table layout)) ≡ s

given : (t : Tables) (s : State) → state_of t ≡ Ok s → IsGiven t s
given t s h = laid (layout_of t.descriptions) refl
  where
    by : (layout : MbtType) → layout_of t.descriptions ≡ Some layout → IsGiven t s
    by layout e =
        let none = unrefused t layout s (first_refusal (refusals layout t)) (ap (λ o. stated o t) (sym e) ∙ h) in
        let first = both_none (metadata_missing t.descriptions) _ none in
        let second = both_none (index_missing t.descriptions layout) _ first.1 in
        let x : State = held_by layout (patch_type_of t.descriptions) (t.rows Metadata) (content_rows layout t) (t.rows (tile_table layout)) in
        let due = due_none x s (first_refusal (row_refusals layout (t.rows Metadata) (content_rows layout t) (t.rows (tile_table layout)))) (sym (state_is t layout e first.0 second.0) ∙ h) in
        record { layout = layout; laid = e; described = first.0; indexed = second.0; pass = passing layout (t.rows Metadata) (content_rows layout t) (t.rows (tile_table layout)) due.0; same = due.1 }

    laid : (o : Option MbtType) → layout_of t.descriptions ≡ o → IsGiven t s
    laid None e = absurd (refused (ap (λ o. stated o t) (sym e) ∙ h))
      where
        refused : Err InvalidDataFormat ≡ Ok s → ⊥
        refused k = cc
    laid (Some layout) e = by layout e

-- it is one that tables can hold, and its metadata names its algorithm
pub state_whole : (t : Tables) (s : State) → state_of t ≡ Ok s → IsLoadable s × NamesAlgorithm s
state_whole t s h =
    let g = given t s h in (
      subst IsLoadable g.same (is_loadable g.layout (patch_type_of t.descriptions) (t.rows Metadata) (content_rows g.layout t) (t.rows (tile_table g.layout)) g.pass (no_contents g.layout t)),
      subst NamesAlgorithm g.same (names_algorithm g.layout (patch_type_of t.descriptions) (t.rows Metadata) (content_rows g.layout t) (t.rows (tile_table g.layout)) g.pass (no_contents g.layout t)),
    )

-- and it is loaded from them
pub loads : (t : Tables) (s : State) → IsSound t → state_of t ≡ Ok s → IsLoadedFrom t (fresh s)
loads t s sound h =
    let g = given t s h in
    subst (λ s. IsLoadedFrom t (fresh s)) g.same (loaded_from t g.layout sound g.laid g.described g.indexed g.pass)

-- the same of what a load answers
pub answer_loaded : (t : Tables) (r : Result Held MbtError) → IsSound t → Loads (state_of t) r → IfOk r (IsLoadedFrom t)
answer_loaded t (Ok h) sound l = let same : fresh h.state ≡ h = λ i. record { state = h.state; edited = sym l.1 i } in subst (IsLoadedFrom t) same (loads t h.state sound l.0)
answer_loaded t (Err e) sound l = tt

pub answer_whole : (r : Result Held MbtError) → (t : Tables) × Loads (state_of t) r → IfOk r (λ h. IsLoadable h.state)
answer_whole (Ok h) own = (state_whole own.0 h.state own.1.0).0
answer_whole (Err e) own = tt

pub answer_named : (r : Result Held MbtError) → (t : Tables) × Loads (state_of t) r → IfOk r (λ h. NamesAlgorithm h.state)
answer_named (Ok h) own = (state_whole own.0 h.state own.1.0).1
answer_named (Err e) own = tt
