-- Tables that a set was loaded from, with nothing edited since, load to the same state.
use Rattle.mb_load.proofs.Common.{algorithm_by, algorithm_of, algorithm_unknown, and_parts, any_from_filter, ap, apart_from, are_apart, arith, at_place, bad_tile, begins, Bool, by_place, Cell}
use Rattle.mb_load.proofs.Common.{cell_at, cell_cmp, cell_cmp-IsAntisymmetric, cells_total, codes, cond, contains_key, content_entry, content_of, content_row, content_rows, content_table}
use Rattle.mb_load.proofs.Common.{contents_by_id, contents_of, dates_in, DedupId, due_by, entry_from, entry_key, false, false≢true, filter, filter_map, find_only, FitsPlace, found, fresh, fronts, get}
use Rattle.mb_load.proofs.Common.{get-empty, get-from_entries, get_or, has_key, Hash, held_by, id_in, id_text, in_has_place, Int, IntId, InvalidTileIndex, is_id, is_keyed, is_normalized, is_null}
use Rattle.mb_load.proofs.Common.{is_number, is_some, is_text, IsGoodContent, IsLoadedFrom, IsSound, key_cells, key_whole, length, List, list_any, MbtType, Metadata, missing_reference}
use Rattle.mb_load.proofs.Common.{MissingTileReference, name_entry, names_as_entries, names_of, NamesAlgorithm, nat_cmp, nat_list_cmp_total, never_twice, None, Normalized, NoUniquenessConstraint}
use Rattle.mb_load.proofs.Common.{Null, Ok, Option, option_and_then, option_map, option_to_list, patch_type_of, Place, place_cmp, place_of, places_antisymmetric, places_total, refl, RowKey, same_map}
use Rattle.mb_load.proofs.Common.{slice_cmp, Some, State, state_of, subst, suc, sym, Tables, Text, text_cell, text_cells, TextId, there, tile_in, tile_key, tile_of, tile_table, true, unknown_name}
use Rattle.mb_load.proofs.Common.{unless, unwrap_or, wrong_content_hash, wrong_tile_hash, zero, ℕ, [], ◌<◌, ◌||◌, ◌∙◌, ◌∷◌, ◌≡◌, ◌≤◌}
use Rattle.std.proofs.Common.{find}
use Rattle.std.specs.FinMap as fin
use Rattle.mb_load.proofs.CommitLemmas.{no_contents}
use Rattle.mb_load.proofs.KeyReading.{at_place_placed, found_through, key_of_place, under_key}
use Rattle.mb_load.proofs.LoadsFrom.{filter_begins, key_first, own_contents}
use Rattle.mb_lists.proofs.NameLemmas.{names_antisymmetric}
use Rattle.mb_load.proofs.PutRowLemmas.{id_known, tied}
use Rattle.mb_load.proofs.RowsPass.{ArePassing, cell_under, holds, joins_row, pass_all}
use Rattle.mb_load.proofs.StateLemmas.{state_is}
use Rattle.mb_tables.specs.Kind as kind

-- a cell that is the key of a row
abbrev pub IsKeyed : Cell → Type 0
IsKeyed id = (key : RowKey) × (key_cells key ≡ id ∷ [])

text_keyed : (id : Cell) → is_text id ≡ true → is_null id ≡ false → IsKeyed id
text_keyed (Text t) h n = (TextId t, refl)
text_keyed Null h n = absurd (false≢true (sym n))
text_keyed _ h n = absurd (false≢true h)

number_keyed : (id : Cell) → is_number id ≡ true → is_null id ≡ false → IsKeyed id
number_keyed (Int m) h n = (IntId m, refl)
number_keyed Null h n = absurd (false≢true (sym n))
number_keyed _ h n = absurd (false≢true h)

id_keyed : (l : MbtType) (id : Cell) → is_normalized l ≡ true → is_id l id ≡ true → is_null id ≡ false → IsKeyed id
id_keyed (Normalized view Hash) id n k w = text_keyed id k w
id_keyed (Normalized view DedupId) id n k w = number_keyed id k w
id_keyed _ id n k w = absurd (false≢true n)

short : {X : Type 0} (o : Option X) → length (option_to_list o) ≤ 1
short None = omega arith
short (Some x) = omega arith

-- one that passes, where at most one does
some_pass : {X : Type 0} (p : X → Bool) (xs : List X) (k : ℕ) (d : X) → k < length xs → p (get_or xs k d) ≡ true → 1 ≤ length (filter p xs)
some_pass p [] k d lt h = absurd (omega arith)
some_pass p (x ∷ xs) zero d lt h = rw h (omega arith)
some_pass p (x ∷ xs) (suc k) d lt h = by (p x) (some_pass p xs k d (omega arith) h)
  where
    by : (b : Bool) → 1 ≤ length (filter p xs) → 1 ≤ length (cond b (x ∷ filter p xs) (filter p xs))
    by true e = omega arith
    by false e = e

no_more : {X : Type 0} (x : X) (ys : List X) → length (x ∷ ys) ≤ 1 → ys ≡ []
no_more x [] e = refl
no_more x (y ∷ ys) e = absurd (omega arith)

only_one : {X : Type 0} (p : X → Bool) (xs : List X) (k : ℕ) (d : X) → k < length xs → p (get_or xs k d) ≡ true → length (filter p xs) ≤ 1 → filter p xs ≡ get_or xs k d ∷ []
only_one p [] k d lt h one = absurd (omega arith)
only_one p (x ∷ xs) zero d lt h one = rw h (ap (λ l. x ∷ l) (no_more x (filter p xs) (rw h at one)))
only_one p (x ∷ xs) (suc k) d lt h one = by (p x) refl one (some_pass p xs k d (omega arith) h) (only_one p xs k d (omega arith) h)
  where
    by : (b : Bool) → p x ≡ b → length (cond b (x ∷ filter p xs) (filter p xs)) ≤ 1 → 1 ≤ length (filter p xs) → (length (filter p xs) ≤ 1 → filter p xs ≡ get_or xs k d ∷ []) → cond b (x ∷ filter p xs) (filter p xs) ≡ get_or xs k d ∷ []
    by true e one some rest = absurd (omega arith)
    by false e one some rest = rest one

-- the place of a row with an id
row_place : (row : List Cell) (e : Bool) → is_some (tile_of row Null) ≡ true → (p : Place) × (place_of row ≡ Some p)
row_place row e h = by (place_of row) refl
  where
    by : (o : Option Place) → place_of row ≡ o → (p : Place) × (place_of row ≡ Some p)
    by (Some p) f = (p, f)
    by None f = let is : tile_of row Null ≡ None = simp f in absurd (false≢true (ap is_some (sym is) ∙ h))

pub tile_at : (row : List Cell) (cell : Cell) (p : Place) (c : Option (List ℕ)) → place_of row ≡ Some p → contents_of cell ≡ Some c → tile_of row cell ≡ Some (p, c)
tile_at row cell p c e f = simp (e, f)

module _ (t : Tables) (s : State) (sound : IsSound t) (loaded : IsLoadedFrom t (fresh s)) (algorithm : NamesAlgorithm s) where
  abbrev layout : MbtType
  layout = s.layout

  abbrev rows : List (List Cell)
  rows = t.rows (tile_table layout)

  abbrev contents : List (List Cell)
  contents = content_rows layout t

  abbrev metadata : List (List Cell)
  metadata = t.rows Metadata

  fits : (p : Place) → FitsPlace s p (filter (has_key (tile_table layout) (tile_key p)) rows)
  fits p = loaded.tiles p (ap is_some (get-empty place_cmp p))

  -- contents
  under_id : (id : Cell) → IsKeyed id → filter (begins id) contents ≡ option_to_list (content_row s id)
  under_id id k = sym (filter_begins (content_table layout) k.0 id (key_first layout) k.1 contents) ∙ loaded.contents id k.0 k.1 (ap is_some (get-empty cell_cmp id))

  entry_is : (id : Cell) → IsKeyed id → fin.find cell_cmp id (filter_map content_entry contents) ≡ get s.contents id
  entry_is id k = entry_from id (key_whole k.0 id k.1) contents (get s.contents id) (under_id id k)

  -- names
  under_name : (name : List ℕ) → filter (begins (Text name)) metadata ≡ option_to_list (option_map (λ cell. Text name ∷ cell ∷ []) (option_map text_cell (get s.metadata name)))
  under_name name = sym (filter_begins Metadata (TextId name) (Text name) refl refl metadata) ∙ (loaded.names name (ap is_some (get-empty (slice_cmp nat_cmp) name)) ∙ ap option_to_list (both (get s.metadata name)))
    where
      both : (o : Option (Option (List ℕ))) → option_map (λ v. Text name ∷ text_cell v ∷ []) o ≡ option_map (λ cell. Text name ∷ cell ∷ []) (option_map text_cell o)
      both None = refl
      both (Some v) = refl

  name_is : (name : List ℕ) → fin.find (slice_cmp nat_cmp) name (filter_map name_entry metadata) ≡ get s.metadata name
  name_is name = text_cells _ _ (sym (names_as_entries name metadata loaded.name_rows) ∙ entry_from (Text name) refl metadata (option_map text_cell (get s.metadata name)) (under_name name))

  algorithm_is : algorithm_of metadata ≡ s.algorithm
  algorithm_is = ap (λ o. algorithm_by (option_and_then {U = List ℕ} (λ text. text) o)) (name_is (codes "hash_algorithm")) ∙ algorithm.named

  known : algorithm_unknown metadata ≡ None
  known = ap (λ o. unknown_name (option_and_then {U = List ℕ} (λ text. text) o)) (name_is (codes "hash_algorithm")) ∙ algorithm.known

  -- a row with an id in a normalised set
  named_row : is_normalized layout ≡ true → (k : ℕ) (d : List Cell) → k < length rows → (p : Place) → place_of (get_or rows k d) ≡ Some p → is_null (cell_at 3 (get_or rows k d)) ≡ false → get s.ids p ≡ Some (cell_at 3 (get_or rows k d))
  named_row n k d lt p place whole =
      let row = get_or rows k d in
      let has : has_key (tile_table layout) (tile_key p) row ≡ true = key_of_place layout p p row place ∙ tied p in
      let alone : filter (has_key (tile_table layout) (tile_key p)) rows ≡ row ∷ [] = only_one (has_key (tile_table layout) (tile_key p)) rows k d lt has (fits p).alone in
      let id : at_place (id_in layout) row ≡ Some (p, cell_at 3 row) = read layout n row place whole in
      sym (fits p).id ∙ (ap (found (at_place (id_in layout)) p) alone ∙ one row id)
    where
      read : (l : MbtType) → is_normalized l ≡ true → (row : List Cell) → place_of row ≡ Some p → is_null (cell_at 3 row) ≡ false → at_place (id_in l) row ≡ Some (p, cell_at 3 row)
      read (Normalized view schema) n row e w = ap (λ o. option_and_then (λ place. option_map (λ v. (place, v)) (cond (is_null (cell_at 3 row)) None (Some (cell_at 3 row)))) o) e ∙ ap (λ b. option_map (λ v. (p, v)) (cond b None (Some (cell_at 3 row)))) w
      read _ n row e w = absurd (false≢true n)

      one : (row : List Cell) → at_place (id_in layout) row ≡ Some (p, cell_at 3 row) → found (at_place (id_in layout)) p (row ∷ []) ≡ Some (cell_at 3 row)
      one row e = rw (e, tied p) refl

  -- the contents of its id are there, and are bytes or null
  known_contents : is_normalized layout ≡ true → (p : Place) (id : Cell) → get s.ids p ≡ Some id → (list_any (begins id) contents ≡ true) × ((c : Option (List ℕ)) × (contents_of (content_of contents id) ≡ Some c))
  known_contents n p id e =
      let c = id_known s loaded.state p id e in
      let key = id_keyed layout id n c.3.kind c.3.present in
      let only : filter (begins id) contents ≡ (id ∷ c.0 ∷ []) ∷ [] = under_id id key ∙ ap (λ o. option_to_list (option_map (λ cell. id ∷ cell ∷ []) o)) c.1 in
      let first : find (begins id) contents ≡ Some (id ∷ c.0 ∷ []) = find_only (begins id) contents (Some (id ∷ c.0 ∷ [])) only in
      let two = and_parts (is_normalized layout) (contains_key s.tiles p) (sym (loaded.state.placed p) ∙ ap is_some e) in
      let tile = there (get s.tiles p) two.1 in
      (any_from_filter (begins id) contents (id ∷ c.0 ∷ []) [] only, (tile.0, ap (λ o. contents_of (cell_at 1 (unwrap_or o []))) first ∙ (sym c.2 ∙ tile.1)))

  passes_row : (l : MbtType) (ids : List (List Cell)) (row : List Cell) → bad_tile l [] row ≡ None → ((p : Place) → is_normalized l ≡ true → place_of row ≡ Some p → is_null (cell_at 3 row) ≡ false → (list_any (begins (cell_at 3 row)) ids ≡ true) × ((c : Option (List ℕ)) × (contents_of (content_of ids (cell_at 3 row)) ≡ Some c))) → (bad_tile l ids row ≡ None) × (missing_reference l ids row ≡ None)
  passes_row (Normalized view schema) ids row h f = by (is_null (cell_at 3 row)) refl h
    where
      id : Cell
      id = cell_at 3 row

      by : (b : Bool) → is_null (cell_at 3 row) ≡ b → option_and_then (λ cell. unless (is_some (tile_of row cell)) (InvalidTileIndex (cell_at 0 row) (cell_at 1 row) (cell_at 2 row))) (cond b None (Some Null)) ≡ None → (option_and_then (λ cell. unless (is_some (tile_of row cell)) (InvalidTileIndex (cell_at 0 row) (cell_at 1 row) (cell_at 2 row))) (cond b None (Some (content_of ids (cell_at 3 row)))) ≡ None) × (unless (b || list_any (begins (cell_at 3 row)) ids) (MissingTileReference (id_text (cell_at 3 row)) (kind.contents_of schema)) ≡ None)
      by true e h = (refl, refl)
      by false e h =
          let p = row_place row false (holds _ _ h) in
          let c = f p.0 refl p.1 e in (
            ap (λ t. unless (is_some t) (InvalidTileIndex (cell_at 0 row) (cell_at 1 row) (cell_at 2 row))) (tile_at row (content_of ids (cell_at 3 row)) p.0 c.1.0 p.1 c.1.1),
            ap (λ b. unless b (MissingTileReference (id_text (cell_at 3 row)) (kind.contents_of schema))) c.0,
          )
  passes_row _ ids row h f = (h, refl)

  passes_at : (k : ℕ) (d : List Cell) → k < length rows → (bad_tile layout contents (get_or rows k d) ≡ None) × (missing_reference layout contents (get_or rows k d) ≡ None)
  passes_at k d lt = passes_row layout contents (get_or rows k d) (loaded.tile_rows k d lt).place (λ p n place whole. known_contents n p (cell_at 3 (get_or rows k d)) (named_row n k d lt p place whole))

  apart_ids : are_apart (fronts contents) ≡ true
  apart_ids = by (is_normalized layout) refl
    where
      by : (b : Bool) → is_normalized layout ≡ b → are_apart (fronts contents) ≡ true
      by true n = apart_from IsKeyed contents (λ k d lt. λ whole. id_keyed layout (cell_at 0 (get_or contents k d)) n (loaded.content_rows k d lt).kind whole) (λ id whole key. subst (λ l. length l ≤ 1) (sym (under_id id key)) (short (content_row s id)))
      by false n = ap (λ l. are_apart (fronts l)) (no_contents layout t n)

  apart_names : are_apart (fronts metadata) ≡ true
  apart_names = apart_from (λ id. (name : List ℕ) × (id ≡ Text name)) metadata (λ k d lt. λ whole. text_of_front (cell_at 0 (get_or metadata k d)) (and_parts (is_text (cell_at 0 (get_or metadata k d))) (is_text (cell_at 1 (get_or metadata k d))) (loaded.name_rows k d lt)).0 whole) (λ id whole named. subst (λ l. length l ≤ 1) (sym (ap (λ i. filter (begins i) metadata) named.1 ∙ under_name named.0)) (short (option_map (λ cell. Text named.0 ∷ cell ∷ []) (option_map text_cell (get s.metadata named.0)))))
    where
      text_of_front : (c : Cell) → is_text c ≡ true → is_null c ≡ false → (name : List ℕ) × (c ≡ Text name)
      text_of_front (Text t) h w = (t, refl)
      text_of_front Null h w = absurd (false≢true (sym w))
      text_of_front _ h w = absurd (false≢true h)

  are_passing : ArePassing layout metadata contents rows
  are_passing = record {
    ids = apart_ids;
    tile_kinds = λ k d lt. (loaded.tile_rows k d lt).kinds;
    content_kinds = λ k d lt. (loaded.content_rows k d lt).kind;
    name_kinds = loaded.name_rows;
    names = apart_names;
    known = known;
    places = λ k d lt. (passes_at k d lt).0;
    references = λ k d lt. (passes_at k d lt).1;
    tile_hashes = λ k d lt. ap (λ a. wrong_tile_hash layout a (get_or rows k d)) algorithm_is ∙ (loaded.tile_rows k d lt).digest;
    content_hashes = λ k d lt. ap (λ a. wrong_content_hash layout a (get_or contents k d)) algorithm_is ∙ (loaded.content_rows k d lt).digest;
    apart = never_twice t layout contents sound (holds (is_keyed t.descriptions (tile_table layout)) NoUniquenessConstraint loaded.indexed);
  }

  -- what is read is the state
  ids_read : (p : Place) → found (at_place (id_in layout)) p rows ≡ get s.ids p
  ids_read p = sym (under_key layout (at_place (id_in layout)) (at_place_placed (id_in layout)) p rows) ∙ (fits p).id

  tiles_read : (p : Place) → found (tile_in layout contents) p rows ≡ get s.tiles p
  tiles_read p = by (is_normalized layout) refl
    where
      joined : is_normalized layout ≡ true → (o : Option Cell) → get s.ids p ≡ o → option_and_then (cell_under contents) o ≡ option_and_then (λ id. option_and_then contents_of (get s.contents id)) o
      joined n None e = refl
      joined n (Some id) e = let c = id_known s loaded.state p id e in ap (option_and_then contents_of) (entry_is id (id_keyed layout id n c.3.kind c.3.present))

      by : (b : Bool) → is_normalized layout ≡ b → found (tile_in layout contents) p rows ≡ get s.tiles p
      by true n =
          found_through (at_place (id_in layout)) (tile_in layout contents) (cell_under contents) p rows (λ k d lt. joins_row layout contents (get_or rows k d) n (passes_at k d lt).0 (passes_at k d lt).1)
          ∙ (ap (option_and_then (cell_under contents)) (ids_read p)
          ∙ (joined n (get s.ids p) refl
          ∙ sym (loaded.state.joined n p)))
      by false n =
          sym (ap (λ f. fin.find place_cmp p (filter_map f rows)) (λ i row. own_contents layout contents row n i))
          ∙ (sym (under_key layout (tile_in layout []) (in_has_place layout []) p rows) ∙ (fits p).tile n)

  contents_read : (id : Cell) → fin.find cell_cmp id (filter_map content_entry contents) ≡ get s.contents id
  contents_read id = by (fin.find cell_cmp id (filter_map content_entry contents)) refl (get s.contents id) refl
    where
      by : (o : Option Cell) → fin.find cell_cmp id (filter_map content_entry contents) ≡ o → (q : Option Cell) → get s.contents id ≡ q → fin.find cell_cmp id (filter_map content_entry contents) ≡ get s.contents id
      by None e None f = e ∙ sym f
      by o e (Some cell) f = let c = loaded.state.stored id cell f in entry_is id (id_keyed layout id c.normalised c.kind c.present)
      by (Some cell) e None f =
          let r = entry_key (IsGoodContent layout s.algorithm) id cell contents loaded.content_rows e in
          entry_is id (norm (is_normalized layout) refl (subst (λ c. is_id layout c ≡ true) (sym r.1) r.4.kind) (ap is_null r.1 ∙ r.2))
        where
          norm : (b : Bool) → is_normalized layout ≡ b → is_id layout id ≡ true → is_null id ≡ false → IsKeyed id
          norm true n k w = id_keyed layout id n k w
          norm false n k w = absurd (nothing (ap (λ l. fin.find cell_cmp id (filter_map content_entry l)) (sym (no_contents layout t n)) ∙ e))
            where
              nothing : None ≡ Some cell → ⊥
              nothing h = cc

  same_state : held_by layout (patch_type_of t.descriptions) metadata contents rows ≡ s
  same_state = λ i. record {
    layout = layout;
    algorithm = algorithm_is i;
    patch_type = loaded.patch_type i;
    tiles = same_map places_total places_antisymmetric (fin.from_entries (filter_map (tile_in layout contents) rows)) s.tiles (λ p. get-from_entries places_total (filter_map (tile_in layout contents) rows) p ∙ tiles_read p) i;
    metadata = same_map nat_list_cmp_total names_antisymmetric (names_of metadata) s.metadata (λ name. get-from_entries nat_list_cmp_total (filter_map name_entry metadata) name ∙ name_is name) i;
    ids = same_map places_total places_antisymmetric (by_place (id_in layout) rows) s.ids (λ p. get-from_entries places_total (filter_map (at_place (id_in layout)) rows) p ∙ ids_read p) i;
    contents = same_map cells_total cell_cmp-IsAntisymmetric (contents_by_id contents) s.contents (λ id. get-from_entries cells_total (filter_map content_entry contents) id ∙ contents_read id) i;
    dates = same_map places_total places_antisymmetric (by_place (dates_in layout) rows) s.dates (λ p. get-from_entries places_total (filter_map (at_place (dates_in layout)) rows) p ∙ (sym (under_key layout (at_place (dates_in layout)) (at_place_placed (dates_in layout)) p rows) ∙ (fits p).dates)) i;
  }

  pub state_again : state_of t ≡ Ok s
  state_again = state_is t layout loaded.layout loaded.described loaded.indexed ∙ (ap (due_by (held_by layout (patch_type_of t.descriptions) metadata contents rows)) (pass_all layout metadata contents rows are_passing) ∙ ap Ok same_state)
