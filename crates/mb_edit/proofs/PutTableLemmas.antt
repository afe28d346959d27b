-- The tables after a commit of a set into which tiles were put.
use Rattle.mb_edit.proofs.Common.{ap, AreChangesOf, Bool, bytes_put, Cell, cell_at, cell_cmp, cell_eq, cells_eq-Decides, cells_for, cells_total, Change, Commits, committed, cond, cons_option}
use Rattle.mb_edit.proofs.Common.{contains_key, content_table, Dates, dates_for, Edited, entries, false, false≢true, filter, filter_map, FinMap, from_last, front, get, get-empty, get-entries}
use Rattle.mb_edit.proofs.Common.{get-insert, get_or, has_key, HashAlgorithm, Held, id_edited, id_for, Int, IntId, is_some, IsLoadedFrom, IsOnBoard, IsSound, key_cells, key_of, List, list_any}
use Rattle.mb_edit.proofs.Common.{MakesChanges, may_put, MbtType, Metadata, name_edited, NamesAlgorithm, nat_cmp, None, not, nothing_edited, Ok, Option, option_and_then, option_map, option_to_list}
use Rattle.mb_edit.proofs.Common.{or-false, other_tables_stay, patched_at, Place, place_cmp, place_of, places_stand, put_row, refl, RowKey, slice_cmp, Some, stands_in, State, state_again, state_put}
use Rattle.mb_edit.proofs.Common.{subst, sym, table_eq, TableName, Tables, take, Text, TextId, Tile, tile_key, tile_patched, tile_row, tile_table, tiles_put, TileSet, true, with_key, ℕ, [], ◌++◌}
use Rattle.mb_edit.proofs.Common.{◌||◌, ◌∙◌, ◌∷◌, ◌≡◌}
use Rattle.mb_edit.specs.PutTables.{ArePut, begins_with_any, ids_put, is_tile_table}
use Rattle.mb_edit.proofs.EditedLemmas.{tiles_edited}
use Rattle.mb_edit.proofs.FrameLemmas.{frame, tile_rows_stay}
use Rattle.mb_edit.proofs.PatchedLemmas.{get-patched_by}
use Rattle.mb_edit.proofs.PutLemmas.{put_layout, put_loaded, put_named, put_state}
use Rattle.mb_edit.proofs.StateLemmas.{tiles_state}
use Rattle.mb_load.proofs.LoadsFrom.{key_first}
use Rattle.mb_tables.proofs.ListLemmas.{filter_every}
use Rattle.mb_tables.proofs.TableLemmas.{same_table}

-- what is known of a row by tests that agree on it
filters_agree : (p q : List Cell → Bool) (rows : List (List Cell)) → ((row : List Cell) → p row ≡ q row) → filter p rows ≡ filter q rows
filters_agree p q [] same = refl
filters_agree p q (row ∷ rows) same = ap (λ b. cond b (row ∷ filter p rows) (filter p rows)) (same row) ∙ ap (λ l. cond (q row) (row ∷ l) l) (filters_agree p q rows same)

-- the names and the ids that count as edited after tiles were put
names_unedited : (h : Held) (es : List (Place × Option (List ℕ))) → (from_last tile_patched h es).edited.names ≡ h.edited.names
names_unedited h [] = refl
names_unedited h (e ∷ es) = by e.1 (names_unedited h es)
  where
    by : (o : Option (List ℕ)) → (from_last tile_patched h es).edited.names ≡ h.edited.names → (tile_patched (from_last tile_patched h es) (e.0, o)).edited.names ≡ h.edited.names
    by (Some bytes) rest = rest
    by None rest = rest

is_some_cond : {A : Type 0} (b h r : Bool) (x : A) (o : Option A) → is_some o ≡ (h || r) → is_some (cond b (Some x) o) ≡ (h || (b || r))
is_some_cond true true r x o e = refl
is_some_cond true false r x o e = refl
is_some_cond false h r x o e = e

-- whether an id is that of some of the bytes
abbrev among : MbtType → HashAlgorithm → Cell → List (List ℕ) → Bool
among layout a id put = list_any (cell_eq id) (filter_map (id_for layout a) put)

key_added : (ids : FinMap cell_cmp (Unit {0})) (o : Option Cell) (id : Cell) (h : Bool) (rest : List Cell) → contains_key ids id ≡ (h || list_any (cell_eq id) rest) → contains_key (with_key ids o) id ≡ (h || list_any (cell_eq id) (cons_option o rest))
key_added ids None id h rest e = e
key_added ids (Some k) id h rest e = ap is_some (get-insert cells_total ids k tt id) ∙ is_some_cond (cell_eq id k) h (list_any (cell_eq id) rest) tt (get ids id) e

ids_edited : (h : Held) (id : Cell) (es : List (Place × Option (List ℕ))) → contains_key (from_last tile_patched h es).edited.ids id ≡ (contains_key h.edited.ids id || among h.state.layout h.state.algorithm id (filter_map (λ e. e.1) es))
ids_edited h id [] = sym (or-false (contains_key h.edited.ids id))
ids_edited h id (e ∷ es) = by e.1 (ids_edited h id es)
  where
    by : (o : Option (List ℕ)) → contains_key (from_last tile_patched h es).edited.ids id ≡ (contains_key h.edited.ids id || among h.state.layout h.state.algorithm id (filter_map (λ e. e.1) es)) → contains_key (tile_patched (from_last tile_patched h es) (e.0, o)).edited.ids id ≡ (contains_key h.edited.ids id || among h.state.layout h.state.algorithm id (cons_option o (filter_map (λ e. e.1) es)))
    by None rest = rest
    by (Some bytes) rest =
        ap (λ (s : State). contains_key (with_key (from_last tile_patched h es).edited.ids (id_for s.layout s.algorithm bytes)) id) (tiles_state h es)
        ∙ key_added (from_last tile_patched h es).edited.ids (id_for h.state.layout h.state.algorithm bytes) id (contains_key h.edited.ids id) (filter_map (id_for h.state.layout h.state.algorithm) (filter_map (λ e. e.1) es)) rest

first_cell : (row : List Cell) (id : Cell) → take 1 row ≡ id ∷ [] → cell_at 0 row ≡ id
first_cell [] id e = cc
first_cell (x ∷ row) id e = let s : x ≡ id = cc in s

-- the row of a place where a tile is put
abbrev row_for : MbtType → HashAlgorithm → Place → Option (Option (List ℕ)) → Option Cell → Option Dates → Option (List Cell)
row_for layout a p tile id dates = option_map (λ contents. front p ++ cells_for layout a contents id dates) tile

module _ (s : State) (tiles : TileSet) (p : Place) where
  abbrev row_by : Option (Option (List ℕ)) → Option (List Cell)
  row_by o = row_for s.layout s.algorithm p (patched_at (λ bytes. Some (Some bytes)) o (get s.tiles p)) (patched_at (id_for s.layout s.algorithm) o (get s.ids p)) (patched_at (λ bytes. dates_for s.layout) o (get s.dates p))

  row_at : tile_row (state_put s tiles) p ≡ row_by (get tiles p)
  row_at =
      ap (λ o. row_for s.layout s.algorithm p o (get (state_put s tiles).ids p) (get (state_put s tiles).dates p)) (get-patched_by (λ bytes. Some (Some bytes)) p tiles s.tiles)
      ∙ (ap (λ o. row_for s.layout s.algorithm p (patched_at (λ bytes. Some (Some bytes)) (get tiles p) (get s.tiles p)) o (get (state_put s tiles).dates p)) (get-patched_by (id_for s.layout s.algorithm) p tiles s.ids)
      ∙ ap (row_for s.layout s.algorithm p (patched_at (λ bytes. Some (Some bytes)) (get tiles p) (get s.tiles p)) (patched_at (id_for s.layout s.algorithm) (get tiles p) (get s.ids p))) (get-patched_by (λ bytes. dates_for s.layout) p tiles s.dates))

  row_put : (bytes : List ℕ) → get tiles p ≡ Some (Some bytes) → tile_row (state_put s tiles) p ≡ Some (put_row s.layout s.algorithm p bytes)
  row_put bytes e = row_at ∙ ap row_by e

  row_gone : get tiles p ≡ Some None → tile_row (state_put s tiles) p ≡ None
  row_gone e = row_at ∙ ap row_by e

-- rows of places that don't count as edited, and rows of contents under other ids
abbrev unedited : Held → TileSet → List Cell → Bool
unedited h tiles row = not (stands_in (tiles_put h tiles).edited.places row)

abbrev other_id : State → TileSet → List Cell → Bool
other_id s tiles row = not (begins_with_any (ids_put s.layout s.algorithm tiles) row)

abbrev layout_put : Held → TileSet → MbtType
layout_put h tiles = (tiles_put h tiles).state.layout

module _ (h : Held) (tiles : TileSet) (clean : h.edited ≡ nothing_edited) where
  places_put : (p : Place) → contains_key (tiles_put h tiles).edited.places p ≡ contains_key tiles p
  places_put p =
      tiles_edited h p (entries tiles)
      ∙ (ap (λ o. contains_key h.edited.places p || is_some o) (sym (get-entries tiles p))
      ∙ ap (λ b. b || contains_key tiles p) (ap (λ (e : Edited). contains_key e.places p) clean ∙ ap is_some (get-empty place_cmp p)))

  stands_same : (row : List Cell) → stands_in (tiles_put h tiles).edited.places row ≡ stands_in tiles row
  stands_same row = by (place_of row)
    where
      by : (o : Option Place) → is_some (option_and_then (get (tiles_put h tiles).edited.places) o) ≡ is_some (option_and_then (get tiles) o)
      by None = refl
      by (Some p) = places_put p

  -- an id that counts as edited is that of contents that were put
  id_put : (id : Cell) → contains_key (tiles_put h tiles).edited.ids id ≡ true → list_any (cell_eq id) (ids_put h.state.layout h.state.algorithm tiles) ≡ true
  id_put id e = sym (ids_edited h id (entries tiles) ∙ ap (λ b. b || among h.state.layout h.state.algorithm id (bytes_put tiles)) (ap (λ (x : Edited). contains_key x.ids id) clean ∙ ap is_some (get-empty cell_cmp id))) ∙ e

  no_name : (key : RowKey) → name_edited (tiles_put h tiles).edited key ≡ false
  no_name (TextId name) = ap (λ names. is_some (get names name)) (names_unedited h (entries tiles)) ∙ (ap (λ (e : Edited). contains_key e.names name) clean ∙ ap is_some (get-empty (slice_cmp nat_cmp) name))
  no_name _ = refl

  module _ (t t' : Tables) (changes : List Change) (are : AreChangesOf (tiles_put h tiles) changes) (made : Commits changes t t') where
    -- rows of contents under other ids
    contents_stay : filter (other_id h.state tiles) (t'.rows (content_table (layout_put h tiles))) ≡ filter (other_id h.state tiles) (t.rows (content_table (layout_put h tiles)))
    contents_stay = frame t t' changes made (content_table (layout_put h tiles)) (other_id h.state tiles) (λ row kept k d lt is.
        other row kept (get_or changes k d).key (are.contents.only k d lt is).0 (has_key (content_table (layout_put h tiles)) (get_or changes k d).key row) refl)
      where
        begins : (row : List Cell) (id : Cell) (key : RowKey) → key_cells key ≡ id ∷ [] → has_key (content_table (layout_put h tiles)) key row ≡ true → cell_at 0 row ≡ id
        begins row id key cells e = first_cell row id (ap (λ n. take n row) (sym (key_first (layout_put h tiles))) ∙ ((cells_eq-Decides (key_of (content_table (layout_put h tiles)) row) (key_cells key)).0 e ∙ cells))

        at : (row : List Cell) (id : Cell) → (other_id h.state tiles) row ≡ true → contains_key (tiles_put h tiles).edited.ids id ≡ true → cell_at 0 row ≡ id → ⊥
        at row id kept edited e = false≢true (sym (ap (λ c. not (list_any (cell_eq c) (ids_put h.state.layout h.state.algorithm tiles))) e ∙ ap not (id_put id edited)) ∙ kept)

        other : (row : List Cell) → (other_id h.state tiles) row ≡ true → (key : RowKey) → id_edited (tiles_put h tiles).edited key ≡ true → (b : Bool) → has_key (content_table (layout_put h tiles)) key row ≡ b → has_key (content_table (layout_put h tiles)) key row ≡ false
        other row kept key edited false e = e
        other row kept (TextId text) edited true e = absurd (at row (Text text) kept edited (begins row (Text text) (TextId text) refl e))
        other row kept (IntId n) edited true e = absurd (at row (Int n) kept edited (begins row (Int n) (IntId n) refl e))
        other row kept (Tile zoom column line) edited true e = absurd (false≢true edited)

    -- all rows of metadata
    names_stay : t'.rows Metadata ≡ t.rows Metadata
    names_stay =
        sym (filter_every all (t'.rows Metadata) (λ k d lt. refl))
        ∙ (frame t t' changes made Metadata all (λ row kept k d lt is. absurd (false≢true (sym (no_name (get_or changes k d).key) ∙ (are.names.only k d lt is).0)))
        ∙ filter_every all (t.rows Metadata) (λ k d lt. refl))
      where
        all : List Cell → Bool
        all row = true

    others_stay : IsLoadedFrom t (tiles_put h tiles) → (table : TableName) → is_tile_table (layout_put h tiles) table ≡ false → t'.rows table ≡ t.rows table
    others_stay loaded table other = by (table_eq table Metadata) refl
      where
        by : (b : Bool) → table_eq table Metadata ≡ b → t'.rows table ≡ t.rows table
        by true e = ap (λ x. t'.rows x) (same_table table Metadata e) ∙ (names_stay ∙ ap (λ x. t.rows x) (sym (same_table table Metadata e)))
        by false e = other_tables_stay (tiles_put h tiles) t t' changes are made loaded table (ap (λ b. b || table_eq table Metadata) other ∙ e)

-- the tables after the commit of a set that was loaded, and into which tiles were put
pub are_put : (h : Held) (tiles : TileSet) (old new : Tables) → h.edited ≡ nothing_edited → IsLoadedFrom old h → NamesAlgorithm h.state → ((p : Place) → contains_key tiles p ≡ true → IsOnBoard p) → may_put h.state tiles ≡ None → IsSound new → MakesChanges (tiles_put h tiles) old new → ArePut tiles h.state old new
are_put h tiles old new clean loaded named on may sound made = record {
  again = state_again new (tiles_put h tiles).state sound (committed (tiles_put h tiles) old new made.changes made.are made.made from) (put_named h tiles named) ∙ ap Ok (put_state h tiles);
  descriptions = made.made.descriptions;
  kept = sym (filters_agree (unedited h tiles) (λ row. not (stands_in tiles row)) (new.rows (tile_table h.state.layout)) left) ∙ (subst (λ (l : MbtType). filter (unedited h tiles) (new.rows (tile_table l)) ≡ filter (unedited h tiles) (old.rows (tile_table l))) (put_layout h tiles) (tile_rows_stay (tiles_put h tiles) old new made.changes made.are made.made on_board) ∙ filters_agree (unedited h tiles) (λ row. not (stands_in tiles row)) (old.rows (tile_table h.state.layout)) left);
  contents = subst (λ (l : MbtType). filter (other_id h.state tiles) (new.rows (content_table l)) ≡ filter (other_id h.state tiles) (old.rows (content_table l))) (put_layout h tiles) (contents_stay h tiles clean old new made.changes made.are made.made);
  others = λ table own. others_stay h tiles clean old new made.changes made.are made.made from table (ap (λ l. is_tile_table l table) (put_layout h tiles) ∙ own);
  put = λ p bytes e. stand p (ap is_some e) ∙ ap option_to_list (row_put h.state tiles p bytes e);
  cleared = λ p e. stand p (ap is_some e) ∙ ap option_to_list (row_gone h.state tiles p e);
}
  where
    from : IsLoadedFrom old (tiles_put h tiles)
    from = put_loaded old h tiles may on loaded

    on_board : (p : Place) → contains_key (tiles_put h tiles).edited.places p ≡ true → IsOnBoard p
    on_board p e = on p (sym (places_put h tiles clean p) ∙ e)

    left : (row : List Cell) → not (stands_in (tiles_put h tiles).edited.places row) ≡ not (stands_in tiles row)
    left row = ap not (stands_same h tiles clean row)

    stand : (p : Place) → contains_key tiles p ≡ true → filter (has_key (tile_table h.state.layout) (tile_key p)) (new.rows (tile_table h.state.layout)) ≡ option_to_list (tile_row (state_put h.state tiles) p)
    stand p e =
        subst (λ (l : MbtType). filter (has_key (tile_table l) (tile_key p)) (new.rows (tile_table l)) ≡ option_to_list (tile_row (tiles_put h tiles).state p)) (put_layout h tiles) (places_stand (tiles_put h tiles) old new made.changes made.are made.made p (places_put h tiles clean p ∙ e))
        ∙ ap (λ s. option_to_list (tile_row s p)) (put_state h tiles)
