-- After a commit of its changes, tables that a set was loaded from are those of its present state.
use Rattle.mb_load.proofs.Common.{All, All-nil, ap, AreChangesOf, Bool, Cell, cell_cmp, Change, Commits, contains_key, content_row, content_row_by, content_rows, content_table, false, false≢true}
use Rattle.mb_load.proofs.Common.{filter, FitsPlace, fresh, get, get-empty, has_key, has_name_kinds, Held, id_edited, index_missing, Int, IntId, is_normalized, is_some, IsGoodContent, IsGoodRow}
use Rattle.mb_load.proofs.Common.{IsLoadable, IsLoadedFrom, key_cells, layout_of, List, MbtType, Metadata, metadata_missing, name_edited, name_row, name_row_by, None, Normalized, Option, option_map}
use Rattle.mb_load.proofs.Common.{option_to_list, patch_type_of, Place, place_edited, refl, RowKey, Some, State, subst, sym, Tables, Text, TextId, Tile, tile_key, tile_row, tile_row_by, tile_table}
use Rattle.mb_load.proofs.Common.{true, ℕ, ℤ, [], ◌∙◌, ◌∷◌, ◌≡◌}
use Rattle.mb_load.proofs.KeyedCommit.{all_then, edited_stand, fits_then, unedited_stay}
use Rattle.mb_load.proofs.PutRowLemmas.{content_put, fits_put, good_put, name_put}

-- the rows of contents are those of their table, or none
pub rows_of_contents : (layout : MbtType) (t : Tables) → is_normalized layout ≡ true → content_rows layout t ≡ t.rows (content_table layout)
rows_of_contents (Normalized view schema) t h = refl
rows_of_contents _ t h = absurd (false≢true h)

pub no_contents : (layout : MbtType) (t : Tables) → is_normalized layout ≡ false → content_rows layout t ≡ []
no_contents (Normalized view schema) t h = absurd (false≢true (sym h))
no_contents _ t h = refl

-- a key of an id stands for it
pub by_id : {A : Type 0} (f : RowKey → A) (g : Cell → A) → ((text : List ℕ) → f (TextId text) ≡ g (Text text)) → ((n : ℤ) → f (IntId n) ≡ g (Int n)) → (id : Cell) (key : RowKey) → key_cells key ≡ id ∷ [] → f key ≡ g id
by_id f g t n id (TextId text) h = let e : Text text ≡ id = cc in t text ∙ ap g e
by_id f g t n id (IntId m) h = let e : Int m ≡ id = cc in n m ∙ ap g e
by_id f g t n id (Tile zoom column row) h = cc

none_stored : (s : State) → IsLoadable s → is_normalized s.layout ≡ false → (id : Cell) → content_row s id ≡ None
none_stored s ok flat id = by (get s.contents id) refl
  where
    by : (o : Option Cell) → get s.contents id ≡ o → option_map (λ cell. id ∷ cell ∷ []) o ≡ None
    by None e = refl
    by (Some cell) e = absurd (false≢true (sym flat ∙ (ok.stored id cell e).normalised))

module _ (h : Held) (t t' : Tables) (changes : List Change) (are : AreChangesOf h changes) (made : Commits changes t t') where
  abbrev s : State
  s = h.state

  -- rows under keys that weren't edited stay, and those that were edited are the rows of the state
  pub places_stay : (p : Place) → contains_key h.edited.places p ≡ false → filter (has_key (tile_table s.layout) (tile_key p)) (t'.rows (tile_table s.layout)) ≡ filter (has_key (tile_table s.layout) (tile_key p)) (t.rows (tile_table s.layout))
  places_stay p = unedited_stay (place_edited h.edited) (tile_row_by s) (tile_table s.layout) changes are.tiles (t.rows (tile_table s.layout)) (t'.rows (tile_table s.layout)) (made.tables (tile_table s.layout)) (tile_key p)

  pub places_stand : (p : Place) → contains_key h.edited.places p ≡ true → filter (has_key (tile_table s.layout) (tile_key p)) (t'.rows (tile_table s.layout)) ≡ option_to_list (tile_row s p)
  places_stand p = edited_stand (place_edited h.edited) (tile_row_by s) (tile_table s.layout) changes are.tiles (t.rows (tile_table s.layout)) (t'.rows (tile_table s.layout)) (made.tables (tile_table s.layout)) (tile_key p)

  pub ids_stay : (id : Cell) (key : RowKey) → key_cells key ≡ id ∷ [] → contains_key h.edited.ids id ≡ false → filter (has_key (content_table s.layout) key) (t'.rows (content_table s.layout)) ≡ filter (has_key (content_table s.layout) key) (t.rows (content_table s.layout))
  ids_stay id key is left = unedited_stay (id_edited h.edited) (content_row_by s) (content_table s.layout) changes are.contents (t.rows (content_table s.layout)) (t'.rows (content_table s.layout)) (made.tables (content_table s.layout)) key (by_id (id_edited h.edited) (contains_key h.edited.ids) (λ _. refl) (λ _. refl) id key is ∙ left)

  pub ids_stand : (id : Cell) (key : RowKey) → key_cells key ≡ id ∷ [] → contains_key h.edited.ids id ≡ true → filter (has_key (content_table s.layout) key) (t'.rows (content_table s.layout)) ≡ option_to_list (content_row s id)
  ids_stand id key is was = edited_stand (id_edited h.edited) (content_row_by s) (content_table s.layout) changes are.contents (t.rows (content_table s.layout)) (t'.rows (content_table s.layout)) (made.tables (content_table s.layout)) key (by_id (id_edited h.edited) (contains_key h.edited.ids) (λ _. refl) (λ _. refl) id key is ∙ was) ∙ ap option_to_list (by_id (content_row_by s) (content_row s) (λ _. refl) (λ _. refl) id key is)

  pub names_stay : (name : List ℕ) → contains_key h.edited.names name ≡ false → filter (has_key Metadata (TextId name)) (t'.rows Metadata) ≡ filter (has_key Metadata (TextId name)) (t.rows Metadata)
  names_stay name = unedited_stay (name_edited h.edited) (name_row_by s) Metadata changes are.names (t.rows Metadata) (t'.rows Metadata) (made.tables Metadata) (TextId name)

  pub names_stand : (name : List ℕ) → contains_key h.edited.names name ≡ true → filter (has_key Metadata (TextId name)) (t'.rows Metadata) ≡ option_to_list (name_row s.metadata name)
  names_stand name = edited_stand (name_edited h.edited) (name_row_by s) Metadata changes are.names (t.rows Metadata) (t'.rows Metadata) (made.tables Metadata) (TextId name)

  module _ (loaded : IsLoadedFrom t h) where
    content_fits : (id : Cell) (key : RowKey) → key_cells key ≡ id ∷ [] → filter (has_key (content_table s.layout) key) (content_rows s.layout t') ≡ option_to_list (content_row s id)
    content_fits id key is = by (is_normalized s.layout) refl
      where
        edited : (b : Bool) → contains_key h.edited.ids id ≡ b → is_normalized s.layout ≡ true → filter (has_key (content_table s.layout) key) (t'.rows (content_table s.layout)) ≡ option_to_list (content_row s id)
        edited true e n = ids_stand id key is e
        edited false e n = ids_stay id key is e ∙ (ap (filter (has_key (content_table s.layout) key)) (sym (rows_of_contents s.layout t n)) ∙ loaded.contents id key is e)

        by : (b : Bool) → is_normalized s.layout ≡ b → filter (has_key (content_table s.layout) key) (content_rows s.layout t') ≡ option_to_list (content_row s id)
        by true n = ap (filter (has_key (content_table s.layout) key)) (rows_of_contents s.layout t' n) ∙ edited (contains_key h.edited.ids id) refl n
        by false n = ap (filter (has_key (content_table s.layout) key)) (no_contents s.layout t' n) ∙ ap option_to_list (sym (none_stored s loaded.state n id))

    content_good : All (IsGoodContent s.layout s.algorithm) (content_rows s.layout t')
    content_good = by (is_normalized s.layout) refl
      where
        by : (b : Bool) → is_normalized s.layout ≡ b → All (IsGoodContent s.layout s.algorithm) (content_rows s.layout t')
        by true n = subst (All (IsGoodContent s.layout s.algorithm)) (sym (rows_of_contents s.layout t' n)) (all_then (id_edited h.edited) (content_row_by s) (content_table s.layout) changes are.contents (t.rows (content_table s.layout)) (t'.rows (content_table s.layout)) (made.tables (content_table s.layout)) (IsGoodContent s.layout s.algorithm) (subst (All (IsGoodContent s.layout s.algorithm)) (rows_of_contents s.layout t n) loaded.content_rows) (content_put s loaded.state))
        by false n = subst (All (IsGoodContent s.layout s.algorithm)) (sym (no_contents s.layout t' n)) (All-nil (IsGoodContent s.layout s.algorithm))

    pub committed : IsLoadedFrom t' (fresh h.state)
    committed = record {
      layout = ap layout_of made.descriptions ∙ loaded.layout;
      patch_type = ap patch_type_of made.descriptions ∙ loaded.patch_type;
      described = ap metadata_missing made.descriptions ∙ loaded.described;
      indexed = ap (λ ds. index_missing ds s.layout) made.descriptions ∙ loaded.indexed;
      state = loaded.state;
      with_ids = λ id e. absurd (false≢true (ap is_some (sym (get-empty cell_cmp id)) ∙ e));
      tiles = λ p _. fits_then (place_edited h.edited) (tile_row_by s) (tile_table s.layout) changes are.tiles (t.rows (tile_table s.layout)) (t'.rows (tile_table s.layout)) (made.tables (tile_table s.layout)) (tile_key p) (FitsPlace s p) (λ _. fits_put s loaded.state p) (loaded.tiles p);
      contents = λ id key is _. content_fits id key is;
      names = λ name _. fits_then (name_edited h.edited) (name_row_by s) Metadata changes are.names (t.rows Metadata) (t'.rows Metadata) (made.tables Metadata) (TextId name) (λ rows. rows ≡ option_to_list (name_row s.metadata name)) (λ _. refl) (loaded.names name);
      tile_rows = all_then (place_edited h.edited) (tile_row_by s) (tile_table s.layout) changes are.tiles (t.rows (tile_table s.layout)) (t'.rows (tile_table s.layout)) (made.tables (tile_table s.layout)) (IsGoodRow s.layout s.algorithm) loaded.tile_rows (good_put s loaded.state);
      content_rows = content_good;
      name_rows = all_then (name_edited h.edited) (name_row_by s) Metadata changes are.names (t.rows Metadata) (t'.rows Metadata) (made.tables Metadata) (λ row. has_name_kinds row ≡ true) loaded.name_rows (name_put s loaded.state);
    }
