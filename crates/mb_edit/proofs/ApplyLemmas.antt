-- A committed patch leaves the tables that it is to leave.
use Rattle.mb_edit.proofs.Common.{AllOnBoard, ap, AreChangesOf, Bool, Cell, cell_at, cells_for, Change, Commits, committed, cond, contains_key, content_table, Dates, dates_for, Edited, filter, front}
use Rattle.mb_edit.proofs.Common.{get, get-empty, has_key, HashAlgorithm, Held, held_patched, id_for, is_null, is_set_table, is_some, IsApplied, IsLoadable, IsLoadedFrom, IsOnBoard, IsSound, List}
use Rattle.mb_edit.proofs.Common.{MakesChanges, may_patch, MbtType, NamesAlgorithm, None, not, nothing_edited, null_ids_stay, Ok, Option, option_and_then, option_map, option_to_list}
use Rattle.mb_edit.proofs.Common.{other_tables_stay, patched_at, Place, place_cmp, place_of, places_stand, put_row, refl, Some, stands_in, State, state_again, state_of, state_patched, subst, sym}
use Rattle.mb_edit.proofs.Common.{Tables, tile_key, tile_row, tile_table, true, ℕ, [], ◌++◌, ◌||◌, ◌∙◌, ◌∷◌, ◌≡◌}
use Rattle.mb_edit.proofs.AlgorithmLemmas.{algorithm_kept}
use Rattle.mb_edit.proofs.EditedLemmas.{places_edited}
use Rattle.mb_edit.proofs.FrameLemmas.{null_names_stay, tile_rows_stay}
use Rattle.mb_edit.proofs.LoadedLemmas.{patched_loaded}
use Rattle.mb_edit.proofs.PassedLemmas.{passed}
use Rattle.mb_edit.proofs.PatchedLemmas.{get-patched_by}
use Rattle.mb_edit.proofs.StateLemmas.{patched_state}
use Rattle.mb_edit.proofs.StepLemmas.{step_made}

-- a set after a patch, that was loaded with nothing edited
module _ (h : Held) (q : State) (clean : h.edited ≡ nothing_edited) where
  edited_are : (p : Place) → contains_key (held_patched h q).edited.places p ≡ contains_key q.tiles p
  edited_are p = places_edited h q p ∙ ap (λ b. b || contains_key q.tiles p) (ap (λ (e : Edited). contains_key e.places p) clean ∙ ap is_some (get-empty place_cmp p))

  stands_same : (row : List Cell) → stands_in (held_patched h q).edited.places row ≡ stands_in q.tiles row
  stands_same row = by (place_of row)
    where
      by : (o : Option Place) → is_some (option_and_then (get (held_patched h q).edited.places) o) ≡ is_some (option_and_then (get q.tiles) o)
      by None = refl
      by (Some p) = edited_are p

  filters_same : (rows : List (List Cell)) → filter (λ row. not (stands_in (held_patched h q).edited.places row)) rows ≡ filter (λ row. not (stands_in q.tiles row)) rows
  filters_same [] = refl
  filters_same (row ∷ rows) = by (stands_in (held_patched h q).edited.places row) (stands_in q.tiles row) (stands_same row) (filters_same rows)
    where
      by : (a b : Bool) → a ≡ b → filter (λ row. not (stands_in (held_patched h q).edited.places row)) rows ≡ filter (λ row. not (stands_in q.tiles row)) rows → cond (not a) (row ∷ filter (λ row. not (stands_in (held_patched h q).edited.places row)) rows) (filter (λ row. not (stands_in (held_patched h q).edited.places row)) rows) ≡ cond (not b) (row ∷ filter (λ row. not (stands_in q.tiles row)) rows) (filter (λ row. not (stands_in q.tiles row)) rows)
      by a b e rest = ap (λ x. cond (not x) (row ∷ filter (λ row. not (stands_in (held_patched h q).edited.places row)) rows) (filter (λ row. not (stands_in (held_patched h q).edited.places row)) rows)) e ∙ ap (λ l. cond (not b) (row ∷ l) l) rest

-- the row of a place that a patch names
abbrev row_for : MbtType → HashAlgorithm → Place → Option (Option (List ℕ)) → Option Cell → Option Dates → Option (List Cell)
row_for layout a p tile id dates = option_map (λ contents. front p ++ cells_for layout a contents id dates) tile

module _ (h : Held) (q : State) (p : Place) where
  same : (held_patched h q).state ≡ state_patched h.state q
  same = patched_state h q

  row_at : tile_row (held_patched h q).state p ≡ row_for h.state.layout h.state.algorithm p (patched_at (λ bytes. Some (Some bytes)) (get q.tiles p) (get h.state.tiles p)) (patched_at (id_for h.state.layout h.state.algorithm) (get q.tiles p) (get h.state.ids p)) (patched_at (λ bytes. dates_for h.state.layout) (get q.tiles p) (get h.state.dates p))
  row_at =
      ap (λ s. tile_row s p) same
      ∙ (ap (λ o. row_for h.state.layout h.state.algorithm p o (get (state_patched h.state q).ids p) (get (state_patched h.state q).dates p)) (get-patched_by (λ bytes. Some (Some bytes)) p q.tiles h.state.tiles)
      ∙ (ap (λ o. row_for h.state.layout h.state.algorithm p (patched_at (λ bytes. Some (Some bytes)) (get q.tiles p) (get h.state.tiles p)) o (get (state_patched h.state q).dates p)) (get-patched_by (id_for h.state.layout h.state.algorithm) p q.tiles h.state.ids)
      ∙ ap (row_for h.state.layout h.state.algorithm p (patched_at (λ bytes. Some (Some bytes)) (get q.tiles p) (get h.state.tiles p)) (patched_at (id_for h.state.layout h.state.algorithm) (get q.tiles p) (get h.state.ids p))) (get-patched_by (λ bytes. dates_for h.state.layout) p q.tiles h.state.dates)))

  row_put : (bytes : List ℕ) → get q.tiles p ≡ Some (Some bytes) → tile_row (held_patched h q).state p ≡ Some (put_row h.state.layout h.state.algorithm p bytes)
  row_put bytes e = row_at ∙ ap (λ o. row_for h.state.layout h.state.algorithm p (patched_at (λ bytes. Some (Some bytes)) o (get h.state.tiles p)) (patched_at (id_for h.state.layout h.state.algorithm) o (get h.state.ids p)) (patched_at (λ bytes. dates_for h.state.layout) o (get h.state.dates p))) e

  row_gone : get q.tiles p ≡ Some None → tile_row (held_patched h q).state p ≡ None
  row_gone e = row_at ∙ ap (λ o. row_for h.state.layout h.state.algorithm p (patched_at (λ bytes. Some (Some bytes)) o (get h.state.tiles p)) (patched_at (id_for h.state.layout h.state.algorithm) o (get h.state.ids p)) (patched_at (λ bytes. dates_for h.state.layout) o (get h.state.dates p))) e

layout_same : (h : Held) (q : State) → (held_patched h q).state.layout ≡ h.state.layout
layout_same h q = ap (λ (s : State). s.layout) (patched_state h q)

-- the tables after the commit of a patched set's changes, where they load as its state
pub apply_law : (force : Bool) (old patch new : Tables) (h : Held) (q : State) (next : Held) (changes : List Change) → h.edited ≡ nothing_edited → state_of old ≡ Ok h.state → state_of patch ≡ Ok q → AllOnBoard q → may_patch force h.state q ≡ None → next ≡ held_patched h q → AreChangesOf next changes → Commits changes old new → IsLoadedFrom old next → state_of new ≡ Ok next.state → IsApplied force old patch new
apply_law force old patch new h q next changes clean loaded read on may value are made from again = record {
  base = h.state;
  other = q;
  next = next.state;
  loaded = loaded;
  read = read;
  made = step_made force h q next may value;
  again = again;
  descriptions = made.descriptions;
  kept = sym (filters_same h q clean (new.rows (tile_table h.state.layout))) ∙ (moved_kept ∙ filters_same h q clean (old.rows (tile_table h.state.layout)));
  null_ids = subst (λ (l : MbtType). filter (λ row. is_null (cell_at 0 row)) (new.rows (content_table l)) ≡ filter (λ row. is_null (cell_at 0 row)) (old.rows (content_table l))) (layout_same h q) (null_ids_stay (held_patched h q) old new changes changed made);
  null_names = null_names_stay (held_patched h q) old new changes changed made;
  others = λ table own. other_tables_stay (held_patched h q) old new changes changed made (subst (IsLoadedFrom old) value from) table (ap (λ l. is_set_table l table) (layout_same h q) ∙ own);
  put = λ p bytes e. stand p (ap is_some e) ∙ ap option_to_list (row_put h q p bytes e);
  cleared = λ p e. stand p (ap is_some e) ∙ ap option_to_list (row_gone h q p e);
}
  where
    changed : AreChangesOf (held_patched h q) changes
    changed = subst (λ (x : Held). AreChangesOf x changes) value are

    on_board : (p : Place) → contains_key (held_patched h q).edited.places p ≡ true → IsOnBoard p
    on_board p e = on p (sym (edited_are h q clean p) ∙ e)

    moved_kept : filter (λ row. not (stands_in (held_patched h q).edited.places row)) (new.rows (tile_table h.state.layout)) ≡ filter (λ row. not (stands_in (held_patched h q).edited.places row)) (old.rows (tile_table h.state.layout))
    moved_kept = subst (λ (l : MbtType). filter (λ row. not (stands_in (held_patched h q).edited.places row)) (new.rows (tile_table l)) ≡ filter (λ row. not (stands_in (held_patched h q).edited.places row)) (old.rows (tile_table l))) (layout_same h q) (tile_rows_stay (held_patched h q) old new changes changed made on_board)

    stand : (p : Place) → contains_key q.tiles p ≡ true → filter (has_key (tile_table h.state.layout) (tile_key p)) (new.rows (tile_table h.state.layout)) ≡ option_to_list (tile_row (held_patched h q).state p)
    stand p e = subst (λ (l : MbtType). filter (has_key (tile_table l) (tile_key p)) (new.rows (tile_table l)) ≡ option_to_list (tile_row (held_patched h q).state p)) (layout_same h q) (places_stand (held_patched h q) old new changes changed made p (edited_are h q clean p ∙ e))

-- its changes name the algorithm still
pub named_after : (force : Bool) (h : Held) (q : State) → NamesAlgorithm h.state → NamesAlgorithm q → may_patch force h.state q ≡ None → NamesAlgorithm (held_patched h q).state
named_after force h q a b may = algorithm_kept h.state q (held_patched h q).state a b (passed force h.state q may).alike (ap (λ (s : State). s.algorithm) (patched_state h q)) (ap (λ (s : State). s.metadata) (patched_state h q))

-- a set that was loaded, and patched by one that was loaded, was loaded from the tables of its base
module _ (force : Bool) (h : Held) (q : State) (next : Held) (may : may_patch force h.state q ≡ None) (value : next ≡ held_patched h q) (whole : IsLoadable q) where
  pub next_loaded : (t : Tables) → IsLoadedFrom t h → IsLoadedFrom t next
  next_loaded t l = subst (IsLoadedFrom t) (sym value) (patched_loaded t force h q may whole.on_board l)

  pub next_named : NamesAlgorithm h.state → NamesAlgorithm q → NamesAlgorithm next.state
  next_named a b = subst (λ (x : Held). NamesAlgorithm x.state) (sym value) (named_after force h q a b may)

  pub next_applied : (old patch new : Tables) → IsSound new → h.edited ≡ nothing_edited → state_of old ≡ Ok h.state → IsLoadedFrom old h → NamesAlgorithm h.state → state_of patch ≡ Ok q → NamesAlgorithm q → MakesChanges next old new → IsApplied force old patch new
  next_applied old patch new sound clean loaded from named read other_named made =
      apply_law force old patch new h q next made.changes clean loaded read whole.on_board may value made.are made.made (next_loaded old from)
      (state_again new next.state sound (committed next old new made.changes made.are made.made (next_loaded old from)) (next_named named other_named))
