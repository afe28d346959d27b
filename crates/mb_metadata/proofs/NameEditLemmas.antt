-- A set after edits of its metadata, and its tables after their commit.
use Rattle.mb_metadata.proofs.Common.{ap, AreEdited, Bool, Cell, cell_at, codes, cond, contains_key, Edited, EditsNames, false, false≢true, filter, FinMap, fresh, get, get-empty, get-insert}
use Rattle.mb_metadata.proofs.Common.{get-remove, get_or, Held, held_edited, insert, Int, is_edited, is_some, IsFresh, IsLoadedFrom, key_of, length, List, NameEdit, Names, names_edited}
use Rattle.mb_metadata.proofs.Common.{NamesAlgorithm, nat_cmp, nat_list_cmp_total, None, not, nothing_edited, Ok, Option, option_and_then, or_parts, place_cmp, refl, slice_cmp, Some, State}
use Rattle.mb_metadata.proofs.Common.{state_edited, state_of, subst, sym, table_eq, Tables, take, Text, text_at, true, with_text, with_touched, ℕ, [], ◌&&◌, ◌==◌, ◌||◌, ◌∙◌, ◌∷◌, ◌≡◌}
use Rattle.std.proofs.Math.Bool.{or-false}
use Rattle.std.proofs.lemmas.List.Folds.{list_any_none}
use Rattle.mb_constraints.specs.Algorithm.{algorithm_by, unknown_name}
use Rattle.mb_load.proofs.CommitLemmas.{committed, names_stand}
use Rattle.mb_load.proofs.EditedFrom.{from_removed_name, from_with_name}
use Rattle.mb_load.proofs.LoadsFrom.{state_whole}
use Rattle.mb_load.proofs.StateAgain.{state_again}
use Rattle.mb_loaded.specs.Changing.{AreChangesOf, content_table, id_edited, is_own_table, name_edited, place_edited}
use Rattle.mb_load.specs.Committing.{MakesChanges}
use Rattle.mb_loaded.specs.Edits.{removed_name, with_name}
use Rattle.mb_load.specs.Loading.{Loads}
use Rattle.mb_store.proofs.Committed.{others_stay}
use Rattle.mb_store.specs.Committing.{Commits, is_changed}
use Rattle.mb_store.specs.Store.{IsSound}
use Rattle.mb_store.specs.declared.change.Change.{Change}
use Rattle.mb_tables.proofs.CellLemmas.{cells_eq-Decides}
use Rattle.mb_tables.proofs.ListLemmas.{filter_every}
use Rattle.mb_tables.proofs.TableLemmas.{same_table}
use Rattle.mb_tables.specs.Cell.{cell_cmp, cell_eq}
use Rattle.mb_tables.specs.Key.{has_key, key_cells}
use Rattle.mb_tables.specs.Kind.{tile_table}
use Rattle.mb_tables.specs.declared.key.RowKey.{RowKey}
use Rattle.mb_tables.specs.declared.key.RowKey.TheVariants.{Tile, TextId, IntId}
use Rattle.mb_tables.specs.declared.table.TableName.{TableName}
use Rattle.mb_tables.specs.declared.table.TableName.TheVariants.{Metadata}

-- one edit
abbrev edit_made : Held → List ℕ → Option (List ℕ) → Held
edit_made h name None = removed_name h name
edit_made h name (Some text) = with_name h name (Some text)

made_first : (h : Held) (name : List ℕ) (text : Option (List ℕ)) (es : List NameEdit) → held_edited (edit_made h name text) es ≡ held_edited h (record { name = name; text = text } ∷ es)
made_first h name None es = refl
made_first h name (Some text) es = refl

-- tables that a set was loaded from are so after edits
from_made : (t : Tables) (h : Held) (name : List ℕ) (text : Option (List ℕ)) → IsLoadedFrom t h → IsLoadedFrom t (edit_made h name text)
from_made t h name None l = from_removed_name t h name l
from_made t h name (Some text) l = from_with_name t h name (Some text) l

pub edits_loaded : (t : Tables) (h : Held) (es : List NameEdit) → IsLoadedFrom t h → IsLoadedFrom t (held_edited h es)
edits_loaded t h [] l = l
edits_loaded t h (e ∷ es) l = subst (IsLoadedFrom t) (made_first h e.name e.text es) (edits_loaded t (edit_made h e.name e.text) es (from_made t h e.name e.text l))

-- names that edits don't name have what they had
get_after : (names : Names) (name : List ℕ) (text : Option (List ℕ)) (q : List ℕ) → cell_eq (Text q) (Text name) ≡ false → get (with_text names name text) q ≡ get names q
get_after names name None q e = get-remove nat_list_cmp_total names name q ∙ ap (λ b. cond b None (get names q)) e
get_after names name (Some text) q e = get-insert nat_list_cmp_total names name (Some text) q ∙ ap (λ b. cond b (Some (Some text)) (get names q)) e

pub get_other : (names : Names) (es : List NameEdit) (q : List ℕ) → is_edited es (Text q) ≡ false → get (names_edited names es) q ≡ get names q
get_other names [] q h = refl
get_other names (e ∷ es) q h =
    let two = or_parts (cell_eq (Text q) (Text e.name)) (is_edited es (Text q)) h in
    get_other (with_text names e.name e.text) es q two.1 ∙ get_after names e.name e.text q two.0

pub named_still : (s : State) (es : List NameEdit) → is_edited es (Text (codes "hash_algorithm")) ≡ false → NamesAlgorithm s → NamesAlgorithm (state_edited s es)
named_still s es h n =
    let same : text_at (names_edited s.metadata es) (codes "hash_algorithm") ≡ text_at s.metadata (codes "hash_algorithm") =
    ap (λ (o : Option (Option (List ℕ))). option_and_then (λ (value : Option (List ℕ)). value) o) (get_other s.metadata es (codes "hash_algorithm") h) in
    record {
      known = ap unknown_name same ∙ n.known;
      named = ap algorithm_by same ∙ n.named;
    }

-- the names of edits, and no others, count as edited
joined : (b : Bool) (o : Option (Unit {0})) (r : Bool) → (is_some (cond b (Some tt) o) || r) ≡ (is_some o || (b || r))
joined true None r = refl
joined true (Some u) r = refl
joined false None r = refl
joined false (Some u) r = refl

touched : (names : FinMap (slice_cmp nat_cmp) (Unit {0})) (es : List NameEdit) (q : List ℕ) → contains_key (with_touched names es) q ≡ (contains_key names q || is_edited es (Text q))
touched names [] q = sym (or-false (contains_key names q))
touched names (e ∷ es) q =
    touched (insert names e.name tt) es q
    ∙ (ap (λ o. is_some o || is_edited es (Text q)) (get-insert nat_list_cmp_total names e.name tt q)
    ∙ joined (cell_eq (Text q) (Text e.name)) (get names q) (is_edited es (Text q)))

module _ (h : Held) (es : List NameEdit) (clean : h.edited ≡ nothing_edited) where
  pub no_place : (key : RowKey) → place_edited (held_edited h es).edited key ≡ false
  no_place (Tile zoom column row) = ap (λ (e : Edited). contains_key e.places (record { zoom = zoom; column = column; row = row })) clean ∙ ap is_some (get-empty place_cmp (record { zoom = zoom; column = column; row = row }))
  no_place _ = refl

  pub no_id : (key : RowKey) → id_edited (held_edited h es).edited key ≡ false
  no_id (TextId text) = ap (λ (e : Edited). contains_key e.ids (Text text)) clean ∙ ap is_some (get-empty cell_cmp (Text text))
  no_id (IntId n) = ap (λ (e : Edited). contains_key e.ids (Int n)) clean ∙ ap is_some (get-empty cell_cmp (Int n))
  no_id (Tile zoom column row) = refl

  none_before : (name : List ℕ) → contains_key h.edited.names name ≡ false
  none_before name = ap (λ (e : Edited). contains_key e.names name) clean ∙ ap is_some (get-empty (slice_cmp nat_cmp) name)

  edited_are : (name : List ℕ) → contains_key (held_edited h es).edited.names name ≡ is_edited es (Text name)
  edited_are name = touched h.edited.names es name ∙ ap (λ b. b || is_edited es (Text name)) (none_before name)

  -- rows of other names have none of the keys
  row_apart : (row : List Cell) → not (is_edited es (cell_at 0 row)) ≡ true → (name : List ℕ) → is_edited es (Text name) ≡ true → has_key Metadata (TextId name) row ≡ false
  row_apart row kept name is = by (has_key Metadata (TextId name) row) refl
    where
      first : (row : List Cell) → take 1 row ≡ Text name ∷ [] → cell_at 0 row ≡ Text name
      first [] e = cc
      first (x ∷ row) e = let s : x ≡ Text name = cc in s

      by : (b : Bool) → has_key Metadata (TextId name) row ≡ b → has_key Metadata (TextId name) row ≡ false
      by false e = e
      by true e = absurd (false≢true (sym (ap not (ap (is_edited es) (first row ((cells_eq-Decides (key_of Metadata row) (key_cells (TextId name))).0 e)) ∙ is)) ∙ kept))

  module _ (t t' : Tables) (changes : List Change) (are : AreChangesOf (held_edited h es) changes) (made : Commits changes t t') where
    none_of : (a b : Bool) → (a ≡ true → b ≡ false) → (a && b) ≡ false
    none_of true b h = h refl
    none_of false b h = refl

    names_kept : filter (λ row. not (is_edited es (cell_at 0 row))) (t'.rows Metadata) ≡ filter (λ row. not (is_edited es (cell_at 0 row))) (t.rows Metadata)
    names_kept = others_stay changes Metadata (t.rows Metadata) (t'.rows Metadata) (made.tables Metadata) (λ row. not (is_edited es (cell_at 0 row))) (λ row kept.
        list_any_none (λ c. table_eq c.table Metadata && has_key Metadata c.key row) changes (λ k d lt. none_of (table_eq (get_or changes k d).table Metadata) (has_key Metadata (get_or changes k d).key row) (λ is.
        keyed row kept (get_or changes k d).key (are.names.only k d lt is).0)))
      where
        keyed : (row : List Cell) → not (is_edited es (cell_at 0 row)) ≡ true → (key : RowKey) → name_edited (held_edited h es).edited key ≡ true → has_key Metadata key row ≡ false
        keyed row kept (TextId name) e = row_apart row kept name (sym (edited_are name) ∙ e)
        keyed row kept _ e = absurd (false≢true e)

    -- all changes are of metadata
    of_metadata : (c : Change) → is_own_table h.state.layout c.table ≡ true → (table_eq c.table (tile_table h.state.layout) ≡ true → place_edited (held_edited h es).edited c.key ≡ true) → (table_eq c.table (content_table h.state.layout) ≡ true → id_edited (held_edited h es).edited c.key ≡ true) → table_eq c.table Metadata ≡ true
    of_metadata c own place id = by (table_eq c.table (tile_table h.state.layout)) (table_eq c.table (content_table h.state.layout)) (table_eq c.table Metadata) own (λ e. sym (no_place c.key) ∙ place e) (λ e. sym (no_id c.key) ∙ id e)
      where
        by : (a b m : Bool) → (a || b || m) ≡ true → (a ≡ true → false ≡ true) → (b ≡ true → false ≡ true) → m ≡ true
        by true b m o p q = absurd (false≢true (p refl))
        by false true m o p q = absurd (false≢true (q refl))
        by false false m o p q = o

    others_kept : (table : TableName) → table_eq table Metadata ≡ false → t'.rows table ≡ t.rows table
    others_kept table other = sym (filter_every all (t'.rows table) (λ k d lt. refl)) ∙ (others_stay changes table (t.rows table) (t'.rows table) (made.tables table) all (λ row _. none row) ∙ filter_every all (t.rows table) (λ k d lt. refl))
      where
        all : List Cell → Bool
        all row = true

        elsewhere : (c : Change) → table_eq c.table Metadata ≡ true → (row : List Cell) → table_eq c.table table ≡ true → has_key table c.key row ≡ false
        elsewhere c m row e = absurd (false≢true (sym other ∙ (ap (λ (u : TableName). table_eq u Metadata) (sym (same_table c.table table e)) ∙ m)))

        none : (row : List Cell) → is_changed changes table row ≡ false
        none row = list_any_none (λ c. table_eq c.table table && has_key table c.key row) changes (λ k d lt. none_of (table_eq (get_or changes k d).table table) (has_key table (get_or changes k d).key row)
            (elsewhere (get_or changes k d) (of_metadata (get_or changes k d) (are.tables k d lt) (λ e. (are.tiles.only k d lt e).0) (λ e. (are.contents.only k d lt e).0)) row))

-- the tables after the commit
pub edits_committed : (old new : Tables) (h next : Held) (es : List NameEdit) → next ≡ held_edited h es → (es ≡ [] → ⊥) → IsFresh old h → IsSound new → MakesChanges next old new → AreEdited h.state es old new
edits_committed old new h next es value some was sound done =
    let are : AreChangesOf (held_edited h es) done.changes = subst (λ (x : Held). AreChangesOf x done.changes) value done.are in
    let after : IsLoadedFrom new (fresh (state_edited h.state es)) = committed (held_edited h es) old new done.changes are done.made (edits_loaded old h es was.from) in
    record {
      holds = after;
      again = state_again new (state_edited h.state es) sound after;
      unnamed = λ e. state_again new (state_edited h.state es) sound after (named_still h.state es e (state_whole old h.state was.loaded).1);
      put = λ name e. names_stand (held_edited h es) old new done.changes are done.made name (edited_are h es was.clean name ∙ e);
      kept = names_kept h es was.clean old new done.changes are done.made;
      others = others_kept h es was.clean old new done.changes are done.made;
      descriptions = done.made.descriptions;
      idle = λ e. absurd (some e);
    }

-- a list that isn't empty
pub some_edits : (es : List NameEdit) (n : ℕ) (b : Bool) → length es ≡ n → b ≡ (n == 0) → b ≡ false → es ≡ [] → ⊥
some_edits es n b counted test is none = false≢true (sym is ∙ (test ∙ ap (λ (m : ℕ). m == 0) (sym counted ∙ ap length none)))

-- a set that was loaded from a store that a read leaves as it was
pub is_fresh : (old new : Tables) (h : Held) → new ≡ old → Loads (state_of old) (Ok h) → IsLoadedFrom old h → IsFresh new h
is_fresh old new h same due from = record {
  loaded = ap state_of same ∙ due.0;
  clean = due.1;
  from = subst (λ (t : Tables). IsLoadedFrom t h) (sym same) from;
}

pub edits_names : (f : State → List NameEdit) (old mid new : Tables) (s : State) (es : List NameEdit) → mid ≡ old → state_of old ≡ Ok s → es ≡ f s → AreEdited s es mid new → EditsNames f old new
edits_names f old mid new s es same loaded is e = record {
  state = s;
  loaded = loaded;
  edited = subst (λ (xs : List NameEdit). AreEdited s xs old new) is (subst (λ (t : Tables). AreEdited s es t new) same e);
}
