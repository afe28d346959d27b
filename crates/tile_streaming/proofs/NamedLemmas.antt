-- Which ids tiles have, by look-ups and by marks.
use Rattle.tile_streaming.proofs.Common.{address, ap, Bool, Cell, cell_at, entries, false, false≢true, from_entries, get, get-from_entries, Has, inl, inr, is_some, IsPermutation, List, list_any, map, Mark, mark_of, MbtType, None, none-some, Ok, Option, option_map, option_or, Place, place_cmp, refl, same_Some, Some, State, sym, Tables, tile_told, TileSet, true, ℕ, [], ◌||◌, ◌∙◌, ◌∷◌, ◌≡◌}
use Rattle.mb_edit.proofs.PatchedLemmas.{get-left}
use Rattle.mb_edit.specs.Common.{cell_cmp, cell_eq, Contents, FinMap, is_named, retain_keys}
use Rattle.mb_load.proofs.EditedFrom.{named_at, stay_named}
use Rattle.mb_loaded.proofs.DroppedHeld.{contents_with}
use Rattle.mb_loaded.specs.Held.{fresh}
use Rattle.mb_tables.proofs.CellLemmas.{cell_eq-Decides}
use Rattle.mb_tables.proofs.TileLemmas.{places_total}
use Rattle.mb_tables.specs.CellOrder.{cells_total}
use Rattle.mb_tables.specs.declared.cell.Cell.TheVariants.{Null}
use Rattle.std.specs.Cmp.{tied_itself}
use Rattle.std.specs.FinMap.{contains_key}
use Rattle.std.specs.Ordering.{is_eq}
use Rattle.std.specs.Option.{option_map_or}
use Rattle.std.proofs.Math.Bool.{or-true}
use Rattle.std.proofs.Common.{cond, not}
use Rattle.tile_streaming.proofs.MarkLemmas.{entry_of, mark_there}
use Rattle.tile_streaming.proofs.StoredLemmas.{has_there, there_has}
use Rattle.tile_streaming.specs.Collisions.{has_named, is_named_at}
use Rattle.tile_streaming.specs.Marks.{AreMarksOf}

-- two answers that follow from one another
pub same_answers : (x y : Bool) → (x ≡ true → y ≡ true) → (y ≡ true → x ≡ true) → x ≡ y
same_answers true y f g = sym (f refl)
same_answers false true f g = g refl
same_answers false false f g = refl

-- a tile that has an id; the state is any
module _ (s : State) where
  pub named_has : (ids : FinMap place_cmp Cell) (id : Cell) → is_named ids id ≡ true → (p : Place) × (get ids p ≡ Some id)
  named_has ids id h = stay_named (fresh (record s { ids = ids; contents = one })) id Null (contents_with ids one id ∙ (ap (λ b. cond b (get one id) None) h ∙ there))
    where
      one : Contents
      one = from_entries ((id, Null) ∷ [])

      there : get one id ≡ Some Null
      there = get-from_entries cells_total ((id, Null) ∷ []) id ∙ ap (λ o. cond (is_eq o) (Some Null) None) (tied_itself cells_total id)

  -- ids that lie over others, at other places
  pub named_or : (all over rest : FinMap place_cmp Cell) (id : Cell) → ((p : Place) → get all p ≡ option_or (get over p) (get rest p)) → ((p : Place) → is_some (get over p) ≡ true → get rest p ≡ None) → is_named all id ≡ (is_named over id || is_named rest id)
  named_or all over rest id same apart = same_answers (is_named all id) (is_named over id || is_named rest id) down up
    where
      one : (p : Place) (o : Option Cell) → get over p ≡ o → option_or o (get rest p) ≡ Some id → (is_named over id || is_named rest id) ≡ true
      one p (Some c) e h = ap (λ b. b || is_named rest id) (named_at over p id (e ∙ h))
      one p None e h = ap (λ b. is_named over id || b) (named_at rest p id h) ∙ or-true (is_named over id)

      down : is_named all id ≡ true → (is_named over id || is_named rest id) ≡ true
      down h = let at = named_has all id h in one at.0 (get over at.0) refl (sym (same at.0) ∙ at.1)

      from_over : is_named over id ≡ true → is_named all id ≡ true
      from_over h = let at = named_has over id h in named_at all at.0 id (same at.0 ∙ ap (λ o. option_or o (get rest at.0)) at.1)

      none_over : (p : Place) (o : Option Cell) → get over p ≡ o → get rest p ≡ Some id → option_or o (get rest p) ≡ Some id
      none_over p None e h = h
      none_over p (Some c) e h = absurd (none-some id (sym (apart p (ap is_some e)) ∙ h))

      from_rest : is_named rest id ≡ true → is_named all id ≡ true
      from_rest h = let at = named_has rest id h in named_at all at.0 id (same at.0 ∙ none_over at.0 (get over at.0) refl at.1)

      by : (b : Bool) → is_named over id ≡ b → (b || is_named rest id) ≡ true → is_named all id ≡ true
      by true e h = from_over e
      by false e h = from_rest h

      up : (is_named over id || is_named rest id) ≡ true → is_named all id ≡ true
      up h = by (is_named over id) refl h

  -- ids of which some are left
  pub named_fewer : (left all : FinMap place_cmp Cell) (id : Cell) → ((p : Place) → get left p ≡ Some id → get all p ≡ Some id) → is_named left id ≡ true → is_named all id ≡ true
  named_fewer left all id fewer h = let at = named_has left id h in named_at all at.0 id (fewer at.0 at.1)

  -- the rows of the tiles of marks have the ids of these tiles
  module _ (layout : MbtType) (t : Tables) (tiles : TileSet) (marks : List Mark) (are : AreMarksOf tiles marks) (ids : FinMap place_cmp Cell) (id : Cell)
      (only : (p : Place) → contains_key tiles p ≡ false → get ids p ≡ None) (told : (p : Place) → contains_key tiles p ≡ true → get ids p ≡ option_map (cell_at 3) (tile_told layout t (address p))) where
    row_named : (o : Option (List Cell)) → option_map (cell_at 3) o ≡ Some id → option_map_or (has_named id) o false ≡ true
    row_named None h = absurd (none-some id h)
    row_named (Some row) h = (cell_eq-Decides (cell_at 3 row) id).1 (same_Some (cell_at 3 row) id h)

    row_names : (o : Option (List Cell)) → option_map_or (has_named id) o false ≡ true → option_map (cell_at 3) o ≡ Some id
    row_names None h = absurd (false≢true h)
    row_names (Some row) h = ap Some ((cell_eq-Decides (cell_at 3 row) id).0 h)

    any_has : (m : Mark) (ms : List Mark) → Has m ms → is_named_at layout t id m ≡ true → list_any (is_named_at layout t id) ms ≡ true
    any_has m [] there h = absurd there
    any_has m (x ∷ ms) (inl is) h = ap (λ b. b || list_any (is_named_at layout t id) ms) (ap (is_named_at layout t id) is ∙ h)
    any_has m (x ∷ ms) (inr there) h = ap (λ b. is_named_at layout t id x || b) (any_has m ms there h) ∙ or-true (is_named_at layout t id x)

    has_any : (ms : List Mark) → list_any (is_named_at layout t id) ms ≡ true → (m : Mark) × Has m ms × (is_named_at layout t id m ≡ true)
    has_any [] h = absurd (false≢true h)
    has_any (x ∷ ms) h = by (is_named_at layout t id x) refl h (has_any ms)
      where
        by : (b : Bool) → is_named_at layout t id x ≡ b → (b || list_any (is_named_at layout t id) ms) ≡ true → (list_any (is_named_at layout t id) ms ≡ true → (m : Mark) × Has m ms × (is_named_at layout t id m ≡ true)) → (m : Mark) × Has m (x ∷ ms) × (is_named_at layout t id m ≡ true)
        by true e k later = (x, inl refl, e)
        by false e k later = let rest = later k in (rest.0, inr rest.1, rest.2)

    has_tile : (p : Place) → get ids p ≡ Some id → contains_key tiles p ≡ true
    has_tile p h = by (contains_key tiles p) refl
      where
        by : (b : Bool) → contains_key tiles p ≡ b → contains_key tiles p ≡ true
        by true e = e
        by false e = absurd (none-some id (sym (only p e) ∙ h))

    of_tile : (p : Place) (o : Option (Option (List ℕ))) → get tiles p ≡ o → is_some o ≡ true → get ids p ≡ Some id → list_any (is_named_at layout t id) marks ≡ true
    of_tile p None e some h = absurd (false≢true some)
    of_tile p (Some c) e some h =
        any_has (mark_of (p, c)) marks (mark_there tiles marks are (p, c) (has_there tiles p c e)) (row_named (tile_told layout t (address p)) (sym (told p (ap is_some e)) ∙ h))

    down : is_named ids id ≡ true → list_any (is_named_at layout t id) marks ≡ true
    down h = let at = named_has ids id h in of_tile at.0 (get tiles at.0) refl (has_tile at.0 at.1) at.1

    up : list_any (is_named_at layout t id) marks ≡ true → is_named ids id ≡ true
    up h =
        let one = has_any marks h in
        let e = entry_of tiles marks are one.0 one.1 in
        let there = ap is_some (there_has tiles e.0 e.1) in
        let named : is_named_at layout t id (mark_of e.0) ≡ true = ap (is_named_at layout t id) e.2 ∙ one.2 in
        named_at ids e.0.0 id (told e.0.0 there ∙ row_names (tile_told layout t (address e.0.0)) named)

    pub named_by_marks : list_any (is_named_at layout t id) marks ≡ is_named ids id
    named_by_marks = same_answers (list_any (is_named_at layout t id) marks) (is_named ids id) up down
