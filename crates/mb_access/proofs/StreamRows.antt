-- The tile of a row, and the tiles of the rows of tables that load.
use Rattle.mb_access.proofs.Common.{All, ap, arith, Bool, Cache, Cell, cell_at, cond, cons_option, contains_key, content_of, DedupId, eq_by_cmp, Err, false, false≢true, filter_map, first_refusal}
use Rattle.mb_access.proofs.Common.{from_entries, get, get-from_entries, get-tiles_of, get_or, Hash, held_in, InvalidDataFormat, InvalidTileIndex, is_some, is_some-find, is_tile_row, layout_of, len}
use Rattle.mb_access.proofs.Common.{len-empty, len-insert, length, List, list_any, map, MbtError, MbtType, named_rows, None, none-some, Normalized, not, NoUniquenessConstraint, Ok, Option}
use Rattle.mb_access.proofs.Common.{option_and_then, option_map, pairs_of, Place, place_cmp, place_of, places_total, refl, Result, slice_get, slice_get-get_or, Some, State, state_of, stated, subst}
use Rattle.mb_access.proofs.Common.{sym, Tables, take, take-length, Tile, tile_by_row, tile_of, tile_table, true, unless, unless_refused, ℕ, [], ◌&&◌, ◌++◌, ◌+◌, ◌-◌, ◌∙◌, ◌∷◌, ◌≡◌}
use Rattle.std.specs.FinMap as fin
use Rattle.std.proofs.lemmas.List.Elements.{All-head, All-tail}
use Rattle.mb_constraints.proofs.ApartPlaces.{in_has_place}
use Rattle.mb_constraints.specs.TileRows.{bad_tile, tile_in}
use Rattle.mb_lists.proofs.Items.{found_itself, look_up}
use Rattle.mb_lists.proofs.Sorting.{apart_from_distinct}
use Rattle.mb_lists.specs.Contents.{content_rows}
use Rattle.mb_lists.specs.Keyed.{are_distinct, entries_by}
use Rattle.mb_load.proofs.RowsPass.{both_none, holds, passing}
use Rattle.mb_load.specs.LoadingOrder.{refusals}
use Rattle.mb_tables.specs.Cell.{is_null}
use Rattle.mb_tables.specs.declared.table.TableName.TheVariants.{Metadata}
use Rattle.mb_metadata.proofs.UpdateLemmas.{ok_same}

module _ (s : State) (row : List Cell) where
  abbrev tile_there : Option Place → Option Tile
  tile_there o = option_and_then (λ place. option_map (λ contents. (place, contents)) (get s.tiles place)) o

-- the tiles of tables by their rows
pairs_same : (layout : MbtType) (t : Tables) → pairs_of layout t ≡ filter_map (tile_in layout (content_rows layout t)) (t.rows (tile_table layout))
pairs_same (Normalized view Hash) t = named_rows view Hash (content_rows (Normalized view Hash) t) (t.rows (tile_table (Normalized view Hash)))
pairs_same (Normalized view DedupId) t = named_rows view DedupId (content_rows (Normalized view DedupId) t) (t.rows (tile_table (Normalized view DedupId)))
pairs_same _ t = refl

abbrev places : List Tile → List Place
places es = map (λ (e : Tile). e.0) es

-- what is known of tables that load
pub record HasPassed (t : Tables) (s : State) : Type 0 where
  pub held : held_in s.layout t ≡ s
  pub good : All (λ row. bad_tile s.layout (content_rows s.layout t) row ≡ None) (t.rows (tile_table s.layout))
  pub apart : are_distinct place_cmp (places (pairs_of s.layout t)) ≡ true

no_state : (e : MbtError) (s : State) → ◌≡◌ {A = Result State MbtError} (Err e) (Ok s) → ⊥
no_state e s h = cc

pub has_passed : (t : Tables) (s : State) → state_of t ≡ Ok s → HasPassed t s
has_passed t s h = by (layout_of t.descriptions) h
  where
    laid : (layout : MbtType) (o : Option MbtError) → first_refusal (refusals layout t) ≡ o → unless_refused layout t o ≡ Ok s → HasPassed t s
    laid layout (Some r) e h = absurd (no_state r s h)
    laid layout None e h =
        let first = both_none _ _ e in
        let second = both_none _ _ first.1 in
        let p = passing layout (t.rows Metadata) (content_rows layout t) (t.rows (tile_table layout)) second.1 in
        let apart : are_distinct place_cmp (places (pairs_of layout t)) ≡ true =
        ap (λ (l : List Tile). are_distinct place_cmp (places l)) (pairs_same layout t) ∙ holds (are_distinct place_cmp (places (filter_map (tile_in layout (content_rows layout t)) (t.rows (tile_table layout))))) NoUniquenessConstraint p.apart in
        subst (HasPassed t) (ok_same (held_in layout t) s h) (record { held = refl; good = p.places; apart = apart })

    by : (o : Option MbtType) → stated o t ≡ Ok s → HasPassed t s
    by None h = absurd (no_state InvalidDataFormat s h)
    by (Some layout) h = laid layout (first_refusal (refusals layout t)) refl h

-- entries of different places: each is found, and they are as many as in the set
entries_same : (es : List Tile) → entries_by (λ (e : Tile). e.0) (λ e. Some e.1) es ≡ es
entries_same [] = refl
entries_same (e ∷ es) = ap (λ (l : List Tile). e ∷ l) (entries_same es)

own_value : (es : List Tile) → are_distinct place_cmp (places es) ≡ true → (i : ℕ) (e : Tile) → slice_get es i ≡ Some e → get (from_entries {R = place_cmp} es) e.0 ≡ Some e.1
own_value es apart i e at =
    let distinct = apart_from_distinct places_total (λ (e : Tile). e.0) es apart in
    ap (λ (l : List Tile). get (from_entries {R = place_cmp} l) e.0) (sym (entries_same es))
    ∙ (look_up places_total (λ (e : Tile). e.0) (λ e. Some e.1) e.0 es distinct
    ∙ ap (option_and_then (λ (x : Tile). Some x.1)) (found_itself places_total (λ (e : Tile). e.0) es i e distinct at))

not_among : (b c : Bool) → (not b && c) ≡ true → (b ≡ false) × (c ≡ true)
not_among true c h = absurd (false≢true h)
not_among false c h = (refl, h)

counted : (es : List Tile) → are_distinct place_cmp (places es) ≡ true → len (from_entries {R = place_cmp} es) ≡ length es
counted [] h = len-empty place_cmp (Option (List ℕ))
counted (e ∷ es) h =
    let two = not_among (list_any (eq_by_cmp place_cmp e.0) (places es)) (are_distinct place_cmp (places es)) h in
    let new : contains_key (from_entries {R = place_cmp} es) e.0 ≡ false = ap is_some (get-from_entries places_total es e.0) ∙ (is_some-find place_cmp e.0 es ∙ two.0) in
    let rest = counted es two.1 in
    len-insert places_total (from_entries es) e.0 e.1 ∙ (ap (λ b. cond b (len (from_entries {R = place_cmp} es)) (len (from_entries {R = place_cmp} es) + 1)) new ∙ omega (arith, rest))

-- a row that no test refuses has a tile exactly where it is one of a tile
refused_without : (row : List Cell) (cell : Cell) → unless (is_some (tile_of row cell)) (InvalidTileIndex (cell_at 0 row) (cell_at 1 row) (cell_at 2 row)) ≡ None → tile_of row cell ≡ None → ⊥
refused_without row cell good none = false≢true (sym (ap is_some none) ∙ holds (is_some (tile_of row cell)) (InvalidTileIndex (cell_at 0 row) (cell_at 1 row) (cell_at 2 row)) good)

without_tile : (layout : MbtType) (ids : List (List Cell)) (row : List Cell) → bad_tile layout ids row ≡ None → tile_in layout ids row ≡ None → is_tile_row layout row ≡ false
without_tile Cache ids row good none = absurd (refused_without row (cell_at 6 row) good none)
without_tile (Normalized view schema) ids row good none = by (is_null (cell_at 3 row)) good none
  where
    by : (b : Bool)
        → option_and_then (λ cell. unless (is_some (tile_of row cell)) (InvalidTileIndex (cell_at 0 row) (cell_at 1 row) (cell_at 2 row))) (cond b None (Some (content_of ids (cell_at 3 row)))) ≡ None
        → option_and_then (tile_of row) (cond b None (Some (content_of ids (cell_at 3 row)))) ≡ None
        → not b ≡ false
    by true good none = refl
    by false good none = absurd (refused_without row (content_of ids (cell_at 3 row)) good none)
without_tile _ ids row good none = absurd (refused_without row (cell_at 3 row) good none)

with_tile : (layout : MbtType) (ids : List (List Cell)) (row : List Cell) (e : Tile) → tile_in layout ids row ≡ Some e → is_tile_row layout row ≡ true
with_tile (Normalized view schema) ids row e h = by (is_null (cell_at 3 row)) h
  where
    by : (b : Bool) → option_and_then (tile_of row) (cond b None (Some (content_of ids (cell_at 3 row)))) ≡ Some e → not b ≡ true
    by true h = absurd (none-some e h)
    by false h = refl
with_tile _ ids row e h = refl

module _ (s : State) (ids : List (List Cell)) where
  same_none : (row : List Cell) → bad_tile s.layout ids row ≡ None → tile_in s.layout ids row ≡ None → tile_by_row s row ≡ None
  same_none row good none = ap (λ b. cond b (tile_there s row (place_of row)) None) (without_tile s.layout ids row good none)

  same_some : (row : List Cell) (e : Tile) → tile_in s.layout ids row ≡ Some e → get s.tiles e.0 ≡ Some e.1 → tile_by_row s row ≡ Some e
  same_some row e h own =
      ap (λ b. cond b (tile_there s row (place_of row)) None) (with_tile s.layout ids row e h)
      ∙ (ap (tile_there s row) (in_has_place s.layout ids row e h) ∙ ap (option_map {U = Tile} (λ contents. (e.0, contents))) own)

  same_rows : (rows : List (List Cell)) → All (λ row. bad_tile s.layout ids row ≡ None) rows → All (λ (e : Tile). get s.tiles e.0 ≡ Some e.1) (filter_map (tile_in s.layout ids) rows) → filter_map (tile_by_row s) rows ≡ filter_map (tile_in s.layout ids) rows
  same_rows [] good own = refl
  same_rows (row ∷ rows) good own = by (tile_in s.layout ids row) refl own (same_rows rows (All-tail (λ row. bad_tile s.layout ids row ≡ None) row rows good))
    where
      first : bad_tile s.layout ids row ≡ None
      first = All-head (λ row. bad_tile s.layout ids row ≡ None) row rows good

      by : (o : Option Tile) → tile_in s.layout ids row ≡ o → All (λ (e : Tile). get s.tiles e.0 ≡ Some e.1) (cons_option o (filter_map (tile_in s.layout ids) rows))
          → (All (λ (e : Tile). get s.tiles e.0 ≡ Some e.1) (filter_map (tile_in s.layout ids) rows) → filter_map (tile_by_row s) rows ≡ filter_map (tile_in s.layout ids) rows)
          → cons_option (tile_by_row s row) (filter_map (tile_by_row s) rows) ≡ cons_option o (filter_map (tile_in s.layout ids) rows)
      by None e own rest = ap (λ (o : Option Tile). cons_option o (filter_map (tile_by_row s) rows)) (same_none row first e) ∙ rest own
      by (Some x) e own rest =
          ap (λ (o : Option Tile). cons_option o (filter_map (tile_by_row s) rows)) (same_some row x e (All-head (λ (e : Tile). get s.tiles e.0 ≡ Some e.1) x (filter_map (tile_in s.layout ids) rows) own))
          ∙ ap (λ (l : List Tile). x ∷ l) (rest (All-tail (λ (e : Tile). get s.tiles e.0 ≡ Some e.1) x (filter_map (tile_in s.layout ids) rows) own))

module _ (t : Tables) (s : State) (p : HasPassed t s) where
  pub found_at : (q : Place) → get s.tiles q ≡ fin.find place_cmp q (pairs_of s.layout t)
  found_at q = ap (λ (x : State). get x.tiles q) (sym p.held) ∙ get-tiles_of s.layout t q

  pub as_many : length (pairs_of s.layout t) ≡ len s.tiles
  as_many = sym (counted (pairs_of s.layout t) p.apart) ∙ ap (λ (x : State). len x.tiles) p.held

  own : All (λ (e : Tile). get s.tiles e.0 ≡ Some e.1) (pairs_of s.layout t)
  own = λ i d lt.
      let e = get_or (pairs_of s.layout t) i d in
      ap (λ (x : State). get x.tiles e.0) (sym p.held) ∙ own_value (pairs_of s.layout t) p.apart i e (slice_get-get_or (pairs_of s.layout t) i d lt)

  pub rows_are : filter_map (tile_by_row s) (t.rows (tile_table s.layout)) ≡ pairs_of s.layout t
  rows_are =
      same_rows s (content_rows s.layout t) (t.rows (tile_table s.layout)) p.good (subst (All (λ (e : Tile). get s.tiles e.0 ≡ Some e.1)) (pairs_same s.layout t) own)
      ∙ sym (pairs_same s.layout t)

  -- the tiles of all told rows, of as many as were loaded
  pub all_left : (rows : ℕ) → rows ≡ length (t.rows (tile_table s.layout)) → take (len s.tiles) (filter_map (tile_by_row s) ([] ++ take (rows - 0) (t.rows (tile_table s.layout)))) ≡ pairs_of s.layout t
  all_left rows is =
      let n : rows - 0 ≡ length (t.rows (tile_table s.layout)) = omega (arith, is) in
      let whole : take (rows - 0) (t.rows (tile_table s.layout)) ≡ t.rows (tile_table s.layout) = ap (λ n. take n (t.rows (tile_table s.layout))) n ∙ take-length (t.rows (tile_table s.layout)) in
      ap (λ (l : List (List Cell)). take (len s.tiles) (filter_map (tile_by_row s) l)) whole
      ∙ (ap (λ (l : List Tile). take (len s.tiles) l) rows_are ∙ (ap (λ n. take n (pairs_of s.layout t)) (sym as_many) ∙ take-length (pairs_of s.layout t)))
