-- Marks of the tiles of rows, and which of them have one id.
use Rattle.tile_streaming.proofs.Common.{address, ap, are_distinct, Cell, cell_at, cons_option, Coord, coord_in, coord_placed, eq_by_cmp, filter_map, in_has_place, index_law, InRange, List}
use Rattle.tile_streaming.proofs.Common.{list_any, map, mark_of, marks_in, MbtType, nat_cmp, None, none-some, not, number_in, one_tie, Option, option_map, Place, place_at, place_cmp, place_is, place_of, refl}
use Rattle.tile_streaming.proofs.Common.{Some, same_Some, subst, sym, tile_in, ℕ, [], ◌&&◌, ◌||◌, ◌∙◌, ◌∷◌, ◌≡◌}
use Rattle.tile_streaming.specs.declared.mark.Mark.{Mark}

-- a tile of a set, with its place
abbrev pub Tile : Type 0
Tile = Place × Option (List ℕ)

-- rows give the marks of their tiles
given_marks : (f : List Cell → Option Tile) (rows : List (List Cell)) → filter_map (λ row. option_map mark_of (f row)) rows ≡ map mark_of (filter_map f rows)
given_marks f [] = refl
given_marks f (row ∷ rows) = ap (cons_option (option_map mark_of (f row))) (given_marks f rows) ∙ one (f row)
  where
    one : (o : Option Tile) → cons_option (option_map mark_of o) (map mark_of (filter_map f rows)) ≡ map mark_of (cons_option o (filter_map f rows))
    one None = refl
    one (Some e) = refl

pub marks_given : (layout : MbtType) (contents rows : List (List Cell)) → marks_in layout contents rows ≡ map mark_of (filter_map (tile_in layout contents) rows)
marks_given layout contents rows = given_marks (tile_in layout contents) rows

-- a tile's place is in range
placed : (row : List Cell) (p : Place) → place_of row ≡ Some p → InRange p
placed row p h = by (coord_in row) refl
  where
    by : (o : Option Coord) → coord_in row ≡ o → InRange p
    by None e = absurd (none-some p (ap (option_map place_at) (sym e) ∙ (place_is row ∙ h)))
    by (Some c) e =
        let same : place_at c ≡ p = same_Some (place_at c) p (ap (option_map place_at) (sym e) ∙ (place_is row ∙ h)) in
        subst InRange same (coord_placed c ((index_law (number_in (cell_at 0 row)) (number_in (cell_at 1 row)) (number_in (cell_at 2 row)) c).0 e).coord)

-- all places of tiles are in range
abbrev AreInRange : List Tile → Type 0
AreInRange [] = Unit {0}
AreInRange (e ∷ es) = InRange e.0 × AreInRange es

in_range : (f : List Cell → Option Tile) → ((row : List Cell) (e : Tile) → f row ≡ Some e → InRange e.0) → (rows : List (List Cell)) → AreInRange (filter_map f rows)
in_range f each [] = tt
in_range f each (row ∷ rows) = by (f row) refl (in_range f each rows)
  where
    by : (o : Option Tile) → f row ≡ o → AreInRange (filter_map f rows) → AreInRange (cons_option o (filter_map f rows))
    by None e rest = rest
    by (Some t) e rest = (each row t e, rest)

tiles_in_range : (layout : MbtType) (contents rows : List (List Cell)) → AreInRange (filter_map (tile_in layout contents) rows)
tiles_in_range layout contents rows = in_range (tile_in layout contents) (λ row e is. placed row e.0 (in_has_place layout contents row e is)) rows

-- ids tie where places do
abbrev ids : List Tile → List ℕ
ids es = map (λ m. m.id) (map mark_of es)

abbrev places : List Tile → List Place
places es = map (λ e. e.0) es

any_tie : (p : Place) → InRange p → (es : List Tile) → AreInRange es → list_any (eq_by_cmp nat_cmp (address p)) (ids es) ≡ list_any (eq_by_cmp place_cmp p) (places es)
any_tie p at [] h = refl
any_tie p at (e ∷ es) h = ap (λ b. b || list_any (eq_by_cmp nat_cmp (address p)) (ids es)) (one_tie p e.0 at h.0) ∙ ap (λ b. eq_by_cmp place_cmp p e.0 || b) (any_tie p at es h.1)

ids_apart : (es : List Tile) → AreInRange es → are_distinct nat_cmp (ids es) ≡ are_distinct place_cmp (places es)
ids_apart [] h = refl
ids_apart (e ∷ es) h = ap (λ b. not b && are_distinct nat_cmp (ids es)) (any_tie e.0 h.0 es h.1) ∙ ap (λ b. not (list_any (eq_by_cmp place_cmp e.0) (places es)) && b) (ids_apart es h.1)

-- no two marks of rows have one id exactly where no place stands twice
pub marks_apart : (layout : MbtType) (contents rows : List (List Cell)) (marks : List Mark) → marks ≡ marks_in layout contents rows → are_distinct nat_cmp (map (λ m. m.id) marks) ≡ are_distinct place_cmp (places (filter_map (tile_in layout contents) rows))
marks_apart layout contents rows marks is = ap (λ l. are_distinct nat_cmp (map (λ (m : Mark). m.id) l)) (is ∙ marks_given layout contents rows) ∙ ids_apart (filter_map (tile_in layout contents) rows) (tiles_in_range layout contents rows)
