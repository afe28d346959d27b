-- What is known of contents without their bytes tells of a tile what the contents tell.
use Rattle.tile_streaming.proofs.Common.{All, ap, Bool, Cell, cell_at, cond, Content, content_from, content_of, contents_of, coord_in, false, first_refused, hollow, hollow_content, hollow_row, IfSome, hollow_rows, InvalidTileIndex, is_null, is_some, Knows, Known, List, list_any, map}
use Rattle.tile_streaming.proofs.Common.{bad_tile, mark_of_cell, mark_under, marks_by_row, MbtError, MbtType, missing_reference, None, NoUniquenessConstraint, Option, option_and_then, option_or, refl, reference_missing, rows_kept, Some, subst, suc, sym, tile_bad, tile_of, unless, unwrap_or, zero, ℕ, [], ◌&&◌, ◌++◌, ◌||◌, ◌∙◌, ◌∷◌, ◌≡◌, true}
use Rattle.mb_constraints.proofs.ContentTests.{all_present, ids_pass, ids_refused}
use Rattle.mb_constraints.proofs.TileRowLemmas.{tile_parts}
use Rattle.mb_constraints.specs.References.{id_text}
use Rattle.mb_lists.proofs.IdLemmas.{cell_under, no_cell_under}
use Rattle.mb_lists.specs.Contents.{are_apart, fronts, id_twice}
use Rattle.mb_lists.specs.Entries.{AreContentsInOrder, content_at, id_at, is_content_gone, is_removed}
use Rattle.mb_lists.specs.declared.content_list.ContentList.{ContentList}
use Rattle.mb_lists.specs.FromRows.{AreIndexed, ids_from, index_by}
use Rattle.mb_lists.specs.Keyed.{are_distinct, IsInOrder, live_at}
use Rattle.mb_tables.specs.Cell.{cell_cmp, cell_eq}
use Rattle.mb_tables.specs.Kind as kind
use Rattle.mb_tables.specs.declared.cell.Cell.TheVariants.{Blob, Int, Null, Other, Text}
use Rattle.mb_tables.specs.declared.error.MbtError.TheVariants.{MissingTileReference}
use Rattle.mb_tables.specs.declared.kind.MbtType.TheVariants.{Cache, Flat, FlatWithHash, Normalized}
use Rattle.std.specs.List.Sorted.{IsPermutation}
use Rattle.std.specs.Prelude.{find, IfNone, slice_get}
use Rattle.tile_streaming.specs.declared.mark.ContentMark.{ContentMark}

-- a cell without bytes is contents where the cell is
hollow_some : (cell : Cell) → is_some (contents_of (hollow cell)) ≡ is_some (contents_of cell)
hollow_some (Blob bytes) = refl
hollow_some Null = refl
hollow_some (Int n) = refl
hollow_some (Text text) = refl
hollow_some Other = refl

hollow_tile : (row : List Cell) (cell : Cell) → is_some (tile_of row (hollow cell)) ≡ is_some (tile_of row cell)
hollow_tile row cell = tile_parts row (hollow cell) ∙ (ap (λ b. is_some (coord_in row) && b) (hollow_some cell) ∙ sym (tile_parts row cell))

-- the contents of an id
hollow_found : (rows : List (List Cell)) (id : Cell) → content_of (hollow_rows rows) id ≡ hollow (content_of rows id)
hollow_found [] id = refl
hollow_found (r ∷ rs) id = by (cell_eq (cell_at 0 r) id) (hollow_found rs id)
  where
    by : (b : Bool) → content_of (hollow_rows rs) id ≡ hollow (content_of rs id) → cell_at 1 (unwrap_or (cond b (Some (hollow_row r)) (find (λ row. cell_eq (cell_at 0 row) id) (hollow_rows rs))) []) ≡ hollow (cell_at 1 (unwrap_or (cond b (Some r) (find (λ row. cell_eq (cell_at 0 row) id) rs)) []))
    by true ih = refl
    by false ih = ih

any_same : (rows : List (List Cell)) (id : Cell) → list_any (λ c. cell_eq (cell_at 0 c) id) (hollow_rows rows) ≡ list_any (λ c. cell_eq (cell_at 0 c) id) rows
any_same [] id = refl
any_same (r ∷ rs) id = ap (λ b. cell_eq (cell_at 0 r) id || b) (any_same rs id)

-- tests that agree on each element
pub same_refused : {A : Type 0} (f g : A → Option MbtError) → ((x : A) → f x ≡ g x) → (xs : List A) → first_refused f xs ≡ first_refused g xs
same_refused f g h [] = refl
same_refused f g h (x ∷ xs) = ap (λ o. option_or o (first_refused f xs)) (h x) ∙ ap (option_or (g x)) (same_refused f g h xs)

-- the tests of rows of tiles
bad_same : (layout : MbtType) (contents : List (List Cell)) (row : List Cell) → bad_tile layout (hollow_rows contents) row ≡ bad_tile layout contents row
bad_same Flat contents row = refl
bad_same FlatWithHash contents row = refl
bad_same Cache contents row = refl
bad_same (Normalized view schema) contents row = by (is_null (cell_at 3 row))
  where
    same : is_some (tile_of row (content_of (hollow_rows contents) (cell_at 3 row))) ≡ is_some (tile_of row (content_of contents (cell_at 3 row)))
    same = ap (λ c. is_some (tile_of row c)) (hollow_found contents (cell_at 3 row)) ∙ hollow_tile row (content_of contents (cell_at 3 row))

    by : (b : Bool) → option_and_then (λ cell. unless (is_some (tile_of row cell)) (InvalidTileIndex (cell_at 0 row) (cell_at 1 row) (cell_at 2 row))) (cond b None (Some (content_of (hollow_rows contents) (cell_at 3 row)))) ≡ option_and_then (λ cell. unless (is_some (tile_of row cell)) (InvalidTileIndex (cell_at 0 row) (cell_at 1 row) (cell_at 2 row))) (cond b None (Some (content_of contents (cell_at 3 row))))
    by true = refl
    by false = ap (λ b. unless b (InvalidTileIndex (cell_at 0 row) (cell_at 1 row) (cell_at 2 row))) same

missing_same : (layout : MbtType) (contents : List (List Cell)) (row : List Cell) → missing_reference layout (hollow_rows contents) row ≡ missing_reference layout contents row
missing_same Flat contents row = refl
missing_same FlatWithHash contents row = refl
missing_same Cache contents row = refl
missing_same (Normalized view schema) contents row = ap (λ b. unless (is_null (cell_at 3 row) || b) (MissingTileReference (id_text (cell_at 3 row)) (kind.contents_of schema))) (any_same contents (cell_at 3 row))

-- what is known are these rows
kept_hollow : (rows : List (List Cell)) → rows_kept (map content_from (hollow_rows rows)) ≡ hollow_rows rows
kept_hollow [] = refl
kept_hollow (r ∷ rs) = ap (λ l. hollow_row r ∷ l) (kept_hollow rs)

pub known_rows : (contents : List (List Cell)) (k : Known) → Knows contents k → rows_kept k.list.items.items ≡ hollow_rows contents
known_rows contents k knows = ap rows_kept knows.items ∙ kept_hollow contents

pub bad_known : (layout : MbtType) (contents : List (List Cell)) (k : Known) → Knows contents k → (rows : List (List Cell)) → tile_bad layout (rows_kept k.list.items.items) rows ≡ tile_bad layout contents rows
bad_known layout contents k knows rows = ap (λ l. tile_bad layout l rows) (known_rows contents k knows) ∙ same_refused (bad_tile layout (hollow_rows contents)) (bad_tile layout contents) (bad_same layout contents) rows

pub missing_known : (layout : MbtType) (contents : List (List Cell)) (k : Known) → Knows contents k → (rows : List (List Cell)) → first_refused (missing_reference layout (rows_kept k.list.items.items)) rows ≡ reference_missing layout contents rows
missing_known layout contents k knows rows = ap (λ l. first_refused (missing_reference layout l) rows) (known_rows contents k knows) ∙ same_refused (missing_reference layout (hollow_rows contents)) (missing_reference layout contents) (missing_same layout contents) rows

-- ids that stand twice
hollow_fronts : (rows : List (List Cell)) → fronts (hollow_rows rows) ≡ fronts rows
hollow_fronts [] = refl
hollow_fronts (r ∷ rs) = ap (λ l. cell_at 0 r ∷ l) (hollow_fronts rs)

pub twice_same : (rows : List (List Cell)) → id_twice (hollow_rows rows) ≡ id_twice rows
twice_same rows = ap (λ l. unless (are_apart l) NoUniquenessConstraint) (hollow_fronts rows)

-- the ids of contents with their bytes, which are indexed as those without
abbrev whole : List (List Cell) → List Content
whole rows = map content_from rows

abbrev bare : List (List Cell) → List Content
bare rows = map content_from (hollow_rows rows)

ids_same : (rows : List (List Cell)) (i : ℕ) → id_at (bare rows) i ≡ id_at (whole rows) i
ids_same [] i = refl
ids_same (r ∷ rs) zero = refl
ids_same (r ∷ rs) (suc i) = ids_same rs i

gone_same : (rows : List (List Cell)) (i : ℕ) → is_content_gone (bare rows) i ≡ is_content_gone (whole rows) i
gone_same [] i = refl
gone_same (r ∷ rs) zero = refl
gone_same (r ∷ rs) (suc i) = gone_same rs i

from_same : (k : ℕ) (rows : List (List Cell)) → ids_from k (bare rows) ≡ ids_from k (whole rows)
from_same k [] = refl
from_same k (r ∷ rs) = ap (λ l. cond (is_null (cell_at 0 r)) l (k ∷ l)) (from_same (suc k) rs)

module _ (rows : List (List Cell)) where
  all_ids : id_at (bare rows) ≡ id_at (whole rows)
  all_ids = λ i n. ids_same rows n i

  all_gone : is_content_gone (bare rows) ≡ is_content_gone (whole rows)
  all_gone = λ i n. gone_same rows n i

  index_whole : (live : ℕ) (order : List ℕ) → AreIndexed (bare rows) live order → AreIndexed (whole rows) live order
  index_whole live order x = record {
    rising = subst (λ (f : ℕ → Cell). IsInOrder cell_cmp f (is_content_gone (whole rows)) live order) all_ids (subst (λ (g : ℕ → Bool). IsInOrder cell_cmp (id_at (bare rows)) g live order) all_gone x.rising);
    listed = subst (λ l. IsPermutation l order) (from_same 0 rows) x.listed;
    present = all_present (whole rows) rows refl;
  }

  index_same : (order : List ℕ) (q : Cell) → index_by (bare rows) order q ≡ index_by (whole rows) order q
  index_same order q = ap (λ (f : ℕ → Cell). live_at cell_cmp f (is_content_gone (bare rows)) q order) all_ids ∙ ap (λ (g : ℕ → Bool). live_at cell_cmp (id_at (whole rows)) g q order) all_gone

-- the contents of an id among whole rows
found_whole : (rows : List (List Cell)) (id : Cell) → content_of (rows_kept (whole rows)) id ≡ content_of rows id
found_whole [] id = refl
found_whole (r ∷ rs) id = by (cell_eq (cell_at 0 r) id) (found_whole rs id)
  where
    by : (b : Bool) → content_of (rows_kept (whole rs)) id ≡ content_of rs id → cell_at 1 (unwrap_or (cond b (Some (cell_at 0 r ∷ cell_at 1 r ∷ [])) (find (λ row. cell_eq (cell_at 0 row) id) (rows_kept (whole rs)))) []) ≡ cell_at 1 (unwrap_or (cond b (Some r) (find (λ row. cell_eq (cell_at 0 row) id) rs)) [])
    by true ih = refl
    by false ih = ih

-- the mark at an index is that of the contents there
mark_there : (rows : List (List Cell)) (i : ℕ) → option_and_then {U = ContentMark} (λ mark. mark) (slice_get (marks_by_row rows) i) ≡ mark_of_cell (content_at (whole rows) i).cell
mark_there [] i = refl
mark_there (r ∷ rs) zero = refl
mark_there (r ∷ rs) (suc i) = mark_there rs i

module _ (contents : List (List Cell)) (k : Known) (knows : Knows contents k) (id : Cell) (some : is_null id ≡ false) where
  indexed : AreIndexed (whole contents) k.list.live k.list.order.items
  indexed = index_whole contents k.list.live k.list.order.items (subst (λ l. AreIndexed l k.list.live k.list.order.items) knows.items knows.indexed)

  by_index : (o : Option ℕ) → index_by k.list.items.items k.list.order.items id ≡ o → index_by (whole contents) k.list.order.items id ≡ o
  by_index o is = sym (ap (λ l. index_by l k.list.order.items id) knows.items ∙ index_same contents k.list.order.items id) ∙ is

  -- the mark that is found
  pub mark_found : (i : ℕ) → index_by k.list.items.items k.list.order.items id ≡ Some i → option_and_then {U = ContentMark} (λ mark. mark) (slice_get k.marks.items i) ≡ mark_under contents id
  mark_found i is =
      ap (λ l. option_and_then {U = ContentMark} (λ mark. mark) (slice_get l i)) knows.marks
      ∙ (mark_there contents i
      ∙ (ap mark_of_cell (sym (cell_under (whole contents) k.list.live k.list.order.items indexed id some i (by_index (Some i) is)) ∙ found_whole contents id)
      ∙ ap (λ b. cond b None (mark_of_cell (content_of contents id))) (sym some)))

  -- contents that aren't there are those of null
  pub mark_missing : index_by k.list.items.items k.list.order.items id ≡ None → mark_of_cell Null ≡ mark_under contents id
  mark_missing is =
      ap mark_of_cell (sym (no_cell_under (whole contents) k.list.live k.list.order.items indexed id some (by_index None is)) ∙ found_whole contents id)
      ∙ ap (λ b. cond b None (mark_of_cell (content_of contents id))) (sym some)

-- null is no id
pub mark_of_none : (contents : List (List Cell)) (id : Cell) → is_null id ≡ true → None ≡ mark_under contents id
mark_of_none contents id none = ap (λ b. cond b None (mark_of_cell (content_of contents id))) (sym none)

-- contents that were put in the order of their ids
pub indexed_of : (o : Option ContentList) (l : ContentList) (items : List Content) → o ≡ Some l → IfSome o (λ l. AreContentsInOrder l.items.items l.live l.order.items) → IfSome o (λ l. l.items.items ≡ items) → IfSome o (λ l. IsPermutation (ids_from 0 items) l.order.items) → All (λ c. is_removed c.standing ≡ false) items
    → (l.items.items ≡ items) × AreIndexed l.items.items l.live l.order.items
indexed_of o l items is order same listed present =
    let one : l.items.items ≡ items = subst (λ (x : Option ContentList). IfSome x (λ l. l.items.items ≡ items)) is same in (
      one,
      record {
        rising = subst (λ (x : Option ContentList). IfSome x (λ l. AreContentsInOrder l.items.items l.live l.order.items)) is order;
        listed = subst (λ (xs : List Content). IsPermutation (ids_from 0 xs) l.order.items) (sym one) (subst (λ (x : Option ContentList). IfSome x (λ l. IsPermutation (ids_from 0 items) l.order.items)) is listed);
        present = subst (All (λ (c : Content). is_removed c.standing ≡ false)) (sym one) present;
      },
    )

-- no id of them stands twice
pub apart_of : (l : ContentList) (rows : List (List Cell)) → l.items.items ≡ map content_from (hollow_rows rows) → AreIndexed l.items.items l.live l.order.items → id_twice rows ≡ None
apart_of l rows is x = sym (twice_same rows) ∙ ids_pass l.items.items l.live l.order.items (hollow_rows rows) is x.rising x.listed

pub or_none : (y : Option MbtError) → y ≡ option_or y None
or_none (Some e) = refl
or_none None = refl

-- or some id does
pub twice_of : (o : Option ContentList) (items : List Content) (rows : List (List Cell)) → o ≡ None → IfNone o (are_distinct cell_cmp (map (id_at items) (ids_from 0 items)) ≡ false) → items ≡ map content_from (hollow_rows rows) → id_twice rows ≡ Some NoUniquenessConstraint
twice_of o items rows is twice same = sym (twice_same rows) ∙ (or_none (id_twice (hollow_rows rows)) ∙ ids_refused items (hollow_rows rows) None same (subst (λ (x : Option ContentList). IfNone x (are_distinct cell_cmp (map (id_at items) (ids_from 0 items)) ≡ false)) is twice))

-- one page of contents more
hollow_page : (page : List (List Cell)) → map hollow_content (map content_from page) ≡ map content_from (hollow_rows page)
hollow_page [] = refl
hollow_page (r ∷ rs) = ap (λ l. content_from (hollow_row r) ∷ l) (hollow_page rs)

pub items_more : (rows page : List (List Cell)) → map content_from (hollow_rows rows) ++ map hollow_content (map content_from page) ≡ map content_from (hollow_rows (rows ++ page))
items_more [] page = hollow_page page
items_more (r ∷ rs) page = ap (λ l. content_from (hollow_row r) ∷ l) (items_more rs page)

marks_page : (page : List (List Cell)) → map (λ (c : Content). mark_of_cell c.cell) (map content_from page) ≡ marks_by_row page
marks_page [] = refl
marks_page (r ∷ rs) = ap (λ l. mark_of_cell (cell_at 1 r) ∷ l) (marks_page rs)

pub marks_more : (rows page : List (List Cell)) → marks_by_row rows ++ map (λ (c : Content). mark_of_cell c.cell) (map content_from page) ≡ marks_by_row (rows ++ page)
marks_more [] page = marks_page page
marks_more (r ∷ rs) page = ap (λ l. mark_of_cell (cell_at 1 r) ∷ l) (marks_more rs page)

-- nothing that was seen is removed
pub present_of : (items : List Content) (rows : List (List Cell)) → items ≡ map content_from (hollow_rows rows) → All (λ c. is_removed c.standing ≡ false) items
present_of items rows is = all_present items (hollow_rows rows) is
