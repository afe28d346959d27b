-- The empty set is loaded from tables without rows.
use Rattle.mb_load.proofs.Common.{All, All-nil, ap, arith, Bool, Cell, cell_cmp, contains_key, content_table, contents_of, Dates, empty, false, false≢true, filter, FitsPlace, fresh, get, get-empty}
use Rattle.mb_load.proofs.Common.{has_key, has_name_kinds, HashAlgorithm, is_cache, is_normalized, is_some, IsGoodContent, IsGoodRow, IsLoadable, IsLoadedFrom, List, MbtType, Metadata, nat_cmp}
use Rattle.mb_load.proofs.Common.{Option, option_and_then, option_map, option_to_list, Ordering, Place, place_cmp, refl, slice_cmp, subst, sym, Tables, Text, text_cell, TextId, tile_key, tile_table}
use Rattle.mb_load.proofs.Common.{true, ℕ, [], ◌&&◌, ◌∙◌, ◌∷◌, ◌≡◌}
use Rattle.mb_load.specs.EmptyTables.{AreEmpty}
use Rattle.mb_loaded.specs.Empty.{empty_state}

none_has : {K : Type 0} (R : K → K → Ordering) (X : Type 0) (q : K) → contains_key (empty {X = X} {R = R}) q ≡ false
none_has R X q = ap is_some (get-empty {X = X} R q)

and_none : (b : Bool) → false ≡ (b && false)
and_none true = refl
and_none false = refl

-- an empty map has a key exactly where a test and another empty map have it
as_many : {K : Type 0} (R : K → K → Ordering) (X Y : Type 0) (b : Bool) (q : K) → contains_key (empty {X = X} {R = R}) q ≡ (b && contains_key (empty {X = Y} {R = R}) q)
as_many R X Y b q = none_has R X q ∙ (and_none b ∙ ap (λ x. b && x) (sym (none_has R Y q)))

whole : (layout : MbtType) (a : HashAlgorithm) → IsLoadable (empty_state layout a)
whole layout a = record {
  on_board = λ p h. absurd (false≢true (sym (none_has place_cmp (Option (List ℕ)) p) ∙ h));
  placed = λ p. as_many place_cmp Cell (Option (List ℕ)) (is_normalized layout) p;
  joined = λ n p. get-empty place_cmp p ∙ ap (λ (o : Option Cell). option_and_then (λ id. option_and_then contents_of (get (empty {X = Cell} {R = cell_cmp}) id)) o) (sym (get-empty place_cmp p));
  stored = λ id cell h. absurd (false≢true (ap is_some (sym (get-empty cell_cmp id) ∙ h)));
  dated = λ p. as_many place_cmp Dates (Option (List ℕ)) (is_cache layout) p;
  times = λ p d h. absurd (false≢true (ap is_some (sym (get-empty place_cmp p) ∙ h)));
}

no_rows_fit : (layout : MbtType) (a : HashAlgorithm) (p : Place) → FitsPlace (empty_state layout a) p []
no_rows_fit layout a p = record {
  alone = omega arith;
  tile = λ flat. sym (get-empty place_cmp p);
  id = sym (get-empty place_cmp p);
  dates = sym (get-empty place_cmp p);
}

pub from_empty : (t : Tables) (layout : MbtType) (a : HashAlgorithm) → AreEmpty layout t → IsLoadedFrom t (fresh (empty_state layout a))
from_empty t layout a e = record {
  layout = e.is_layout;
  patch_type = e.whole;
  described = e.described;
  indexed = e.indexed;
  state = whole layout a;
  with_ids = λ id h. absurd (false≢true (sym (none_has cell_cmp (Unit {0}) id) ∙ h));
  tiles = λ p h. subst (λ (rows : List (List Cell)). FitsPlace (empty_state layout a) p (filter (has_key (tile_table layout) (tile_key p)) rows)) (sym e.tiles) (no_rows_fit layout a p);
  contents = λ id key k h. ap (filter (has_key (content_table layout) key)) e.contents ∙ ap (λ (o : Option Cell). option_to_list (option_map (λ cell. id ∷ cell ∷ []) o)) (sym (get-empty cell_cmp id));
  names = λ name h. ap (filter (has_key Metadata (TextId name))) e.names ∙ ap (λ (o : Option (Option (List ℕ))). option_to_list (option_map (λ value. Text name ∷ text_cell value ∷ []) o)) (sym (get-empty (slice_cmp nat_cmp) name));
  tile_rows = subst (All (IsGoodRow layout a)) (sym e.tiles) (All-nil (IsGoodRow layout a));
  content_rows = subst (All (IsGoodContent layout a)) (sym e.contents) (All-nil (IsGoodContent layout a));
  name_rows = subst (All (λ row. has_name_kinds row ≡ true)) (sym e.names) (All-nil (λ row. has_name_kinds row ≡ true));
}
