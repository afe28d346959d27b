-- The tiles that are kept of the rows of each layout.
use Rattle.mb_load.proofs.Common.{All, All-cons, ap, AreIndexed, AreTilesOf, arith, bad_tile, Bool, by_all, by_entries, by_id_if, Cache, Cell, cell_at, cond, Content, content_at, contents_in}
use Rattle.mb_load.proofs.Common.{contents_of, Dates, dates_by_id, dates_from, dates_in, filter_map, first_refused, Flat, FlatWithHash, from_entries, id_by_id, id_in, ids_from, InvalidTileIndex}
use Rattle.mb_load.proofs.Common.{is_cache, is_null, is_removed, is_some, IsDated, IsPermutation, Kept, List, map, MbtType, missing_reference, None, Normalized, NormalizedSchema, Option}
use Rattle.mb_load.proofs.Common.{option_and_then, own_all, own_at, own_content, own_entries, own_tiles, passed, place_cmp, placed, placed_entry, refl, rows_kept, slice_get, Some, stored_by_id}
use Rattle.mb_load.proofs.Common.{stored_if, StoredTile, subst, suc, sym, tile_by_id, tile_dates, tile_entry, tile_id, tile_in, tile_of, tile_value, true, undated, unless, whole_by_id, whole_row, ℕ}
use Rattle.mb_load.proofs.Common.{[], ◌+◌, ◌∙◌, ◌∷◌, ◌≡◌}
use Rattle.std.proofs.lemmas.List.Sorted.{IsPermutation-refl}

module _ (n : ℕ) (layout : MbtType) (ids_rows rows : List (List Cell)) (dates : List Cell → Option Dates) (own : (row : List Cell) → contents_in layout ids_rows row ≡ Some (cell_at n row)) (none : (row : List Cell) → id_in layout row ≡ None) (times : (row : List Cell) → dates row ≡ dates_in layout row) (dated : (row : List Cell) → is_some (dates row) ≡ is_cache layout) (pass : first_refused (bad_tile layout ids_rows) rows ≡ None) where
  abbrev kept : List Content
  kept = map (own_content n) rows

  at_index : (j i : ℕ) (row : List Cell) → slice_get rows j ≡ Some row → i ≡ 0 + j → content_at kept i ≡ own_content n row
  at_index j i row at e = let same : i ≡ j = omega (arith, e) in ap (content_at kept) same ∙ own_at n rows j row at

  whole_own : (j i : ℕ) (row : List Cell) → slice_get rows j ≡ Some row → i ≡ 0 + j → is_some (contents_of (content_at kept i).cell) ≡ true
  whole_own j i row at e =
      let p : bad_tile layout ids_rows row ≡ None = passed (bad_tile layout ids_rows) rows pass j row at in
      ap (λ (k : Content). is_some (contents_of k.cell)) (at_index j i row at e)
      ∙ whole_row row (cell_at n row) (InvalidTileIndex (cell_at 0 row) (cell_at 1 row) (cell_at 2 row)) (ap (λ (o : Option Cell). option_and_then (λ cell. unless (is_some (tile_of row cell)) (InvalidTileIndex (cell_at 0 row) (cell_at 1 row) (cell_at 2 row))) o) (sym (own row)) ∙ p)

  pub are_own : AreTilesOf layout ids_rows rows kept (own_tiles dates 0 rows)
  are_own = record {
    values = own_entries (tile_value kept) dates (tile_in layout ids_rows) 0 rows (λ j i row at e. tile_entry kept (dates row) i row (cell_at n row) (ap (λ (k : Content). k.cell) (at_index j i row at e)) ∙ ap (option_and_then (tile_of row)) (sym (own row)));
    ids = ap (from_entries {R = place_cmp}) (own_entries (tile_id kept) dates (λ row. placed (id_in layout row) row) 0 rows (λ j i row at e. placed_entry (tile_id kept) (dates row) i row None (λ c. ap (λ (k : Content). cond (is_null k.id) None (Some k.id)) (at_index j i row at e)) ∙ ap (λ (d : Option Cell). placed d row) (sym (none row))));
    times = ap (from_entries {R = place_cmp}) (own_entries tile_dates dates (λ row. placed (dates_in layout row) row) 0 rows (λ j i row at e. placed_entry tile_dates (dates row) i row (dates_in layout row) (λ c. times row)));
    whole = own_all (λ t. is_some (tile_value kept t) ≡ true) dates 0 rows (λ j i row at e. stored_if (λ t. is_some (tile_value kept t) ≡ true) (dates row) i row (λ c. whole_own j i row at e));
    kept = own_all (λ t. t.standing ≡ Kept) dates 0 rows (λ j i row at e. stored_if (λ t. t.standing ≡ Kept) (dates row) i row (λ c. refl));
    dated = own_all (IsDated layout) dates 0 rows (λ j i row at e. stored_if (IsDated layout) (dates row) i row (λ c live. dated row));
  }

pub flat_are : (ids_rows rows : List (List Cell)) → first_refused (bad_tile Flat ids_rows) rows ≡ None → AreTilesOf Flat ids_rows rows (map (own_content 3) rows) (own_tiles undated 0 rows)
flat_are ids_rows rows h = are_own 3 Flat ids_rows rows undated (λ row. refl) (λ row. refl) (λ row. refl) (λ row. refl) h

pub hashed_are : (ids_rows rows : List (List Cell)) → first_refused (bad_tile FlatWithHash ids_rows) rows ≡ None → AreTilesOf FlatWithHash ids_rows rows (map (own_content 3) rows) (own_tiles undated 0 rows)
hashed_are ids_rows rows h = are_own 3 FlatWithHash ids_rows rows undated (λ row. refl) (λ row. refl) (λ row. refl) (λ row. refl) h

pub cached_are : (ids_rows rows : List (List Cell)) → first_refused (bad_tile Cache ids_rows) rows ≡ None → AreTilesOf Cache ids_rows rows (map (own_content 6) rows) (own_tiles dates_from 0 rows)
cached_are ids_rows rows h = are_own 6 Cache ids_rows rows dates_from (λ row. refl) (λ row. refl) (λ row. refl) (λ row. refl) h

pub named_are : (contents : List Content) (live : ℕ) (order : List ℕ) → AreIndexed contents live order → (view : Bool) (schema : NormalizedSchema) (rows : List (List Cell)) → first_refused (bad_tile (Normalized view schema) (rows_kept contents)) rows ≡ None → first_refused (missing_reference (Normalized view schema) (rows_kept contents)) rows ≡ None → AreTilesOf (Normalized view schema) (rows_kept contents) rows contents (filter_map (stored_by_id contents order) rows)
named_are contents live order x view schema rows pass there =
    let present : (j : ℕ) (row : List Cell) → slice_get rows j ≡ Some row → missing_reference (Normalized view schema) (rows_kept contents) row ≡ None = λ j row at. passed (missing_reference (Normalized view schema) (rows_kept contents)) rows there j row at in
    record {
      values = by_entries (tile_value contents) (stored_by_id contents order) (tile_in (Normalized view schema) (rows_kept contents)) rows (λ j row at. tile_by_id contents live order x view schema row (present j row at));
      ids = ap (from_entries {R = place_cmp}) (by_entries (tile_id contents) (stored_by_id contents order) (λ row. placed (id_in (Normalized view schema) row) row) rows (λ j row at. id_by_id contents live order x view schema row (present j row at)));
      times = ap (from_entries {R = place_cmp}) (by_entries tile_dates (stored_by_id contents order) (λ row. placed (dates_in (Normalized view schema) row) row) rows (λ j row at. dates_by_id contents live order x view schema row (present j row at)));
      whole = by_all (λ t. is_some (tile_value contents t) ≡ true) (stored_by_id contents order) rows (λ j row at. whole_by_id contents live order x view schema row (passed (bad_tile (Normalized view schema) (rows_kept contents)) rows pass j row at));
      kept = by_all (λ t. t.standing ≡ Kept) (stored_by_id contents order) rows (λ j row at. by_id_if (λ t. t.standing ≡ Kept) contents order row (λ i some at'. stored_if (λ t. t.standing ≡ Kept) None i row (λ c. refl)));
      dated = by_all (IsDated (Normalized view schema)) (stored_by_id contents order) rows (λ j row at. by_id_if (IsDated (Normalized view schema)) contents order row (λ i some at'. stored_if (IsDated (Normalized view schema)) None i row (λ c live. refl)));
    }

-- the same of what is kept by another name
moved : (layout : MbtType) (ids_rows rows : List (List Cell)) (contents contents' : List Content) (tiles tiles' : List StoredTile) → contents ≡ contents' → tiles ≡ tiles' → AreTilesOf layout ids_rows rows contents' tiles' → AreTilesOf layout ids_rows rows contents tiles
moved layout ids_rows rows contents contents' tiles tiles' c t a =
    subst (λ x. AreTilesOf layout ids_rows rows x tiles) (sym c) (subst (λ x. AreTilesOf layout ids_rows rows contents' x) (sym t) a)

pub flat_of : (layout : MbtType) (ids_rows rows : List (List Cell)) (contents : List Content) (tiles : List StoredTile) → layout ≡ Flat → contents ≡ map (own_content 3) rows → tiles ≡ own_tiles undated 0 rows → first_refused (bad_tile layout ids_rows) rows ≡ None → AreTilesOf layout ids_rows rows contents tiles
flat_of layout ids_rows rows contents tiles e c t = subst (λ l. first_refused (bad_tile l ids_rows) rows ≡ None → AreTilesOf l ids_rows rows contents tiles) (sym e) (λ h. moved Flat ids_rows rows contents _ tiles _ c t (flat_are ids_rows rows h))

pub hashed_of : (layout : MbtType) (ids_rows rows : List (List Cell)) (contents : List Content) (tiles : List StoredTile) → layout ≡ FlatWithHash → contents ≡ map (own_content 3) rows → tiles ≡ own_tiles undated 0 rows → first_refused (bad_tile layout ids_rows) rows ≡ None → AreTilesOf layout ids_rows rows contents tiles
hashed_of layout ids_rows rows contents tiles e c t = subst (λ l. first_refused (bad_tile l ids_rows) rows ≡ None → AreTilesOf l ids_rows rows contents tiles) (sym e) (λ h. moved FlatWithHash ids_rows rows contents _ tiles _ c t (hashed_are ids_rows rows h))

pub cached_of : (layout : MbtType) (ids_rows rows : List (List Cell)) (contents : List Content) (tiles : List StoredTile) → layout ≡ Cache → contents ≡ map (own_content 6) rows → tiles ≡ own_tiles dates_from 0 rows → first_refused (bad_tile layout ids_rows) rows ≡ None → AreTilesOf layout ids_rows rows contents tiles
cached_of layout ids_rows rows contents tiles e c t = subst (λ l. first_refused (bad_tile l ids_rows) rows ≡ None → AreTilesOf l ids_rows rows contents tiles) (sym e) (λ h. moved Cache ids_rows rows contents _ tiles _ c t (cached_are ids_rows rows h))

pub named_of : (layout : MbtType) (ids : List Content) (live : ℕ) (order : List ℕ) (rows : List (List Cell)) (contents : List Content) (tiles : List StoredTile) (view : Bool) (schema : NormalizedSchema) → AreIndexed ids live order → layout ≡ Normalized view schema → contents ≡ ids → tiles ≡ filter_map (stored_by_id ids order) rows → first_refused (bad_tile layout (rows_kept ids)) rows ≡ None → first_refused (missing_reference layout (rows_kept ids)) rows ≡ None → AreTilesOf layout (rows_kept ids) rows contents tiles
named_of layout ids live order rows contents tiles view schema x e c t = subst (λ l. first_refused (bad_tile l (rows_kept ids)) rows ≡ None → first_refused (missing_reference l (rows_kept ids)) rows ≡ None → AreTilesOf l (rows_kept ids) rows contents tiles) (sym e) (λ h k. moved (Normalized view schema) (rows_kept ids) rows contents _ tiles _ c t (named_are ids live order x view schema rows h k))

-- contents of which none has an id
no_ids : (n k : ℕ) (rows : List (List Cell)) → ids_from k (map (own_content n) rows) ≡ []
no_ids n k [] = refl
no_ids n k (r ∷ rs) = no_ids n (suc k) rs

all_kept : (n : ℕ) (rows : List (List Cell)) → All (λ (c : Content). c.standing ≡ Kept) (map (own_content n) rows)
all_kept n [] = λ i d lt. absurd (omega arith)
all_kept n (r ∷ rs) = All-cons (λ (c : Content). c.standing ≡ Kept) (own_content n r) (map (own_content n) rs) refl (all_kept n rs)

own_indexed : (n : ℕ) (rows : List (List Cell)) → AreIndexed (map (own_content n) rows) 0 []
own_indexed n rows = record {
  rising = record {
    bound = omega arith;
    apart = record { pairs = λ i j d less lt. absurd (omega arith) };
    rising = λ i j d less lt. absurd (omega arith);
    live = λ i d lt. absurd (omega arith);
    marks = λ i d from lt. absurd (omega arith);
  };
  listed = subst (λ l. IsPermutation l []) (sym (no_ids n 0 rows)) (IsPermutation-refl []);
  present = λ i d lt. ap is_removed (all_kept n rows i d lt);
}

pub indexed_of : (n : ℕ) (rows : List (List Cell)) (contents : List Content) (live : ℕ) (order : List ℕ) → contents ≡ map (own_content n) rows → live ≡ 0 → order ≡ [] → AreIndexed contents live order
indexed_of n rows contents live order c l o = subst (λ x. AreIndexed x live order) (sym c) (subst (λ x. AreIndexed (map (own_content n) rows) x order) (sym l) (subst (λ x. AreIndexed (map (own_content n) rows) 0 x) (sym o) (own_indexed n rows)))

pub kept_of : (n : ℕ) (rows : List (List Cell)) (contents : List Content) → contents ≡ map (own_content n) rows → All (λ (c : Content). c.standing ≡ Kept) contents
kept_of n rows contents c = subst (All (λ (c : Content). c.standing ≡ Kept)) (sym c) (all_kept n rows)
