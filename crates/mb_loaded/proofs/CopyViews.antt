-- What a set holds once a tile came that has contents of the set.
use Rattle.mb_loaded.proofs.Common.{ap, append-nil, Blob, Cache, Cell, cell_cmp, cell_cmp-IsAntisymmetric, cell_id, cells_total, cond, Content, content_at, content_value, contents_held, contents_of}
use Rattle.mb_loaded.proofs.Common.{Coord, entries_by, FinMap, Flat, FlatWithHash, from_entries, HashAlgorithm, Held, held_of, id_at, id_for, if_edited, is_null, List, listed, MbtType, newest_ids}
use Rattle.mb_loaded.proofs.Common.{newest_names, newest_tiles, None, Normalized, nothing, Option, option_and_then, PatchType, place_at, place_of, places_antisymmetric, places_total, put_content}
use Rattle.mb_loaded.proofs.Common.{refl, slice_get, Some, StoredName, StoredTile, tile_dates, tile_id, tile_value, tile_with, tiles_held, unless_removed, unwrap_or, with_content, with_key, with_tile}
use Rattle.mb_loaded.proofs.Common.{with_value, ℕ, [], ◌++◌, ◌∙◌, ◌∷◌, ◌≡◌}
use Rattle.mb_loaded.proofs.EditMaps.{newest_put}
use Rattle.mb_loaded.proofs.EditViews.{always, parts_same}

-- the id of a tile, which is null where the layout gives none
given : (l : MbtType) (a : HashAlgorithm) (bytes : List ℕ) → cond {A = Option Cell} (is_null (cell_id l a (Blob bytes))) None (Some (cell_id l a (Blob bytes))) ≡ id_for l a bytes
given Flat a bytes = refl
given _ a bytes = refl

-- the ids that were edited
abbrev pub ids_edited : List Content → List ℕ → FinMap cell_cmp (Unit {0})
ids_edited contents order = from_entries (entries_by (id_at contents) (λ i. if_edited (content_at contents i).standing) (newest_ids contents order))

module _ (a : HashAlgorithm) (contents : List Content) (order : List ℕ) (bytes : List ℕ) (i : ℕ) where
  none_listed : {A : Type 0} (f : List ℕ → A) → f (order ++ []) ≡ f order
  none_listed f = ap f (append-nil order)

  one_listed : {V : Type 0} (value : ℕ → Option V) → from_entries {R = cell_cmp} (entries_by (id_at contents) value (newest_ids contents (order ++ i ∷ []))) ≡ with_value (from_entries (entries_by (id_at contents) value (newest_ids contents order))) (id_at contents i) (value i)
  one_listed value = newest_put cells_total cell_cmp-IsAntisymmetric (id_at contents) (id_at contents) value value order (always (id_at contents) (id_at contents) order (λ x. refl)) (always value value order (λ x. refl)) i

  -- what is listed then
  pub listed_contents : (l : MbtType) → slice_get contents i ≡ Some (put_content (cell_id l a (Blob bytes)) bytes) → contents_held contents (newest_ids contents (order ++ listed (is_null (cell_id l a (Blob bytes))) i)) ≡ with_content (contents_held contents (newest_ids contents order)) (id_for l a bytes) bytes
  listed_contents Flat h = none_listed (λ o. contents_held contents (newest_ids contents o))
  listed_contents FlatWithHash h = none_listed (λ o. contents_held contents (newest_ids contents o))
  listed_contents Cache h = none_listed (λ o. contents_held contents (newest_ids contents o))
  listed_contents (Normalized view schema) h =
      one_listed (content_value contents)
      ∙ ap (λ (o : Option Content). with_value (contents_held contents (newest_ids contents order)) (unwrap_or o nothing).id (option_and_then (λ (c : Content). unless_removed c.standing (Some c.cell)) o)) h

  abbrev standing_at : ℕ → Option (Unit {0})
  standing_at i = if_edited (content_at contents i).standing

  pub listed_ids : (l : MbtType) → slice_get contents i ≡ Some (put_content (cell_id l a (Blob bytes)) bytes) → from_entries {R = cell_cmp} (entries_by (id_at contents) standing_at (newest_ids contents (order ++ listed (is_null (cell_id l a (Blob bytes))) i))) ≡ with_key (from_entries (entries_by (id_at contents) standing_at (newest_ids contents order))) (id_for l a bytes)
  listed_ids Flat h = none_listed (λ o. from_entries {R = cell_cmp} (entries_by (id_at contents) standing_at (newest_ids contents o)))
  listed_ids FlatWithHash h = none_listed (λ o. from_entries {R = cell_cmp} (entries_by (id_at contents) standing_at (newest_ids contents o)))
  listed_ids Cache h = none_listed (λ o. from_entries {R = cell_cmp} (entries_by (id_at contents) standing_at (newest_ids contents o)))
  listed_ids (Normalized view schema) h =
      one_listed standing_at
      ∙ ap (λ (o : Option Content). with_value (from_entries {R = cell_cmp} (entries_by (id_at contents) standing_at (newest_ids contents order))) (unwrap_or o nothing).id (if_edited (unwrap_or o nothing).standing)) h

module _ (layout : MbtType) (a : HashAlgorithm) (p : Option PatchType) (contents : List Content) (order : List ℕ) (tiles : List StoredTile) (names : List StoredName) where
  abbrev kept : Held
  kept = held_of layout a p contents (newest_ids contents order) (newest_tiles tiles) (newest_names names)

  one_tile : {V : Type 0} (value : StoredTile → Option V) (t : StoredTile) → tiles_held value (newest_tiles (tiles ++ t ∷ [])) ≡ with_value (tiles_held value (newest_tiles tiles)) (place_of t) (value t)
  one_tile value t = newest_put places_total places_antisymmetric place_of place_of value value tiles (always place_of place_of tiles (λ x. refl)) (always value value tiles (λ x. refl)) t

  -- a tile that is put at a coordinate with the bytes at an index, where what is listed then has these
  pub held_listed : (order' : List ℕ) (coord : Coord) (bytes : List ℕ) (i : ℕ) → slice_get contents i ≡ Some (put_content (cell_id layout a (Blob bytes)) bytes)
      → contents_held contents (newest_ids contents order') ≡ with_content (contents_held contents (newest_ids contents order)) (id_for layout a bytes) bytes
      → ids_edited contents order' ≡ with_key (ids_edited contents order) (id_for layout a bytes)
      → held_of layout a p contents (newest_ids contents order') (newest_tiles (tiles ++ tile_with layout i coord ∷ [])) (newest_names names) ≡ with_tile kept (place_at coord) bytes
  held_listed order' coord bytes i content listed_then edited_then =
      let t : StoredTile = tile_with layout i coord in
      parts_same layout a p _ _ _ _ _ _ _ _ _ _ _ _ _ _ _ _
      (one_tile (tile_value contents) t ∙ ap (λ (o : Option Content). with_value (tiles_held (tile_value contents) (newest_tiles tiles)) (place_at coord) (contents_of (unwrap_or o nothing).cell)) content)
      refl
      (one_tile (tile_id contents) t
      ∙ (ap (λ (o : Option Content). with_value (tiles_held (tile_id contents) (newest_tiles tiles)) (place_at coord) (cond (is_null (unwrap_or o nothing).id) None (Some (unwrap_or o nothing).id))) content
      ∙ ap (with_value (tiles_held (tile_id contents) (newest_tiles tiles)) (place_at coord)) (given layout a bytes)))
      listed_then
      (one_tile tile_dates t)
      (one_tile (λ t. if_edited t.standing) t)
      edited_then
      refl

  -- bytes at an index that are put at a coordinate
  pub held_at : (coord : Coord) (bytes : List ℕ) (i : ℕ) → slice_get contents i ≡ Some (put_content (cell_id layout a (Blob bytes)) bytes) → held_of layout a p contents (newest_ids contents (order ++ listed (is_null (cell_id layout a (Blob bytes))) i)) (newest_tiles (tiles ++ tile_with layout i coord ∷ [])) (newest_names names) ≡ with_tile kept (place_at coord) bytes
  held_at coord bytes i content = held_listed (order ++ listed (is_null (cell_id layout a (Blob bytes))) i) coord bytes i content (listed_contents a contents order bytes i layout content) (listed_ids a contents order bytes i layout content)
