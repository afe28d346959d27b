-- The ids of the tiles of a set by its lists.
use Rattle.mb_loaded.proofs.Common.{All, All-head, All-map, All-tail, All-take, ap, AreInOrder, arith, Blob, blob_cell, Cell, cell_id, Content, content_at, content_id, contents_of, entries, entry_of}
use Rattle.mb_loaded.proofs.Common.{false, false≢true, get_or, get_or-take, HashAlgorithm, id_of, ids_at, ids_given, is_gone, is_some, IsTile, length, length-take-le, List, live_entries, map, MbtType}
use Rattle.mb_loaded.proofs.Common.{None, nothing, Null, Option, option_map, place_of, places_antisymmetric, places_total, refl, removed_none, slice_get, slice_get-map, slice_get_within, Some}
use Rattle.mb_loaded.proofs.Common.{standing_same, StoredTile, take, tile_there, tile_value, tiles_held, true, unwrap_or, ℕ, [], ◌<◌, ◌∙◌, ◌∷◌, ◌≡◌}
use Rattle.mb_loaded.proofs.MoreContents.{tile_contents}

blob_shown : (c : Cell) → is_some (contents_of c) ≡ true → blob_cell (unwrap_or (contents_of c) None) ≡ c
blob_shown Null h = refl
blob_shown (Blob b) h = refl
blob_shown _ h = absurd (false≢true h)

-- tiles that are no marks
module _ (layout : MbtType) (a : HashAlgorithm) (contents : List Content) where
  id_shown : (t : StoredTile) → IsTile contents t → is_gone t ≡ false → cell_id layout a (blob_cell (entry_of contents t).1) ≡ id_of layout a contents t
  id_shown t is live =
      ap (λ (o : Option (Option (List ℕ))). cell_id layout a (blob_cell (unwrap_or o None))) (standing_same t.standing (contents_of (content_at contents t.contents).cell) live)
      ∙ ap (cell_id layout a) (blob_shown (content_at contents t.contents).cell (is live))

  pub ids_shown : (tiles : List StoredTile) → All (IsTile contents) tiles → All (λ t. is_gone t ≡ false) tiles → map (λ e. cell_id layout a (blob_cell e.1)) (map (entry_of contents) tiles) ≡ map (id_of layout a contents) tiles
  ids_shown [] is live = refl
  ids_shown (t ∷ ts) is live =
      ap (λ (x : Cell). x ∷ map (λ e. cell_id layout a (blob_cell e.1)) (map (entry_of contents) ts)) (id_shown t (All-head (IsTile contents) t ts is) (All-head (λ (t : StoredTile). is_gone t ≡ false) t ts live))
      ∙ ap (λ (xs : List Cell). id_of layout a contents t ∷ xs) (ids_shown ts (All-tail (IsTile contents) t ts is) (All-tail (λ (t : StoredTile). is_gone t ≡ false) t ts live))

  -- ids by the indexes of the contents
  id_found : (i : ℕ) → unwrap_or (slice_get (map (content_id layout a) contents) i) Null ≡ cell_id layout a (content_at contents i).cell
  id_found i = ap (λ (o : Option Cell). unwrap_or o Null) (slice_get-map (content_id layout a) contents i) ∙ by (slice_get contents i)
    where
      by : (o : Option Content) → unwrap_or (option_map (content_id layout a) o) Null ≡ cell_id layout a (unwrap_or o nothing).cell
      by (Some c) = refl
      by None = refl

  pub ids_found : (tiles : List StoredTile) → ids_at (map (content_id layout a) contents) (map (λ (t : StoredTile). t.contents) tiles) ≡ map (id_of layout a contents) tiles
  ids_found [] = refl
  ids_found (t ∷ ts) =
      ap (λ (x : Cell). x ∷ ids_at (map (content_id layout a) contents) (map (λ (t : StoredTile). t.contents) ts)) (id_found t.contents)
      ∙ ap (λ (xs : List Cell). id_of layout a contents t ∷ xs) (ids_found ts)

-- the tiles of a set in order
module _ (contents : List Content) (live : ℕ) (tiles : List StoredTile) (order : AreInOrder live tiles) (whole : All (IsTile contents) tiles) where
  there : (i : ℕ) (e : StoredTile) → i < live → is_some (tile_value contents (get_or tiles i e)) ≡ true
  there i e lt = let le = order.bound in tile_there contents (get_or tiles i e) (whole i e (omega (arith, le, lt))) (order.live i e lt)

  pub live_tiles : entries (tiles_held (tile_value contents) tiles) ≡ map (entry_of contents) (take live tiles)
  live_tiles = live_entries places_total places_antisymmetric place_of is_gone (tile_value contents) (λ t h. removed_none t.standing _ h) None live tiles order there

  pub live_whole : All (IsTile contents) (take live tiles)
  live_whole = All-take (IsTile contents) live tiles whole

  pub none_gone : All (λ t. is_gone t ≡ false) (take live tiles)
  none_gone = λ i d lt. let below : i < live = omega (arith, lt, length-take-le live tiles order.bound) in ap is_gone (get_or-take live tiles i d below) ∙ order.live i d below

  pub live_within : All (λ i. i < length contents) (map (λ (t : StoredTile). t.contents) (take live tiles))
  live_within = All-map (λ i. i < length contents) (λ (t : StoredTile). t.contents) (take live tiles) (λ i d lt.
      let t = get_or (take live tiles) i d in
      let c = tile_contents contents t (live_whole i d lt) (none_gone i d lt) in
      slice_get_within contents t.contents c.0 c.1)

  -- the ids that a layout gives them
  pub live_ids : (layout : MbtType) (a : HashAlgorithm) → ids_given layout a (tiles_held (tile_value contents) tiles) ≡ map (id_of layout a contents) (take live tiles)
  live_ids layout a = ap (map (λ e. cell_id layout a (blob_cell e.1))) live_tiles ∙ ids_shown layout a contents (take live tiles) live_whole none_gone
