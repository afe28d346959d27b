-- What a set holds once tiles came that have the same contents.
use Rattle.mb_loaded.proofs.Common.{All, All-append, All-map, All-weaker, ap, append-nil, append_assoc, Blob, Bool, Cell, cell_cmp, cell_cmp-IsAntisymmetric, cell_id, cells_total, Content, Contents}
use Rattle.mb_loaded.proofs.Common.{contents_held, contents_of, Coord, false, false≢true, FinMap, HashAlgorithm, HasId, Held, held_of, id_for, is_null, is_some, IsDated, IsTile, length, List, listed}
use Rattle.mb_loaded.proofs.Common.{map, MbtType, nat_eq, newest_ids, newest_names, newest_tiles, None, nothing, Null, Option, PatchType, place_at, put_content, refl, slice_get, Some, StoredName}
use Rattle.mb_loaded.proofs.Common.{StoredTile, sym, tile_with, true, unwrap_or, with_content, with_key, with_tiles, ℕ, [], ◌++◌, ◌∙◌, ◌∷◌, ◌≡◌}
use Rattle.mb_loaded.proofs.CopyViews.{held_at, held_listed, ids_edited, listed_contents, listed_ids}
use Rattle.mb_loaded.proofs.DatedLemmas.{dates_some}
use Rattle.mb_loaded.proofs.EditMaps.{insert_again}
use Rattle.mb_loaded.proofs.EditViews.{held_more}
use Rattle.mb_loaded.proofs.MoreContents.{at_end, tile_kept}

-- contents and keys that are put again
content_again : (contents : Contents) (o : Option Cell) (bytes : List ℕ) → with_content (with_content contents o bytes) o bytes ≡ with_content contents o bytes
content_again contents None bytes = refl
content_again contents (Some id) bytes = insert_again cells_total cell_cmp-IsAntisymmetric contents id (Blob bytes)

key_again : (keys : FinMap cell_cmp (Unit {0})) (o : Option Cell) → with_key (with_key keys o) o ≡ with_key keys o
key_again keys None = refl
key_again keys (Some id) = insert_again cells_total cell_cmp-IsAntisymmetric keys id tt

module _ (layout : MbtType) (a : HashAlgorithm) (p : Option PatchType) (contents : List Content) (order : List ℕ) (names : List StoredName) (bytes : List ℕ) (i : ℕ) (content : slice_get contents i ≡ Some (put_content (cell_id layout a (Blob bytes)) bytes)) where
  abbrev more : List ℕ
  more = order ++ listed (is_null (cell_id layout a (Blob bytes))) i

  abbrev held_with : List ℕ → List StoredTile → Held
  held_with order tiles = held_of layout a p contents (newest_ids contents order) (newest_tiles tiles) (newest_names names)

  -- what is listed stays, if it is put again
  contents_stay : contents_held contents (newest_ids contents more) ≡ with_content (contents_held contents (newest_ids contents more)) (id_for layout a bytes) bytes
  contents_stay =
      let is = listed_contents a contents order bytes i layout content in
      is ∙ sym (ap (λ (m : Contents). with_content m (id_for layout a bytes) bytes) is ∙ content_again (contents_held contents (newest_ids contents order)) (id_for layout a bytes) bytes)

  keys_stay : ids_edited contents more ≡ with_key (ids_edited contents more) (id_for layout a bytes)
  keys_stay =
      let is = listed_ids a contents order bytes i layout content in
      is ∙ sym (ap (λ (m : FinMap cell_cmp (Unit {0})). with_key m (id_for layout a bytes)) is ∙ key_again (ids_edited contents order) (id_for layout a bytes))

  -- tiles behind the first one
  held_further : (coords : List Coord) (tiles : List StoredTile) → held_with more (tiles ++ map (tile_with layout i) coords) ≡ with_tiles (held_with more tiles) (map place_at coords) bytes
  held_further [] tiles = ap (held_with more) (append-nil tiles)
  held_further (coord ∷ coords) tiles =
      ap (held_with more) (sym (append_assoc tiles (tile_with layout i coord ∷ []) (map (tile_with layout i) coords)))
      ∙ (held_further coords (tiles ++ tile_with layout i coord ∷ [])
      ∙ ap (λ (h : Held). with_tiles h (map place_at coords) bytes) (held_listed layout a p contents more tiles names more coord bytes i content contents_stay keys_stay))

  -- tiles of which there are some
  pub held_shared : (coord : Coord) (coords : List Coord) (tiles : List StoredTile) → held_with more (tiles ++ map (tile_with layout i) (coord ∷ coords)) ≡ with_tiles (held_with order tiles) (map place_at (coord ∷ coords)) bytes
  held_shared coord coords tiles =
      ap (held_with more) (sym (append_assoc tiles (tile_with layout i coord ∷ []) (map (tile_with layout i) coords)))
      ∙ (held_further coords (tiles ++ tile_with layout i coord ∷ [])
      ∙ ap (λ (h : Held). with_tiles h (map place_at coords) bytes) (held_at layout a p contents order tiles names coord bytes i content))

-- the same of what a call leaves
module _ (layout : MbtType) (a : HashAlgorithm) (p : Option PatchType) (contents : List Content) (order : List ℕ) (tiles : List StoredTile) (names : List StoredName) (whole : All (IsTile contents) tiles) (ids : All (HasId contents) order) where
  abbrev held : Held
  held = held_of layout a p contents (newest_ids contents order) (newest_tiles tiles) (newest_names names)

  abbrev new : List ℕ → Content
  new bytes = put_content (cell_id layout a (Blob bytes)) bytes

  -- bytes behind the contents
  behind : (coord : Coord) (coords : List Coord) (bytes : List ℕ) → held_of layout a p (contents ++ new bytes ∷ []) (newest_ids (contents ++ new bytes ∷ []) (order ++ listed (is_null (cell_id layout a (Blob bytes))) (length contents))) (newest_tiles (tiles ++ map (tile_with layout (length contents)) (coord ∷ coords))) (newest_names names) ≡ with_tiles held (map place_at (coord ∷ coords)) bytes
  behind coord coords bytes =
      held_shared layout a p (contents ++ new bytes ∷ []) order names bytes (length contents) (at_end contents (new bytes)) coord coords tiles
      ∙ ap (λ (h : Held). with_tiles h (map place_at (coord ∷ coords)) bytes) (held_more layout a p contents order tiles names whole ids (new bytes))

  pub shared_view : (coords : List Coord) (some : nat_eq (length coords) 0 ≡ false) (bytes given : List ℕ) (id : Cell) (null : Bool) (index : ℕ) (contents' : List Content) (order' : List ℕ) (tiles' : List StoredTile) → given ≡ bytes → id ≡ unwrap_or (id_for layout a given) Null → null ≡ is_null id → index ≡ length contents → contents' ≡ contents ++ put_content id bytes ∷ [] → order' ≡ order ++ listed null index → tiles' ≡ tiles ++ map (tile_with layout index) coords → held_of layout a p contents' (newest_ids contents' order') (newest_tiles tiles') (newest_names names) ≡ with_tiles held (map place_at coords) bytes
  shared_view [] some bytes given id null index contents' order' tiles' g i n k c o t = absurd (false≢true (sym some))
  shared_view (coord ∷ coords) some bytes given id null index contents' order' tiles' g i n k c o t = rw (c, o, t ∙ ap (λ (m : ℕ). tiles ++ map (tile_with layout m) (coord ∷ coords)) k, n, k, i, g) (behind coord coords bytes)

  pub shared_whole : (coords : List Coord) (c : Content) (index : ℕ) (contents' : List Content) (tiles' : List StoredTile) → is_some (contents_of c.cell) ≡ true → index ≡ length contents → contents' ≡ contents ++ c ∷ [] → tiles' ≡ tiles ++ map (tile_with layout index) coords → All (IsTile contents') tiles'
  shared_whole coords c index contents' tiles' there k m t =
      rw (m, t, k) (All-append (IsTile more_contents) tiles (map (tile_with layout (length contents)) coords) (All-weaker (IsTile contents) (IsTile more_contents) (tile_kept contents c) tiles whole)
      (All-map (IsTile more_contents) (tile_with layout (length contents)) coords (λ k d lt live. ap (λ (o : Option Content). is_some (contents_of (unwrap_or o nothing).cell)) (at_end contents c) ∙ there)))
    where
      more_contents : List Content
      more_contents = contents ++ c ∷ []

  pub shared_dated : (coords : List Coord) (index : ℕ) (tiles' : List StoredTile) → All (IsDated layout) tiles → tiles' ≡ tiles ++ map (tile_with layout index) coords → All (IsDated layout) tiles'
  shared_dated coords index tiles' dated t =
      rw t (All-append (IsDated layout) tiles (map (tile_with layout index) coords) dated
      (All-map (IsDated layout) (tile_with layout index) coords (λ k d lt live. dates_some layout)))
