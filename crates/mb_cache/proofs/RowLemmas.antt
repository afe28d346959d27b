-- Rows of a cache, their keys and their entries.
use Rattle.mb_cache.proofs.Common.{All, AllPairs, ap, Bool, Cache, CacheEntryMeta, Cell, cell_at, clash, contents_of, Entry, entry_at, entry_cmp, entry_of, eq_by_cmp, false, false≢true, filter, find}
use Rattle.mb_cache.proofs.Common.{get_or, has_key, is_number, is_some, is_text, IsCacheRow, IsOnBoard, length, List, list_any, lt-ltb, meta_row, moment_cell, None, not, Option, option_copied}
use Rattle.mb_cache.proofs.Common.{option_to_list, Place, place_cmp, place_in, place_of, refl, row_place, Some, sym, text_cell, tile_key, tile_of, TileCache, true, UnixSeconds, unwrap_or, ℕ, ◌&&◌}
use Rattle.mb_cache.proofs.Common.{◌^◌, ◌∙◌, ◌≡◌, ◌≤◌}
use Rattle.mb_cache.proofs.EntryLemmas.{placed_there, same_entry}
use Rattle.mb_cache.proofs.ListLemmas.{any_filter, found_alone}
use Rattle.mb_load.proofs.KeyReading.{alone_under, key_of_place}

-- a row of a place with contents is that of a tile, and no other row is
pub tile_whole : (row : List Cell) (cell : Cell) (p : Place) (c : Option (List ℕ)) → place_of row ≡ Some p → contents_of cell ≡ Some c → tile_of row cell ≡ Some (p, c)
tile_whole row cell p c e f = simp (e, f)

pub no_tile : (row : List Cell) (cell : Cell) → contents_of cell ≡ None → is_some (tile_of row cell) ≡ false
no_tile row cell f = by (place_of row) refl
  where
    by : (o : Option Place) → place_of row ≡ o → is_some (tile_of row cell) ≡ false
    by (Some p) e = let is : tile_of row cell ≡ None = simp (e, f) in ap is_some is
    by None e = let is : tile_of row cell ≡ None = simp (e, f) in ap is_some is

-- a row of a cache has a place
pub place_is : (row : List Cell) → IsCacheRow row → place_of row ≡ Some (row_place row)
place_is row good = by (place_of row) refl (contents_of (cell_at 6 row)) refl
  where
    by : (o : Option Place) → place_of row ≡ o → (c : Option (Option (List ℕ))) → contents_of (cell_at 6 row) ≡ c → place_of row ≡ Some (row_place row)
    by (Some p) e c f = e ∙ ap Some (sym (ap (λ o. unwrap_or o (record { zoom = 0; column = 0; row = 0 })) e))
    by None e (Some v) f = let is : tile_of row (cell_at 6 row) ≡ None = simp (e, f) in absurd (false≢true (sym (ap is_some is) ∙ good.place))
    by None e None f = let is : tile_of row (cell_at 6 row) ≡ None = simp (e, f) in absurd (false≢true (sym (ap is_some is) ∙ good.place))

-- it has the key of its own place alone
pub own_key : (p : Place) (row : List Cell) → IsCacheRow row → has_key TileCache (tile_key p) row ≡ eq_by_cmp place_cmp p (row_place row)
own_key p row good = key_of_place Cache p (row_place row) row (place_is row good)

-- the entry of a row stands at its place
pub entry_there : (row : List Cell) → place_in (entry_of row) ≡ row_place row
entry_there row = placed_there (row_place row) (cell_at 4 row)

-- a row that has an entry has the key of each place that the entry has, and of no other
pub keyed_by : (p : Place) (e : Entry) (row : List Cell) → IsCacheRow row → eq_by_cmp entry_cmp e (entry_of row) ≡ true → has_key TileCache (tile_key p) row ≡ eq_by_cmp place_cmp p (place_in e)
keyed_by p e row good h = own_key p row good ∙ ap (eq_by_cmp place_cmp p) (sym (entry_there row) ∙ ap place_in (sym (same_entry e (entry_of row) h)))

-- the rows under the key of a place are at most one
pub one_row : (p : Place) (rows : List (List Cell)) → AllPairs (λ r s. clash TileCache r s ≡ false) rows → length (filter (has_key TileCache (tile_key p)) rows) ≤ 1
one_row p rows apart = alone_under TileCache (tile_key p) refl rows apart

pub row_alone : (p : Place) (rows : List (List Cell)) → AllPairs (λ r s. clash TileCache r s ≡ false) rows → filter (has_key TileCache (tile_key p)) rows ≡ option_to_list (find (has_key TileCache (tile_key p)) rows)
row_alone p rows apart = found_alone (has_key TileCache (tile_key p)) rows (one_row p rows apart)

-- whether an entry of a place is among rows is seen of the rows under the key of the place
pub entry_under : (p : Place) (e : Entry) (b : Bool) (rows : List (List Cell)) → eq_by_cmp place_cmp p (place_in e) ≡ b → All IsCacheRow rows → list_any (λ row. eq_by_cmp entry_cmp e (entry_of row)) (filter (has_key TileCache (tile_key p)) rows) ≡ (b && list_any (λ row. eq_by_cmp entry_cmp e (entry_of row)) rows)
entry_under p e b rows at good = any_filter (λ row. eq_by_cmp entry_cmp e (entry_of row)) (has_key TileCache (tile_key p)) b rows (λ k d far h. keyed_by p e (get_or rows k d) (good k d far) h ∙ at)

pub entry_elsewhere : (p : Place) (e : Entry) (b : Bool) (rows : List (List Cell)) → eq_by_cmp place_cmp p (place_in e) ≡ b → All IsCacheRow rows → list_any (λ row. eq_by_cmp entry_cmp e (entry_of row)) (filter (λ row. not (has_key TileCache (tile_key p) row)) rows) ≡ (not b && list_any (λ row. eq_by_cmp entry_cmp e (entry_of row)) rows)
entry_elsewhere p e b rows at good = any_filter (λ row. eq_by_cmp entry_cmp e (entry_of row)) (λ row. not (has_key TileCache (tile_key p) row)) (not b) rows (λ k d far h. ap not (keyed_by p e (get_or rows k d) (good k d far) h ∙ at))

-- a row that is put has its place, its key, and the entry of its expiry
module _ (p : Place) (board : IsOnBoard p) (m : CacheEntryMeta) (contents : Cell) where
  in_board : place_of (meta_row p m contents) ≡ Some p
  in_board = rw (lt-ltb p.zoom 31 board.zoom, lt-ltb p.column (2 ^ p.zoom) board.column, lt-ltb p.row (2 ^ p.zoom) board.row) refl

  pub put_place : row_place (meta_row p m contents) ≡ p
  put_place = ap (λ o. unwrap_or o (record { zoom = 0; column = 0; row = 0 })) in_board

  pub put_entry : entry_of (meta_row p m contents) ≡ entry_at p (moment_cell m.expires)
  put_entry = ap (λ q. entry_at q (moment_cell m.expires)) put_place

  pub put_good : is_some (contents_of contents) ≡ true → IsCacheRow (meta_row p m contents)
  put_good h = record {
    place = placed (contents_of contents) refl;
    kinds = kinds_of m.fetched m.expires (option_copied m.etag);
  }
    where
      placed : (c : Option (Option (List ℕ))) → contents_of contents ≡ c → is_some (tile_of (meta_row p m contents) contents) ≡ true
      placed (Some c) e = ap is_some (tile_whole (meta_row p m contents) contents p c in_board e)
      placed None e = absurd (false≢true (sym (ap is_some e) ∙ h))

      number : (o : Option UnixSeconds) → is_number (moment_cell o) ≡ true
      number None = refl
      number (Some n) = refl

      text : (o : Option (List ℕ)) → is_text (text_cell o) ≡ true
      text None = refl
      text (Some t) = refl

      kinds_of : (f e : Option UnixSeconds) (t : Option (List ℕ)) → (is_number (moment_cell f) && is_number (moment_cell e) && is_text (text_cell t)) ≡ true
      kinds_of f e t = rw (number f, number e, text t) refl
