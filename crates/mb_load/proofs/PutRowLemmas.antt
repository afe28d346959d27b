-- The rows that are put are read as what the state has.
use Rattle.mb_load.proofs.Common.{and-false, and_from, and_parts, ap, AreTimes, arith, at_place, bad_tile, blob_cell, Bool, bytes_eq, Cache, Cell, cells_for, cond, contains_key, content_row}
use Rattle.mb_load.proofs.Common.{content_row_by, contents_of, Dates, dates_in, Decides-ltb, digest, eq_by_cmp, false, false≢true, FitsPlace, Flat, FlatWithHash, found, front, get, has_name_kinds}
use Rattle.mb_load.proofs.Common.{has_tile_kinds, hash_cell, HashAlgorithm, id_in, IfSome, IncorrectTileHash, Int, IntId, InvalidTileIndex, is_cache, is_eq, is_id, is_normalized, is_null, is_number}
use Rattle.mb_load.proofs.Common.{is_some, is_text, IsContentOf, IsGoodContent, IsGoodRow, IsLoadable, IsOnBoard, List, MbtType, name_row_by, None, Normalized, Null, number_below, Option}
use Rattle.mb_load.proofs.Common.{option_and_then, option_map, option_to_list, Place, place_cmp, place_of, places_total, pos, refl, RowKey, Some, State, sym, Text, text_cell, TextId, tied_itself}
use Rattle.mb_load.proofs.Common.{Tile, tile_in, tile_of, tile_row, tile_row_by, true, unless, unwrap_or, wrong_digest, wrong_hash, wrong_tile_hash, ℕ, [], ◌&&◌, ◌++◌, ◌<◌, ◌^◌, ◌∙◌, ◌∷◌, ◌≡◌}
use Rattle.std.proofs.lemmas.Slice.Eq.{bytes_eq-Decides}
use Rattle.tile_hash.proofs.UpperCaseLemmas.{digest_stays}

below : (n limit : ℕ) → n < limit → number_below limit (Int (pos n)) ≡ Some n
below n limit h = ap (λ b. cond b (Some n) None) ((Decides-ltb n limit).1 h)

-- the place of a row that begins with it
pub front_read : (p : Place) (rest : List Cell) → IsOnBoard p → place_of (front p ++ rest) ≡ Some p
front_read p rest on =
    let z = below p.zoom 31 on.zoom in
    let x = below p.column (2 ^ p.zoom) on.column in
    let y = below p.row (2 ^ p.zoom) on.row in
    simp (z, x, y)

pub tile_read : (p : Place) (rest : List Cell) (o : Option (List ℕ)) → IsOnBoard p → tile_of (front p ++ rest) (blob_cell o) ≡ Some (p, o)
tile_read p rest (Some bytes) on = let e = front_read p rest on in simp e
tile_read p rest None on = let e = front_read p rest on in simp e

pub tied : (p : Place) → eq_by_cmp place_cmp p p ≡ true
tied p = ap is_eq (tied_itself places_total p)

-- one row that has something at a place
pub found_one : {A : Type 0} (value : List Cell → Option (Place × A)) (p : Place) (row : List Cell) (v : A) → value row ≡ Some (p, v) → found value p (row ∷ []) ≡ Some v
found_one value p row v h = rw (h, tied p) refl

pub found_nothing : {A : Type 0} (value : List Cell → Option (Place × A)) (p : Place) (row : List Cell) → value row ≡ None → found value p (row ∷ []) ≡ None
found_nothing value p row h = rw h refl

-- what is at the place of a row
pub at_front : {A : Type 0} (value : List Cell → Option A) (p : Place) (rest : List Cell) (v : Option A) → IsOnBoard p → value (front p ++ rest) ≡ v → at_place value (front p ++ rest) ≡ option_map (λ v. (p, v)) v
at_front value p rest v on h = rw (front_read p rest on, h) refl

-- what a state doesn't have
pub not_there : {A : Type 0} (o : Option A) → is_some o ≡ false → o ≡ None
not_there None h = refl
not_there (Some x) h = absurd (false≢true (sym h))

module _ (s : State) (ok : IsLoadable s) where
  -- the id of a tile of a normalised set has contents, which are the tile
  pub id_known : (p : Place) (id : Cell) → get s.ids p ≡ Some id → (cell : Cell) × (get s.contents id ≡ Some cell) × (get s.tiles p ≡ contents_of cell) × IsContentOf s.layout s.algorithm id cell
  id_known p id h =
      let two = and_parts _ _ (sym (ok.placed p) ∙ ap is_some h) in
      let joined = ok.joined two.0 p ∙ ap (option_and_then (λ id. option_and_then contents_of (get s.contents id))) h in
      by (get s.contents id) refl joined two.1
    where
      by : (o : Option Cell) → get s.contents id ≡ o → get s.tiles p ≡ option_and_then contents_of o → contains_key s.tiles p ≡ true → (cell : Cell) × (get s.contents id ≡ Some cell) × (get s.tiles p ≡ contents_of cell) × IsContentOf s.layout s.algorithm id cell
      by (Some cell) e j k = (cell, e, j, ok.stored id cell e)
      by None e j k = absurd (false≢true (ap is_some (sym j) ∙ k))

-- what loading reads of the row of a tile
row_tile : (l : MbtType) (a : HashAlgorithm) (p : Place) (o : Option (List ℕ)) (id : Option Cell) (dates : Option Dates) → is_normalized l ≡ false → IsOnBoard p → tile_in l [] (front p ++ cells_for l a o id dates) ≡ Some (p, o)
row_tile Flat a p o id dates h on = tile_read p (cells_for Flat a o id dates) o on
row_tile FlatWithHash a p o id dates h on = tile_read p (cells_for FlatWithHash a o id dates) o on
row_tile Cache a p o id dates h on = tile_read p (cells_for Cache a o id dates) o on
row_tile (Normalized view schema) a p o id dates h on = absurd (false≢true (sym h))

row_id : (l : MbtType) (a : HashAlgorithm) (p : Place) (o : Option (List ℕ)) (id : Cell) (dates : Option Dates) → is_normalized l ≡ true → is_null id ≡ false → id_in l (front p ++ cells_for l a o (Some id) dates) ≡ Some id
row_id (Normalized view schema) a p o id dates h k = ap (λ b. cond b None (Some id)) k
row_id _ a p o id dates h k = absurd (false≢true h)

pub no_id : (l : MbtType) (row : List Cell) → is_normalized l ≡ false → id_in l row ≡ None
no_id (Normalized view schema) row h = absurd (false≢true (sym h))
no_id _ row h = refl

row_dates : (l : MbtType) (a : HashAlgorithm) (p : Place) (o : Option (List ℕ)) (id : Option Cell) (d : Dates) → is_cache l ≡ true → dates_in l (front p ++ cells_for l a o id (Some d)) ≡ Some d
row_dates Cache a p o id d h = refl
row_dates _ a p o id d h = absurd (false≢true h)

pub no_times : (l : MbtType) (row : List Cell) → is_cache l ≡ false → dates_in l row ≡ None
no_times Cache row h = absurd (false≢true (sym h))
no_times _ row h = refl

-- tests of the row of a tile
pub itself : (xs : List ℕ) → bytes_eq xs xs ≡ true
itself xs = (bytes_eq-Decides xs xs).1 refl

pub digest_right : (a : HashAlgorithm) (bytes : List ℕ) → wrong_digest a bytes (digest a bytes) ≡ None
digest_right a bytes = ap (λ u. unless (bytes_eq u (digest a bytes)) (IncorrectTileHash u (digest a bytes))) (digest_stays a bytes) ∙ ap (λ b. unless b (IncorrectTileHash (digest a bytes) (digest a bytes))) (itself (digest a bytes))

hash_right : (a : HashAlgorithm) (o : Option (List ℕ)) → wrong_hash a (blob_cell o) (hash_cell a o) ≡ None
hash_right a (Some bytes) = digest_right a bytes
hash_right a None = refl

hash_kind : (a : HashAlgorithm) (o : Option (List ℕ)) → is_text (hash_cell a o) ≡ true
hash_kind a (Some bytes) = refl
hash_kind a None = refl

tests_digest : (l : MbtType) (a : HashAlgorithm) (p : Place) (o : Option (List ℕ)) (id : Option Cell) (dates : Option Dates) → wrong_tile_hash l a (front p ++ cells_for l a o id dates) ≡ None
tests_digest FlatWithHash a p o id dates = hash_right a o
tests_digest _ a p o id dates = refl

tests_kinds : (l : MbtType) (a : HashAlgorithm) (p : Place) (o : Option (List ℕ)) (id : Option Cell) (dates : Option Dates) → ((i : Cell) → is_normalized l ≡ true → id ≡ Some i → is_id l i ≡ true) → (is_normalized l ≡ true → is_some id ≡ true) → ((d : Dates) → dates ≡ Some d → AreTimes d) → has_tile_kinds l (front p ++ cells_for l a o id dates) ≡ true
tests_kinds FlatWithHash a p o id dates k n t = hash_kind a o
tests_kinds (Normalized view schema) a p o (Some i) dates k n t = k i refl refl
tests_kinds (Normalized view schema) a p o None dates k n t = absurd (false≢true (n refl))
tests_kinds Cache a p o id (Some d) k n t = let times = t d refl in and_from (is_number d.fetched && is_number d.expires) (is_text d.etag) (and_from (is_number d.fetched) (is_number d.expires) times.fetched times.expires) times.etag
tests_kinds _ a p o id _ k n t = refl

tests_place : (l : MbtType) (a : HashAlgorithm) (p : Place) (o : Option (List ℕ)) (id : Option Cell) (dates : Option Dates) → IsOnBoard p → bad_tile l [] (front p ++ cells_for l a o id dates) ≡ None
tests_place Flat a p o id dates on = ap (λ t. unless (is_some t) (InvalidTileIndex (Int (pos p.zoom)) (Int (pos p.column)) (Int (pos p.row)))) (tile_read p (cells_for Flat a o id dates) o on)
tests_place FlatWithHash a p o id dates on = ap (λ t. unless (is_some t) (InvalidTileIndex (Int (pos p.zoom)) (Int (pos p.column)) (Int (pos p.row)))) (tile_read p (cells_for FlatWithHash a o id dates) o on)
tests_place Cache a p o id dates on = ap (λ t. unless (is_some t) (InvalidTileIndex (Int (pos p.zoom)) (Int (pos p.column)) (Int (pos p.row)))) (tile_read p (cells_for Cache a o id dates) o on)
tests_place (Normalized view schema) a p o id dates on = by (is_null (unwrap_or id Null))
  where
    by : (b : Bool) → option_and_then (λ cell. unless (is_some (tile_of (front p ++ unwrap_or id Null ∷ []) cell)) (InvalidTileIndex (Int (pos p.zoom)) (Int (pos p.column)) (Int (pos p.row)))) (cond b None (Some Null)) ≡ None
    by true = refl
    by false = ap (λ t. unless (is_some t) (InvalidTileIndex (Int (pos p.zoom)) (Int (pos p.column)) (Int (pos p.row)))) (tile_read p (unwrap_or id Null ∷ []) None on)

module _ (s : State) (ok : IsLoadable s) where
  fits_some : (p : Place) (o : Option (List ℕ)) → get s.tiles p ≡ Some o → FitsPlace s p ((front p ++ cells_for s.layout s.algorithm o (get s.ids p) (get s.dates p)) ∷ [])
  fits_some p o e = record {
    alone = omega arith;
    tile = λ flat. found_one (tile_in s.layout []) p row o (row_tile s.layout s.algorithm p o (get s.ids p) (get s.dates p) flat on) ∙ sym e;
    id = ids (is_normalized s.layout) refl (get s.ids p) refl (ok.placed p);
    dates = times (is_cache s.layout) refl (get s.dates p) refl (ok.dated p);
  }
    where
      row : List Cell
      row = front p ++ cells_for s.layout s.algorithm o (get s.ids p) (get s.dates p)

      on : IsOnBoard p
      on = ok.on_board p (ap is_some e)

      ids : (b : Bool) → is_normalized s.layout ≡ b → (i : Option Cell) → get s.ids p ≡ i → is_some i ≡ (is_normalized s.layout && contains_key s.tiles p) → found (at_place (id_in s.layout)) p (row ∷ []) ≡ get s.ids p
      ids true n (Some id) f h =
          let c = id_known s ok p id f in
          found_one (at_place (id_in s.layout)) p row id (at_front (id_in s.layout) p (cells_for s.layout s.algorithm o (get s.ids p) (get s.dates p)) (Some id) on (ap (λ x. id_in s.layout (front p ++ cells_for s.layout s.algorithm o x (get s.dates p))) f ∙ row_id s.layout s.algorithm p o id (get s.dates p) n c.3.present)) ∙ sym f
      ids true n None f h = absurd (false≢true (h ∙ (ap (λ b. b && contains_key s.tiles p) n ∙ ap is_some e)))
      ids false n i f h =
          found_nothing (at_place (id_in s.layout)) p row (at_front (id_in s.layout) p (cells_for s.layout s.algorithm o (get s.ids p) (get s.dates p)) None on (no_id s.layout row n))
          ∙ sym (not_there (get s.ids p) (ap is_some f ∙ (h ∙ ap (λ b. b && contains_key s.tiles p) n)))

      times : (b : Bool) → is_cache s.layout ≡ b → (d : Option Dates) → get s.dates p ≡ d → is_some d ≡ (is_cache s.layout && contains_key s.tiles p) → found (at_place (dates_in s.layout)) p (row ∷ []) ≡ get s.dates p
      times true n (Some d) f h = found_one (at_place (dates_in s.layout)) p row d (at_front (dates_in s.layout) p (cells_for s.layout s.algorithm o (get s.ids p) (get s.dates p)) (Some d) on (ap (λ x. dates_in s.layout (front p ++ cells_for s.layout s.algorithm o (get s.ids p) x)) f ∙ row_dates s.layout s.algorithm p o (get s.ids p) d n)) ∙ sym f
      times true n None f h = absurd (false≢true (h ∙ (ap (λ b. b && contains_key s.tiles p) n ∙ ap is_some e)))
      times false n d f h =
          found_nothing (at_place (dates_in s.layout)) p row (at_front (dates_in s.layout) p (cells_for s.layout s.algorithm o (get s.ids p) (get s.dates p)) None on (no_times s.layout row n))
          ∙ sym (not_there (get s.dates p) (ap is_some f ∙ (h ∙ ap (λ b. b && contains_key s.tiles p) n)))

  fits_none : (p : Place) → get s.tiles p ≡ None → FitsPlace s p []
  fits_none p e = record {
    alone = omega arith;
    tile = λ flat. sym e;
    id = sym (not_there (get s.ids p) (ok.placed p ∙ (ap (λ o. is_normalized s.layout && is_some o) e ∙ and-false (is_normalized s.layout))));
    dates = sym (not_there (get s.dates p) (ok.dated p ∙ (ap (λ o. is_cache s.layout && is_some o) e ∙ and-false (is_cache s.layout))));
  }

  -- the row that is put, or none, fits the state
  pub fits_put : (p : Place) → FitsPlace s p (option_to_list (tile_row s p))
  fits_put p = by (get s.tiles p) refl
    where
      by : (o : Option (Option (List ℕ))) → get s.tiles p ≡ o → FitsPlace s p (option_to_list (option_map (λ contents. front p ++ cells_for s.layout s.algorithm contents (get s.ids p) (get s.dates p)) o))
      by (Some o) e = fits_some p o e
      by None e = fits_none p e

  -- and no test of loading refuses it
  good_at : (p : Place) → IfSome (tile_row s p) (IsGoodRow s.layout s.algorithm)
  good_at p = by (get s.tiles p) refl
    where
      by : (o : Option (Option (List ℕ))) → get s.tiles p ≡ o → IfSome (option_map (λ contents. front p ++ cells_for s.layout s.algorithm contents (get s.ids p) (get s.dates p)) o) (IsGoodRow s.layout s.algorithm)
      by (Some o) e = record {
        kinds = tests_kinds s.layout s.algorithm p o (get s.ids p) (get s.dates p) (λ i n f. (id_known s ok p i f).3.kind) (λ n. ok.placed p ∙ (ap (λ b. b && contains_key s.tiles p) n ∙ ap is_some e)) (ok.times p);
        place = tests_place s.layout s.algorithm p o (get s.ids p) (get s.dates p) (ok.on_board p (ap is_some e));
        digest = tests_digest s.layout s.algorithm p o (get s.ids p) (get s.dates p);
      }
      by None e = tt

  pub good_put : (key : RowKey) → IfSome (tile_row_by s key) (IsGoodRow s.layout s.algorithm)
  good_put (Tile zoom column row) = good_at (record { zoom = zoom; column = column; row = row })
  good_put _ = tt

  content_good : (id : Cell) → IfSome (content_row s id) (IsGoodContent s.layout s.algorithm)
  content_good id = by (get s.contents id) refl
    where
      by : (o : Option Cell) → get s.contents id ≡ o → IfSome (option_map (λ cell. id ∷ cell ∷ []) o) (IsGoodContent s.layout s.algorithm)
      by (Some cell) e = let c = ok.stored id cell e in record { width = refl; kind = c.kind; digest = c.digest }
      by None e = tt

  pub content_put : (key : RowKey) → IfSome (content_row_by s key) (IsGoodContent s.layout s.algorithm)
  content_put (TextId text) = content_good (Text text)
  content_put (IntId n) = content_good (Int n)
  content_put (Tile zoom column row) = tt

  pub name_put : (key : RowKey) → IfSome (name_row_by s key) (λ row. has_name_kinds row ≡ true)
  name_put (TextId name) = by (get s.metadata name)
    where
      value : (v : Option (List ℕ)) → is_text (text_cell v) ≡ true
      value (Some text) = refl
      value None = refl

      by : (o : Option (Option (List ℕ))) → IfSome (option_map (λ v. Text name ∷ text_cell v ∷ []) o) (λ row. has_name_kinds row ≡ true)
      by (Some v) = value v
      by None = tt
  name_put _ = tt
