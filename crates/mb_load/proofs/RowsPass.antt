-- Rows that no test of loading refuses, each test by itself.
use Rattle.mb_load.proofs.Common.{algorithm_of, algorithm_unknown, All, All-cons, All-head, All-nil, All-tail, and_from, and_parts, ap, are_apart, at_place, bad_tile, begins, Bool, Cache, Cell}
use Rattle.mb_load.proofs.Common.{cell_at, cell_cmp, cond, content_entry, content_found, content_of, contents_of, Dates, dates_in, false, false≢true, filter_map, first_refusal, first_refused, Flat}
use Rattle.mb_load.proofs.Common.{FlatWithHash, fronts, get_or, has_name_kinds, has_tile_kinds, hash_wrong, id_in, id_text, inl, inr, InvalidDataFormat, InvalidTileIndex, is_cache, is_id}
use Rattle.mb_load.proofs.Common.{is_normalized, is_null, is_some, List, list_all, list_any, MbtError, MbtType, missing_reference, MissingTileReference, None, none-some, Normalized}
use Rattle.mb_load.proofs.Common.{NoUniquenessConstraint, Null, Option, option_and_then, option_map, option_or, passed, Place, place_of, place_twice, refl, row_refusals, slice_get-get_or, Some, sym}
use Rattle.mb_load.proofs.Common.{tile_in, tile_of, true, unless, wrong_content_hash, wrong_tile_hash, ℕ, [], ◌||◌, ◌∙◌, ◌∷◌, ◌≡◌}
use Rattle.std.specs.FinMap as fin
use Rattle.mb_load.proofs.KeyReading.{Agrees, Joins}
use Rattle.mb_tables.specs.Kind as kind

pub record ArePassing (layout : MbtType) (metadata contents rows : List (List Cell)) : Type 0 where
  pub ids : are_apart (fronts contents) ≡ true
  pub tile_kinds : All (λ row. has_tile_kinds layout row ≡ true) rows
  pub content_kinds : All (λ row. is_id layout (cell_at 0 row) ≡ true) contents
  pub name_kinds : All (λ row. has_name_kinds row ≡ true) metadata
  pub names : are_apart (fronts metadata) ≡ true
  pub known : algorithm_unknown metadata ≡ None
  pub places : All (λ row. bad_tile layout contents row ≡ None) rows
  pub references : All (λ row. missing_reference layout contents row ≡ None) rows
  pub tile_hashes : All (λ row. wrong_tile_hash layout (algorithm_of metadata) row ≡ None) rows
  pub content_hashes : All (λ row. wrong_content_hash layout (algorithm_of metadata) row ≡ None) contents
  pub apart : place_twice layout contents rows ≡ None

pub both_none : (a b : Option MbtError) → option_or a b ≡ None → (a ≡ None) × (b ≡ None)
both_none (Some x) b h = cc
both_none None b h = (refl, h)

pub holds : (b : Bool) (e : MbtError) → unless b e ≡ None → b ≡ true
holds true e h = refl
holds false e h = cc

pub all_true : {X : Type 0} (p : X → Bool) (xs : List X) → list_all p xs ≡ true → All (λ x. p x ≡ true) xs
all_true p [] h = All-nil (λ x. p x ≡ true)
all_true p (x ∷ xs) h = let two = and_parts (p x) (list_all p xs) h in All-cons (λ x. p x ≡ true) x xs two.0 (all_true p xs two.1)

pub true_all : {X : Type 0} (p : X → Bool) (xs : List X) → All (λ x. p x ≡ true) xs → list_all p xs ≡ true
true_all p [] h = refl
true_all p (x ∷ xs) h = and_from (p x) (list_all p xs) (All-head (λ x. p x ≡ true) x xs h) (true_all p xs (All-tail (λ x. p x ≡ true) x xs h))

each_passes : {A : Type 0} (test : A → Option MbtError) (xs : List A) → first_refused test xs ≡ None → All (λ x. test x ≡ None) xs
each_passes test xs h = λ k d lt. passed test xs h k (get_or xs k d) (slice_get-get_or xs k d lt)

all_pass : {A : Type 0} (test : A → Option MbtError) (xs : List A) → All (λ x. test x ≡ None) xs → first_refused test xs ≡ None
all_pass test [] h = refl
all_pass test (x ∷ xs) h = ap (λ o. option_or o (first_refused test xs)) (All-head (λ x. test x ≡ None) x xs h) ∙ all_pass test xs (All-tail (λ x. test x ≡ None) x xs h)

module _ (layout : MbtType) (metadata contents rows : List (List Cell)) where
  pub passing : first_refusal (row_refusals layout metadata contents rows) ≡ None → ArePassing layout metadata contents rows
  passing h =
      let a = both_none _ _ h in
      let b = both_none _ _ a.1 in
      let c = both_none _ _ b.1 in
      let d = both_none _ _ c.1 in
      let e = both_none _ _ d.1 in
      let f = both_none _ _ e.1 in
      let g = both_none _ _ f.1 in
      let i = both_none _ _ g.1 in
      let j = both_none _ _ i.1 in
      let k = both_none _ _ j.1 in
      let hashes = both_none (first_refused (wrong_tile_hash layout (algorithm_of metadata)) rows) (first_refused (wrong_content_hash layout (algorithm_of metadata)) contents) j.0 in
      record {
        ids = holds (are_apart (fronts contents)) NoUniquenessConstraint a.0;
        tile_kinds = all_true (has_tile_kinds layout) rows (holds (list_all (has_tile_kinds layout) rows) InvalidDataFormat b.0);
        content_kinds = all_true (λ row. is_id layout (cell_at 0 row)) contents (holds (list_all (λ row. is_id layout (cell_at 0 row)) contents) InvalidDataFormat c.0);
        name_kinds = all_true has_name_kinds metadata (holds (list_all has_name_kinds metadata) InvalidDataFormat d.0);
        names = holds (are_apart (fronts metadata)) InvalidDataFormat e.0;
        known = f.0;
        places = each_passes (bad_tile layout contents) rows g.0;
        references = each_passes (missing_reference layout contents) rows i.0;
        tile_hashes = each_passes (wrong_tile_hash layout (algorithm_of metadata)) rows hashes.0;
        content_hashes = each_passes (wrong_content_hash layout (algorithm_of metadata)) contents hashes.1;
        apart = k.0;
      }

  pub pass_all : ArePassing layout metadata contents rows → first_refusal (row_refusals layout metadata contents rows) ≡ None
  pass_all p =
      let hashes : hash_wrong layout (algorithm_of metadata) contents rows ≡ None = ap (λ o. option_or o (first_refused (wrong_content_hash layout (algorithm_of metadata)) contents)) (all_pass (wrong_tile_hash layout (algorithm_of metadata)) rows p.tile_hashes) ∙ all_pass (wrong_content_hash layout (algorithm_of metadata)) contents p.content_hashes in
      rw (p.ids, true_all (has_tile_kinds layout) rows p.tile_kinds, true_all (λ row. is_id layout (cell_at 0 row)) contents p.content_kinds, true_all has_name_kinds metadata p.name_kinds, p.names, p.known, all_pass (bad_tile layout contents) rows p.places, all_pass (missing_reference layout contents) rows p.references, hashes, p.apart) refl

-- a tile of a row has the row's place and its contents
tile_parts : (row : List Cell) (cell : Cell) (q : Place) (c : Option (List ℕ)) → tile_of row cell ≡ Some (q, c) → (place_of row ≡ Some q) × (contents_of cell ≡ Some c)
tile_parts row cell q c h = by (place_of row) refl (contents_of cell) refl
  where
    by : (o : Option Place) → place_of row ≡ o → (v : Option (Option (List ℕ))) → contents_of cell ≡ v → (place_of row ≡ Some q) × (contents_of cell ≡ Some c)
    by (Some p) e (Some v) f =
        let is : tile_of row cell ≡ Some (p, v) = simp (e, f) in
        let both : Some (p, v) ≡ Some (q, c) = sym is ∙ h in
        (e ∙ ap (option_and_then (λ (x : Place × Option (List ℕ)). Some x.0)) both, f ∙ ap (option_and_then (λ (x : Place × Option (List ℕ)). Some x.1)) both)
    by (Some p) e None f = let is : tile_of row cell ≡ None = simp (e, f) in absurd (none-some (q, c) (sym is ∙ h))
    by None e (Some v) f = let is : tile_of row cell ≡ None = simp (e, f) in absurd (none-some (q, c) (sym is ∙ h))
    by None e None f = let is : tile_of row cell ≡ None = simp (e, f) in absurd (none-some (q, c) (sym is ∙ h))

some_tile : (row : List Cell) (cell : Cell) → is_some (tile_of row cell) ≡ true → (q : Place) × (c : Option (List ℕ)) × (tile_of row cell ≡ Some (q, c)) × (place_of row ≡ Some q) × (contents_of cell ≡ Some c)
some_tile row cell h = by (tile_of row cell) refl h
  where
    by : (o : Option (Place × Option (List ℕ))) → tile_of row cell ≡ o → is_some o ≡ true → (q : Place) × (c : Option (List ℕ)) × (tile_of row cell ≡ Some (q, c)) × (place_of row ≡ Some q) × (contents_of cell ≡ Some c)
    by (Some t) e h = let p = tile_parts row cell t.0 t.1 e in (t.0, t.1, e, p.0, p.1)
    by None e h = absurd (false≢true h)

nowhere : {A : Type 0} (o : Option Place) → option_and_then (λ place. option_map {U = Place × A} (λ v. (place, v)) None) o ≡ None
nowhere (Some p) = refl
nowhere None = refl

-- the contents of an id among rows
abbrev pub cell_under : List (List Cell) → Cell → Option (Option (List ℕ))
cell_under contents id = option_and_then contents_of (fin.find cell_cmp id (filter_map content_entry contents))

-- in a normalised set a row has a tile where it has an id, and the tile is the contents of the id
pub joins_row : (l : MbtType) (contents : List (List Cell)) (row : List Cell) → is_normalized l ≡ true → bad_tile l contents row ≡ None → missing_reference l contents row ≡ None → Joins (at_place (id_in l)) (tile_in l contents) (cell_under contents) row
joins_row (Normalized view schema) contents row n bad missing = by (is_null (cell_at 3 row)) refl bad missing
  where
    id : Cell
    id = cell_at 3 row

    by : (b : Bool) → is_null id ≡ b
        → option_and_then (λ cell. unless (is_some (tile_of row cell)) (InvalidTileIndex (cell_at 0 row) (cell_at 1 row) (cell_at 2 row))) (cond b None (Some (content_of contents id))) ≡ None
        → unless (b || list_any (begins id) contents) (MissingTileReference (id_text id) (kind.contents_of schema)) ≡ None
        → Joins (at_place (id_in (Normalized view schema))) (tile_in (Normalized view schema) contents) (cell_under contents) row
    by true e h k = inl (ap (λ b. option_and_then (λ place. option_map (λ v. (place, v)) (cond b None (Some id))) (place_of row)) e ∙ nowhere (place_of row), ap (λ b. option_and_then (tile_of row) (cond b None (Some (content_of contents id)))) e)
    by false e h k =
        let t = some_tile row (content_of contents id) (holds _ _ h) in
        let there : list_any (begins id) contents ≡ true = holds _ _ k in
        inr (
          t.0,
          id,
          t.1,
          ap (λ b. option_and_then (λ place. option_map (λ v. (place, v)) (cond b None (Some id))) (place_of row)) e ∙ ap (option_and_then (λ place. Some (place, id))) t.3,
          ap (λ b. option_and_then (tile_of row) (cond b None (Some (content_of contents id)))) e ∙ t.2,
          ap (option_and_then contents_of) (content_found id e contents there) ∙ t.4,
        )
joins_row _ contents row n bad missing = absurd (false≢true n)

-- in a cache each row has a tile and its times
pub dates_row : (l : MbtType) (contents : List (List Cell)) (row : List Cell) → is_cache l ≡ true → bad_tile l contents row ≡ None → Agrees (at_place (dates_in l)) (tile_in l contents) row
dates_row Cache contents row n bad =
    let t = some_tile row (cell_at 6 row) (holds _ _ bad) in
    let d : Dates = record { fetched = cell_at 3 row; expires = cell_at 4 row; etag = cell_at 5 row } in
    inr (t.0, d, t.1, ap (option_and_then (λ place. Some (place, d))) t.3, t.2)
dates_row Flat contents row n bad = absurd (false≢true n)
dates_row FlatWithHash contents row n bad = absurd (false≢true n)
dates_row (Normalized view schema) contents row n bad = absurd (false≢true n)

-- the test of a row's place alone
pub place_tested : (l : MbtType) (contents : List (List Cell)) (row : List Cell) → bad_tile l contents row ≡ None → bad_tile l [] row ≡ None
place_tested (Normalized view schema) contents row h = by (is_null (cell_at 3 row)) h
  where
    at : (q : Place) → place_of row ≡ Some q → is_some (tile_of row Null) ≡ true
    at q e = let is : tile_of row Null ≡ Some (q, None) = simp e in ap is_some is

    by : (b : Bool) → option_and_then (λ cell. unless (is_some (tile_of row cell)) (InvalidTileIndex (cell_at 0 row) (cell_at 1 row) (cell_at 2 row))) (cond b None (Some (content_of contents (cell_at 3 row)))) ≡ None → option_and_then (λ cell. unless (is_some (tile_of row cell)) (InvalidTileIndex (cell_at 0 row) (cell_at 1 row) (cell_at 2 row))) (cond b None (Some Null)) ≡ None
    by true h = refl
    by false h = let t = some_tile row (content_of contents (cell_at 3 row)) (holds _ _ h) in ap (λ b. unless b (InvalidTileIndex (cell_at 0 row) (cell_at 1 row) (cell_at 2 row))) (at t.0 t.3)
place_tested _ contents row h = h
