-- Other times of the latest tile of a place.
use Rattle.mb_loaded.proofs.Common.{All, All-permutation, All-push, ap, at_key, Bool, Cache, cond, contains_key, Content, content_at, contents_of, Coord, dated_as, dated_last, Dates, false}
use Rattle.mb_loaded.proofs.Common.{false≢true, find, found_in, get_or_from_slice_get, HashAlgorithm, Held, held_of, id_at, if_edited, is_cache, is_gone, is_null, is_some, IsDated}
use Rattle.mb_loaded.proofs.Common.{IsPermutation-reverse, IsTile, List, MbtType, newest_ids, newest_names, newest_tiles, None, Option, option_and_then, option_map, option_to_list, PatchType, Place}
use Rattle.mb_loaded.proofs.Common.{place_at, place_cmp, place_of, places_antisymmetric, places_total, Put, refl, removed_none, reverse, slice_get_within, Some, standing_same, StoredName, StoredTile}
use Rattle.mb_loaded.proofs.Common.{subst, sym, tile_dates, tile_id, tile_value, tiles_held, true, unless_removed, with_dates, with_value, ℕ, [], ◌++◌, ◌∙◌, ◌∷◌, ◌≡◌}
use Rattle.mb_loaded.proofs.EditMaps.{get_newest, with_value_same}
use Rattle.mb_loaded.proofs.EditViews.{one_more, parts_same}

module _ (layout : MbtType) (a : HashAlgorithm) (p : Option PatchType) (contents : List Content) (order : List ℕ) (tiles : List StoredTile) (names : List StoredName) where
  abbrev kept : Held
  kept = held_of layout a p contents (newest_ids contents order) (newest_tiles tiles) (newest_names names)

  -- other times of the latest tile of a place
  pub held_dated : (q : Place) (d : Dates) (t new : StoredTile) (tiles' : List StoredTile) → find (at_key place_cmp place_of q) (reverse tiles) ≡ Some t → is_gone t ≡ false → place_of new ≡ q → new.contents ≡ t.contents → new.dates ≡ Some d → new.standing ≡ Put → tiles' ≡ tiles ++ new ∷ [] → held_of layout a p contents (newest_ids contents order) (newest_tiles tiles') (newest_names names) ≡ with_dates kept q d
  held_dated q d t new tiles' found live place same dates standing e =
      rw e (parts_same layout a p _ _ _ _ _ _ _ _ _ _ _ _ _ _ _ _
      (unchanged (tile_value contents) (as_before (λ i. contents_of (content_at contents i).cell)))
      refl
      (unchanged (tile_id contents) (as_before (λ i. cond (is_null (id_at contents i)) None (Some (id_at contents i)))))
      refl
      (with_one tile_dates (Some d) (ap (λ s. unless_removed s new.dates) standing ∙ dates))
      (with_one (λ t. if_edited t.standing) (Some tt) (ap if_edited standing))
      refl
      refl)
    where
      with_one : {V : Type 0} (value : StoredTile → Option V) (o : Option V) → value new ≡ o → tiles_held value (newest_tiles (tiles ++ new ∷ [])) ≡ with_value (tiles_held value (newest_tiles tiles)) q o
      with_one value o h = one_more layout a p contents order tiles names value new ∙ (λ k. with_value (tiles_held value (newest_tiles tiles)) (place k) (h k))

      unchanged : {V : Type 0} (value : StoredTile → Option V) → value new ≡ value t → tiles_held value (newest_tiles (tiles ++ new ∷ [])) ≡ tiles_held value (newest_tiles tiles)
      unchanged value h =
          with_one value (value t) h
          ∙ with_value_same places_total places_antisymmetric (tiles_held value (newest_tiles tiles)) q (value t) (sym (get_newest places_total places_antisymmetric place_of value tiles q ∙ ap (option_and_then value) found))

      as_before : {V : Type 0} (f : ℕ → Option V) → unless_removed new.standing (f new.contents) ≡ unless_removed t.standing (f t.contents)
      as_before f = ap (λ s. unless_removed s (f new.contents)) standing ∙ (ap f same ∙ sym (standing_same t.standing (f t.contents) live))

  -- the latest tile of a place where there is a tile
  latest : (q : Place) → contains_key kept.state.tiles q ≡ true → (t : StoredTile) × (find (at_key place_cmp place_of q) (reverse tiles) ≡ Some t) × (is_gone t ≡ false)
  latest q h = by (find (at_key place_cmp place_of q) (reverse tiles)) refl (sym (ap is_some (get_newest places_total places_antisymmetric place_of (tile_value contents) tiles q)) ∙ h)
    where
      live : (t : StoredTile) (b : Bool) → is_gone t ≡ b → is_some (tile_value contents t) ≡ true → is_gone t ≡ false
      live t false e h = e
      live t true e h = absurd (false≢true (sym (ap is_some (removed_none t.standing (contents_of (content_at contents t.contents).cell) e)) ∙ h))

      by : (o : Option StoredTile) → find (at_key place_cmp place_of q) (reverse tiles) ≡ o → is_some (option_and_then (tile_value contents) o) ≡ true → (t : StoredTile) × (find (at_key place_cmp place_of q) (reverse tiles) ≡ Some t) × (is_gone t ≡ false)
      by (Some t) e h = (t, e, live t (is_gone t) refl h)
      by None e h = absurd (false≢true h)

  of_latest : (P : StoredTile → Type 0) (q : Place) (t : StoredTile) → All P tiles → find (at_key place_cmp place_of q) (reverse tiles) ≡ Some t → P t
  of_latest P q t all h =
      let f = found_in (at_key place_cmp place_of q) (reverse tiles) t h in
      subst P (get_or_from_slice_get (reverse tiles) f.0 t t f.1) (All-permutation P tiles (reverse tiles) (IsPermutation-reverse tiles) all f.0 t (slice_get_within (reverse tiles) f.0 t f.1))

  -- the same of what a call leaves
  module _ (coord : Coord) (there : contains_key kept.state.tiles (place_at coord) ≡ true) where
    one_dated : (o : Option Dates) (tiles' : List StoredTile) → tiles' ≡ tiles ++ dated_last coord o tiles → tiles' ≡ tiles ++ dated_as coord o (latest (place_at coord) there).0 ∷ []
    one_dated o tiles' m = m ∙ ap (λ (found : Option StoredTile). tiles ++ option_to_list (option_map (dated_as coord o) found)) (latest (place_at coord) there).1

    pub dated_view : (d : Dates) (o : Option Dates) (tiles' : List StoredTile) → o ≡ Some d → tiles' ≡ tiles ++ dated_last coord o tiles → held_of layout a p contents (newest_ids contents order) (newest_tiles tiles') (newest_names names) ≡ with_dates kept (place_at coord) d
    dated_view d o tiles' e m = let t = latest (place_at coord) there in held_dated (place_at coord) d t.0 (dated_as coord o t.0) tiles' t.1 t.2 refl refl e refl (one_dated o tiles' m)

    pub dated_whole : (o : Option Dates) (tiles' : List StoredTile) → All (IsTile contents) tiles → tiles' ≡ tiles ++ dated_last coord o tiles → All (IsTile contents) tiles'
    dated_whole o tiles' whole m = let t = latest (place_at coord) there in rw (one_dated o tiles' m) (All-push (IsTile contents) tiles (dated_as coord o t.0) whole (λ live. of_latest (IsTile contents) (place_at coord) t.0 whole t.1 t.2))

    pub dated_dated : (d : Dates) (o : Option Dates) (tiles' : List StoredTile) → layout ≡ Cache → All (IsDated layout) tiles → o ≡ Some d → tiles' ≡ tiles ++ dated_last coord o tiles → All (IsDated layout) tiles'
    dated_dated d o tiles' l dated e m = let t = latest (place_at coord) there in rw (one_dated o tiles' m) (All-push (IsDated layout) tiles (dated_as coord o t.0) dated (λ live. ap is_some e ∙ sym (ap is_cache l)))
