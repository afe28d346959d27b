-- What single edits make of a set that is kept in order.
use Rattle.mb_loaded.proofs.Common.{All, All-push, All-weaker, ap, Apart, AreContentsInOrder, AreInOrder, AreNamesInOrder, at_key, Blob, Bool, Cache, Cell, cell_cmp, cell_cmp-IsAntisymmetric}
use Rattle.mb_loaded.proofs.Common.{cells_total, Clears, cond, contains_key, Content, Coord, Dates, dates_for, equal_of, false, false≢true, find, find_newest, found_at, found_in, HashAlgorithm, HasId}
use Rattle.mb_loaded.proofs.Common.{Held, held_of, id_at, id_for, is_cache, is_content_gone, is_gone, is_name_gone, is_null, is_removed, is_some, IsDated, IsName, IsTile, length, List, listed}
use Rattle.mb_loaded.proofs.Common.{live_at, live_has, MbtType, name_found, name_mark, name_missing, name_of, names_antisymmetric, nat_cmp, nat_list_cmp_total, newest_ids, newest_names, newest_tiles}
use Rattle.mb_loaded.proofs.Common.{None, nothing, Null, Option, option_and_then, order_same, PatchType, place_at, place_cmp, place_of, places_antisymmetric, places_total, Put, redated, Redates, refl}
use Rattle.mb_loaded.proofs.Common.{removed_name, removed_none, removed_tile, reverse, slice_cmp, Some, stands_from, stands_itself, StandsAs, StoredName, StoredTile, subst, sym, text_of, tile_mark}
use Rattle.mb_loaded.proofs.Common.{tile_there, tile_value, true, unwrap_or, with_dates, with_name, with_null, with_tile, without_name, without_tile, ℕ, [], ◌++◌, ◌∙◌, ◌∷◌, ◌≡◌}
use Rattle.mb_loaded.proofs.DatedLemmas.{times_are}
use Rattle.mb_loaded.proofs.DatedViews.{held_dated}
use Rattle.mb_loaded.proofs.EditViews.{all_from, held_gone, held_named, held_opened, held_settled, held_unnamed, named_texts, null_view, put_view}
use Rattle.mb_loaded.proofs.MoreContents.{at_end, listed_same}

-- more contents leave the order of those that are listed
pub more_in_order : (contents contents' : List Content) (c : Content) (live : ℕ) (order : List ℕ) → contents' ≡ contents ++ c ∷ [] → All (HasId contents) order → AreContentsInOrder contents live order → AreContentsInOrder contents' live order
more_in_order contents contents' c live order e ids o =
    let more = contents ++ c ∷ [] in
    subst (λ cs. AreContentsInOrder cs live order) (sym e)
    (order_same (id_at contents) (id_at more) (is_content_gone contents) (is_content_gone more) live order
    (All-weaker (HasId contents) (λ i. id_at more i ≡ id_at contents i) (listed_same contents c (λ o. (unwrap_or o nothing).id)) order ids)
    (All-weaker (HasId contents) (λ i. is_content_gone more i ≡ is_content_gone contents i) (listed_same contents c (λ o. is_removed (unwrap_or o nothing).standing)) order ids) o)

-- new contents are no mark
pub new_live : (contents contents' : List Content) (c : Content) (index : ℕ) → contents' ≡ contents ++ c ∷ [] → index ≡ length contents → is_removed c.standing ≡ false → is_content_gone contents' index ≡ false
new_live contents contents' c index e k h = rw (e, k) (ap (λ o. is_removed (unwrap_or o nothing).standing) (at_end contents c) ∙ h)

module _ (layout : MbtType) (a : HashAlgorithm) (p : Option PatchType) (contents : List Content) (order : List ℕ) (tiles : List StoredTile) (names : List StoredName) (oa : Apart cell_cmp (id_at contents) order) (ta : Apart place_cmp place_of tiles) (na : Apart (slice_cmp nat_cmp) name_of names) where
  abbrev now : Held
  now = held_of layout a p contents order tiles names

  opened : held_of layout a p contents (newest_ids contents order) (newest_tiles tiles) (newest_names names) ≡ now
  opened = held_opened layout a p contents order tiles names oa ta na

  same_ids : StandsAs cell_cmp (id_at contents) (newest_ids contents order) order
  same_ids = stands_itself cells_total cell_cmp-IsAntisymmetric (id_at contents) order oa

  same_tiles : StandsAs place_cmp place_of (newest_tiles tiles) tiles
  same_tiles = stands_itself places_total places_antisymmetric place_of tiles ta

  same_names : StandsAs (slice_cmp nat_cmp) name_of (newest_names names) names
  same_names = stands_itself nat_list_cmp_total names_antisymmetric name_of names na

  -- bytes that came to their place
  pub put_placed : All (IsTile contents) tiles → All (HasId contents) order → (coord : Coord) (bytes given : List ℕ) (id : Cell) (null : Bool) (index : ℕ) (d : Option Dates) (contents' : List Content) (order' : List ℕ) (tiles' : List StoredTile)
      → given ≡ bytes → id ≡ unwrap_or (id_for layout a given) Null → null ≡ is_null id → index ≡ length contents → d ≡ dates_for layout → contents' ≡ contents ++ record { id = id; cell = Blob bytes; standing = Put } ∷ []
      → StandsAs cell_cmp (id_at contents') (newest_ids contents' (order ++ listed null index)) order' → Apart cell_cmp (id_at contents') order'
      → StandsAs place_cmp place_of (newest_tiles (tiles ++ record { coord = coord; contents = index; dates = d; standing = Put } ∷ [])) tiles' → Apart place_cmp place_of tiles'
      → held_of layout a p contents' order' tiles' names ≡ with_tile now (place_at coord) bytes
  put_placed whole ids coord bytes given id null index d contents' order' tiles' g i n k e c os oa' ts ta' =
      let order1 = order ++ listed null index in
      let tiles1 = tiles ++ record { coord = coord; contents = index; dates = d; standing = Put } ∷ [] in
      held_settled layout a p contents' order1 tiles1 names contents' order' tiles' names refl os oa' ts ta' same_names na
      ∙ (put_view layout a p contents order tiles names whole ids coord bytes given id null index d contents' order1 tiles1 g i n k e c refl refl
      ∙ ap (λ h. with_tile h (place_at coord) bytes) opened)

  -- null that came to its place
  pub null_placed : All (IsTile contents) tiles → All (HasId contents) order → (coord : Coord) (c : Content) (index : ℕ) (d : Option Dates) (contents' : List Content) (tiles' : List StoredTile)
      → c ≡ record { id = Null; cell = Null; standing = Put } → index ≡ length contents → d ≡ dates_for layout → contents' ≡ contents ++ c ∷ []
      → Apart cell_cmp (id_at contents') order
      → StandsAs place_cmp place_of (newest_tiles (tiles ++ record { coord = coord; contents = index; dates = d; standing = Put } ∷ [])) tiles' → Apart place_cmp place_of tiles'
      → held_of layout a p contents' order tiles' names ≡ with_null now (place_at coord)
  null_placed whole ids coord c index d contents' tiles' n k e m oa' ts ta' =
      let tiles1 = tiles ++ record { coord = coord; contents = index; dates = d; standing = Put } ∷ [] in
      held_settled layout a p contents' order tiles1 names contents' order tiles' names refl (stands_itself cells_total cell_cmp-IsAntisymmetric (id_at contents') order oa') oa' ts ta' same_names na
      ∙ (null_view layout a p contents order tiles names whole ids coord c index d contents' tiles1 n k e m refl
      ∙ ap (λ h. with_null h (place_at coord)) opened)

  -- a tile that became a mark
  module _ (live : ℕ) (rising : AreInOrder live tiles) (whole : All (IsTile contents) tiles) (coord : Coord) where
    here : (o : Option StoredTile) → live_at place_cmp place_of is_gone (place_at coord) tiles ≡ o → contains_key now.state.tiles (place_at coord) ≡ is_some o
    here o e = ap is_some (found_at places_total places_antisymmetric place_of is_gone (tile_value contents) (λ t h. removed_none t.standing _ h) live tiles (place_at coord) rising ∙ ap (option_and_then (tile_value contents)) e) ∙ by o e
      where
        by : (o : Option StoredTile) → live_at place_cmp place_of is_gone (place_at coord) tiles ≡ o → is_some (option_and_then (tile_value contents) o) ≡ is_some o
        by None e = refl
        by (Some t) e = let l = live_has place_cmp place_of is_gone (IsTile contents) (place_at coord) tiles t whole e in tile_there contents t l.0 l.1

    pub tile_cleared : (tiles' : List StoredTile) → Apart place_cmp place_of tiles' → Clears place_cmp place_of (live_at place_cmp place_of is_gone (place_at coord) tiles) (tile_mark coord) tiles tiles' → held_of layout a p contents order tiles' names ≡ without_tile now (place_at coord)
    tile_cleared tiles' ta' h = by (live_at place_cmp place_of is_gone (place_at coord) tiles) refl h
      where
        by : (o : Option StoredTile) → live_at place_cmp place_of is_gone (place_at coord) tiles ≡ o → Clears place_cmp place_of o (tile_mark coord) tiles tiles' → held_of layout a p contents order tiles' names ≡ without_tile now (place_at coord)
        by None e h = ap (λ ts. held_of layout a p contents order ts names) h ∙ sym (ap (λ b. cond b (removed_tile now (place_at coord)) now) (here None e))
        by (Some t) e h =
            held_settled layout a p contents order (tiles ++ tile_mark coord ∷ []) names contents order tiles' names refl same_ids oa h ta' same_names na
            ∙ (held_gone layout a p contents order tiles names coord (tiles ++ tile_mark coord ∷ []) refl
            ∙ (ap (λ h. removed_tile h (place_at coord)) opened ∙ sym (ap (λ b. cond b (removed_tile now (place_at coord)) now) (here (Some t) e))))

    pub cleared_all : (P : StoredTile → Type 0) → P (tile_mark coord) → All P tiles → (tiles' : List StoredTile) → Apart place_cmp place_of tiles' → Clears place_cmp place_of (live_at place_cmp place_of is_gone (place_at coord) tiles) (tile_mark coord) tiles tiles' → All P tiles'
    cleared_all P mark all tiles' ta' h = by (live_at place_cmp place_of is_gone (place_at coord) tiles) h
      where
        by : (o : Option StoredTile) → Clears place_cmp place_of o (tile_mark coord) tiles tiles' → All P tiles'
        by None h = subst (All P) (sym h) all
        by (Some t) h =
            let more = tiles ++ tile_mark coord ∷ [] in
            all_from P more tiles' (All-push P tiles (tile_mark coord) all mark) (stands_from places_total places_antisymmetric place_of more tiles' h ta')

    -- a tile that got other times
    found_live : (t : StoredTile) → live_at place_cmp place_of is_gone (place_at coord) tiles ≡ Some t → find (at_key place_cmp place_of (place_at coord)) (reverse tiles) ≡ Some t
    found_live t e = sym (find_newest places_total place_of (place_at coord) tiles) ∙ (sym (same_tiles.found (place_at coord)) ∙ by (find (at_key place_cmp place_of (place_at coord)) tiles) e)
      where
        one : (x : StoredTile) (b : Bool) → cond b None (Some x) ≡ Some t → Some x ≡ Some t
        one x false e = e
        one x true e = cc

        by : (o : Option StoredTile) → option_and_then (λ x. cond (is_gone x) None (Some x)) o ≡ Some t → o ≡ Some t
        by (Some x) e = one x (is_gone x) e
        by None e = cc

    at_its_place : (t : StoredTile) → live_at place_cmp place_of is_gone (place_at coord) tiles ≡ Some t → place_of t ≡ place_at coord
    at_its_place t e =
        let f = found_in (at_key place_cmp place_of (place_at coord)) (reverse tiles) t (found_live t e) in
        sym (places_antisymmetric (place_at coord) (place_of t) (equal_of (place_cmp (place_at coord) (place_of t)) f.2))

    pub tile_redated : (d : Dates) (tiles' : List StoredTile) → layout ≡ Cache → All (IsDated layout) tiles → contains_key now.state.tiles (place_at coord) ≡ true → Apart place_cmp place_of tiles' → Redates d (live_at place_cmp place_of is_gone (place_at coord) tiles) tiles tiles' → held_of layout a p contents order tiles' names ≡ with_dates now (place_at coord) d
    tile_redated d tiles' l dated there ta' h = by (live_at place_cmp place_of is_gone (place_at coord) tiles) refl h
      where
        by : (o : Option StoredTile) → live_at place_cmp place_of is_gone (place_at coord) tiles ≡ o → Redates d o tiles tiles' → held_of layout a p contents order tiles' names ≡ with_dates now (place_at coord) d
        by None e h = absurd (false≢true (sym (here None e) ∙ there))
        by (Some t) e h =
            let has = live_has place_cmp place_of is_gone (IsDated layout) (place_at coord) tiles t dated e in
            held_settled layout a p contents order (tiles ++ redated d t ∷ []) names contents order tiles' names refl same_ids oa h ta' same_names na
            ∙ (held_dated layout a p contents order tiles names (place_at coord) d t (redated d t) (tiles ++ redated d t ∷ []) (found_live t e) has.1 (at_its_place t e) refl (times_are d t.dates (has.0 has.1 ∙ ap is_cache l)) refl refl
            ∙ ap (λ h. with_dates h (place_at coord) d) opened)

    pub redated_all : (P : StoredTile → Type 0) (d : Dates) → ((t : StoredTile) → is_gone t ≡ false → P t → P (redated d t)) → All P tiles → (tiles' : List StoredTile) → Apart place_cmp place_of tiles' → Redates d (live_at place_cmp place_of is_gone (place_at coord) tiles) tiles tiles' → All P tiles'
    redated_all P d step all tiles' ta' h = by (live_at place_cmp place_of is_gone (place_at coord) tiles) refl h
      where
        by : (o : Option StoredTile) → live_at place_cmp place_of is_gone (place_at coord) tiles ≡ o → Redates d o tiles tiles' → All P tiles'
        by None e h = subst (All P) (sym h) all
        by (Some t) e h =
            let has = live_has place_cmp place_of is_gone P (place_at coord) tiles t all e in
            let more = tiles ++ redated d t ∷ [] in
            all_from P more tiles' (All-push P tiles (redated d t) all (step t has.1 has.0)) (stands_from places_total places_antisymmetric place_of more tiles' h ta')

  -- a value that came under its name
  pub name_placed : (name : List ℕ) (value : Cell) (names' : List StoredName) → StandsAs (slice_cmp nat_cmp) name_of (newest_names (names ++ record { name = name; value = value; standing = Put } ∷ [])) names' → Apart (slice_cmp nat_cmp) name_of names' → held_of layout a p contents order tiles names' ≡ with_name now name (text_of value)
  name_placed name value names' ns na' =
      let names1 = names ++ record { name = name; value = value; standing = Put } ∷ [] in
      held_settled layout a p contents order tiles names1 contents order tiles names' refl same_ids oa same_tiles ta ns na'
      ∙ (held_named layout a p contents order tiles names name value names1 refl
      ∙ ap (λ h. with_name h name (text_of value)) opened)

  -- an entry that became a mark
  module _ (live : ℕ) (rising : AreNamesInOrder live names) (name : List ℕ) where
    known : (o : Option StoredName) → live_at (slice_cmp nat_cmp) name_of is_name_gone name names ≡ o → contains_key now.state.metadata name ≡ is_some o
    known None e = ap is_some (name_missing live names rising name e)
    known (Some n) e = ap is_some (name_found live names rising name n e)

    pub name_cleared : (names' : List StoredName) → Apart (slice_cmp nat_cmp) name_of names' → Clears (slice_cmp nat_cmp) name_of (live_at (slice_cmp nat_cmp) name_of is_name_gone name names) (name_mark name) names names' → held_of layout a p contents order tiles names' ≡ without_name now name
    name_cleared names' na' h = by (live_at (slice_cmp nat_cmp) name_of is_name_gone name names) refl h
      where
        by : (o : Option StoredName) → live_at (slice_cmp nat_cmp) name_of is_name_gone name names ≡ o → Clears (slice_cmp nat_cmp) name_of o (name_mark name) names names' → held_of layout a p contents order tiles names' ≡ without_name now name
        by None e h = ap (λ ns. held_of layout a p contents order tiles ns) h ∙ sym (ap (λ b. cond b (removed_name now name) now) (known None e))
        by (Some n) e h =
            held_settled layout a p contents order tiles (names ++ name_mark name ∷ []) contents order tiles names' refl same_ids oa same_tiles ta h na'
            ∙ (held_unnamed layout a p contents order tiles names name name (names ++ name_mark name ∷ []) refl refl
            ∙ (ap (λ h. removed_name h name) opened ∙ sym (ap (λ b. cond b (removed_name now name) now) (known (Some n) e))))

    pub cleared_texts : (names' : List StoredName) → All IsName names → Apart (slice_cmp nat_cmp) name_of names' → Clears (slice_cmp nat_cmp) name_of (live_at (slice_cmp nat_cmp) name_of is_name_gone name names) (name_mark name) names names' → All IsName names'
    cleared_texts names' texts na' h = by (live_at (slice_cmp nat_cmp) name_of is_name_gone name names) h
      where
        by : (o : Option StoredName) → Clears (slice_cmp nat_cmp) name_of o (name_mark name) names names' → All IsName names'
        by None h = subst (All IsName) (sym h) texts
        by (Some n) h =
            let more = names ++ name_mark name ∷ [] in
            all_from IsName more names' (named_texts layout a p contents order tiles names (name_mark name) more texts refl refl) (stands_from nat_list_cmp_total names_antisymmetric name_of more names' h na')
