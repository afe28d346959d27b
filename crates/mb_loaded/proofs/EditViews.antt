-- What edits of the kept parts make of a set.
use Rattle.mb_loaded.proofs.Common.{All, All-contains, All-push, All-weaker, ap, Apart, append-nil, Blob, Bool, Cell, cell_cmp, cell_cmp-IsAntisymmetric, cells_total, cond, Contains, Content}
use Rattle.mb_loaded.proofs.Common.{content_at, content_value, Contents, contents_held, contents_of, Coord, Dates, dates_for, digest, entries_by, false, false≢true, FinMap, from_entries, get_or}
use Rattle.mb_loaded.proofs.Common.{HashAlgorithm, HasId, Held, held_of, id_at, id_for, if_edited, is_null, is_some, IsDated, IsName, IsTile, length, List, listed, MbtType, name_of, name_value, Names}
use Rattle.mb_loaded.proofs.Common.{names_antisymmetric, nat_cmp, nat_list_cmp_total, newest_apart, newest_ids, newest_names, newest_tiles, None, Normalized, nothing, Null, Option, option_and_then}
use Rattle.mb_loaded.proofs.Common.{PatchType, place_at, place_cmp, place_of, places_antisymmetric, places_total, Put, refl, Removed, removed_name, removed_tile, slice_cmp, Some, StandsAs, StoredName}
use Rattle.mb_loaded.proofs.Common.{StoredTile, subst, sym, Text, text_of, tile_dates, tile_id, tile_value, tiles_held, TileSet, true, unless_removed, unwrap_or, with_content, with_key, with_name}
use Rattle.mb_loaded.proofs.Common.{with_null, with_tile, with_value, ℕ, [], ◌++◌, ◌∙◌, ◌∷◌, ◌≡◌}
use Rattle.mb_loaded.proofs.DatedLemmas.{dates_some}
use Rattle.mb_loaded.proofs.EditMaps.{newest_of_apart, newest_put, newest_same, stands_map}
use Rattle.mb_loaded.proofs.MoreContents.{at_end, id_kept, listed_same, tile_kept, tile_same}

-- a set from its parts
abbrev pub held_by_parts : MbtType → HashAlgorithm → Option PatchType → TileSet → Names → FinMap place_cmp Cell → Contents → FinMap place_cmp Dates → FinMap place_cmp (Unit {0}) → FinMap cell_cmp (Unit {0}) → FinMap (slice_cmp nat_cmp) (Unit {0}) → Held
held_by_parts layout a p tiles metadata ids contents dates places edited names = record {
  state = record { layout = layout; algorithm = a; patch_type = p; tiles = tiles; metadata = metadata; ids = ids; contents = contents; dates = dates };
  edited = record { places = places; ids = edited; names = names };
}

pub parts_same : (layout : MbtType) (a : HashAlgorithm) (p : Option PatchType) (tiles tiles' : TileSet) (metadata metadata' : Names) (ids ids' : FinMap place_cmp Cell) (contents contents' : Contents) (dates dates' : FinMap place_cmp Dates) (places places' : FinMap place_cmp (Unit {0})) (edited edited' : FinMap cell_cmp (Unit {0})) (names names' : FinMap (slice_cmp nat_cmp) (Unit {0}))
    → tiles ≡ tiles' → metadata ≡ metadata' → ids ≡ ids' → contents ≡ contents' → dates ≡ dates' → places ≡ places' → edited ≡ edited' → names ≡ names'
    → held_by_parts layout a p tiles metadata ids contents dates places edited names ≡ held_by_parts layout a p tiles' metadata' ids' contents' dates' places' edited' names'
parts_same layout a p tiles tiles' metadata metadata' ids ids' contents contents' dates dates' places places' edited edited' names names' t m i c d pl e n = λ k. held_by_parts layout a p (t k) (m k) (i k) (c k) (d k) (pl k) (e k) (n k)

agrees : {X A : Type 0} (P : X → Type 0) (f g : X → A) (xs : List X) → ((x : X) → P x → f x ≡ g x) → All P xs → All (λ x. f x ≡ g x) xs
agrees P f g xs h all = All-weaker P (λ x. f x ≡ g x) h xs all

pub always : {X A : Type 0} (f g : X → A) (xs : List X) → ((x : X) → f x ≡ g x) → All (λ x. f x ≡ g x) xs
always f g xs h = λ k d lt. h _

module _ (layout : MbtType) (a : HashAlgorithm) (p : Option PatchType) (contents : List Content) (order : List ℕ) (tiles : List StoredTile) (names : List StoredName) (whole : All (IsTile contents) tiles) (ids : All (HasId contents) order) where
  abbrev held : Held
  held = held_of layout a p contents (newest_ids contents order) (newest_tiles tiles) (newest_names names)

  module _ (c : Content) where
    abbrev more : List Content
    more = contents ++ c ∷ []

    values : All (λ t. tile_value more t ≡ tile_value contents t) tiles
    values = agrees (IsTile contents) (tile_value more) (tile_value contents) tiles (tile_same contents c (λ o. contents_of (unwrap_or o nothing).cell)) whole

    named : All (λ t. tile_id more t ≡ tile_id contents t) tiles
    named = agrees (IsTile contents) (tile_id more) (tile_id contents) tiles (tile_same contents c (λ o. cond (is_null (unwrap_or o nothing).id) None (Some (unwrap_or o nothing).id))) whole

    keys : All (λ i. id_at more i ≡ id_at contents i) order
    keys = agrees (HasId contents) (id_at more) (id_at contents) order (listed_same contents c (λ o. (unwrap_or o nothing).id)) ids

    cells : All (λ i. content_value more i ≡ content_value contents i) order
    cells = agrees (HasId contents) (content_value more) (content_value contents) order (listed_same contents c (λ o. option_and_then (λ (c : Content). unless_removed c.standing (Some c.cell)) o)) ids

    standings : All (λ i. if_edited (content_at more i).standing ≡ if_edited (content_at contents i).standing) order
    standings = agrees (HasId contents) (λ i. if_edited (content_at more i).standing) (λ i. if_edited (content_at contents i).standing) order (listed_same contents c (λ o. if_edited (unwrap_or o nothing).standing)) ids

    -- contents that no tile has change nothing
    pub held_more : held_of layout a p more (newest_ids more order) (newest_tiles tiles) (newest_names names) ≡ held
    held_more =
        let k = always place_of place_of tiles (λ x. refl) in
        parts_same layout a p _ _ _ _ _ _ _ _ _ _ _ _ _ _ _ _
        (newest_same places_total places_antisymmetric place_of place_of (tile_value contents) (tile_value more) tiles k values)
        refl
        (newest_same places_total places_antisymmetric place_of place_of (tile_id contents) (tile_id more) tiles k named)
        (newest_same cells_total cell_cmp-IsAntisymmetric (id_at contents) (id_at more) (content_value contents) (content_value more) order keys cells)
        refl
        refl
        (newest_same cells_total cell_cmp-IsAntisymmetric (id_at contents) (id_at more) (λ i. if_edited (content_at contents i).standing) (λ i. if_edited (content_at more i).standing) order keys standings)
        refl

  abbrev standing_in : List Content → ℕ → Option (Unit {0})
  standing_in contents i = if_edited (content_at contents i).standing

  -- contents that aren't listed
  same_contents : (c : Content) → contents_held (contents ++ c ∷ []) (newest_ids (contents ++ c ∷ []) order) ≡ contents_held contents (newest_ids contents order)
  same_contents c = newest_same cells_total cell_cmp-IsAntisymmetric (id_at contents) (id_at (contents ++ c ∷ [])) (content_value contents) (content_value (contents ++ c ∷ [])) order (keys c) (cells c)

  same_edited : (c : Content) → from_entries {R = cell_cmp} (entries_by (id_at (contents ++ c ∷ [])) (standing_in (contents ++ c ∷ [])) (newest_ids (contents ++ c ∷ []) order)) ≡ from_entries (entries_by (id_at contents) (standing_in contents) (newest_ids contents order))
  same_edited c = newest_same cells_total cell_cmp-IsAntisymmetric (id_at contents) (id_at (contents ++ c ∷ [])) (standing_in contents) (standing_in (contents ++ c ∷ [])) order (keys c) (standings c)

  -- new contents of an id, or of none
  abbrev new : Option Cell → List ℕ → Content
  new o bytes = record { id = unwrap_or o Null; cell = Blob bytes; standing = Put }

  abbrev put : Coord → StoredTile
  put coord = record { coord = coord; contents = length contents; dates = dates_for layout; standing = Put }

  last_at : (c : Content) → content_at (contents ++ c ∷ []) (length contents) ≡ c
  last_at c = ap (λ o. unwrap_or o nothing) (at_end contents c)

  -- what is listed of new contents
  new_contents : (o : Option Cell) (bytes : List ℕ) → ((id : Cell) → o ≡ Some id → is_null id ≡ false) → contents_held (contents ++ new o bytes ∷ []) (newest_ids (contents ++ new o bytes ∷ []) (order ++ listed (is_null (unwrap_or o Null)) (length contents))) ≡ with_content (contents_held contents (newest_ids contents order)) o bytes
  new_contents None bytes present =
      ap (λ l. contents_held (contents ++ new None bytes ∷ []) (newest_ids (contents ++ new None bytes ∷ []) l)) (append-nil order)
      ∙ same_contents (new None bytes)
  new_contents (Some id) bytes present =
      let c = new (Some id) bytes in
      ap (λ b. contents_held (contents ++ c ∷ []) (newest_ids (contents ++ c ∷ []) (order ++ cond b [] (length contents ∷ [])))) (present id refl)
      ∙ (newest_put cells_total cell_cmp-IsAntisymmetric (id_at contents) (id_at (contents ++ c ∷ [])) (content_value contents) (content_value (contents ++ c ∷ [])) order (keys c) (cells c) (length contents)
      ∙ (ap (λ k. with_value (contents_held contents (newest_ids contents order)) k (content_value (contents ++ c ∷ []) (length contents))) (ap (λ (x : Content). x.id) (last_at c))
      ∙ ap (with_value (contents_held contents (newest_ids contents order)) id) (ap (option_and_then (λ (c : Content). unless_removed c.standing (Some c.cell))) (at_end contents c))))

  new_ids : (o : Option Cell) (bytes : List ℕ) → ((id : Cell) → o ≡ Some id → is_null id ≡ false) → from_entries {R = cell_cmp} (entries_by (id_at (contents ++ new o bytes ∷ [])) (standing_in (contents ++ new o bytes ∷ [])) (newest_ids (contents ++ new o bytes ∷ []) (order ++ listed (is_null (unwrap_or o Null)) (length contents)))) ≡ with_key (from_entries (entries_by (id_at contents) (standing_in contents) (newest_ids contents order))) o
  new_ids None bytes present =
      ap (λ l. from_entries {R = cell_cmp} (entries_by (id_at (contents ++ new None bytes ∷ [])) (standing_in (contents ++ new None bytes ∷ [])) (newest_ids (contents ++ new None bytes ∷ []) l))) (append-nil order)
      ∙ same_edited (new None bytes)
  new_ids (Some id) bytes present =
      let c = new (Some id) bytes in
      ap (λ b. from_entries {R = cell_cmp} (entries_by (id_at (contents ++ c ∷ [])) (standing_in (contents ++ c ∷ [])) (newest_ids (contents ++ c ∷ []) (order ++ cond b [] (length contents ∷ []))))) (present id refl)
      ∙ (newest_put cells_total cell_cmp-IsAntisymmetric (id_at contents) (id_at (contents ++ c ∷ [])) (standing_in contents) (standing_in (contents ++ c ∷ [])) order (keys c) (standings c) (length contents)
      ∙ ap (λ (x : Content). with_value (from_entries {R = cell_cmp} (entries_by (id_at contents) (standing_in contents) (newest_ids contents order))) x.id (if_edited x.standing)) (last_at c))

  new_id : (o : Option Cell) → ((id : Cell) → o ≡ Some id → is_null id ≡ false) → cond {A = Option Cell} (is_null (unwrap_or o Null)) None (Some (unwrap_or o Null)) ≡ o
  new_id None present = refl
  new_id (Some id) present = ap (λ b. cond {A = Option Cell} b None (Some id)) (present id refl)

  present_for : (bytes : List ℕ) (id : Cell) → id_for layout a bytes ≡ Some id → is_null id ≡ false
  present_for bytes id h = by layout h
    where
      by : (l : MbtType) → id_for l a bytes ≡ Some id → is_null id ≡ false
      by (Normalized view schema) h = text id h
        where
          text : (i : Cell) → Some (Text (digest a bytes)) ≡ Some i → is_null i ≡ false
          text Null h = cc
          text _ h = refl
      by _ h = cc

  -- the parts of a tile that is put with new contents
  abbrev same_keys : All (λ t. place_of t ≡ place_of t) tiles
  same_keys = always place_of place_of tiles (λ x. refl)

  value_put : (c : Content) (coord : Coord) → tiles_held (tile_value (contents ++ c ∷ [])) (newest_tiles (tiles ++ put coord ∷ [])) ≡ with_value (tiles_held (tile_value contents) (newest_tiles tiles)) (place_at coord) (contents_of c.cell)
  value_put c coord =
      newest_put places_total places_antisymmetric place_of place_of (tile_value contents) (tile_value (contents ++ c ∷ [])) tiles same_keys (values c) (put coord)
      ∙ ap (λ (x : Content). with_value (tiles_held (tile_value contents) (newest_tiles tiles)) (place_at coord) (contents_of x.cell)) (last_at c)

  id_put : (c : Content) (coord : Coord) → tiles_held (tile_id (contents ++ c ∷ [])) (newest_tiles (tiles ++ put coord ∷ [])) ≡ with_value (tiles_held (tile_id contents) (newest_tiles tiles)) (place_at coord) (cond (is_null c.id) None (Some c.id))
  id_put c coord =
      newest_put places_total places_antisymmetric place_of place_of (tile_id contents) (tile_id (contents ++ c ∷ [])) tiles same_keys (named c) (put coord)
      ∙ ap (λ (x : Content). with_value (tiles_held (tile_id contents) (newest_tiles tiles)) (place_at coord) (cond (is_null x.id) None (Some x.id))) (last_at c)

  other_put : {V : Type 0} (value : StoredTile → Option V) (coord : Coord) → tiles_held value (newest_tiles (tiles ++ put coord ∷ [])) ≡ with_value (tiles_held value (newest_tiles tiles)) (place_at coord) (value (put coord))
  other_put value coord = newest_put places_total places_antisymmetric place_of place_of value value tiles same_keys (always value value tiles (λ x. refl)) (put coord)

  -- bytes that are put at a coordinate
  pub held_put : (coord : Coord) (bytes : List ℕ) → held_of layout a p (contents ++ new (id_for layout a bytes) bytes ∷ []) (newest_ids (contents ++ new (id_for layout a bytes) bytes ∷ []) (order ++ listed (is_null (unwrap_or (id_for layout a bytes) Null)) (length contents))) (newest_tiles (tiles ++ put coord ∷ [])) (newest_names names) ≡ with_tile held (place_at coord) bytes
  held_put coord bytes =
      let o = id_for layout a bytes in
      let c = new o bytes in
      parts_same layout a p _ _ _ _ _ _ _ _ _ _ _ _ _ _ _ _
      (value_put c coord)
      refl
      (id_put c coord ∙ ap (with_value (tiles_held (tile_id contents) (newest_tiles tiles)) (place_at coord)) (new_id o (present_for bytes)))
      (new_contents o bytes (present_for bytes))
      (other_put tile_dates coord)
      (other_put (λ t. if_edited t.standing) coord)
      (new_ids o bytes (present_for bytes))
      refl

  -- null that is put at a coordinate
  abbrev null : Content
  null = record { id = Null; cell = Null; standing = Put }

  pub held_null : (coord : Coord) → held_of layout a p (contents ++ null ∷ []) (newest_ids (contents ++ null ∷ []) order) (newest_tiles (tiles ++ put coord ∷ [])) (newest_names names) ≡ with_null held (place_at coord)
  held_null coord =
      parts_same layout a p _ _ _ _ _ _ _ _ _ _ _ _ _ _ _ _
      (value_put null coord)
      refl
      (id_put null coord)
      (same_contents null)
      (other_put tile_dates coord)
      (other_put (λ t. if_edited t.standing) coord)
      (same_edited null)
      refl

  -- the same of what a call leaves
  pub put_view : (coord : Coord) (bytes given : List ℕ) (id : Cell) (null : Bool) (index : ℕ) (d : Option Dates) (contents' : List Content) (order' : List ℕ) (tiles' : List StoredTile) → given ≡ bytes → id ≡ unwrap_or (id_for layout a given) Null → null ≡ is_null id → index ≡ length contents → d ≡ dates_for layout → contents' ≡ contents ++ record { id = id; cell = Blob bytes; standing = Put } ∷ [] → order' ≡ order ++ listed null index → tiles' ≡ tiles ++ record { coord = coord; contents = index; dates = d; standing = Put } ∷ [] → held_of layout a p contents' (newest_ids contents' order') (newest_tiles tiles') (newest_names names) ≡ with_tile held (place_at coord) bytes
  put_view coord bytes given id null index d contents' order' tiles' g i n k e c o t = rw (c, o, t, e, n, k, i, g) (held_put coord bytes)

  pub null_view : (coord : Coord) (c : Content) (index : ℕ) (d : Option Dates) (contents' : List Content) (tiles' : List StoredTile) → c ≡ null → index ≡ length contents → d ≡ dates_for layout → contents' ≡ contents ++ c ∷ [] → tiles' ≡ tiles ++ record { coord = coord; contents = index; dates = d; standing = Put } ∷ [] → held_of layout a p contents' (newest_ids contents' order) (newest_tiles tiles') (newest_names names) ≡ with_null held (place_at coord)
  null_view coord c index d contents' tiles' n k e m t = rw (m, t, e, k, n) (held_null coord)

  pub put_whole : (t : StoredTile) (c : Content) (contents' : List Content) (tiles' : List StoredTile) → is_some (contents_of c.cell) ≡ true → t.contents ≡ length contents → contents' ≡ contents ++ c ∷ [] → tiles' ≡ tiles ++ t ∷ [] → All (IsTile contents') tiles'
  put_whole t c contents' tiles' whole_one k m e =
      rw (m, e) (All-push (IsTile (contents ++ c ∷ [])) tiles t (All-weaker (IsTile contents) (IsTile (contents ++ c ∷ [])) (tile_kept contents c) tiles whole)
      (λ live. ap (λ i. is_some (contents_of (content_at (contents ++ c ∷ []) i).cell)) k ∙ (ap (λ (x : Content). is_some (contents_of x.cell)) (last_at c) ∙ whole_one)))

  pub kept_ids : (c : Content) (contents' : List Content) → contents' ≡ contents ++ c ∷ [] → All (HasId contents') order
  kept_ids c contents' m = rw m (All-weaker (HasId contents) (HasId (contents ++ c ∷ [])) (id_kept contents c) order ids)

  pub put_ids : (bytes : List ℕ) (id : Cell) (null : Bool) (index : ℕ) (contents' : List Content) (order' : List ℕ) → null ≡ is_null id → index ≡ length contents → contents' ≡ contents ++ record { id = id; cell = Blob bytes; standing = Put } ∷ [] → order' ≡ order ++ listed null index → All (HasId contents') order'
  put_ids bytes id null index contents' order' n k c o = rw (c, o) (by null n)
    where
      x : Content
      x = record { id = id; cell = Blob bytes; standing = Put }

      kept : All (HasId (contents ++ x ∷ [])) order
      kept = All-weaker (HasId contents) (HasId (contents ++ x ∷ [])) (id_kept contents x) order ids

      by : (b : Bool) → b ≡ is_null id → All (HasId (contents ++ x ∷ [])) (order ++ listed b index)
      by true e = subst (All (HasId (contents ++ x ∷ []))) (sym (append-nil order)) kept
      by false e = All-push (HasId (contents ++ x ∷ [])) order index kept (ap (λ i. is_null (id_at (contents ++ x ∷ []) i)) k ∙ (ap (λ (x : Content). is_null x.id) (last_at x) ∙ sym e))

  pub put_dated : (t : StoredTile) (tiles' : List StoredTile) → All (IsDated layout) tiles → t.dates ≡ dates_for layout → tiles' ≡ tiles ++ t ∷ [] → All (IsDated layout) tiles'
  put_dated t tiles' dated d e = rw e (All-push (IsDated layout) tiles t dated (λ live. ap is_some d ∙ dates_some layout))

-- marks and names
module _ (layout : MbtType) (a : HashAlgorithm) (p : Option PatchType) (contents : List Content) (order : List ℕ) (tiles : List StoredTile) (names : List StoredName) where
  abbrev kept : Held
  kept = held_of layout a p contents (newest_ids contents order) (newest_tiles tiles) (newest_names names)

  pub one_more : {V : Type 0} (value : StoredTile → Option V) (t : StoredTile) → tiles_held value (newest_tiles (tiles ++ t ∷ [])) ≡ with_value (tiles_held value (newest_tiles tiles)) (place_of t) (value t)
  one_more value t = newest_put places_total places_antisymmetric place_of place_of value value tiles (always place_of place_of tiles (λ x. refl)) (always value value tiles (λ x. refl)) t

  -- a mark at a coordinate
  pub held_gone : (coord : Coord) (tiles' : List StoredTile) → tiles' ≡ tiles ++ record { coord = coord; contents = 0; dates = None; standing = Removed } ∷ [] → held_of layout a p contents (newest_ids contents order) (newest_tiles tiles') (newest_names names) ≡ removed_tile kept (place_at coord)
  held_gone coord tiles' e =
      let t : StoredTile = record { coord = coord; contents = 0; dates = None; standing = Removed } in
      rw e (parts_same layout a p _ _ _ _ _ _ _ _ _ _ _ _ _ _ _ _
      (one_more (tile_value contents) t) refl (one_more (tile_id contents) t) refl (one_more tile_dates t) (one_more (λ t. if_edited t.standing) t) refl refl)

  pub gone_whole : (coord : Coord) (tiles' : List StoredTile) → All (IsTile contents) tiles → tiles' ≡ tiles ++ record { coord = coord; contents = 0; dates = None; standing = Removed } ∷ [] → All (IsTile contents) tiles'
  gone_whole coord tiles' whole e = rw e (All-push (IsTile contents) tiles (record { coord = coord; contents = 0; dates = None; standing = Removed }) whole (λ live. absurd (false≢true (sym live))))

  pub gone_dated : (coord : Coord) (tiles' : List StoredTile) → All (IsDated layout) tiles → tiles' ≡ tiles ++ record { coord = coord; contents = 0; dates = None; standing = Removed } ∷ [] → All (IsDated layout) tiles'
  gone_dated coord tiles' dated e = rw e (All-push (IsDated layout) tiles (record { coord = coord; contents = 0; dates = None; standing = Removed }) dated (λ live. absurd (false≢true (sym live))))

  one_name : {V : Type 0} (value : StoredName → Option V) (n : StoredName) → from_entries {R = slice_cmp nat_cmp} (entries_by name_of value (newest_names (names ++ n ∷ []))) ≡ with_value (from_entries (entries_by name_of value (newest_names names))) n.name (value n)
  one_name value n = newest_put nat_list_cmp_total names_antisymmetric name_of name_of value value names (always name_of name_of names (λ x. refl)) (always value value names (λ x. refl)) n

  -- a value under a name, or a mark
  pub held_named : (name : List ℕ) (value : Cell) (names' : List StoredName) → names' ≡ names ++ record { name = name; value = value; standing = Put } ∷ [] → held_of layout a p contents (newest_ids contents order) (newest_tiles tiles) (newest_names names') ≡ with_name kept name (text_of value)
  held_named name value names' e =
      let n : StoredName = record { name = name; value = value; standing = Put } in
      rw e (parts_same layout a p _ _ _ _ _ _ _ _ _ _ _ _ _ _ _ _
      refl (one_name name_value n) refl refl refl refl refl (one_name (λ n. if_edited n.standing) n))

  pub held_unnamed : (name given : List ℕ) (names' : List StoredName) → given ≡ name → names' ≡ names ++ record { name = given; value = Null; standing = Removed } ∷ [] → held_of layout a p contents (newest_ids contents order) (newest_tiles tiles) (newest_names names') ≡ removed_name kept name
  held_unnamed name given names' same e =
      let n : StoredName = record { name = name; value = Null; standing = Removed } in
      rw (e, same) (parts_same layout a p _ _ _ _ _ _ _ _ _ _ _ _ _ _ _ _
      refl (one_name name_value n) refl refl refl refl refl (one_name (λ n. if_edited n.standing) n))

  pub named_texts : (n : StoredName) (names' : List StoredName) → All IsName names → IsName n → names' ≡ names ++ n ∷ [] → All IsName names'
  named_texts n names' all here e = rw e (All-push IsName names n all here)

  -- tiles, contents and names put in order
  pub held_settled : (contents' : List Content) (order' : List ℕ) (tiles' : List StoredTile) (names' : List StoredName) → contents' ≡ contents
      → StandsAs cell_cmp (id_at contents) (newest_ids contents order) order' → Apart cell_cmp (id_at contents) order'
      → StandsAs place_cmp place_of (newest_tiles tiles) tiles' → Apart place_cmp place_of tiles'
      → StandsAs (slice_cmp nat_cmp) name_of (newest_names names) names' → Apart (slice_cmp nat_cmp) name_of names'
      → held_of layout a p contents' order' tiles' names' ≡ kept
  held_settled contents' order' tiles' names' same o oa t ta n na =
      ap (λ l. held_of layout a p l order' tiles' names') same
      ∙ parts_same layout a p _ _ _ _ _ _ _ _ _ _ _ _ _ _ _ _
      (by_tile (tile_value contents)) (by_name name_value) (by_tile (tile_id contents)) (by_id (content_value contents)) (by_tile tile_dates) (by_tile (λ t. if_edited t.standing)) (by_id (λ i. if_edited (content_at contents i).standing)) (by_name (λ n. if_edited n.standing))
    where
      by_tile : {V : Type 0} (value : StoredTile → Option V) → tiles_held value tiles' ≡ tiles_held value (newest_tiles tiles)
      by_tile value = stands_map places_total places_antisymmetric place_of value (newest_tiles tiles) tiles' t (newest_apart places_total place_of tiles) ta

      by_id : {V : Type 0} (value : ℕ → Option V) → from_entries {R = cell_cmp} (entries_by (id_at contents) value order') ≡ from_entries (entries_by (id_at contents) value (newest_ids contents order))
      by_id value = stands_map cells_total cell_cmp-IsAntisymmetric (id_at contents) value (newest_ids contents order) order' o (newest_apart cells_total (id_at contents) order) oa

      by_name : {V : Type 0} (value : StoredName → Option V) → from_entries {R = slice_cmp nat_cmp} (entries_by name_of value names') ≡ from_entries (entries_by name_of value (newest_names names))
      by_name value = stands_map nat_list_cmp_total names_antisymmetric name_of value (newest_names names) names' n (newest_apart nat_list_cmp_total name_of names) na

  -- a set in order, opened
  pub held_opened : Apart cell_cmp (id_at contents) order → Apart place_cmp place_of tiles → Apart (slice_cmp nat_cmp) name_of names → kept ≡ held_of layout a p contents order tiles names
  held_opened o t n =
      parts_same layout a p _ _ _ _ _ _ _ _ _ _ _ _ _ _ _ _
      (newest_of_apart places_total places_antisymmetric place_of (tile_value contents) tiles t)
      (newest_of_apart nat_list_cmp_total names_antisymmetric name_of name_value names n)
      (newest_of_apart places_total places_antisymmetric place_of (tile_id contents) tiles t)
      (newest_of_apart cells_total cell_cmp-IsAntisymmetric (id_at contents) (content_value contents) order o)
      (newest_of_apart places_total places_antisymmetric place_of tile_dates tiles t)
      (newest_of_apart places_total places_antisymmetric place_of (λ t. if_edited t.standing) tiles t)
      (newest_of_apart cells_total cell_cmp-IsAntisymmetric (id_at contents) (λ i. if_edited (content_at contents i).standing) order o)
      (newest_of_apart nat_list_cmp_total names_antisymmetric name_of (λ n. if_edited n.standing) names n)

-- what holds of all items holds of those that are some of them
pub all_from : {X : Type 0} (P : X → Type 0) (xs ys : List X) → All P xs → All (Contains xs) ys → All P ys
all_from P xs ys all from = λ k d lt. All-contains P xs (get_or ys k d) all (from k d lt)
