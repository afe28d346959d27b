-- Tables that a set was loaded from are so of the edited set, too.
use Rattle.mb_load.proofs.Common.{ap, AreTimes, at_place, Blob, Bool, Cell, cell_cmp, cell_cmp-IsAntisymmetric, cell_eq, cells_total, cond, contains_key, Contents, contents_of, Dates, dates_are}
use Rattle.mb_load.proofs.Common.{dates_for, dates_in, dates_some, DedupId, digest, entries, entries_sorted, eq_by_cmp, equal_of, false, false≢true, FinMap, FitsPlace, found, get, get-entries}
use Rattle.mb_load.proofs.Common.{get-insert, get-remove, Hash, HashAlgorithm, Held, id_for, id_in, inl, inr, insert, is_cache, is_editable, is_eq, is_lt, is_named, is_normalized, is_some}
use Rattle.mb_load.proofs.Common.{IsContentOf, IsFree, IsLoadable, IsLoadedFrom, IsOnBoard, IsTotalOrder, List, list_any, MbtType, nat_cmp, nat_list_cmp_total, None, none-some, Normalized, not}
use Rattle.mb_load.proofs.Common.{only_referenced, Option, option_and_then, option_map, option_or, option_to_list, or-true, Ordering, Place, place_cmp, places_total, refl, remove, removed_name}
use Rattle.mb_load.proofs.Common.{removed_tile, same_place, same_Some, slice_cmp, Some, State, subst, sym, T, Tables, Text, text_cell, there, tied_itself, tile_in, true, with_content, with_key}
use Rattle.mb_load.proofs.Common.{with_name, with_tile, with_value, without_name, without_tile, ℕ, [], ◌&&◌, ◌||◌, ◌∙◌, ◌∷◌, ◌≡◌, ◌⊎◌}
use Rattle.std.specs.declared.cmp.Ordering.TheVariants.{Less}
use Rattle.std.specs.FinMap as fin
use Rattle.std.specs.FinMap.Entries.{below_all}
use Rattle.mb_loaded.proofs.DroppedHeld.{any_unit, contents_with, edited_with}
use Rattle.mb_loaded.proofs.EditMaps.{get-with_value}
use Rattle.mb_load.proofs.PutRowLemmas.{digest_right, id_known}

-- a key that isn't among one more key isn't that key, and wasn't there
left_by : (b : Bool) (o : Option (Unit {0})) → is_some (cond b (Some tt) o) ≡ false → (b ≡ false) × (is_some o ≡ false)
left_by true o h = absurd (false≢true (sym h))
left_by false o h = (refl, h)

pub at_other : {A : Type 0} (b : Bool) (x y : A) → b ≡ false → cond b x y ≡ y
at_other b x y h = ap (λ b. cond b x y) h

pub unedited : {K : Type 0} {R : K → K → Ordering} (total : IsTotalOrder R) (m : FinMap R (Unit {0})) (k q : K) → contains_key (insert m k tt) q ≡ false → (eq_by_cmp R q k ≡ false) × (contains_key m q ≡ false)
unedited {R = R} total m k q h = left_by (eq_by_cmp R q k) (get m q) (ap is_some (sym (get-insert total m k tt q)) ∙ h)

-- rows that fit a state fit another that has the same at the place
pub fits_same : (s s' : State) (p : Place) (rows : List (List Cell)) → s'.layout ≡ s.layout → get s'.tiles p ≡ get s.tiles p → get s'.ids p ≡ get s.ids p → get s'.dates p ≡ get s.dates p → FitsPlace s p rows → FitsPlace s' p rows
fits_same s s' p rows l t i d fits = record {
  alone = fits.alone;
  tile = λ flat. ap (λ l. found (tile_in l []) p rows) l ∙ (fits.tile (ap is_normalized (sym l) ∙ flat) ∙ sym t);
  id = ap (λ l. found (at_place (id_in l)) p rows) l ∙ (fits.id ∙ sym i);
  dates = ap (λ l. found (at_place (dates_in l)) p rows) l ∙ (fits.dates ∙ sym d);
}

pub by_test : {A : Type 0} (b : Bool) → (b ≡ true → A) → (b ≡ false → A) → A
by_test true f g = f refl
by_test false f g = g refl

-- of two tests that agree in a set, and at a place
pub put_placed : (b : Bool) (l c : Bool) (x y : Bool) → l ≡ c → x ≡ (c && y) → cond b l x ≡ (c && cond b true y)
put_placed true l true x y e f = e
put_placed true l false x y e f = e
put_placed false l c x y e f = f

-- a value that is put at a place
module _ (p : Place) where
  pub put_at : {V : Type 0} (m : FinMap place_cmp V) (o : Option V) (q : Place) → get (with_value m p o) q ≡ cond (eq_by_cmp place_cmp q p) o (get m q)
  put_at m o q = get-with_value places_total m p o q

  pub put_key : {V : Type 0} (m : FinMap place_cmp V) (o : Option V) (q : Place) → contains_key (with_value m p o) q ≡ cond (eq_by_cmp place_cmp q p) (is_some o) (contains_key m q)
  put_key m o q = ap is_some (put_at m o q) ∙ by (eq_by_cmp place_cmp q p)
    where
      by : (b : Bool) → is_some (cond b o (get m q)) ≡ cond b (is_some o) (contains_key m q)
      by true = refl
      by false = refl

-- names
module _ (t : Tables) (h : Held) (name : List ℕ) (loaded : IsLoadedFrom t h) where
  named : (o : Option (Option (List ℕ))) → (q : List ℕ) → contains_key (insert h.edited.names name tt) q ≡ false → get (with_value h.state.metadata name o) q ≡ get h.state.metadata q
  named o q left = get-with_value nat_list_cmp_total h.state.metadata name o q ∙ at_other (eq_by_cmp (slice_cmp nat_cmp) q name) o (get h.state.metadata q) (unedited nat_list_cmp_total h.edited.names name q left).0

  by_name : (o : Option (Option (List ℕ))) → IsLoadedFrom t (record { state = record h.state { metadata = with_value h.state.metadata name o }; edited = record h.edited { names = insert h.edited.names name tt } })
  by_name o = record {
    layout = loaded.layout;
    patch_type = loaded.patch_type;
    described = loaded.described;
    indexed = loaded.indexed;
    state = record {
      on_board = loaded.state.on_board;
      placed = loaded.state.placed;
      joined = loaded.state.joined;
      stored = loaded.state.stored;
      dated = loaded.state.dated;
      times = loaded.state.times;
    };
    with_ids = loaded.with_ids;
    tiles = λ p left. fits_same h.state (record h.state { metadata = with_value h.state.metadata name o }) p _ refl refl refl refl (loaded.tiles p left);
    contents = loaded.contents;
    names = λ q left. loaded.names q (unedited nat_list_cmp_total h.edited.names name q left).1 ∙ ap (λ v. option_to_list (option_map (λ v. Text q ∷ text_cell v ∷ []) v)) (sym (named o q left));
    tile_rows = loaded.tile_rows;
    content_rows = loaded.content_rows;
    name_rows = loaded.name_rows;
  }

pub from_with_name : (t : Tables) (h : Held) (name : List ℕ) (value : Option (List ℕ)) → IsLoadedFrom t h → IsLoadedFrom t (with_name h name value)
from_with_name t h name value loaded = by_name t h name loaded (Some value)

pub from_removed_name : (t : Tables) (h : Held) (name : List ℕ) → IsLoadedFrom t h → IsLoadedFrom t (removed_name h name)
from_removed_name t h name loaded = by_name t h name loaded None

pub from_without_name : (t : Tables) (h : Held) (name : List ℕ) → IsLoadedFrom t h → IsLoadedFrom t (without_name h name)
from_without_name t h name loaded = elim (contains_key h.state.metadata name) as (λ b. IsLoadedFrom t (cond b (removed_name h name) h)) [ true ↦ from_removed_name t h name loaded | false ↦ loaded ]

-- a tile that is removed
module _ (t : Tables) (h : Held) (p : Place) (loaded : IsLoadedFrom t h) where
  gone_at : {V : Type 0} (m : FinMap place_cmp V) (q : Place) → get (remove m p) q ≡ cond (eq_by_cmp place_cmp q p) None (get m q)
  gone_at m q = get-remove places_total m p q

  gone_key : {V : Type 0} (m : FinMap place_cmp V) (q : Place) → contains_key (remove m p) q ≡ cond (eq_by_cmp place_cmp q p) false (contains_key m q)
  gone_key m q = ap is_some (gone_at m q) ∙ by (eq_by_cmp place_cmp q p)
    where
      by : (b : Bool) → is_some (cond b None (get m q)) ≡ cond b false (contains_key m q)
      by true = refl
      by false = refl

  kept_key : {V : Type 0} (m : FinMap place_cmp V) (q : Place) → contains_key (remove m p) q ≡ true → contains_key m q ≡ true
  kept_key m q k = by (eq_by_cmp place_cmp q p) (sym (gone_key m q) ∙ k)
    where
      by : (b : Bool) → cond b false (contains_key m q) ≡ true → contains_key m q ≡ true
      by true k = absurd (false≢true k)
      by false k = k

  both_gone : (b c : Bool) (x y : Bool) → x ≡ (c && y) → cond b false x ≡ (c && cond b false y)
  both_gone true true x y e = refl
  both_gone true false x y e = refl
  both_gone false c x y e = e

  gone_state : IsLoadable (removed_tile h p).state
  gone_state = record {
    on_board = λ q k. loaded.state.on_board q (kept_key h.state.tiles q k);
    placed = λ q. gone_key h.state.ids q ∙ (both_gone (eq_by_cmp place_cmp q p) (is_normalized h.state.layout) (contains_key h.state.ids q) (contains_key h.state.tiles q) (loaded.state.placed q) ∙ ap (λ b. is_normalized h.state.layout && b) (sym (gone_key h.state.tiles q)));
    joined = λ n q. gone_at h.state.tiles q ∙ (through q (eq_by_cmp place_cmp q p) (loaded.state.joined n q) ∙ ap (option_and_then (λ id. option_and_then contents_of (get h.state.contents id))) (sym (gone_at h.state.ids q)));
    stored = loaded.state.stored;
    dated = λ q. gone_key h.state.dates q ∙ (both_gone (eq_by_cmp place_cmp q p) (is_cache h.state.layout) (contains_key h.state.dates q) (contains_key h.state.tiles q) (loaded.state.dated q) ∙ ap (λ b. is_cache h.state.layout && b) (sym (gone_key h.state.tiles q)));
    times = λ q d k. loaded.state.times q d (kept_value (eq_by_cmp place_cmp q p) (get h.state.dates q) d (sym (gone_at h.state.dates q) ∙ k));
  }
    where
      through : (q : Place) (b : Bool) → get h.state.tiles q ≡ option_and_then (λ id. option_and_then contents_of (get h.state.contents id)) (get h.state.ids q) → cond b None (get h.state.tiles q) ≡ option_and_then (λ id. option_and_then contents_of (get h.state.contents id)) (cond b None (get h.state.ids q))
      through q true e = refl
      through q false e = e

      kept_value : {V : Type 0} (b : Bool) (o : Option V) (d : V) → cond b None o ≡ Some d → o ≡ Some d
      kept_value true o d k = cc
      kept_value false o d k = k

  pub from_removed_tile : IsLoadedFrom t (removed_tile h p)
  from_removed_tile = record {
    layout = loaded.layout;
    patch_type = loaded.patch_type;
    described = loaded.described;
    indexed = loaded.indexed;
    state = gone_state;
    with_ids = loaded.with_ids;
    tiles = λ q left.
        let two = unedited places_total h.edited.places p q left in
        fits_same h.state (removed_tile h p).state q _ refl (gone_at h.state.tiles q ∙ at_other _ None (get h.state.tiles q) two.0) (gone_at h.state.ids q ∙ at_other _ None (get h.state.ids q) two.0) (gone_at h.state.dates q ∙ at_other _ None (get h.state.dates q) two.0) (loaded.tiles q two.1);
    contents = loaded.contents;
    names = loaded.names;
    tile_rows = loaded.tile_rows;
    content_rows = loaded.content_rows;
    name_rows = loaded.name_rows;
  }

pub from_without_tile : (t : Tables) (h : Held) (p : Place) → IsLoadedFrom t h → IsLoadedFrom t (without_tile h p)
from_without_tile t h p loaded = elim (contains_key h.state.tiles p) as (λ b. IsLoadedFrom t (cond b (removed_tile h p) h)) [ true ↦ from_removed_tile t h p loaded | false ↦ loaded ]

-- bytes that are put
id_some : (l : MbtType) (a : HashAlgorithm) (bytes : List ℕ) → is_some (id_for l a bytes) ≡ is_normalized l
id_some (Normalized view schema) a bytes = refl
id_some _ a bytes = refl

id_is : (l : MbtType) (a : HashAlgorithm) (bytes : List ℕ) (id : Cell) → id_for l a bytes ≡ Some id → id ≡ Text (digest a bytes)
id_is (Normalized view schema) a bytes id h = let e : Text (digest a bytes) ≡ id = cc in sym e
id_is _ a bytes id h = cc

stored_under : (l : MbtType) (a : HashAlgorithm) (bytes : List ℕ) → is_editable l ≡ true → is_normalized l ≡ true → IsContentOf l a (Text (digest a bytes)) (Blob bytes)
stored_under (Normalized view Hash) a bytes e n = record { normalised = refl; present = refl; kind = refl; digest = digest_right a bytes }
stored_under (Normalized view DedupId) a bytes e n = absurd (false≢true e)
stored_under _ a bytes e n = absurd (false≢true n)

module _ (t : Tables) (h : Held) (p : Place) (bytes : List ℕ) (on : IsOnBoard p) (editable : is_editable h.state.layout ≡ true) (free : IsFree h.state bytes) (loaded : IsLoadedFrom t h) where
  abbrev s : State
  s = h.state

  abbrev id : Option Cell
  id = id_for s.layout s.algorithm bytes

  abbrev contents : Contents
  contents = with_content s.contents id bytes

  tile_key' : (q : Place) → contains_key (insert s.tiles p (Some bytes)) q ≡ cond (eq_by_cmp place_cmp q p) true (contains_key s.tiles q)
  tile_key' q = put_key p s.tiles (Some (Some bytes)) q

  -- the contents of an id: the bytes under their own, and under each other what was there
  content_at : (o : Option Cell) → ((i : Cell) → o ≡ Some i → i ≡ Text (digest s.algorithm bytes)) → (i : Cell) → (get (with_content s.contents o bytes) i ≡ get s.contents i) ⊎ ((o ≡ Some i) × (get (with_content s.contents o bytes) i ≡ Some (Blob bytes)))
  content_at None is i = inl refl
  content_at (Some k) is i = by_test (eq_by_cmp cell_cmp i k)
      (λ e. let same : i ≡ k = cell_cmp-IsAntisymmetric i k (equal_of (cell_cmp i k) e) in inr (ap Some (sym same), get-insert cells_total s.contents k (Blob bytes) i ∙ ap (λ b. cond b (Some (Blob bytes)) (get s.contents i)) e))
      (λ e. inl (get-insert cells_total s.contents k (Blob bytes) i ∙ at_other (eq_by_cmp cell_cmp i k) (Some (Blob bytes)) (get s.contents i) e))

  -- contents that were there stay
  contents_stay : (i cell : Cell) → get s.contents i ≡ Some cell → get contents i ≡ Some cell
  contents_stay i cell e = elim (content_at id (id_is s.layout s.algorithm bytes) i) [
    | inl same ↦ same ∙ e
    | inr two ↦
        let k : i ≡ Text (digest s.algorithm bytes) = id_is s.layout s.algorithm bytes i two.0 in
        two.1 ∙ ap Some (sym (free cell (ap (get s.contents) (sym k) ∙ e)))
  ]

  new_content : (i : Cell) → id ≡ Some i → get contents i ≡ Some (Blob bytes)
  new_content i e = elim (content_at id (id_is s.layout s.algorithm bytes) i) [
    | inl same ↦ ap (λ o. get (with_content s.contents o bytes) i) e ∙ (get-insert cells_total s.contents i (Blob bytes) i ∙ ap (λ b. cond b (Some (Blob bytes)) (get s.contents i)) (itself i))
    | inr two ↦ two.1
  ]
    where
      itself : (i : Cell) → eq_by_cmp cell_cmp i i ≡ true
      itself i = ap is_eq (tied_itself cells_total i)

  put_joined : is_normalized s.layout ≡ true → (q : Place) → get (insert s.tiles p (Some bytes)) q ≡ option_and_then (λ i. option_and_then contents_of (get contents i)) (get (with_value s.ids p id) q)
  put_joined n q = put_at p s.tiles (Some (Some bytes)) q ∙ (by (eq_by_cmp place_cmp q p) ∙ ap (option_and_then (λ i. option_and_then contents_of (get contents i))) (sym (put_at p s.ids id q)))
    where
      old : (o : Option Cell) → get s.ids q ≡ o → get s.tiles q ≡ option_and_then (λ i. option_and_then contents_of (get contents i)) o
      old None e = loaded.state.joined n q ∙ ap (option_and_then (λ i. option_and_then contents_of (get s.contents i))) e
      old (Some i) e = let k = id_known s loaded.state q i e in k.2 ∙ ap (option_and_then contents_of) (sym (contents_stay i k.0 k.1))

      new : (o : Option Cell) → id ≡ o → is_some o ≡ true → Some (Some bytes) ≡ option_and_then (λ i. option_and_then contents_of (get contents i)) o
      new (Some i) e k = sym (ap (option_and_then contents_of) (new_content i e))
      new None e k = absurd (false≢true k)

      by : (b : Bool) → cond b (Some (Some bytes)) (get s.tiles q) ≡ option_and_then (λ i. option_and_then contents_of (get contents i)) (cond b id (get s.ids q))
      by true = new id refl (id_some s.layout s.algorithm bytes ∙ n)
      by false = old (get s.ids q) refl

  put_state : IsLoadable (with_tile h p bytes).state
  put_state = record {
    on_board = λ q k. by_test (eq_by_cmp place_cmp q p)
        (λ e. subst IsOnBoard (sym (same_place q p e)) on)
        (λ e. loaded.state.on_board q (sym (tile_key' q ∙ at_other (eq_by_cmp place_cmp q p) true (contains_key s.tiles q) e) ∙ k));
    placed = λ q. put_key p s.ids id q ∙ (put_placed (eq_by_cmp place_cmp q p) (is_some id) (is_normalized s.layout) (contains_key s.ids q) (contains_key s.tiles q) (id_some s.layout s.algorithm bytes) (loaded.state.placed q) ∙ ap (λ b. is_normalized s.layout && b) (sym (tile_key' q)));
    joined = put_joined;
    stored = λ i cell e. elim (content_at id (id_is s.layout s.algorithm bytes) i) [
      | inl same ↦ loaded.state.stored i cell (sym same ∙ e)
      | inr two ↦
          let n : is_normalized s.layout ≡ true = sym (id_some s.layout s.algorithm bytes) ∙ ap is_some two.0 in
          let c : Blob bytes ≡ cell = same_Some (Blob bytes) cell (sym two.1 ∙ e) in
          subst (λ i. IsContentOf s.layout s.algorithm i cell) (sym (id_is s.layout s.algorithm bytes i two.0)) (subst (IsContentOf s.layout s.algorithm (Text (digest s.algorithm bytes))) c (stored_under s.layout s.algorithm bytes editable n))
    ];
    dated = λ q. put_key p s.dates (dates_for s.layout) q ∙ (put_placed (eq_by_cmp place_cmp q p) (is_some (dates_for s.layout)) (is_cache s.layout) (contains_key s.dates q) (contains_key s.tiles q) (dates_some s.layout) (loaded.state.dated q) ∙ ap (λ b. is_cache s.layout && b) (sym (tile_key' q)));
    times = λ q d e. times_at (eq_by_cmp place_cmp q p) q d (sym (put_at p s.dates (dates_for s.layout) q) ∙ e);
  }
    where
      times_at : (b : Bool) (q : Place) (d : Dates) → cond b (dates_for s.layout) (get s.dates q) ≡ Some d → AreTimes d
      times_at true q d e = dates_are s.layout d e
      times_at false q d e = loaded.state.times q d e

  -- ids that aren't edited by it
  unkeyed : (o : Option Cell) (i : Cell) → contains_key (with_key h.edited.ids o) i ≡ false → ((o ≡ Some i) → ⊥) × (contains_key h.edited.ids i ≡ false)
  unkeyed None i left = (λ e. none-some i e, left)
  unkeyed (Some k) i left =
      let two = unedited cells_total h.edited.ids k i left in
      (λ e. false≢true (sym two.0 ∙ (ap (eq_by_cmp cell_cmp i) (same_Some k i e) ∙ ap is_eq (tied_itself cells_total i))), two.1)

  keyed : (o : Option Cell) → is_some o ≡ is_normalized s.layout → (i : Cell) → contains_key (with_key h.edited.ids o) i ≡ true → is_normalized s.layout ≡ true
  keyed None e i k = loaded.with_ids i k
  keyed (Some id) e i k = sym e

  pub from_with_tile : IsLoadedFrom t (with_tile h p bytes)
  from_with_tile = record {
    layout = loaded.layout;
    patch_type = loaded.patch_type;
    described = loaded.described;
    indexed = loaded.indexed;
    state = put_state;
    with_ids = keyed id (id_some s.layout s.algorithm bytes);
    tiles = λ q left.
        let two = unedited places_total h.edited.places p q left in
        fits_same s (with_tile h p bytes).state q _ refl (put_at p s.tiles (Some (Some bytes)) q ∙ at_other _ (Some (Some bytes)) (get s.tiles q) two.0) (put_at p s.ids id q ∙ at_other _ id (get s.ids q) two.0) (put_at p s.dates (dates_for s.layout) q ∙ at_other _ (dates_for s.layout) (get s.dates q) two.0) (loaded.tiles q two.1);
    contents = λ i key is left.
        let two = unkeyed id i left in
        loaded.contents i key is two.1 ∙ ap (λ o. option_to_list (option_map (λ cell. i ∷ cell ∷ []) o)) (sym (elim (content_at id (id_is s.layout s.algorithm bytes) i) as (λ _. get contents i ≡ get s.contents i) [ inl same ↦ same | inr here ↦ absurd (two.0 here.0) ]));
    names = loaded.names;
    tile_rows = loaded.tile_rows;
    content_rows = loaded.content_rows;
    name_rows = loaded.name_rows;
  }

-- contents that no tile has are dropped
holds_value : (p : Place) (id : Cell) (es : List (Place × Cell)) → fin.find place_cmp p es ≡ Some id → list_any (λ (e : Place × Cell). cell_eq e.1 id) es ≡ true
holds_value p id [] h = cc
holds_value p id (e ∷ es) h = by (eq_by_cmp place_cmp p e.0) h (holds_value p id es)
  where
    by : (b : Bool) → cond b (Some e.1) (fin.find place_cmp p es) ≡ Some id → (fin.find place_cmp p es ≡ Some id → list_any (λ (e : Place × Cell). cell_eq e.1 id) es ≡ true) → list_any (λ (e : Place × Cell). cell_eq e.1 id) (e ∷ es) ≡ true
    by true h rest =
        let same : e.1 ≡ id = cc in
        ap (λ c. cell_eq c id || list_any (λ (e : Place × Cell). cell_eq e.1 id) es) same ∙ ap (λ o. is_eq o || list_any (λ (e : Place × Cell). cell_eq e.1 id) es) (tied_itself cells_total id)
    by false h rest = ap (λ b. cell_eq e.1 id || b) (rest h) ∙ or-true (cell_eq e.1 id)

pub named_at : (ids : FinMap place_cmp Cell) (p : Place) (id : Cell) → get ids p ≡ Some id → is_named ids id ≡ true
named_at ids p id h = holds_value p id (entries ids) (sym (get-entries ids p) ∙ h)

module _ (t : Tables) (h : Held) (loaded : IsLoadedFrom t h) where
  abbrev stays : Cell → Bool
  stays = is_named h.state.ids

  kept_under : (id : Cell) → get (only_referenced h).state.contents id ≡ cond (stays id) (get h.state.contents id) None
  kept_under id = contents_with h.state.ids h.state.contents id

  -- contents that are left were there
  was_there : (b : Bool) (o : Option Cell) (cell : Cell) → cond b o None ≡ Some cell → o ≡ Some cell
  was_there true o cell e = e
  was_there false o cell e = cc

  either : (b : Bool) (o : Option Cell) (e : Option (Unit {0})) → is_some (option_or (any_unit (cond (not b) o None)) e) ≡ false → (cond b o None ≡ o) × (is_some e ≡ false)
  either false (Some c) e k = absurd (false≢true (sym k))
  either _ _ e k = (refl, k)

  one_of : (b : Bool) (o : Option Cell) (e : Option (Unit {0})) → is_some (option_or (any_unit (cond (not b) o None)) e) ≡ true → ((c : Cell) × (o ≡ Some c)) ⊎ (is_some e ≡ true)
  one_of false (Some c) e k = inl (c, refl)
  one_of _ _ e k = inr k

  left_state : IsLoadable (only_referenced h).state
  left_state = record {
    on_board = loaded.state.on_board;
    placed = loaded.state.placed;
    joined = λ n q. loaded.state.joined n q ∙ by q (get h.state.ids q) refl;
    stored = λ id cell e. loaded.state.stored id cell (was_there (stays id) (get h.state.contents id) cell (sym (kept_under id) ∙ e));
    dated = loaded.state.dated;
    times = loaded.state.times;
  }
    where
      by : (q : Place) (o : Option Cell) → get h.state.ids q ≡ o → option_and_then (λ id. option_and_then contents_of (get h.state.contents id)) o ≡ option_and_then (λ id. option_and_then contents_of (get (only_referenced h).state.contents id)) o
      by q None e = refl
      by q (Some id) e = ap (option_and_then contents_of) (sym (kept_under id ∙ ap (λ b. cond b (get h.state.contents id) None) (named_at h.state.ids q id e)))

  pub from_only_referenced : IsLoadedFrom t (only_referenced h)
  from_only_referenced = record {
    layout = loaded.layout;
    patch_type = loaded.patch_type;
    described = loaded.described;
    indexed = loaded.indexed;
    state = left_state;
    with_ids = λ id k. elim (one_of (stays id) (get h.state.contents id) (get h.edited.ids id) (ap is_some (sym (edited_with h.state.ids h.state.contents h.edited.ids id)) ∙ k)) [
      | inl there ↦ (loaded.state.stored id there.0 there.1).normalised
      | inr was ↦ loaded.with_ids id was
    ];
    tiles = λ q left. fits_same h.state (only_referenced h).state q _ refl refl refl refl (loaded.tiles q left);
    contents = λ id key is left.
        let two = either (stays id) (get h.state.contents id) (get h.edited.ids id) (ap is_some (sym (edited_with h.state.ids h.state.contents h.edited.ids id)) ∙ left) in
        loaded.contents id key is two.1 ∙ ap (λ o. option_to_list (option_map (λ cell. id ∷ cell ∷ []) o)) (sym (kept_under id ∙ two.0));
    names = loaded.names;
    tile_rows = loaded.tile_rows;
    content_rows = loaded.content_rows;
    name_rows = loaded.name_rows;
  }

-- contents of a tile's id stay, and those that stay are so
pub named_stay : (h : Held) (p : Place) (id : Cell) → get h.state.ids p ≡ Some id → get (only_referenced h).state.contents id ≡ get h.state.contents id
named_stay h p id e = contents_with h.state.ids h.state.contents id ∙ ap (λ b. cond b (get h.state.contents id) None) (named_at h.state.ids p id e)

both_of : (a b : Bool) → T (a && b) → T a × T b
both_of true b h = (tt, h)
both_of false b h = absurd h

pub less_apart : (o : Ordering) → T (is_lt o) → is_eq o ≡ false
less_apart Less h = refl
less_apart _ h = absurd h

find_below : (p : Place) (es : List (Place × Cell)) → T (below_all place_cmp p es) → fin.find place_cmp p es ≡ None
find_below p [] h = refl
find_below p (e ∷ es) h = let two = both_of (is_lt (place_cmp p e.0)) (below_all place_cmp p es) h in ap (λ b. cond b (Some e.1) (fin.find place_cmp p es)) (less_apart (place_cmp p e.0) two.0) ∙ find_below p es two.1

holder : (id : Cell) (es : List (Place × Cell)) → T (fin.is_sorted place_cmp es) → list_any (λ (e : Place × Cell). cell_eq e.1 id) es ≡ true → (p : Place) × (fin.find place_cmp p es ≡ Some id)
holder id [] sorted h = absurd (false≢true h)
holder id (e ∷ es) sorted h = by (cell_eq e.1 id) refl h (holder id es (both_of (below_all place_cmp e.0 es) (fin.is_sorted place_cmp es) sorted).1)
  where
    later : (p : Place) → fin.find place_cmp p es ≡ Some id → (b : Bool) → eq_by_cmp place_cmp p e.0 ≡ b → cond b (Some e.1) (fin.find place_cmp p es) ≡ Some id
    later p f false k = f
    later p f true k = absurd (not_there id (sym (find_below e.0 es (both_of (below_all place_cmp e.0 es) (fin.is_sorted place_cmp es) sorted).0) ∙ (ap (λ q. fin.find place_cmp q es) (sym (same_place p e.0 k)) ∙ f)))
      where
        not_there : (c : Cell) → None ≡ Some c → ⊥
        not_there c e = cc

    by : (b : Bool) → cell_eq e.1 id ≡ b → (b || list_any (λ (e : Place × Cell). cell_eq e.1 id) es) ≡ true → (list_any (λ (e : Place × Cell). cell_eq e.1 id) es ≡ true → (p : Place) × (fin.find place_cmp p es ≡ Some id)) → (p : Place) × (fin.find place_cmp p (e ∷ es) ≡ Some id)
    by true k h rest = (e.0, ap (λ o. cond (is_eq o) (Some e.1) (fin.find place_cmp e.0 es)) (tied_itself places_total e.0) ∙ ap Some (cell_cmp-IsAntisymmetric e.1 id (equal_of (cell_cmp e.1 id) k)))
    by false k h rest = let r = rest h in (r.0, later r.0 r.1 (eq_by_cmp place_cmp r.0 e.0) refl)

pub stay_named : (h : Held) (id cell : Cell) → get (only_referenced h).state.contents id ≡ Some cell → (p : Place) × (get h.state.ids p ≡ Some id)
stay_named h id cell e = by (is_named h.state.ids id) refl (sym (contents_with h.state.ids h.state.contents id) ∙ e)
  where
    by : (b : Bool) → is_named h.state.ids id ≡ b → cond b (get h.state.contents id) None ≡ Some cell → (p : Place) × (get h.state.ids p ≡ Some id)
    by true k e = let r = holder id (entries h.state.ids) (entries_sorted h.state.ids) k in (r.0, get-entries h.state.ids r.0 ∙ r.1)
    by false k e = cc
