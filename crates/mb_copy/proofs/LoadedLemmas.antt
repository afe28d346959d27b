-- A set into which another one is copied was loaded from the tables of its base.
use Rattle.mb_copy.proofs.Common.{all_times_put, ap, AreTimes, Bool, Cache, cond, contains_key, Dates, entries, entries_put, eq_by_cmp, false, false≢true, FinMap, from_last, get, get-entries}
use Rattle.mb_copy.proofs.Common.{get-over, Held, held_with, here, is_cache, is_eq, is_normalized, is_some, IsLoadedFrom, IsOnBoard, IsPutIn, later, List, may_put, MbtilesCopier, MbtType, merged}
use Rattle.mb_copy.proofs.Common.{name_put, Names, None, Normalized, null_at, null_put, nulls_put, Option, option_or, over, patched, Place, place_cmp, places_total, put_layout, put_loaded, refl, Some}
use Rattle.mb_copy.proofs.Common.{State, sym, Tables, tied_itself, tiles_put, TileSet, time_put, times_at, true, ℕ, [], ◌∙◌, ◌∷◌, ◌≡◌}
use Rattle.std.specs.FinMap as fin
use Rattle.mb_copy.proofs.NameStateLemmas.{Named}
use Rattle.mb_copy.proofs.TileStateLemmas.{nulls_state, times_state, tiles_with}
use Rattle.mb_copy.proofs.TouchLemmas.{Tile}
use Rattle.mb_load.proofs.EditedFrom.{from_with_name}
use Rattle.mb_load.proofs.NullFrom.{from_with_dates, from_with_null}

-- a fact of each place of a list
abbrev AtAll : (Place → Type 0) → List Tile → Type 0
AtAll P es = (p : Place) → is_some (fin.find place_cmp p es) ≡ true → P p

at_first : (P : Place → Type 0) (e : Tile) (es : List Tile) → AtAll P (e ∷ es) → P e.0
at_first P e es all = all e.0 (here (eq_by_cmp place_cmp e.0 e.0) e.1 (fin.find place_cmp e.0 es) (ap is_eq (tied_itself places_total e.0)))

at_rest : (P : Place → Type 0) (e : Tile) (es : List Tile) → AtAll P (e ∷ es) → AtAll P es
at_rest P e es all p h = all p (later (eq_by_cmp place_cmp p e.0) e.1 (fin.find place_cmp p es) h)

pub at_entries : (P : Place → Type 0) (put : TileSet) → ((p : Place) → contains_key put p ≡ true → P p) → AtAll P (entries put)
at_entries P put all p h = all p (ap is_some (get-entries put p) ∙ h)

module _ (t : Tables) where
  nulls_loaded : (h : Held) (es : List Tile) → AtAll IsOnBoard es → is_normalized h.state.layout ≡ false → IsLoadedFrom t h → IsLoadedFrom t (from_last null_put h es)
  nulls_loaded h [] on flat l = l
  nulls_loaded h (e ∷ es) on flat l = by e.1 (nulls_loaded h es (at_rest IsOnBoard e es on) flat l)
    where
      by : (o : Option (List ℕ)) → IsLoadedFrom t (from_last null_put h es) → IsLoadedFrom t (null_at (from_last null_put h es) e.0 o)
      by (Some bytes) l = l
      by None l = from_with_null t (from_last null_put h es) e.0 l (at_first IsOnBoard e es on) (ap (λ (s : State). is_normalized s.layout) (nulls_state h es) ∙ flat)

  times_loaded : (times : FinMap place_cmp Dates) (h : Held) (es : List Tile) → AtAll (λ p. contains_key h.state.tiles p ≡ true) es → ((p : Place) (d : Dates) → get times p ≡ Some d → AreTimes d) → h.state.layout ≡ Cache → IsLoadedFrom t h → IsLoadedFrom t (from_last (time_put times) h es)
  times_loaded times h [] there are cache l = l
  times_loaded times h (e ∷ es) there are cache l = by (get times e.0) refl (times_loaded times h es (at_rest (λ p. contains_key h.state.tiles p ≡ true) e es there) are cache l)
    where
      by : (o : Option Dates) → get times e.0 ≡ o → IsLoadedFrom t (from_last (time_put times) h es) → IsLoadedFrom t (times_at (from_last (time_put times) h es) e.0 o)
      by None is l = l
      by (Some d) is l = from_with_dates t (from_last (time_put times) h es) e.0 l d (ap (λ (s : State). s.layout) (times_state times h es) ∙ cache) (ap (λ (s : State). contains_key s.tiles e.0) (times_state times h es) ∙ at_first (λ p. contains_key h.state.tiles p ≡ true) e es there) (are e.0 d is)

  names_loaded : (h : Held) (es : List Named) → IsLoadedFrom t h → IsLoadedFrom t (from_last name_put h es)
  names_loaded h [] l = l
  names_loaded h (e ∷ es) l = from_with_name t (from_last name_put h es) e.0 e.1 (names_loaded h es l)

  all_nulls_loaded : (b : Bool) (h : Held) (put : TileSet) → is_normalized h.state.layout ≡ b → AtAll IsOnBoard (entries put) → IsLoadedFrom t h → IsLoadedFrom t (cond b h (from_last null_put h (entries put)))
  all_nulls_loaded true h put n on l = l
  all_nulls_loaded false h put n on l = nulls_loaded h (entries put) on n l

  is_cache_layout : (l : MbtType) → is_cache l ≡ true → l ≡ Cache
  is_cache_layout Cache h = refl
  is_cache_layout _ h = absurd (false≢true h)

  all_times_loaded : (b : Bool) (times : FinMap place_cmp Dates) (h : Held) (put : TileSet) → is_cache h.state.layout ≡ b → IsPutIn put h → ((p : Place) (d : Dates) → get times p ≡ Some d → AreTimes d) → IsLoadedFrom t h → IsLoadedFrom t (cond b (from_last (time_put times) h (entries put)) h)
  all_times_loaded false times h put k there are l = l
  all_times_loaded true times h put k there are l = times_loaded times h (entries put) (at_entries (λ p. contains_key h.state.tiles p ≡ true) put (there k)) are (is_cache_layout h.state.layout k) l

-- a set that isn't normalised has each tile that is put, once nulls are
flat_cache : (l : MbtType) → is_cache l ≡ true → is_normalized l ≡ false
flat_cache (Normalized view schema) h = absurd (false≢true h)
flat_cache _ h = refl

-- the tiles are the same before and after times
timed_tiles : (b : Bool) (times : FinMap place_cmp Dates) (h : Held) (es : List Tile) → (cond b (from_last (time_put times) h es) h).state.tiles ≡ h.state.tiles
timed_tiles true times h es = ap (λ (s : State). s.tiles) (times_state times h es)
timed_tiles false times h es = refl

nulled_layout : (b : Bool) (h : Held) (es : List Tile) → (cond b h (from_last null_put h es)).state.layout ≡ h.state.layout
nulled_layout true h es = refl
nulled_layout false h es = ap (λ (s : State). s.layout) (nulls_state h es)

no_times : FinMap place_cmp Dates
no_times = fin.empty

pub put_in : (h : Held) (put : TileSet) → IsPutIn put (nulls_put (tiles_put h put) put)
put_in h put cache p there =
    let layout : (nulls_put (tiles_put h put) put).state.layout ≡ h.state.layout = nulled_layout (is_normalized (tiles_put h put).state.layout) (tiles_put h put) (entries put) ∙ put_layout h put in
    let flat : is_normalized h.state.layout ≡ false = flat_cache h.state.layout (ap is_cache (sym layout) ∙ cache) in
    let tiles : (nulls_put (tiles_put h put) put).state.tiles ≡ over (entries put) h.state.tiles =
    sym (timed_tiles (is_cache (nulls_put (tiles_put h put) put).state.layout) no_times (nulls_put (tiles_put h put) put) (entries put))
    ∙ (ap (λ (s : State). s.tiles) (tiles_with h put no_times)
    ∙ merged_flat flat) in
    ap (λ m. contains_key m p) tiles
    ∙ (ap is_some (get-over places_total (entries put) h.state.tiles p ∙ ap (λ o. option_or o (get h.state.tiles p)) (sym (get-entries put p)))
    ∙ by (get put p) there)
  where
    by : (o : Option (Option (List ℕ))) → is_some o ≡ true → is_some (option_or o (get h.state.tiles p)) ≡ true
    by (Some x) e = refl
    by None e = absurd (false≢true e)

    merged_flat : is_normalized h.state.layout ≡ false → merged h.state.layout h.state.tiles put ≡ over (entries put) h.state.tiles
    merged_flat flat = ap (λ b. cond b (patched h.state.tiles put) (over (entries put) h.state.tiles)) flat

pub loaded_with : (t : Tables) (c : MbtilesCopier) (made : Bool) (h : Held) (put : TileSet) (times : FinMap place_cmp Dates) (names : Names) → may_put h.state put ≡ None → ((p : Place) → contains_key put p ≡ true → IsOnBoard p) → ((p : Place) (d : Dates) → get times p ≡ Some d → AreTimes d) → IsLoadedFrom t h → IsLoadedFrom t (held_with c made h put times names)
loaded_with t c made h put times names may on are l =
    let nulled : IsLoadedFrom t (nulls_put (tiles_put h put) put) = all_nulls_loaded t (is_normalized (tiles_put h put).state.layout) (tiles_put h put) put refl (at_entries IsOnBoard put on) (put_loaded t h put may on l) in
    let timed : IsLoadedFrom t (all_times_put times (nulls_put (tiles_put h put) put) put) = all_times_loaded t (is_cache (nulls_put (tiles_put h put) put).state.layout) times (nulls_put (tiles_put h put) put) put refl (put_in h put) are nulled in
    names_loaded t (all_times_put times (nulls_put (tiles_put h put) put) put) (entries_put c made (all_times_put times (nulls_put (tiles_put h put) put) put).state.algorithm (all_times_put times (nulls_put (tiles_put h put) put) put).state.tiles names) timed
