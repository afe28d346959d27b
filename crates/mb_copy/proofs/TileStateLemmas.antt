-- The state of a set after the edits that put tiles, nulls and times.
use Rattle.mb_copy.proofs.Common.{all_times_put, ap, Bool, bytes_put, Cache, cond, cons_option, contains_key, Dates, dates_for, drop, Edited, entries, entries_sorted, eq_by_cmp, Equal-is, false}
use Rattle.mb_copy.proofs.Common.{filter_map, find, FinMap, Flat, FlatWithHash, from_last, get, get-empty, get-entries, get-left, get-over, get-patched_by, Held, id_for, is_cache, is_normalized}
use Rattle.mb_copy.proofs.Common.{is_some, List, MbtType, merged, None, Normalized, not, nothing_edited, null_at, null_put, nulls_put, Option, option_and_then, option_map, option_or, over, patched}
use Rattle.mb_copy.proofs.Common.{patched_at, patched_by, Place, place_cmp, places_antisymmetric, places_total, put_state, refl, retain_keys, same_map, Some, State, state_put, sym, tiles_put, TileSet}
use Rattle.mb_copy.proofs.Common.{time_put, times_at, times_entry, times_over, times_put, true, unwrap_or, ℕ, [], ◌||◌, ◌∙◌, ◌∷◌, ◌≡◌}
use Rattle.mb_copy.proofs.TouchLemmas.{Tile, over_by, touched, touches, touches_at}
use Rattle.mb_edit.proofs.EditedLemmas.{tiles_edited}
use Rattle.mb_edit.specs.Step.{contents_over}

-- an edit where null is put, and one where a source has times
abbrev pub null_touch : {A : Type 0} → Option A → Place → Option (List ℕ) → Option (Option A)
null_touch x p None = Some x
null_touch x p (Some bytes) = None

abbrev pub time_touch : FinMap place_cmp Dates → Place → Option (List ℕ) → Option (Option Dates)
time_touch times p o = option_map (λ d. Some d) (get times p)

-- the state after nulls
abbrev with_null_at : State → Place → Option (List ℕ) → State
with_null_at s p o = record s {
  tiles = touched (null_touch (Some None) p o) s.tiles p;
  ids = touched (null_touch None p o) s.ids p;
  dates = touched (null_touch (dates_for s.layout) p o) s.dates p;
}

abbrev pub with_nulls : State → List Tile → State
with_nulls s es = record s {
  tiles = touches (null_touch (Some None)) s.tiles es;
  ids = touches (null_touch None) s.ids es;
  dates = touches (null_touch (dates_for s.layout)) s.dates es;
}

null_state : (h : Held) (p : Place) (o : Option (List ℕ)) → (null_at h p o).state ≡ with_null_at h.state p o
null_state h p None = refl
null_state h p (Some bytes) = refl

pub nulls_state : (h : Held) (es : List Tile) → (from_last null_put h es).state ≡ with_nulls h.state es
nulls_state h [] = refl
nulls_state h (e ∷ es) = null_state (from_last null_put h es) e.0 e.1 ∙ ap (λ (s : State). with_null_at s e.0 e.1) (nulls_state h es)

-- and after times
abbrev with_time_at : State → Place → Option Dates → State
with_time_at s p o = record s { dates = touched (option_map (λ d. Some d) o) s.dates p }

abbrev pub with_times : FinMap place_cmp Dates → State → List Tile → State
with_times times s es = record s { dates = touches (time_touch times) s.dates es }

time_state : (h : Held) (p : Place) (o : Option Dates) → (times_at h p o).state ≡ with_time_at h.state p o
time_state h p None = refl
time_state h p (Some d) = refl

pub times_state : (times : FinMap place_cmp Dates) (h : Held) (es : List Tile) → (from_last (time_put times) h es).state ≡ with_times times h.state es
times_state times h [] = refl
times_state times h (e ∷ es) = time_state (from_last (time_put times) h es) e.0 (get times e.0) ∙ ap (λ (s : State). with_time_at s e.0 (get times e.0)) (times_state times h es)

pub times_state_last : (times : FinMap place_cmp Dates) (first set : Held) (es : List Tile) (n : ℕ) → set ≡ from_last (time_put times) first (drop n es) → set.state ≡ with_times times first.state (drop n es)
times_state_last times first set es n is = ap (λ (h : Held). h.state) is ∙ times_state times first (drop n es)

-- where these are made
abbrev nulled_if : Bool → State → List Tile → State
nulled_if b s es = record s {
  tiles = cond b s.tiles (touches (null_touch (Some None)) s.tiles es);
  ids = cond b s.ids (touches (null_touch None) s.ids es);
  dates = cond b s.dates (touches (null_touch (dates_for s.layout)) s.dates es);
}

nulled : (b : Bool) (h : Held) (es : List Tile) → (cond b h (from_last null_put h es)).state ≡ nulled_if b h.state es
nulled true h es = refl
nulled false h es = nulls_state h es

abbrev timed_if : Bool → FinMap place_cmp Dates → State → List Tile → State
timed_if b times s es = record s { dates = cond b (touches (time_touch times) s.dates es) s.dates }

timed : (b : Bool) (times : FinMap place_cmp Dates) (h : Held) (es : List Tile) → (cond b (from_last (time_put times) h es) h).state ≡ timed_if b times h.state es
timed true times h es = times_state times h es
timed false times h es = refl

-- tiles, ids and times at each place
module _ (put : TileSet) where
  tiles_same : (b : Bool) (tiles : TileSet) → cond b (patched tiles put) (touches (null_touch (Some None)) (patched tiles put) (entries put)) ≡ cond b (patched tiles put) (over (entries put) tiles)
  tiles_same true tiles = refl
  tiles_same false tiles = same_map places_total places_antisymmetric _ _ (λ q.
      touches_at (null_touch (Some None)) (entries put) (entries_sorted put) (patched tiles put) q
      ∙ (ap (over_by (option_and_then (null_touch (Some None) q) (find place_cmp q (entries put)))) (get-patched_by (λ bytes. Some (Some bytes)) q put tiles ∙ ap (λ o. patched_at (λ bytes. Some (Some bytes)) o (get tiles q)) (get-entries put q))
      ∙ (by q (find place_cmp q (entries put)) (get tiles q)
      ∙ sym (get-over places_total (entries put) tiles q))))
    where
      by : (q : Place) (o : Option (Option (List ℕ))) (had : Option (Option (List ℕ))) → over_by (option_and_then (null_touch (Some None) q) o) (patched_at (λ bytes. Some (Some bytes)) o had) ≡ option_or o had
      by q (Some None) had = refl
      by q _ had = refl

  ids_same : {A : Type 0} (given : List ℕ → Option A) (b : Bool) (ids : FinMap place_cmp A) → cond b (patched_by given put ids) (touches (null_touch None) (patched_by given put ids) (entries put)) ≡ patched_by given put ids
  ids_same given true ids = refl
  ids_same {A = A} given false ids = same_map places_total places_antisymmetric _ _ (λ q.
      touches_at (null_touch None) (entries put) (entries_sorted put) (patched_by given put ids) q
      ∙ by q (find place_cmp q (entries put)) (get ids q) (get (patched_by given put ids) q) (get-patched_by given q put ids ∙ ap (λ o. patched_at given o (get ids q)) (get-entries put q)))
    where
      by : (q : Place) (o : Option (Option (List ℕ))) (had has : Option A) → has ≡ patched_at given o had → over_by (option_and_then (null_touch {A = A} None q) o) has ≡ has
      by q (Some None) had has e = sym e
      by q _ had has e = refl

  -- times that entries give
  found_time : (t : Place → Option Dates) (q : Place) (es : List Tile) → find place_cmp q (filter_map (λ e. option_map (λ d. (e.0, d)) (t e.0)) es) ≡ option_and_then (λ o. t q) (find place_cmp q es)
  found_time t q [] = refl
  found_time t q (e ∷ es) = by (eq_by_cmp place_cmp q e.0) refl (t e.0) refl (found_time t q es)
    where
      rest : List (Place × Dates)
      rest = filter_map (λ e. option_map (λ d. (e.0, d)) (t e.0)) es

      none : (o : Option (Option (List ℕ))) → t q ≡ None → option_and_then (λ x. t q) o ≡ None
      none None h = refl
      none (Some x) h = h

      by : (b : Bool) → eq_by_cmp place_cmp q e.0 ≡ b → (o : Option Dates) → t e.0 ≡ o → find place_cmp q rest ≡ option_and_then (λ x. t q) (find place_cmp q es)
          → find place_cmp q (cons_option (option_map (λ d. (e.0, d)) o) rest) ≡ option_and_then (λ x. t q) (cond b (Some e.1) (find place_cmp q es))
      by true is None at ih =
          let same : t q ≡ None = ap t (places_antisymmetric q e.0 ((Equal-is (place_cmp q e.0)).0 is)) ∙ at in
          ih ∙ (none (find place_cmp q es) same ∙ sym same)
      by true is (Some d) at ih = ap (λ b. cond b (Some d) (find place_cmp q rest)) is ∙ sym (ap t (places_antisymmetric q e.0 ((Equal-is (place_cmp q e.0)).0 is)) ∙ at)
      by false is None at ih = ih
      by false is (Some d) at ih = ap (λ b. cond b (Some d) (find place_cmp q rest)) is ∙ ih

  -- the times of a layout after bytes, nulls and times
  abbrev after_all : MbtType → FinMap place_cmp Dates → FinMap place_cmp Dates → FinMap place_cmp Dates
  after_all l times dates =
      let first = patched_by (λ bytes. dates_for l) put dates in
      let second = cond (is_normalized l) first (touches (null_touch (dates_for l)) first (entries put)) in
      cond (is_cache l) (touches (time_touch times) second (entries put)) second

  abbrev at_all : MbtType → Place → Option Dates → Option (Option (List ℕ)) → Option Dates → Option Dates
  at_all l q time o had =
      let first = patched_at (λ bytes. dates_for l) o had in
      let second = cond (is_normalized l) first (over_by (option_and_then (null_touch (dates_for l) q) o) first) in
      cond (is_cache l) (over_by (option_and_then (λ x. option_map (λ d. Some d) time) o) second) second

  nulls_at : (b : Bool) (x : Option Dates) (m : FinMap place_cmp Dates) (q : Place) → get (cond b m (touches (null_touch x) m (entries put))) q ≡ cond b (get m q) (over_by (option_and_then (null_touch x q) (get put q)) (get m q))
  nulls_at true x m q = refl
  nulls_at false x m q = touches_at (null_touch x) (entries put) (entries_sorted put) m q ∙ ap (λ o. over_by (option_and_then (null_touch x q) o) (get m q)) (sym (get-entries put q))

  times_got : (b : Bool) (times m : FinMap place_cmp Dates) (q : Place) → get (cond b (touches (time_touch times) m (entries put)) m) q ≡ cond b (over_by (option_and_then (λ x. option_map (λ d. Some d) (get times q)) (get put q)) (get m q)) (get m q)
  times_got true times m q = touches_at (time_touch times) (entries put) (entries_sorted put) m q ∙ ap (λ o. over_by (option_and_then (λ x. option_map (λ d. Some d) (get times q)) o) (get m q)) (sym (get-entries put q))
  times_got false times m q = refl

  got_all : (l : MbtType) (times dates : FinMap place_cmp Dates) (q : Place) → get (after_all l times dates) q ≡ at_all l q (get times q) (get put q) (get dates q)
  got_all l times dates q =
      let first = patched_by (λ bytes. dates_for l) put dates in
      let second = cond (is_normalized l) first (touches (null_touch (dates_for l)) first (entries put)) in
      let at_first : get first q ≡ patched_at (λ bytes. dates_for l) (get put q) (get dates q) = get-patched_by (λ bytes. dates_for l) q put dates in
      let at_second : get second q ≡ cond (is_normalized l) (patched_at (λ bytes. dates_for l) (get put q) (get dates q)) (over_by (option_and_then (null_touch (dates_for l) q) (get put q)) (patched_at (λ bytes. dates_for l) (get put q) (get dates q))) =
      nulls_at (is_normalized l) (dates_for l) first q ∙ ap (λ o. cond (is_normalized l) o (over_by (option_and_then (null_touch (dates_for l) q) (get put q)) o)) at_first in
      times_got (is_cache l) times second q ∙ ap (λ o. cond (is_cache l) (over_by (option_and_then (λ x. option_map (λ d. Some d) (get times q)) (get put q)) o) o) at_second

  by_layout : (l : MbtType) (q : Place) (time : Option Dates) (o : Option (Option (List ℕ))) (had : Option Dates) → at_all l q time o had ≡ option_or (option_and_then (λ x. option_map (unwrap_or time) (dates_for l)) o) (cond (not (is_some o)) had None)
  by_layout Flat q time (Some None) had = refl
  by_layout FlatWithHash q time (Some None) had = refl
  by_layout (Normalized view schema) q time (Some None) had = refl
  by_layout Cache q None (Some None) had = refl
  by_layout Cache q (Some d) (Some None) had = refl
  by_layout _ q _ _ had = refl

  times_same : (l : MbtType) (times dates : FinMap place_cmp Dates) → after_all l times dates ≡ times_over l times put dates
  times_same l times dates = same_map places_total places_antisymmetric _ _ (λ q.
      got_all l times dates q
      ∙ (by_layout l q (get times q) (get put q) (get dates q)
      ∙ sym (get-over places_total (filter_map (times_entry l times) (entries put)) (retain_keys dates (λ p. not (contains_key put p))) q
      ∙ (ap (λ o. option_or o (get (retain_keys dates (λ p. not (contains_key put p))) q)) (found_time (times_put l times) q (entries put) ∙ ap (λ o. option_and_then (λ x. times_put l times q) o) (sym (get-entries put q)))
      ∙ ap (option_or (option_and_then (λ x. times_put l times q) (get put q))) (get-left places_total put (λ o. not (is_some o)) dates q)))))

-- tiles, nulls and times together
abbrev pub with_tiles : State → TileSet → FinMap place_cmp Dates → State
with_tiles s put times = record s {
  tiles = merged s.layout s.tiles put;
  ids = patched_by (id_for s.layout s.algorithm) put s.ids;
  contents = contents_over s.layout s.algorithm (bytes_put put) s.contents;
  dates = times_over s.layout times put s.dates;
}

pub tiles_with : (h : Held) (put : TileSet) (times : FinMap place_cmp Dates) → (all_times_put times (nulls_put (tiles_put h put) put) put).state ≡ with_tiles h.state put times
tiles_with h put times =
    timed (is_cache (nulls_put (tiles_put h put) put).state.layout) times (nulls_put (tiles_put h put) put) (entries put)
    ∙ (ap (λ (s : State). timed_if (is_cache s.layout) times s (entries put)) (nulled (is_normalized (tiles_put h put).state.layout) (tiles_put h put) (entries put))
    ∙ (ap (λ (s : State). timed_if (is_cache s.layout) times (nulled_if (is_normalized s.layout) s (entries put)) (entries put)) (put_state h put)
    ∙ same))
  where
    same : timed_if (is_cache h.state.layout) times (nulled_if (is_normalized h.state.layout) (state_put h.state put) (entries put)) (entries put) ≡ with_tiles h.state put times
    same = λ i. record h.state {
      tiles = tiles_same put (is_normalized h.state.layout) h.state.tiles i;
      ids = ids_same put (id_for h.state.layout h.state.algorithm) (is_normalized h.state.layout) h.state.ids i;
      contents = contents_over h.state.layout h.state.algorithm (bytes_put put) h.state.contents;
      dates = times_same put h.state.layout times h.state.dates i;
    }

-- the places that count as edited
abbrev time_edit : FinMap place_cmp Dates → Place → Option (List ℕ) → Option (Option (Unit {0}))
time_edit times p o = option_map (λ d. Some tt) (get times p)

null_edited : (h : Held) (p : Place) (o : Option (List ℕ)) → (null_at h p o).edited.places ≡ touched (null_touch (Some tt) p o) h.edited.places p
null_edited h p None = refl
null_edited h p (Some bytes) = refl

nulls_edited : (h : Held) (es : List Tile) → (from_last null_put h es).edited.places ≡ touches (null_touch (Some tt)) h.edited.places es
nulls_edited h [] = refl
nulls_edited h (e ∷ es) = null_edited (from_last null_put h es) e.0 e.1 ∙ ap (λ m. touched (null_touch (Some tt) e.0 e.1) m e.0) (nulls_edited h es)

time_edited : (h : Held) (p : Place) (o : Option Dates) → (times_at h p o).edited.places ≡ touched (option_map (λ d. Some tt) o) h.edited.places p
time_edited h p None = refl
time_edited h p (Some d) = refl

times_edited : (times : FinMap place_cmp Dates) (h : Held) (es : List Tile) → (from_last (time_put times) h es).edited.places ≡ touches (time_edit times) h.edited.places es
times_edited times h [] = refl
times_edited times h (e ∷ es) = time_edited (from_last (time_put times) h es) e.0 (get times e.0) ∙ ap (λ m. touched (option_map (λ d. Some tt) (get times e.0)) m e.0) (times_edited times h es)

module _ (put : TileSet) (q : Place) where
  nulls_key : (b : Bool) (h : Held) → contains_key h.edited.places q ≡ contains_key put q → contains_key (cond b h (from_last null_put h (entries put))).edited.places q ≡ contains_key put q
  nulls_key true h same = same
  nulls_key false h same =
      ap (λ m. contains_key m q) (nulls_edited h (entries put))
      ∙ (ap is_some (touches_at (null_touch (Some tt)) (entries put) (entries_sorted put) h.edited.places q ∙ ap (λ o. over_by (option_and_then (null_touch (Some tt) q) o) (get h.edited.places q)) (sym (get-entries put q)))
      ∙ by (get put q) (get h.edited.places q) same)
    where
      by : (o : Option (Option (List ℕ))) (x : Option (Unit {0})) → is_some x ≡ is_some o → is_some (over_by (option_and_then (null_touch (Some tt) q) o) x) ≡ is_some o
      by (Some None) x e = refl
      by _ x e = e

  times_key : (b : Bool) (times : FinMap place_cmp Dates) (h : Held) → contains_key h.edited.places q ≡ contains_key put q → contains_key (cond b (from_last (time_put times) h (entries put)) h).edited.places q ≡ contains_key put q
  times_key false times h same = same
  times_key true times h same =
      ap (λ m. contains_key m q) (times_edited times h (entries put))
      ∙ (ap is_some (touches_at (time_edit times) (entries put) (entries_sorted put) h.edited.places q ∙ ap (λ o. over_by (option_and_then (time_edit times q) o) (get h.edited.places q)) (sym (get-entries put q)))
      ∙ by (get put q) (get times q) (get h.edited.places q) same)
    where
      by : (o : Option (Option (List ℕ))) (t : Option Dates) (x : Option (Unit {0})) → is_some x ≡ is_some o → is_some (over_by (option_and_then (λ y. option_map (λ d. Some tt) t) o) x) ≡ is_some o
      by (Some y) (Some d) x e = refl
      by _ _ x e = e

pub tiles_edited_with : (h : Held) (put : TileSet) (times : FinMap place_cmp Dates) → h.edited ≡ nothing_edited → (q : Place) → contains_key (all_times_put times (nulls_put (tiles_put h put) put) put).edited.places q ≡ contains_key put q
tiles_edited_with h put times clean q =
    times_key put q (is_cache (nulls_put (tiles_put h put) put).state.layout) times (nulls_put (tiles_put h put) put)
    (nulls_key put q (is_normalized (tiles_put h put).state.layout) (tiles_put h put)
    (tiles_edited h q (entries put)
    ∙ (ap (λ o. contains_key h.edited.places q || is_some o) (sym (get-entries put q))
    ∙ ap (λ b. b || contains_key put q) (ap (λ (e : Edited). contains_key e.places q) clean ∙ ap is_some (get-empty place_cmp q)))))
