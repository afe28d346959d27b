-- Tables that a set was loaded from are so after null was put, and after a tile of a cache got other times.
use Rattle.mb_load.proofs.Common.{ap, AreTimes, Bool, Cache, cond, contains_key, Dates, dates_are, dates_for, dates_some, eq_by_cmp, false, false≢true, FinMap, get, Held, insert, is_cache}
use Rattle.mb_load.proofs.Common.{is_normalized, is_some, IsLoadable, IsLoadedFrom, IsOnBoard, None, Option, Place, place_cmp, places_total, refl, Some, subst, sym, Tables, true, with_dates}
use Rattle.mb_load.proofs.Common.{with_null, with_value, ◌&&◌, ◌∙◌, ◌≡◌}
use Rattle.mb_lists.proofs.Places.{same_place}
use Rattle.mb_load.proofs.EditedFrom.{at_other, by_test, fits_same, put_at, put_key, put_placed, unedited}

module _ (t : Tables) (h : Held) (p : Place) (loaded : IsLoadedFrom t h) where
  -- what stays elsewhere
  elsewhere : {V : Type 0} (m : FinMap place_cmp V) (o : Option V) (q : Place) → contains_key (insert h.edited.places p tt) q ≡ false → get (with_value m p o) q ≡ get m q
  elsewhere m o q left = put_at p m o q ∙ at_other _ o (get m q) (unedited places_total h.edited.places p q left).0

  null_state : IsOnBoard p → is_normalized h.state.layout ≡ false → IsLoadable (with_null h p).state
  null_state on flat = record {
    on_board = λ q k. by_test (eq_by_cmp place_cmp q p)
        (λ e. subst IsOnBoard (sym (same_place q p e)) on)
        (λ e. loaded.state.on_board q (sym (put_key p h.state.tiles (Some None) q ∙ at_other (eq_by_cmp place_cmp q p) true (contains_key h.state.tiles q) e) ∙ k));
    placed = λ q. put_key p h.state.ids None q ∙ (put_placed (eq_by_cmp place_cmp q p) false (is_normalized h.state.layout) (contains_key h.state.ids q) (contains_key h.state.tiles q) (sym flat) (loaded.state.placed q) ∙ ap (λ b. is_normalized h.state.layout && b) (sym (put_key p h.state.tiles (Some None) q)));
    joined = λ n q. absurd (false≢true (sym flat ∙ n));
    stored = loaded.state.stored;
    dated = λ q. put_key p h.state.dates (dates_for h.state.layout) q ∙ (put_placed (eq_by_cmp place_cmp q p) (is_some (dates_for h.state.layout)) (is_cache h.state.layout) (contains_key h.state.dates q) (contains_key h.state.tiles q) (dates_some h.state.layout) (loaded.state.dated q) ∙ ap (λ b. is_cache h.state.layout && b) (sym (put_key p h.state.tiles (Some None) q)));
    times = λ q d e. times_at (eq_by_cmp place_cmp q p) q d (sym (put_at p h.state.dates (dates_for h.state.layout) q) ∙ e);
  }
    where
      times_at : (b : Bool) (q : Place) (d : Dates) → cond b (dates_for h.state.layout) (get h.state.dates q) ≡ Some d → AreTimes d
      times_at true q d e = dates_are h.state.layout d e
      times_at false q d e = loaded.state.times q d e

  pub from_with_null : IsOnBoard p → is_normalized h.state.layout ≡ false → IsLoadedFrom t (with_null h p)
  from_with_null on flat = record {
    layout = loaded.layout;
    patch_type = loaded.patch_type;
    described = loaded.described;
    indexed = loaded.indexed;
    state = null_state on flat;
    with_ids = loaded.with_ids;
    tiles = λ q left. fits_same h.state (with_null h p).state q _ refl (elsewhere h.state.tiles (Some None) q left) (elsewhere h.state.ids None q left) (elsewhere h.state.dates (dates_for h.state.layout) q left) (loaded.tiles q (unedited places_total h.edited.places p q left).1);
    contents = loaded.contents;
    names = loaded.names;
    tile_rows = loaded.tile_rows;
    content_rows = loaded.content_rows;
    name_rows = loaded.name_rows;
  }

  dates_state : (dates : Dates) → h.state.layout ≡ Cache → contains_key h.state.tiles p ≡ true → AreTimes dates → IsLoadable (with_dates h p dates).state
  dates_state dates cache there are = record {
    on_board = loaded.state.on_board;
    placed = loaded.state.placed;
    joined = loaded.state.joined;
    stored = loaded.state.stored;
    dated = λ q. put_key p h.state.dates (Some dates) q ∙ by q (eq_by_cmp place_cmp q p) refl;
    times = λ q d e. times_at (eq_by_cmp place_cmp q p) q d (sym (put_at p h.state.dates (Some dates) q) ∙ e);
  }
    where
      by : (q : Place) (b : Bool) → eq_by_cmp place_cmp q p ≡ b → cond b true (contains_key h.state.dates q) ≡ (is_cache h.state.layout && contains_key h.state.tiles q)
      by q true e = sym (ap (λ l. is_cache l && contains_key h.state.tiles q) cache ∙ (ap (contains_key h.state.tiles) (same_place q p e) ∙ there))
      by q false e = loaded.state.dated q

      times_at : (b : Bool) (q : Place) (d : Dates) → cond b (Some dates) (get h.state.dates q) ≡ Some d → AreTimes d
      times_at true q d e = let same : dates ≡ d = cc in subst AreTimes same are
      times_at false q d e = loaded.state.times q d e

  pub from_with_dates : (dates : Dates) → h.state.layout ≡ Cache → contains_key h.state.tiles p ≡ true → AreTimes dates → IsLoadedFrom t (with_dates h p dates)
  from_with_dates dates cache there are = record {
    layout = loaded.layout;
    patch_type = loaded.patch_type;
    described = loaded.described;
    indexed = loaded.indexed;
    state = dates_state dates cache there are;
    with_ids = loaded.with_ids;
    tiles = λ q left. fits_same h.state (with_dates h p dates).state q _ refl refl refl (elsewhere h.state.dates (Some dates) q left) (loaded.tiles q (unedited places_total h.edited.places p q left).1);
    contents = loaded.contents;
    names = loaded.names;
    tile_rows = loaded.tile_rows;
    content_rows = loaded.content_rows;
    name_rows = loaded.name_rows;
  }
