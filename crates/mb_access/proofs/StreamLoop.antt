-- The tiles that are still to come, step by step.
use Rattle.mb_access.proofs.Common.{ap, arith, Bool, Cell, cons_option, entries, filter_map, GivesIndex, Held, IfSome, IsRowOf, left_of, len, List, None, Ok, Option, ReadsOnly, refl, rows_left}
use Rattle.mb_access.proofs.Common.{set_of, slice_get, Some, StreamState, subst, suc, sym, Tables, take, Tile, tile_by_row, true, ℕ, ◌<◌, ◌∙◌, ◌∷◌, ◌≡◌, ◌≤◌}

left_same : (t : Tables) (s u : StreamState) → rows_left t u ≡ rows_left t s → u.set ≡ s.set → u.left ≡ s.left → left_of t u ≡ left_of t s
left_same t s u rows set left = λ i. take (left i) (filter_map (tile_by_row (set i).state) (rows i))

-- the first row has a tile
left_given : (t : Tables) (s u : StreamState) (row : List Cell) (e : Tile) → rows_left t s ≡ row ∷ rows_left t u → tile_by_row s.set.state row ≡ Some e → u.set ≡ s.set → s.left ≡ suc u.left → left_of t s ≡ e ∷ left_of t u
left_given t s u row e rows some set left =
    ap (λ (l : List (List Cell)). take s.left (filter_map (tile_by_row s.set.state) l)) rows
    ∙ (ap (λ (o : Option Tile). take s.left (cons_option o (filter_map (tile_by_row s.set.state) (rows_left t u)))) some
    ∙ (ap (λ n. take n (e ∷ filter_map (tile_by_row s.set.state) (rows_left t u))) left
    ∙ ap (λ (h : Held). e ∷ take u.left (filter_map (tile_by_row h.state) (rows_left t u))) (sym set)))

module _ {S : Type 0} (holds : S → Tables) (shows : S → Bool) (failed : S → ℕ) (unfailing : S → Type 0) where
  pub reads_then : (x y z : S) → ReadsOnly holds shows failed unfailing x y → ReadsOnly holds shows failed unfailing y z → ReadsOnly holds shows failed unfailing x z
  reads_then x y z a b = record {
    told = b.told ∙ a.told;
    tells = b.tells ∙ a.tells;
    faults = omega (arith, a.faults, b.faults);
    steady = λ h. b.steady (a.steady h);
    calm = λ h. b.calm (a.steady h) ∙ a.calm h;
  }

  -- a stream on its way to the next tile
  pub record Streaming (first now : StreamState) (before after : S) : Type 0 where
    pub items : shows before ≡ true → left_of (holds before) now ≡ left_of (holds before) first
    pub set : now.set ≡ first.set
    pub left : now.left ≤ first.left
    pub kept : ReadsOnly holds shows failed unfailing before after
    pub still : failed after ≡ failed before

  -- the page has a row again
  pub refilled : (first s u : StreamState) (before mid after : S) → Streaming first s before mid → (shows mid ≡ true → rows_left (holds mid) u ≡ rows_left (holds mid) s) → u.set ≡ s.set → u.left ≡ s.left → ReadsOnly holds shows failed unfailing mid after → failed after ≡ failed mid → Streaming first u before after
  refilled first s u before mid after w rows set left kept still = record {
    items = λ t. left_same (holds before) s u (subst (λ (x : Tables). rows_left x u ≡ rows_left x s) w.kept.told (rows (w.kept.tells ∙ t))) set left ∙ w.items t;
    set = set ∙ w.set;
    left = omega (arith, left, w.left);
    kept = reads_then before mid after w.kept kept;
    still = still ∙ w.still;
  }

  -- the next tile
  pub index_given : (first s u : StreamState) (row : List Cell) (i : ℕ) (before after : S) → Streaming first s before after → ((t : Tables) → rows_left t s ≡ row ∷ rows_left t u) → IsRowOf (set_of s) row (Some i) → u.set ≡ s.set → s.left ≡ suc u.left → shows before ≡ true → GivesIndex (set_of first).tiles (left_of (holds before) first) (Some (Ok i)) (left_of (holds before) u)
  index_given first s u row i before after w rows is set left t =
      subst (λ (h : Held). IfSome (slice_get (entries h.state.tiles) i) (λ (e : Tile). left_of (holds before) first ≡ e ∷ left_of (holds before) u)) w.set (by (slice_get (entries s.set.state.tiles) i) refl)
    where
      by : (o : Option Tile) → slice_get (entries s.set.state.tiles) i ≡ o → IfSome o (λ (e : Tile). left_of (holds before) first ≡ e ∷ left_of (holds before) u)
      by None at = tt
      by (Some e) at = sym (w.items t) ∙ left_given (holds before) s u row e (rows (holds before)) (is.1 ∙ at) set left

  -- its index is one of the set
  pub index_own : (first s : StreamState) (row : List Cell) (i : ℕ) (before after : S) → Streaming first s before after → IsRowOf (set_of s) row (Some i) → i < len (set_of first).tiles
  index_own first s row i before after w is = subst (λ (h : Held). i < len h.state.tiles) w.set is.0
