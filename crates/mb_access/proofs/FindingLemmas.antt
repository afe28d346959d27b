-- Where a tile stands among those of a set, by halving.
use Rattle.mb_access.proofs.Common.{and_parts, ap, arith, below_all, blob_cell, Bool, cases_lt, Cell, cond, contains_key, contents_of, Coord, entries, entries_sorted, eq_by_cmp, Equal, false, find}
use Rattle.mb_access.proofs.Common.{get, get-entries, Greater, IfSome, is_eq, is_lt, is_some, is_sorted, len, len-entries, Less, List, None, none-some, Option, option_flatten, option_map, Ordering}
use Rattle.mb_access.proofs.Common.{ordering_reverse, Place, place_at, place_cmp, places_total, refl, same_Some, slice_get, slice_get-get_or, slice_get_within, Some, subst, suc, sym, Tile, tile_at}
use Rattle.mb_access.proofs.Common.{TileSet, true, true≢false, zero, ℕ, [], ⊎_elim, ◌+◌, ◌<◌, ◌∙◌, ◌∷◌, ◌≡◌, ◌≤◌}
use Rattle.std.specs.Cmp.{Equal-is}
use Rattle.std.proofs.lemmas.Cmp.{tied_itself}
use Rattle.mb_access.specs.Finding.{IsIndexOf}
use Rattle.mb_lists.proofs.Places.{places_antisymmetric}
use Rattle.mb_metadata.proofs.OthersLemmas.{is_less, is_true}

in_order : (tiles : TileSet) → is_sorted place_cmp (entries tiles) ≡ true
in_order tiles = is_true _ (entries_sorted tiles)

turned : (p q : Place) (o : Ordering) → place_cmp p q ≡ o → place_cmp q p ≡ ordering_reverse o
turned p q o h = places_total.antisymm q p ∙ ap ordering_reverse h

-- in a list in order each entry is below those behind it
below_each : (p : Place) (es : List Tile) (k : ℕ) (e : Tile) → below_all place_cmp p es ≡ true → slice_get es k ≡ Some e → place_cmp p e.0 ≡ Less
below_each p [] k e h at = absurd (none-some e at)
below_each p (y ∷ es) zero e h at = ap (λ (x : Tile). place_cmp p x.0) (sym (same_Some y e at)) ∙ is_less _ (and_parts _ _ h).0
below_each p (y ∷ es) (suc k) e h at = below_each p es k e (and_parts _ _ h).1 at

rises : (es : List Tile) (j k : ℕ) (x y : Tile) → is_sorted place_cmp es ≡ true → j < k → slice_get es j ≡ Some x → slice_get es k ≡ Some y → place_cmp x.0 y.0 ≡ Less
rises [] j k x y s lt a b = absurd (none-some x a)
rises (e ∷ es) zero (suc k) x y s lt a b = ap (λ (z : Tile). place_cmp z.0 y.0) (sym (same_Some e x a)) ∙ below_each e.0 es k y (and_parts _ _ s).0 b
rises (e ∷ es) (suc j) (suc k) x y s lt a b = rises es j k x y (and_parts _ _ s).1 (omega (arith, lt)) a b
rises _ _ _ x y s lt a b = absurd (omega (arith, lt))

-- what stands at an index is found
found_there : (es : List Tile) (i : ℕ) (e : Tile) → is_sorted place_cmp es ≡ true → slice_get es i ≡ Some e → find place_cmp e.0 es ≡ Some e.1
found_there [] i e s at = absurd (none-some e at)
found_there (x ∷ es) zero e s at =
    subst (λ (y : Tile). find place_cmp y.0 (x ∷ es) ≡ Some y.1) (same_Some x e at) (ap (λ o. cond (is_eq o) (Some x.1) (find place_cmp x.0 es)) (tied_itself places_total x.0))
found_there (x ∷ es) (suc i) e s at =
    ap (λ o. cond (is_eq o) (Some x.1) (find place_cmp e.0 es)) (turned x.0 e.0 Less (below_each x.0 es i e (and_parts _ _ s).0 at)) ∙ found_there es i e (and_parts _ _ s).1 at

pub entry_found : (tiles : TileSet) (i : ℕ) (e : Tile) → slice_get (entries tiles) i ≡ Some e → get tiles e.0 ≡ Some e.1
entry_found tiles i e at = get-entries tiles e.0 ∙ found_there (entries tiles) i e (in_order tiles) at

not_found : (es : List Tile) (p : Place) → ((k : ℕ) (e : Tile) → slice_get es k ≡ Some e → eq_by_cmp place_cmp p e.0 ≡ false) → find place_cmp p es ≡ None
not_found [] p h = refl
not_found (x ∷ es) p h = ap (λ b. cond b (Some x.1) (find place_cmp p es)) (h zero x refl) ∙ not_found es p (λ k e at. h (suc k) e at)

-- Where a place is sought: what stands before the first index is below it, and what stands from
-- the second on is above it.
pub record Between (tiles : TileSet) (p : Place) (low high : ℕ) : Type 0 where
  pub order : low ≤ high
  pub within : high ≤ len tiles
  pub below : (k : ℕ) (e : Tile) → k < low → slice_get (entries tiles) k ≡ Some e → place_cmp e.0 p ≡ Less
  pub above : (k : ℕ) (e : Tile) → high ≤ k → slice_get (entries tiles) k ≡ Some e → place_cmp e.0 p ≡ Greater

pub all_between : (tiles : TileSet) (p : Place) (n : ℕ) → n ≡ len tiles → Between tiles p 0 n
all_between tiles p n e = record {
  order = omega arith;
  within = omega (arith, e);
  below = λ k x lt at. absurd (omega (arith, lt));
  above = λ k x le at. absurd (omega (arith, e, le, len-entries tiles, slice_get_within (entries tiles) k x at));
}

module _ (tiles : TileSet) (p : Place) (low high middle : ℕ) (e : Tile) (at : slice_get (entries tiles) middle ≡ Some e) (first : low ≤ middle) (last : middle < high) (w : Between tiles p low high) where
  same_there : (k : ℕ) (x : Tile) → k ≡ middle → slice_get (entries tiles) k ≡ Some x → x ≡ e
  same_there k x is here = same_Some x e (sym here ∙ (ap (slice_get (entries tiles)) is ∙ at))

  behind : place_cmp e.0 p ≡ Less → Between tiles p (middle + 1) high
  behind h = record { order = omega (arith, last); within = w.within; below = before; above = w.above }
    where
      before : (k : ℕ) (x : Tile) → k < middle + 1 → slice_get (entries tiles) k ≡ Some x → place_cmp x.0 p ≡ Less
      before k x lt here =
          ⊎_elim (λ less. places_total.trans x.0 e.0 p (rises (entries tiles) k middle x e (in_order tiles) less here at) h)
          (λ more. ap (λ (y : Tile). place_cmp y.0 p) (same_there k x (omega (arith, lt, more)) here) ∙ h) (cases_lt k middle)

  front : place_cmp e.0 p ≡ Greater → Between tiles p low middle
  front h = record { order = first; within = omega (arith, last, w.within); below = w.below; above = after }
    where
      after : (k : ℕ) (x : Tile) → middle ≤ k → slice_get (entries tiles) k ≡ Some x → place_cmp x.0 p ≡ Greater
      after k x le here =
          ⊎_elim (λ less. turned p x.0 Less (places_total.trans p e.0 x.0 (turned e.0 p Greater h) (rises (entries tiles) middle k e x (in_order tiles) less at here)))
          (λ more. ap (λ (y : Tile). place_cmp y.0 p) (same_there k x (omega (arith, le, more)) here) ∙ h) (cases_lt middle k)

  halved : (o : Ordering) (b : Bool) (l h : ℕ) → place_cmp e.0 p ≡ o → is_eq o ≡ false → b ≡ is_lt o → l ≡ cond b (middle + 1) low → h ≡ cond b high middle → Between tiles p l h
  halved Less b l h is other below is_low is_high =
      subst (λ n. Between tiles p n h) (sym (is_low ∙ ap (λ x. cond x (middle + 1) low) below)) (subst (λ n. Between tiles p (middle + 1) n) (sym (is_high ∙ ap (λ x. cond x high middle) below)) (behind is))
  halved Equal b l h is other below is_low is_high = absurd (true≢false other)
  halved Greater b l h is other below is_low is_high =
      subst (λ n. Between tiles p n h) (sym (is_low ∙ ap (λ x. cond x (middle + 1) low) below)) (subst (λ n. Between tiles p low n) (sym (is_high ∙ ap (λ x. cond x high middle) below)) (front is))

-- the entry at an index, as a loaded set answers it
abbrev pub Shows : TileSet → ℕ → Coord → Cell → Type 0
Shows tiles i c cell = IfSome (slice_get (entries tiles) i) (λ (e : Tile). (e.0 ≡ place_at c) × (blob_cell e.1 ≡ cell))

pub record Shown (tiles : TileSet) (i : ℕ) (c : Coord) (cell : Cell) : Type 0 where
  pub entry : Tile
  pub at : slice_get (entries tiles) i ≡ Some entry
  pub place : entry.0 ≡ place_at c
  pub contents : blob_cell entry.1 ≡ cell

pub shown : (tiles : TileSet) (i : ℕ) (c : Coord) (cell : Cell) → i < len tiles → Shows tiles i c cell → Shown tiles i c cell
shown tiles i c cell lt h = by (slice_get (entries tiles) i) refl h
  where
    by : (o : Option Tile) → slice_get (entries tiles) i ≡ o → IfSome o (λ (e : Tile). (e.0 ≡ place_at c) × (blob_cell e.1 ≡ cell)) → Shown tiles i c cell
    by None at q = absurd (none-some _ (sym at ∙ slice_get-get_or (entries tiles) i (place_at c, None) (omega (arith, lt, len-entries tiles))))
    by (Some e) at q = record { entry = e; at = at; place = q.0; contents = q.1 }

pub narrower : (tiles : TileSet) (p : Place) (low high middle l h : ℕ) (c : Coord) (cell : Cell) (o : Ordering) (b : Bool) → Between tiles p low high → low ≤ middle → middle < high → Shows tiles middle c cell → o ≡ place_cmp (place_at c) p → is_eq o ≡ false → b ≡ is_lt o → l ≡ cond b (middle + 1) low → h ≡ cond b high middle → Between tiles p l h
narrower tiles p low high middle l h c cell o b w first last there order other below is_low is_high =
    let s = shown tiles middle c cell (omega (arith, last, w.within)) there in
    halved tiles p low high middle s.entry s.at first last w o b l h (ap (λ q. place_cmp q p) s.place ∙ sym order) other below is_low is_high

pub index_here : (tiles : TileSet) (p : Place) (i : ℕ) (c : Coord) (cell : Cell) (o : Ordering) → i < len tiles → Shows tiles i c cell → o ≡ place_cmp (place_at c) p → is_eq o ≡ true → IsIndexOf tiles p (Some i)
index_here tiles p i c cell o lt there order same_place =
    let s = shown tiles i c cell lt there in
    let same : s.entry.0 ≡ p = s.place ∙ places_antisymmetric (place_at c) p (sym order ∙ (Equal-is o).0 same_place) in
    let own : get tiles p ≡ Some s.entry.1 = ap (get tiles) (sym same) ∙ entry_found tiles i s.entry s.at in
    (lt, s.at ∙ (ap (λ q. Some (q, s.entry.1)) same ∙ sym (ap (option_map (λ contents. (p, contents))) own)))

pub index_nowhere : (tiles : TileSet) (p : Place) (low high : ℕ) → high ≤ low → Between tiles p low high → IsIndexOf tiles p None
index_nowhere tiles p low high end w =
    get-entries tiles p
    ∙ not_found (entries tiles) p (λ k e at. ⊎_elim (λ less. ap is_eq (turned e.0 p Less (w.below k e less at))) (λ more. ap is_eq (turned e.0 p Greater (w.above k e (omega (arith, end, more)) at))) (cases_lt k low))

-- the tile at an index
pub coord_entry : (tiles : TileSet) (i : ℕ) (c : Coord) (cell : Cell) → i < len tiles → Shows tiles i c cell → slice_get (entries tiles) i ≡ Some (tile_at tiles c)
coord_entry tiles i c cell lt there =
    let s = shown tiles i c cell lt there in
    let own : get tiles (place_at c) ≡ Some s.entry.1 = ap (get tiles) (sym s.place) ∙ entry_found tiles i s.entry s.at in
    s.at ∙ (ap (λ q. Some (q, s.entry.1)) s.place ∙ ap (λ o. Some (place_at c, option_flatten o)) (sym own))

pub coord_own : (tiles : TileSet) (i : ℕ) (c : Coord) (cell : Cell) → i < len tiles → Shows tiles i c cell → contains_key tiles (place_at c) ≡ true
coord_own tiles i c cell lt there =
    let s = shown tiles i c cell lt there in
    ap is_some (ap (get tiles) (sym s.place) ∙ entry_found tiles i s.entry s.at)

-- with its contents
blob_back : (x : Option (List ℕ)) → option_flatten (contents_of (blob_cell x)) ≡ x
blob_back None = refl
blob_back (Some bytes) = refl

pub copy_entry : (tiles : TileSet) (i : ℕ) (c : Coord) (cell : Cell) (contents : Option (List ℕ)) → i < len tiles → Shows tiles i c cell → contents ≡ option_flatten (contents_of cell) → slice_get (entries tiles) i ≡ Some (place_at c, contents)
copy_entry tiles i c cell contents lt there is =
    let s = shown tiles i c cell lt there in
    let same : s.entry.1 ≡ contents = sym (blob_back s.entry.1) ∙ (ap (λ (d : Cell). option_flatten (contents_of d)) s.contents ∙ sym is) in
    s.at ∙ (λ j. Some (s.place j, same j))

pub copy_own : (tiles : TileSet) (i : ℕ) (c : Coord) (cell : Cell) (contents : Option (List ℕ)) → i < len tiles → Shows tiles i c cell → contents ≡ option_flatten (contents_of cell) → get tiles (place_at c) ≡ Some contents
copy_own tiles i c cell contents lt there is = entry_found tiles i (place_at c, contents) (copy_entry tiles i c cell contents lt there is)
