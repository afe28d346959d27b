-- What a set has after the same bytes were put at the places of ids.
use Rattle.tile_import.proofs.Common.{address, ap, AreOnBoard, arith, Bool, cond, contains_key, Coord, coord_of, Err, false, FIRST_TOO_DEEP, get, get-insert, Held, hilbert, id_of, id_within, in_run}
use Rattle.tile_import.proofs.Common.{inl, inr, InRange, insert, is_coord_of, is_some, IsCoord, IsOnBoard, len, len-insert, List, lt_or, map, MAX_TILE_ID, nat_le, nat_lt, nat_tests, Ok, OnOk, Option}
use Rattle.tile_import.proofs.Common.{Place, place_at, place_cmp, place_of_id, pyramid, refl, Result, Some, subst, suc, sym, tile_id, TileSet, true, with_ids, zero, ℕ, [], ◌&&◌, ◌+◌, ◌<◌, ◌||◌, ◌∙◌}
use Rattle.tile_import.proofs.Common.{◌∷◌, ◌≡◌, ◌≢◌, ◌≤◌, ◌⊎◌}
use Rattle.std.specs.List.{range_with_len}
use Rattle.std.specs.Ordering.{eq_by_cmp, nat_cmp}
use Rattle.tile_ids.proofs.Bijection.{has_id}
use Rattle.mb_lists.proofs.Places.{same_place}
use Rattle.mb_loaded.specs.Edits.{with_tile, with_tiles}
use Rattle.mb_tables.proofs.TileLemmas.{places_total}
use Rattle.mb_lists.proofs.AddressLemmas.{coord_address, coord_placed, one_tie}

-- what a set has at a place
abbrev pub At : Type 0
At = Option (Option (List ℕ))

-- the coordinate of an id is the one with that id
pub placed_coord : (c : Coord) (t : ℕ) → IsCoord c → id_of c ≡ t → place_at c ≡ place_of_id t
placed_coord c t is e = ap place_at (is_coord_of t c (subst (λ n. n ≤ MAX_TILE_ID) e (id_within c is)) is e)

place_in_range : (t : ℕ) → t ≤ MAX_TILE_ID → InRange (place_of_id t)
place_in_range t le = coord_placed (coord_of t) (has_id t le).0

pub place_address : (t : ℕ) → t ≤ MAX_TILE_ID → address (place_of_id t) ≡ t
place_address t le = let h = has_id t le in coord_address (coord_of t) h.0 ∙ h.1

-- whether a place is that of an id
hit : (p : Place) (t : ℕ) → InRange p → t ≤ MAX_TILE_ID → eq_by_cmp place_cmp p (place_of_id t) ≡ eq_by_cmp nat_cmp (address p) t
hit p t range le = sym (one_tie p (place_of_id t) range (place_in_range t le)) ∙ ap (eq_by_cmp nat_cmp (address p)) (place_address t le)

after_one : (tiles : TileSet) (bytes : List ℕ) (p : Place) (t : ℕ) → InRange p → t ≤ MAX_TILE_ID → get (insert tiles (place_of_id t) (Some bytes)) p ≡ cond (eq_by_cmp nat_cmp (address p) t) (Some (Some bytes)) (get tiles p)
after_one tiles bytes p t range le = get-insert places_total tiles (place_of_id t) (Some bytes) p ∙ ap (λ b. cond b (Some (Some bytes)) (get tiles p)) (hit p t range le)

same_or : (m n : ℕ) → (m ≡ n) ⊎ (m ≢ n)
same_or m n = grind arith

next_le : (t a : ℕ) → t ≢ a → nat_le (a + 1) t ≡ nat_le a t
next_le t a other = elim (lt_or t a) [
  | inl less ↦
      let one : nat_le (a + 1) t ≡ false = grind (arith, nat_tests) in
      let two : nat_le a t ≡ false = grind (arith, nat_tests) in
      one ∙ sym two
  | inr le ↦
      let more : a < t = grind arith in
      let one : nat_le (a + 1) t ≡ true = grind (arith, nat_tests) in
      let two : nat_le a t ≡ true = grind (arith, nat_tests) in
      one ∙ sym two
]

both_hit : (b : Bool) (x : At) → cond b x x ≡ x
both_hit true x = refl
both_hit false x = refl

run_step : (t a n : ℕ) (x y : At) → cond (in_run t (a + 1) n) x (cond (eq_by_cmp nat_cmp t a) x y) ≡ cond (in_run t a (suc n)) x y
run_step t a n x y = elim (same_or t a) [
  | inl same ↦
      let at : eq_by_cmp nat_cmp t a ≡ true = grind (arith, nat_tests) in
      let low : nat_le a t ≡ true = grind (arith, nat_tests) in
      let high : nat_lt t (a + suc n) ≡ true = grind (arith, nat_tests) in
      ap (λ b. cond (in_run t (a + 1) n) x (cond b x y)) at
      ∙ (both_hit (in_run t (a + 1) n) x
      ∙ sym (ap (λ b. cond (b && nat_lt t (a + suc n)) x y) low ∙ ap (λ b. cond b x y) high))
  | inr other ↦
      let at : eq_by_cmp nat_cmp t a ≡ false = grind (arith, nat_tests) in
      let end : a + 1 + n ≡ a + suc n = omega arith in
      ap (λ b. cond (in_run t (a + 1) n) x (cond b x y)) at
      ∙ (ap (λ b. cond (b && nat_lt t (a + 1 + n)) x y) (next_le t a other)
      ∙ ap (λ m. cond (nat_le a t && nat_lt t m) x y) end)
]

no_run : (t a : ℕ) → in_run t a 0 ≡ false
no_run t a = elim (lt_or t a) [
  | inl less ↦
      let low : nat_le a t ≡ false = grind (arith, nat_tests) in
      ap (λ b. b && nat_lt t (a + 0)) low
  | inr le ↦
      let low : nat_le a t ≡ true = grind (arith, nat_tests) in
      let high : nat_lt t (a + 0) ≡ false = grind (arith, nat_tests) in
      ap (λ b. b && nat_lt t (a + 0)) low ∙ high
]

-- at the ids of a run a set has the bytes afterwards, and elsewhere what it had
pub get_run : (tiles : TileSet) (bytes : List ℕ) (p : Place) (a n : ℕ) → InRange p → a + n ≤ MAX_TILE_ID + 1 → get (with_ids tiles bytes (range_with_len a n)) p ≡ cond (in_run (address p) a n) (Some (Some bytes)) (get tiles p)
get_run tiles bytes p a zero range le = sym (ap (λ b. cond b (Some (Some bytes)) (get tiles p)) (no_run (address p) a))
get_run tiles bytes p a (suc n) range le =
    get_run (insert tiles (place_of_id a) (Some bytes)) bytes p (a + 1) n range (omega (arith, le))
    ∙ (ap (λ y. cond (in_run (address p) (a + 1) n) (Some (Some bytes)) y) (after_one tiles bytes p a range (omega (arith, le)))
    ∙ run_step (address p) a n (Some (Some bytes)) (get tiles p))

-- ids below those of zoom 31 have places of a set
pub place_on_board : (t : ℕ) → t < FIRST_TOO_DEEP → IsOnBoard (place_of_id t)
unfolding tile_id
place_on_board t less =
    let max : t ≤ MAX_TILE_ID = omega arith in
    let h = has_id t max in
    let r = place_in_range t max in
    let c : Coord = coord_of t in
    let id : pyramid c.z + hilbert c.z (c.x, c.y) ≡ t = h.1 in
    record { zoom = shallow c.z (hilbert c.z (c.x, c.y)) t h.0.zoom id less; column = r.column; row = r.row }
  where
    shallow : (z n t : ℕ) → z ≤ 31 → pyramid z + n ≡ t → t < FIRST_TOO_DEEP → z < 31
    shallow z n t most id less = elim (lt_or z 31) [
      | inl low ↦ low
      | inr high ↦
          let last : z ≡ 31 = omega (arith, most, high) in
          let size : pyramid z ≡ 1537228672809129301 = ap pyramid last in
          absurd (omega (arith, id, less, size))
    ]

is_some_cond : (b : Bool) (x : Option (List ℕ)) (o : At) → is_some (cond b (Some x) o) ≡ (b || is_some o)
is_some_cond true x o = refl
is_some_cond false x o = refl

pub insert_on_board : (tiles : TileSet) (q : Place) (v : Option (List ℕ)) → IsOnBoard q → AreOnBoard tiles → AreOnBoard (insert tiles q v)
insert_on_board tiles q v on all p has = by_tie (eq_by_cmp place_cmp p q) refl (sym (ap is_some (get-insert places_total tiles q v p) ∙ is_some_cond (eq_by_cmp place_cmp p q) v (get tiles p)) ∙ has)
  where
    by_tie : (b : Bool) → eq_by_cmp place_cmp p q ≡ b → (b || contains_key tiles p) ≡ true → IsOnBoard p
    by_tie true at h = subst IsOnBoard (sym (same_place p q at)) on
    by_tie false at h = all p h

pub run_on_board : (tiles : TileSet) (bytes : List ℕ) (a n : ℕ) → a + n ≤ FIRST_TOO_DEEP → AreOnBoard tiles → AreOnBoard (with_ids tiles bytes (range_with_len a n))
run_on_board tiles bytes a zero le all = all
run_on_board tiles bytes a (suc n) le all =
    run_on_board (insert tiles (place_of_id a) (Some bytes)) bytes (a + 1) n (omega (arith, le))
    (insert_on_board tiles (place_of_id a) (Some bytes) (place_on_board a (omega (arith, le))) all)

-- a run adds at most as many tiles as it has ids
at_most_one : (b : Bool) (n : ℕ) → cond b n (n + 1) ≤ n + 1
at_most_one true n = omega arith
at_most_one false n = omega arith

pub run_few : (tiles : TileSet) (bytes : List ℕ) (a n : ℕ) → len (with_ids tiles bytes (range_with_len a n)) ≤ len tiles + n
run_few tiles bytes a zero = omega arith
run_few tiles bytes a (suc n) =
    let more = run_few (insert tiles (place_of_id a) (Some bytes)) bytes (a + 1) n in
    let one = len-insert places_total tiles (place_of_id a) (Some bytes) in
    let most = at_most_one (contains_key tiles (place_of_id a)) (len tiles) in
    omega (arith, more, one, most)

-- bytes that were put at the coordinates of ids
tiles_placed : (h : Held) (ts : List ℕ) (bytes : List ℕ) → (with_tiles h (map place_of_id ts) bytes).state.tiles ≡ with_ids h.state.tiles bytes ts
tiles_placed h [] bytes = refl
tiles_placed h (t ∷ ts) bytes = tiles_placed (with_tile h (place_of_id t) bytes) ts bytes

pub run_placed : {E : Type 0} (r : Result Unit E) (old new : Held) (coords : List Coord) (ts bytes given : List ℕ) → map place_at coords ≡ map place_of_id ts → given ≡ bytes → OnOk r (new ≡ with_tiles old (map place_at coords) given)
    → OnOk r (new.state.tiles ≡ with_ids old.state.tiles bytes ts)
run_placed (Err e) old new coords ts bytes given places same put = put
run_placed (Ok x) old new coords ts bytes given places same put =
    ap (λ (h : Held). h.state.tiles) put
    ∙ (ap (λ ps. (with_tiles old ps given).state.tiles) places
    ∙ (ap (λ l. (with_tiles old (map place_of_id ts) l).state.tiles) same ∙ tiles_placed old ts bytes))
