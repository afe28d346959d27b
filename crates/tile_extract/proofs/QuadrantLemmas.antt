-- The ids of a quadrant, and which of them are wanted.
use Rattle.tile_extract.proofs.Common.{AllWanted, ap, area_of, arith, block_start, Bool, box_covers, box_holds, box_meets, boxes_hold, Coord, coord_of, false, filter, Gathered, id_of, in_boxes, in_intervals, IsCoord, list_any, List}
use Rattle.tile_extract.proofs.Common.{MAX_TILE_ID, nat_le, nat_lt, nat_tests, number_of, inl, inr, pyramid, refl, suc, sym, true, true≢false, Wants, ZoomBox, ℕ, ◌&&◌, ◌*◌, ◌+◌, ◌-◌, ◌<◌, ◌==◌, ◌^◌, ◌∙◌, ◌≡◌, ◌≤◌, ◌⊎◌}
use Rattle.tile_extract.proofs.GatheringLemmas.{passed}
use Rattle.std.proofs.lemmas.Map.Views.{any-filter_same}
use Rattle.std.proofs.Math.Nat.{pow-succ'}
use Rattle.tile_ids.proofs.Bijection.{id_within, is_coord_of}
use Rattle.tile_ids.proofs.Curve.{four_pos, pyramid_next, hilbert_below}
use Rattle.tile_ids.proofs.SubtreeLemmas.{between, block_below, tile_at}
use Rattle.tile_extract.proofs.AreaLemmas.{any_implies, covers_holds, descendant_in, holds_meets, InArea, meets_holds}

-- the tile of an id of a quadrant
pub record TileOf (c : Coord) (zoom id : ℕ) : Type 0 where
  pub tile : Coord
  pub coord : IsCoord tile
  pub level : tile.z ≡ zoom
  pub has : id_of tile ≡ id
  pub inside : InArea (area_of c zoom) tile

pub tile_in : (c : Coord) (zoom id : ℕ) → IsCoord c → c.z ≤ zoom → zoom ≤ 31 → block_start zoom c.z (number_of c) ≤ id → id < block_start zoom c.z (number_of c + 1) → TileOf c zoom id
tile_in c zoom id q low most from below =
    let count = 4 ^ (zoom - c.z) in
    let some = four_pos (zoom - c.z) in
    let room = block_below c.z zoom (number_of c) low (hilbert_below c.z (c.x, c.y)) in
    let first = pyramid zoom + number_of c * count in
    let last = pyramid zoom + number_of c * count + (count - 1) in
    let next : (number_of c + 1) * count ≡ number_of c * count + count = omega arith in
    let t = tile_at zoom (id - pyramid zoom) most (omega (arith, from, below, next, room)) in
    let has : id_of t.0 ≡ id = omega (arith, t.3, from) in
    let both = between c t.0 zoom (first, last) q t.1 low t.2 (record { first = refl; last = refl }) in
    record {
      tile = t.0;
      coord = t.1;
      level = t.2;
      has = has;
      inside = descendant_in c t.0 zoom t.2 (both.1 (omega (arith, has, from), omega (arith, has, below, next, some)));
    }

-- none of them is wanted where no box meets the quadrant
pub none_wanted : (boxes : List ZoomBox) (wanted : ℕ → Bool) (c : Coord) (zoom : ℕ) → Wants boxes zoom wanted → IsCoord c → c.z ≤ zoom → zoom ≤ 31 → list_any (box_meets (area_of c zoom)) boxes ≡ false
    → (id : ℕ) → block_start zoom c.z (number_of c) ≤ id → id < block_start zoom c.z (number_of c + 1) → wanted id ≡ false
none_wanted boxes wanted c zoom wants q low most unmet id from below =
    let t = tile_in c zoom id q low most from below in
    ap wanted (sym t.has) ∙ wants t.tile t.coord t.level ∙ by_test t.tile t.inside (in_boxes boxes t.tile) refl
  where
    by_test : (d : Coord) → InArea (area_of c zoom) d → (x : Bool) → in_boxes boxes d ≡ x → x ≡ false
    by_test d inside true is =
        let met = any_implies (box_holds d) (box_meets (area_of c zoom)) (λ b h. holds_meets (area_of c zoom) b d inside h) boxes is in
        absurd (true≢false (sym met ∙ unmet))
    by_test d inside false is = refl

-- all are where a box covers it
pub all_wanted : (boxes : List ZoomBox) (wanted : ℕ → Bool) (c : Coord) (zoom : ℕ) → Wants boxes zoom wanted → IsCoord c → c.z ≤ zoom → zoom ≤ 31 → list_any (box_covers (area_of c zoom)) boxes ≡ true
    → AllWanted wanted (block_start zoom c.z (number_of c)) (block_start zoom c.z (number_of c + 1))
all_wanted boxes wanted c zoom wants q low most covered id from below =
    let t = tile_in c zoom id q low most from below in
    ap wanted (sym t.has) ∙ wants t.tile t.coord t.level ∙ any_implies (box_covers (area_of c zoom)) (box_holds t.tile) (λ b h. covers_holds (area_of c zoom) b t.tile t.inside h) boxes covered

-- and where it is one tile that a box meets
pub one_wanted : (boxes : List ZoomBox) (wanted : ℕ → Bool) (c : Coord) (zoom : ℕ) → Wants boxes zoom wanted → IsCoord c → c.z ≡ zoom → zoom ≤ 31 → list_any (box_meets (area_of c zoom)) boxes ≡ true
    → AllWanted wanted (block_start zoom c.z (number_of c)) (block_start zoom c.z (number_of c + 1))
one_wanted boxes wanted c zoom wants q level most met id from below =
    let t = tile_in c zoom id q (omega (arith, level)) most from below in
    let one : 2 ^ (zoom - c.z) ≡ 1 = ap (λ n. 2 ^ n) (let z : zoom - c.z ≡ 0 = omega (arith, level) in z) in
    let wide : c.x * 2 ^ (zoom - c.z) + (2 ^ (zoom - c.z) - 1) ≡ c.x * 2 ^ (zoom - c.z) = omega (arith, one) in
    let high : c.y * 2 ^ (zoom - c.z) + (2 ^ (zoom - c.z) - 1) ≡ c.y * 2 ^ (zoom - c.z) = omega (arith, one) in
    ap wanted (sym t.has) ∙ wants t.tile t.coord t.level ∙ any_implies (box_meets (area_of c zoom)) (box_holds t.tile) (λ b h. meets_holds (area_of c zoom) b t.tile t.inside wide high h) boxes met

-- a quadrant as the code has it: its tile and the area of that
pub record IsQuadrant (zoom level number : ℕ) (c : Coord) (area : ZoomBox) : Type 0 where
  pub coord : IsCoord c
  pub level_is : c.z ≡ level
  pub number_is : number_of c ≡ number
  pub low : level ≤ zoom
  pub most : zoom ≤ 31
  pub area_is : area ≡ area_of c zoom

block_is : (zoom level number : ℕ) (c : Coord) (area : ZoomBox) (more : ℕ) → IsQuadrant zoom level number c area → block_start zoom c.z (number_of c + more) ≡ block_start zoom level (number + more)
block_is zoom level number c area more q = ap (λ z. block_start zoom z (number_of c + more)) q.level_is ∙ ap (λ n. block_start zoom level (n + more)) q.number_is

first_is : (zoom level number : ℕ) (c : Coord) (area : ZoomBox) → IsQuadrant zoom level number c area → block_start zoom c.z (number_of c) ≡ block_start zoom level number
first_is zoom level number c area q = ap (λ z. block_start zoom z (number_of c)) q.level_is ∙ ap (block_start zoom level) q.number_is

low_is : (zoom level number : ℕ) (c : Coord) (area : ZoomBox) → IsQuadrant zoom level number c area → c.z ≤ zoom
low_is zoom level number c area q = omega (arith, q.level_is, q.low)

-- it is left out
pub left_out : (boxes : List ZoomBox) (wanted : ℕ → Bool) (zoom level number : ℕ) (c : Coord) (area : ZoomBox) (met : Bool) (is : List (ℕ × ℕ)) → IsQuadrant zoom level number c area → met ≡ list_any (box_meets area) boxes → met ≡ false → Wants boxes zoom wanted
    → Gathered wanted (block_start zoom level number) is → Gathered wanted (block_start zoom level (number + 1)) is
left_out boxes wanted zoom level number c area met is q test unmet wants g =
    let none : list_any (box_meets (area_of c zoom)) boxes ≡ false = sym (ap (λ a. list_any (box_meets a) boxes) q.area_is) ∙ sym test ∙ unmet in
    let f = first_is zoom level number c area q in
    let n = block_is zoom level number c area 1 q in
    let next : (number + 1) * 4 ^ (zoom - level) ≡ number * 4 ^ (zoom - level) + 4 ^ (zoom - level) = omega arith in
    passed wanted (block_start zoom level number) (block_start zoom level (number + 1)) is (omega (arith, next))
    (λ id from below. none_wanted boxes wanted c zoom wants q.coord (low_is zoom level number c area q) q.most none id (omega (arith, f, from)) (omega (arith, n, below))) g

-- or taken
pub taken_all : (boxes : List ZoomBox) (wanted : ℕ → Bool) (zoom level number : ℕ) (c : Coord) (area : ZoomBox) (met : Bool) → IsQuadrant zoom level number c area → met ≡ list_any (box_meets area) boxes → met ≡ true
    → (level ≡ zoom) ⊎ (list_any (box_covers area) boxes ≡ true) → Wants boxes zoom wanted → AllWanted wanted (block_start zoom level number) (block_start zoom level (number + 1))
taken_all boxes wanted zoom level number c area met q test is (inl one) wants id from below =
    let some : list_any (box_meets (area_of c zoom)) boxes ≡ true = sym (ap (λ a. list_any (box_meets a) boxes) q.area_is) ∙ sym test ∙ is in
    let f = first_is zoom level number c area q in
    let n = block_is zoom level number c area 1 q in
    one_wanted boxes wanted c zoom wants q.coord (q.level_is ∙ one) q.most some id (omega (arith, f, from)) (omega (arith, n, below))
taken_all boxes wanted zoom level number c area met q test is (inr covered) wants id from below =
    let all : list_any (box_covers (area_of c zoom)) boxes ≡ true = sym (ap (λ a. list_any (box_covers a) boxes) q.area_is) ∙ covered in
    let f = first_is zoom level number c area q in
    let n = block_is zoom level number c area 1 q in
    all_wanted boxes wanted c zoom wants q.coord (low_is zoom level number c area q) q.most all id (omega (arith, f, from)) (omega (arith, n, below))

-- the quadrant of a tile ends where the next one begins, and its four children are one after another
pub first_child : (zoom level number : ℕ) → level < zoom → block_start zoom (level + 1) (4 * number) ≡ block_start zoom level number
first_child zoom level number deep =
    let e : zoom - level ≡ suc (zoom - (level + 1)) = omega (arith, deep) in
    let p : 4 ^ (zoom - level) ≡ 4 * 4 ^ (zoom - (level + 1)) = ap (λ n. 4 ^ n) e ∙ pow-succ' 4 (zoom - (level + 1)) in
    ap (λ n. pyramid zoom + n) (sym (ap (λ n. number * n) p ∙ regroup number (4 ^ (zoom - (level + 1)))))
  where
    regroup : (n m : ℕ) → n * (4 * m) ≡ 4 * n * m
    regroup n m = omega arith

pub last_child : (zoom level number : ℕ) → level < zoom → block_start zoom (level + 1) (4 * number + 4) ≡ block_start zoom level (number + 1)
last_child zoom level number deep =
    let e : 4 * number + 4 ≡ 4 * (number + 1) = omega arith in
    ap (block_start zoom (level + 1)) e ∙ first_child zoom level (number + 1) deep

-- a whole zoom
pub zoom_start : (zoom : ℕ) → block_start zoom 0 0 ≡ pyramid zoom
zoom_start zoom = omega arith

pub zoom_end : (zoom : ℕ) → block_start zoom 0 1 ≡ pyramid (zoom + 1)
zoom_end zoom =
    let s : zoom + 1 ≡ suc zoom = omega arith in
    let n : pyramid (zoom + 1) ≡ pyramid zoom + 4 ^ zoom = ap pyramid s ∙ pyramid_next zoom in
    let z : zoom - 0 ≡ zoom = omega arith in
    let e : 4 ^ (zoom - 0) ≡ 4 ^ zoom = ap (λ k. 4 ^ k) z in
    omega (arith, n, e)

-- the boxes of a zoom have its tiles
pub near_hold : (boxes : List ZoomBox) (zoom : ℕ) (d : Coord) → d.z ≡ zoom → in_boxes (filter (λ b. b.zoom == zoom) boxes) d ≡ in_boxes boxes d
near_hold boxes zoom d level =
    any-filter_same (box_holds d) (λ b. b.zoom == zoom) true (λ b h. of_zoom b h) boxes
  where
    of_zoom : (b : ZoomBox) → box_holds d b ≡ true → (b.zoom == zoom) ≡ true
    of_zoom b h = grind (arith, nat_tests)

-- an id of boxes is that of one of their tiles
pub held_by_tile : (boxes : List ZoomBox) (c : Coord) → IsCoord c → boxes_hold boxes (id_of c) ≡ in_boxes boxes c
held_by_tile boxes c q =
    let within = id_within c q in
    let test : nat_le (id_of c) MAX_TILE_ID ≡ true = grind (arith, nat_tests) in
    ap (λ t. t && in_boxes boxes (coord_of (id_of c))) test ∙ ap (in_boxes boxes) (sym (is_coord_of (id_of c) c within q refl))

pub wants_near : (boxes : List ZoomBox) (zoom : ℕ) → Wants (filter (λ b. b.zoom == zoom) boxes) zoom (boxes_hold boxes)
wants_near boxes zoom d q level = held_by_tile boxes d q ∙ sym (near_hold boxes zoom d level)

-- all zooms
pub all_gathered : (boxes : List ZoomBox) (is : List (ℕ × ℕ)) → Gathered (boxes_hold boxes) (MAX_TILE_ID + 1) is → (id : ℕ) → in_intervals id is ≡ boxes_hold boxes id
all_gathered boxes is g id = g.are id ∙ by_test (nat_lt id (MAX_TILE_ID + 1)) (nat_le id MAX_TILE_ID) refl refl
  where
    by_test : (s t : Bool) → nat_lt id (MAX_TILE_ID + 1) ≡ s → nat_le id MAX_TILE_ID ≡ t → (s && (t && in_boxes boxes (coord_of id))) ≡ (t && in_boxes boxes (coord_of id))
    by_test true t e f = refl
    by_test false false e f = refl
    by_test false true e f = absurd (grind (arith, nat_tests))
