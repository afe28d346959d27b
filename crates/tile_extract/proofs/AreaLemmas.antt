-- The tiles of an area, and boxes that meet or cover it.
use Rattle.tile_extract.proofs.Common.{and_from, and_parts, ap, area_of, arith, Bool, box_covers, box_holds, box_meets, Coord, false, IsDescendant, list_any, List, nat_eq, nat_le, nat_tests, refl, subst, sym, true, ZoomBox, ℕ, [], ◌&&◌, ◌*◌, ◌+◌, ◌-◌, ◌/◌, ◌%◌, ◌<◌, ◌^◌, ◌||◌, ◌∙◌, ◌∷◌, ◌≡◌, ◌≤◌}
use Rattle.std.proofs.lemmas.Nat.{div-add-mod', pow_pos}

-- a tile of an area
pub record InArea (area : ZoomBox) (d : Coord) : Type 0 where
  pub zoom : d.z ≡ area.zoom
  pub left : area.min_x ≤ d.x
  pub right : d.x ≤ area.max_x
  pub top : area.min_y ≤ d.y
  pub bottom : d.y ≤ area.max_y

-- the numbers with one quotient
quotient : (a m n : ℕ) → 0 < m → n / m ≡ a → (a * m ≤ n) × (n ≤ a * m + (m - 1))
quotient a m n pos e =
    let w : a * m + n % m ≡ n = ap (λ q. q * m + n % m) (sym e) ∙ div-add-mod' n m in
    (omega (arith, w), omega (arith, w, pos))

-- the descendants of a tile
pub descendant_in : (c d : Coord) (zoom : ℕ) → d.z ≡ zoom → IsDescendant c d → InArea (area_of c zoom) d
descendant_in c d zoom level w =
    let side = 2 ^ (zoom - c.z) in
    let x = quotient c.x side d.x (pow_pos (zoom - c.z)) (subst (λ k. d.x / 2 ^ (k - c.z) ≡ c.x) level w.column) in
    let y = quotient c.y side d.y (pow_pos (zoom - c.z)) (subst (λ k. d.y / 2 ^ (k - c.z) ≡ c.y) level w.row) in
    record { zoom = level; left = x.0; right = x.1; top = y.0; bottom = y.1 }

-- five tests
record Passes (a b c d e : Bool) : Type 0 where
  p1 : a ≡ true
  p2 : b ≡ true
  p3 : c ≡ true
  p4 : d ≡ true
  p5 : e ≡ true

passes : (a b c d e : Bool) → (a && b && c && d && e) ≡ true → Passes a b c d e
passes a b c d e is =
    let p = and_parts (a && b && c && d) e is in
    let q = and_parts (a && b && c) d p.0 in
    let r = and_parts (a && b) c q.0 in
    let s = and_parts a b r.0 in
    record { p1 = s.0; p2 = s.1; p3 = r.1; p4 = q.1; p5 = p.1 }

pass_all : (a b c d e : Bool) → a ≡ true → b ≡ true → c ≡ true → d ≡ true → e ≡ true → (a && b && c && d && e) ≡ true
pass_all a b c d e p q r s t = and_from (a && b && c && d) e (and_from (a && b && c) d (and_from (a && b) c (and_from a b p q) r) s) t

-- a box that covers an area has its tiles
pub covers_holds : (area b : ZoomBox) (d : Coord) → InArea area d → box_covers area b ≡ true → box_holds d b ≡ true
covers_holds area b d i is =
    let p = passes (nat_eq b.zoom area.zoom) (nat_le b.min_x area.min_x) (nat_le area.max_x b.max_x) (nat_le b.min_y area.min_y) (nat_le area.max_y b.max_y) is in
    let e : b.zoom ≡ area.zoom = let h = p.p1 in grind (arith, nat_tests) in
    pass_all (nat_eq b.zoom d.z) (nat_le b.min_x d.x) (nat_le d.x b.max_x) (nat_le b.min_y d.y) (nat_le d.y b.max_y)
    (let f = i.zoom in grind (arith, nat_tests)) (let f = i.left in let h = p.p2 in grind (arith, nat_tests)) (let f = i.right in let h = p.p3 in grind (arith, nat_tests))
    (let f = i.top in let h = p.p4 in grind (arith, nat_tests)) (let f = i.bottom in let h = p.p5 in grind (arith, nat_tests))

-- and one that has one of its tiles meets it
pub holds_meets : (area b : ZoomBox) (d : Coord) → InArea area d → box_holds d b ≡ true → box_meets area b ≡ true
holds_meets area b d i is =
    let p = passes (nat_eq b.zoom d.z) (nat_le b.min_x d.x) (nat_le d.x b.max_x) (nat_le b.min_y d.y) (nat_le d.y b.max_y) is in
    let e : b.zoom ≡ d.z = let h = p.p1 in grind (arith, nat_tests) in
    pass_all (nat_eq b.zoom area.zoom) (nat_le b.min_x area.max_x) (nat_le area.min_x b.max_x) (nat_le b.min_y area.max_y) (nat_le area.min_y b.max_y)
    (let f = i.zoom in grind (arith, nat_tests)) (let f = i.right in let h = p.p2 in grind (arith, nat_tests)) (let f = i.left in let h = p.p3 in grind (arith, nat_tests))
    (let f = i.bottom in let h = p.p4 in grind (arith, nat_tests)) (let f = i.top in let h = p.p5 in grind (arith, nat_tests))

-- a box that meets an area of one tile has it
pub meets_holds : (area b : ZoomBox) (d : Coord) → InArea area d → area.max_x ≡ area.min_x → area.max_y ≡ area.min_y → box_meets area b ≡ true → box_holds d b ≡ true
meets_holds area b d i wide high is =
    let p = passes (nat_eq b.zoom area.zoom) (nat_le b.min_x area.max_x) (nat_le area.min_x b.max_x) (nat_le b.min_y area.max_y) (nat_le area.min_y b.max_y) is in
    let e : b.zoom ≡ area.zoom = let h = p.p1 in grind (arith, nat_tests) in
    pass_all (nat_eq b.zoom d.z) (nat_le b.min_x d.x) (nat_le d.x b.max_x) (nat_le b.min_y d.y) (nat_le d.y b.max_y)
    (let f = i.zoom in grind (arith, nat_tests)) (let f = i.left in let h = p.p2 in grind (arith, nat_tests)) (let f = i.right in let h = p.p3 in grind (arith, nat_tests))
    (let f = i.top in let h = p.p4 in grind (arith, nat_tests)) (let f = i.bottom in let h = p.p5 in grind (arith, nat_tests))

-- what passes one test passes another
pub any_implies : (p q : ZoomBox → Bool) → ((b : ZoomBox) → p b ≡ true → q b ≡ true) → (boxes : List ZoomBox) → list_any p boxes ≡ true → list_any q boxes ≡ true
any_implies p q so [] is = is
any_implies p q so (b ∷ boxes) is = by_test (p b) (q b) refl refl (λ rest. any_implies p q so boxes rest) is
  where
    by_test : (x y : Bool) → p b ≡ x → q b ≡ y → (list_any p boxes ≡ true → list_any q boxes ≡ true) → (x || list_any p boxes) ≡ true → (y || list_any q boxes) ≡ true
    by_test x true e f next is = refl
    by_test true false e f next is = let s = so b e in absurd (cc)
    by_test false false e f next is = next is
