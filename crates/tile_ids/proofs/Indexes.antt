-- Stored indexes and the coordinates that they give.
use Rattle.tile_ids.proofs.Common.{ap, arith, Bool, Coord, false, index_of, inverted_y, IsIndexOf, nat_le, nat_lt, nat_tests, pos, refl, subst, sym, tile_index, true, ℕ, ℤ, ◌<◌, ◌^◌, ◌↔◌, ◌≡◌, ◌≤◌}
use Rattle.std.specs.Prelude.{Option, Some}

pub inverted_twice : (zoom y : ℕ) → y < 2 ^ zoom → inverted_y zoom (inverted_y zoom y) ≡ y
inverted_twice zoom y h = omega arith

-- the index of a coordinate, in natural numbers
at_most : (z x y : ℕ) (c : Coord) → index_of (Some z) (Some x) (Some y) ≡ Some c → IsIndexOf (Some (pos z)) (Some (pos x)) (Some (pos y)) c
at_most z x y c e = go (nat_le z 30) (nat_lt x (2 ^ z)) (nat_lt y (2 ^ z)) refl refl refl
  where
    go : (a b d : Bool) → nat_le z 30 ≡ a → nat_lt x (2 ^ z) ≡ b → nat_lt y (2 ^ z) ≡ d → IsIndexOf (Some (pos z)) (Some (pos x)) (Some (pos y)) c
    go true true true f g h =
        let low : z ≤ 30 = grind (arith, nat_tests) in
        let wide : x < 2 ^ z = grind (arith, nat_tests) in
        let high : y < 2 ^ z = grind (arith, nat_tests) in
        let e' = rw (f, index_of, g, h) at e in
        let found : Coord = record { z = z; x = x; y = inverted_y z y } in
        let same : found ≡ c = cc in
        subst (λ k. IsIndexOf (Some (pos z)) (Some (pos x)) (Some (pos y)) k) same
        record {
          coord = record { zoom = omega arith; column = wide; row = omega arith };
          within = low;
          level = refl;
          column = refl;
          bottom = ap (λ n. Some (pos n)) (sym (inverted_twice z y high));
        }
    go true true false f g h = let e' = rw (f, index_of, g, h) at e in cc
    go true false d f g h = let e' = rw (f, index_of, g) at e in cc
    go false b d f g h = let e' = rw (f, index_of) at e in cc

index_from : (z x y : Option ℤ) (c : Coord) → tile_index z x y ≡ Some c → IsIndexOf z x y c
index_from (Some (pos z)) (Some (pos x)) (Some (pos y)) c e = at_most z x y c e
index_from z x y c e = cc

index_to : (z x y : Option ℤ) (c : Coord) → IsIndexOf z x y c → tile_index z x y ≡ Some c
index_to z x y c w =
    let low : nat_le c.z 30 ≡ true = grind (arith, nat_tests, w.within) in
    let wide : nat_lt c.x (2 ^ c.z) ≡ true = grind (arith, nat_tests, w.coord.column) in
    let high : nat_lt (inverted_y c.z c.y) (2 ^ c.z) ≡ true = grind (arith, nat_tests, w.coord.row) in
    rw (w.level, w.column, w.bottom, low, index_of, wide, high, inverted_twice c.z c.y w.coord.row) refl

pub index_law : (z x y : Option ℤ) (c : Coord) → (tile_index z x y ≡ Some c) ↔ IsIndexOf z x y c
index_law z x y c = (index_from z x y c, index_to z x y c)
