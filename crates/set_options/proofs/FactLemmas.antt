-- Tiles may be taken in any order, and twice as well as once.
use Rattle.set_options.proofs.Common.{arith, Bool, false, not, None, Option, refl, Some, TileFacts, true, ℕ, ◌≡◌}
use Rattle.set_options.specs.Facts.{with_filled, with_zoom}
use Rattle.std.proofs.Common.{max, min, ◌||◌}
use Rattle.std.proofs.Math.Nat.{max_comm, min_comm}

least : (z a b : ℕ) → min (min z a) b ≡ min (min z b) a
least z a b = omega arith

greatest : (z a b : ℕ) → max (max z a) b ≡ max (max z b) a
greatest z a b = omega arith

zooms_swap : (o : Option (ℕ × ℕ)) (a b : ℕ) → with_zoom (with_zoom o a) b ≡ with_zoom (with_zoom o b) a
zooms_swap None a b = λ i. Some (min_comm a b i, max_comm a b i)
zooms_swap (Some z) a b = λ i. Some (least z.0 a b i, greatest z.1 a b i)

zooms_twice : (o : Option (ℕ × ℕ)) (a : ℕ) → with_zoom (with_zoom o a) a ≡ with_zoom o a
zooms_twice None a =
    let low : min a a ≡ a = omega arith in
    let high : max a a ≡ a = omega arith in
    λ i. Some (low i, high i)
zooms_twice (Some z) a =
    let low : min (min z.0 a) a ≡ min z.0 a = omega arith in
    let high : max (max z.1 a) a ≡ max z.1 a = omega arith in
    λ i. Some (low i, high i)

or_swap : (a b c : Bool) → ((a || b) || c) ≡ ((a || c) || b)
or_swap true b c = refl
or_swap false true true = refl
or_swap false true false = refl
or_swap false false true = refl
or_swap false false false = refl

or_twice : (a b : Bool) → ((a || b) || b) ≡ (a || b)
or_twice true b = refl
or_twice false true = refl
or_twice false false = refl

pub filled_swap : (f : TileFacts) (a b : ℕ) (x y : Bool) → with_filled (with_filled f a x) b y ≡ with_filled (with_filled f b y) a x
filled_swap f a b x y = λ i. record { zooms = zooms_swap f.zooms a b i; gzip = or_swap f.gzip x y i; plain = or_swap f.plain (not x) (not y) i }

pub filled_twice : (f : TileFacts) (a : ℕ) (x : Bool) → with_filled (with_filled f a x) a x ≡ with_filled f a x
filled_twice f a x = λ i. record { zooms = zooms_twice f.zooms a i; gzip = or_twice f.gzip x i; plain = or_twice f.plain (not x) i }
