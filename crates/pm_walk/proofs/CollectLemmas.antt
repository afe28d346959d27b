-- Room for tiles.
use Rattle.pm_walk.proofs.Common.{arith, Bool, Entry, false, if◌then◌else◌, List, nat_le, nat_tests, None, none-some, Option, refl, room_after, Some, sym, tile_count, true, ℕ, [], ◌+◌, ◌-◌, ◌<◌, ◌∙◌}
use Rattle.pm_walk.proofs.Common.{◌∷◌, ◌≡◌, ◌≤◌}
use Rattle.pm_walk.proofs.CollectingLemmas.{room_none}

-- room that is left says that there was enough, and none that there wasn't
pub enough : (n : ℕ) (ps : List Entry) (x : ℕ) → room_after (Some n) ps ≡ Some x → tile_count ps ≤ n
enough n [] x is = omega arith
enough n (p ∷ ps) x is = by_test (nat_le p.run_length n) refl (λ at. enough (n - p.run_length) ps x at) is
  where
    by_test : (t : Bool) → nat_le p.run_length n ≡ t → (room_after (Some (n - p.run_length)) ps ≡ Some x → tile_count ps ≤ n - p.run_length) → room_after (if t then Some (n - p.run_length) else None) ps ≡ Some x → p.run_length + tile_count ps ≤ n
    by_test true fits rest is = let a = rest is in let b : p.run_length ≤ n = grind (arith, nat_tests) in omega (arith, a, b)
    by_test false fits rest is = absurd (none-some x (sym (room_none ps) ∙ is))

pub too_many : (n : ℕ) (ps : List Entry) → room_after (Some n) ps ≡ None → n < tile_count ps
too_many n [] is = absurd (none-some n (sym is))
too_many n (p ∷ ps) is = by_test (nat_le p.run_length n) refl (λ at. too_many (n - p.run_length) ps at) is
  where
    by_test : (t : Bool) → nat_le p.run_length n ≡ t → (room_after (Some (n - p.run_length)) ps ≡ None → n - p.run_length < tile_count ps) → room_after (if t then Some (n - p.run_length) else None) ps ≡ None → n < p.run_length + tile_count ps
    by_test true fits rest is = let a = rest is in omega (arith, a)
    by_test false fits rest is = let b : n < p.run_length = grind (arith, nat_tests) in omega (arith, b)

-- what is taken of the room, where enough is left
pub room_taken : (room : Option ℕ) (ps : List Entry) (x : ℕ) → room_after room ps ≡ Some x → (n : ℕ) × (room ≡ Some n) × (x + tile_count ps ≡ n)
room_taken None ps x is = absurd (none-some x (sym (room_none ps) ∙ is))
room_taken (Some n) ps x is = (n, refl, left n ps x is)
  where
    left : (n : ℕ) (ps : List Entry) (x : ℕ) → room_after (Some n) ps ≡ Some x → x + tile_count ps ≡ n
    left n [] x is = let same : n ≡ x = cc in omega (arith, same)
    left n (p ∷ ps) x is = by_test (nat_le p.run_length n) refl (λ at. left (n - p.run_length) ps x at) is
      where
        by_test : (t : Bool) → nat_le p.run_length n ≡ t → (room_after (Some (n - p.run_length)) ps ≡ Some x → x + tile_count ps ≡ n - p.run_length) → room_after (if t then Some (n - p.run_length) else None) ps ≡ Some x
            → x + (p.run_length + tile_count ps) ≡ n
        by_test true fits rest is = let a = rest is in let b : p.run_length ≤ n = grind (arith, nat_tests) in omega (arith, a, b)
        by_test false fits rest is = absurd (none-some x (sym (room_none ps) ∙ is))
