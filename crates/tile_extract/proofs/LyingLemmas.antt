-- Adds in intervals, and how many they are.
use Rattle.tile_extract.proofs.Common.{add_to, Adds, AddsLieIn, ap, AreOrdered, arith, Bool, cond, Entry, eq_by_cmp, false, find, has_room, in_intervals, length, length-append, List, nat_cmp, nat_tests, Ok, Option, Options}
use Rattle.tile_extract.proofs.Common.{PutsAll, range_with_len, refl, Some, subst, suc, sym, tile_count, true, zero, ℕ, [], ◌+◌, ◌<◌, ◌∷◌, ◌≡◌, ◌≤◌}
use Rattle.tile_extract.proofs.AddedLemmas.{ok_is, with_room}

adds_add : (is : List (ℕ × ℕ)) (done : Adds) (id : ℕ) (taken : List ℕ) → in_intervals id is ≡ true → AddsLieIn is done → AddsLieIn is (add_to done id taken)
adds_add is done id [] at w = w
adds_add is [] id (b ∷ taken) at w = (at, tt)
adds_add is (a ∷ done) id (b ∷ taken) at w = (w.0, adds_add is done id (b ∷ taken) at w.1)

count_add : (done : Adds) (id : ℕ) (taken : List ℕ) → length (add_to done id taken) ≤ length done + 1
count_add done id [] = omega arith
count_add done id (b ∷ taken) = omega (arith, length-append done ((id, b ∷ taken) ∷ []))

pub puts_few : (takes : List ℕ → List ℕ → Type 0) (o : Options) (bytes : List ℕ) (n id : ℕ) (done more : Adds) → PutsAll takes o bytes done (range_with_len id n) (Ok more) → length more ≤ length done + n
puts_few takes o bytes zero id done more is = omega (arith, ap length (ok_is more done is))
puts_few takes o bytes (suc n) id done more is =
    with_room (has_room o done id is.0) (PutsAll takes o bytes (add_to done id is.0) (range_with_len (id + 1) n) (Ok more)) more
    (λ at. let a = puts_few takes o bytes n (id + 1) (add_to done id is.0) more at in let b = count_add done id is.0 in omega (arith, a, b)) is.2

pub puts_lie : (takes : List ℕ → List ℕ → Type 0) (o : Options) (bytes : List ℕ) (is : List (ℕ × ℕ)) (n id : ℕ) (done more : Adds) → PutsAll takes o bytes done (range_with_len id n) (Ok more)
    → ((t : ℕ) → id ≤ t → t < id + n → in_intervals t is ≡ true) → AddsLieIn is done → AddsLieIn is more
puts_lie takes o bytes is zero id done more put inside w = subst (AddsLieIn is) (sym (ok_is more done put)) w
puts_lie takes o bytes is (suc n) id done more put inside w =
    with_room (has_room o done id put.0) (PutsAll takes o bytes (add_to done id put.0) (range_with_len (id + 1) n) (Ok more)) more
    (λ at. puts_lie takes o bytes is n (id + 1) (add_to done id put.0) more at (λ t low high. inside t (omega (arith, low)) (omega (arith, high))) (adds_add is done id put.0 (inside id (omega arith) (omega arith)) w)) put.2

-- an id that has a tile among adds is one of theirs
pub found_lies : (is : List (ℕ × ℕ)) (adds : Adds) (id : ℕ) (bytes : List ℕ) → AddsLieIn is adds → find nat_cmp id adds ≡ Some bytes → in_intervals id is ≡ true
found_lies is [] id bytes w at = absurd (cc)
found_lies is (a ∷ adds) id bytes w at = by_test (eq_by_cmp nat_cmp id a.0) refl (λ later. found_lies is adds id bytes w.1 later) at
  where
    by_test : (t : Bool) → eq_by_cmp nat_cmp id a.0 ≡ t → (find nat_cmp id adds ≡ Some bytes → in_intervals id is ≡ true) → cond t (Some a.1) (find nat_cmp id adds) ≡ Some bytes → in_intervals id is ≡ true
    by_test true test rest at = let same : id ≡ a.0 = grind (arith, nat_tests) in subst (λ n. in_intervals n is ≡ true) (sym same) w.0
    by_test false test rest at = rest at

-- parts have at least one id each
pub as_many_ids : (low : ℕ) (ps : List Entry) (end : Option ℕ) → AreOrdered low ps end → length ps ≤ tile_count ps
as_many_ids low [] end order = omega arith
as_many_ids low (p ∷ ps) end order = let rest = as_many_ids (p.tile_id + p.run_length) ps end order.3 in omega (arith, order.1, rest)
