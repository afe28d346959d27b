-- Intervals that are gathered in the order of ids.
use Rattle.tile_extract.proofs.Common.{AllWanted, ap, AreApart, AreParted, arith, Bool, false, Gathered, in_intervals, lies_in, List, nat_le, nat_lt, nat_tests, PartedBelow, refl, sym, true, ℕ, [], ◌&&◌, ◌++◌, ◌+◌, ◌<◌, ◌||◌, ◌∙◌, ◌∷◌, ◌≡◌, ◌≤◌}

-- no interval yet
pub none_gathered : (wanted : ℕ → Bool) → Gathered wanted 0 []
none_gathered wanted = record { parted = tt; are = λ id. let t : nat_lt id 0 ≡ false = grind (arith, nat_tests) in sym (ap (λ b. b && wanted id) t) }

-- ids that aren't wanted are passed
wide : (low : ℕ) (is : List (ℕ × ℕ)) (end next : ℕ) → end ≤ next → PartedBelow low is end → PartedBelow low is next
wide low [] end next le p = tt
wide low (i ∷ is) end next le p = (p.0, p.1, omega (arith, le, p.2), wide (i.1 + 2) is end next le p.3)

pub passed : (wanted : ℕ → Bool) (end next : ℕ) (is : List (ℕ × ℕ)) → end ≤ next → ((id : ℕ) → end ≤ id → id < next → wanted id ≡ false) → Gathered wanted end is → Gathered wanted next is
passed wanted end next is le none g = record { parted = wide 0 is end next le g.parted; are = λ id. g.are id ∙ by_test id (nat_lt id end) (nat_lt id next) refl refl }
  where
    by_test : (id : ℕ) (s t : Bool) → nat_lt id end ≡ s → nat_lt id next ≡ t → (s && wanted id) ≡ (t && wanted id)
    by_test id true true a b = refl
    by_test id false false a b = refl
    by_test id true false a b = absurd (grind (arith, nat_tests))
    by_test id false true a b = let below : id < next = grind (arith, nat_tests) in let from : end ≤ id = grind (arith, nat_tests) in sym (none id from below)

-- one more interval behind the others
in_more : (t : ℕ) (is : List (ℕ × ℕ)) (i : ℕ × ℕ) → in_intervals t (is ++ i ∷ []) ≡ (in_intervals t is || lies_in t i)
in_more t [] i = by_test (lies_in t i)
  where
    by_test : (b : Bool) → (b || false) ≡ (false || b)
    by_test true = refl
    by_test false = refl
in_more t (j ∷ is) i = ap (λ b. lies_in t j || b) (in_more t is i) ∙ by_test (lies_in t j)
  where
    by_test : (b : Bool) → (b || (in_intervals t is || lies_in t i)) ≡ ((b || in_intervals t is) || lies_in t i)
    by_test true = refl
    by_test false = refl

lies_joined : (id from to first last : ℕ) → from ≤ to → to + 1 ≡ first → first ≤ last → lies_in id (from, last) ≡ (lies_in id (from, to) || lies_in id (first, last))
lies_joined id from to first last a b c = by_test (nat_le from id) (nat_le id to) (nat_le first id) (nat_le id last) refl refl refl refl
  where
    by_test : (p q r s : Bool) → nat_le from id ≡ p → nat_le id to ≡ q → nat_le first id ≡ r → nat_le id last ≡ s → (p && s) ≡ ((p && q) || (r && s))
    by_test true true false true e f g h = refl
    by_test true false true s e f g h = refl
    by_test false true false s e f g h = refl
    by_test p q r s e f g h = absurd (grind (arith, nat_tests))

joined_are : (wanted : ℕ → Bool) (first last id : ℕ) → first ≤ last → AllWanted wanted first (last + 1) → ((nat_lt id first && wanted id) || lies_in id (first, last)) ≡ (nat_lt id (last + 1) && wanted id)
joined_are wanted first last id le all = by_test (nat_lt id first) (nat_lt id (last + 1)) (nat_le first id) (nat_le id last) refl refl refl refl
  where
    same : (w : Bool) (s : Bool) → (w || (false && s)) ≡ w
    same true s = refl
    same false s = refl

    by_test : (a b p q : Bool) → nat_lt id first ≡ a → nat_lt id (last + 1) ≡ b → nat_le first id ≡ p → nat_le id last ≡ q → ((a && wanted id) || (p && q)) ≡ (b && wanted id)
    by_test true true false q e f g h = same (wanted id) q
    by_test false true true true e f g h = let from : first ≤ id = grind (arith, nat_tests) in let below : id < last + 1 = grind (arith, nat_tests) in sym (all id from below)
    by_test false false true false e f g h = refl
    by_test a b p q e f g h = absurd (grind (arith, nat_tests))

-- where another interval may begin behind intervals that begin from an id on
abbrev pub free_from : ℕ → List (ℕ × ℕ) → ℕ
free_from low [] = low
free_from low (i ∷ is) = free_from (i.1 + 2) is

parted_more : (low : ℕ) (is : List (ℕ × ℕ)) (i : ℕ × ℕ) (end next : ℕ) → PartedBelow low is end → end ≤ next → free_from low is ≤ i.0 → i.0 ≤ i.1 → i.1 < next → PartedBelow low (is ++ i ∷ []) next
parted_more low [] i end next p le free some below = (free, some, below, tt)
parted_more low (j ∷ is) i end next p le free some below = (p.0, p.1, omega (arith, le, p.2), parted_more (j.1 + 2) is i end next p.3 le free some below)

record Split (low : ℕ) (is : List (ℕ × ℕ)) (i : ℕ × ℕ) (end : ℕ) : Type 0 where
  front : PartedBelow low is end
  free : free_from low is ≤ i.0
  some : i.0 ≤ i.1
  below : i.1 < end

split : (low : ℕ) (is : List (ℕ × ℕ)) (i : ℕ × ℕ) (end : ℕ) → PartedBelow low (is ++ i ∷ []) end → Split low is i end
split low [] i end p = record { front = tt; free = p.0; some = p.1; below = p.2 }
split low (j ∷ is) i end p = let s = split (j.1 + 2) is i end p.3 in record { front = (p.0, p.1, p.2, s.front); free = s.free; some = s.some; below = s.below }

free_behind : (low : ℕ) (is : List (ℕ × ℕ)) (i : ℕ × ℕ) → free_from low (is ++ i ∷ []) ≡ i.1 + 2
free_behind low [] i = refl
free_behind low (j ∷ is) i = free_behind (j.1 + 2) is i

-- an interval behind the others that doesn't touch the last one
pub behind : (wanted : ℕ → Bool) (is : List (ℕ × ℕ)) (first last : ℕ) → free_from 0 is ≤ first → first ≤ last → AllWanted wanted first (last + 1) → Gathered wanted first is → Gathered wanted (last + 1) (is ++ (first, last) ∷ [])
behind wanted is first last free le all g = record {
  parted = parted_more 0 is (first, last) first (last + 1) g.parted (omega (arith, le)) free le (omega arith);
  are = λ id. in_more id is (first, last) ∙ ap (λ b. b || lies_in id (first, last)) (g.are id) ∙ joined_are wanted first last id le all;
}

-- and one that does
pub joined : (wanted : ℕ → Bool) (is : List (ℕ × ℕ)) (from to first last : ℕ) → to + 1 ≡ first → first ≤ last → AllWanted wanted first (last + 1) → Gathered wanted first (is ++ (from, to) ∷ []) → Gathered wanted (last + 1) (is ++ (from, last) ∷ [])
joined wanted is from to first last touch le all g =
    let s = split 0 is (from, to) first g.parted in
    record {
      parted = parted_more 0 is (from, last) first (last + 1) s.front (omega (arith, le)) s.free (omega (arith, s.some, touch, le)) (omega arith);
      are = λ id.
          in_more id is (from, last) ∙ ap (λ b. in_intervals id is || b) (lies_joined id from to first last s.some touch le)
          ∙ regroup (in_intervals id is) (lies_in id (from, to)) (lies_in id (first, last))
          ∙ ap (λ b. b || lies_in id (first, last)) (sym (in_more id is (from, to)) ∙ g.are id)
          ∙ joined_are wanted first last id le all;
    }
  where
    regroup : (a b c : Bool) → (a || (b || c)) ≡ ((a || b) || c)
    regroup true b c = refl
    regroup false b c = refl

pub apart_by : (wanted : ℕ → Bool) (is : List (ℕ × ℕ)) (from to first last : ℕ) → (to + 1 ≡ first → ⊥) → first ≤ last → AllWanted wanted first (last + 1) → Gathered wanted first (is ++ (from, to) ∷ [])
    → Gathered wanted (last + 1) ((is ++ (from, to) ∷ []) ++ (first, last) ∷ [])
apart_by wanted is from to first last apart le all g =
    let s = split 0 is (from, to) first g.parted in
    let free = free_behind 0 is (from, to) in
    behind wanted (is ++ (from, to) ∷ []) first last (omega (arith, free, s.below, apart)) le all g

-- so they are apart, with an id between each two
pub are_parted : (low : ℕ) (is : List (ℕ × ℕ)) (end : ℕ) → PartedBelow low is end → AreParted low is
are_parted low [] end p = tt
are_parted low (i ∷ is) end p = (p.0, p.1, are_parted (i.1 + 2) is end p.3)

pub are_apart : (low from : ℕ) (is : List (ℕ × ℕ)) (end : ℕ) → low ≤ from → PartedBelow from is end → AreApart low is
are_apart low from [] end le p = tt
are_apart low from (i ∷ is) end le p = (omega (arith, le, p.0), p.1, are_apart (i.1 + 1) (i.1 + 2) is end (omega arith) p.3)

-- what a test that isn't passed says
pub touch_not : {P : Type 0} (t : Bool) → t ≡ false → ((t ≡ true) → P) × (P → t ≡ true) → P → ⊥
touch_not t is both p = let yes = both.1 p in absurd (cc)
