-- Parts in intervals, and how many tiles they have.
use Rattle.pm_walk.proofs.Common.{AllLieIn, AllShallow, and_from, ap, arith, Bool, clip, clip_all, Collected, Collects, Entry, entry, Extent, false, IfSome, if◌then◌else◌, in_intervals, is_some}
use Rattle.pm_walk.proofs.Common.{KeepsTo, KeepWithin, lies_in, List, max, min, nat_eq, nat_le, nat_tests, None, Option, or_left, or_right, parts_of, refl, Some, subst, sym, tile_count, true, Whole}
use Rattle.pm_walk.proofs.Common.{Within, ℕ, [], ◌++◌, ◌+◌, ◌-◌, ◌||◌, ◌∙◌, ◌∷◌, ◌≡◌, ◌≤◌}
use Rattle.pm_walk.proofs.CollectLemmas.{room_taken}

-- The parts of an entry.

pub lie_append : (is : List (ℕ × ℕ)) (ps qs : List Entry) → AllLieIn is ps → AllLieIn is qs → AllLieIn is (ps ++ qs)
lie_append is [] qs p q = q
lie_append is (x ∷ ps) qs p q = (p.0, lie_append is ps qs p.1 q)

lies_between : (t : ℕ) (i : ℕ × ℕ) → i.0 ≤ t → t ≤ i.1 → lies_in t i ≡ true
lies_between t i low high =
    let a : nat_le i.0 t ≡ true = grind (arith, nat_tests) in
    let b : nat_le t i.1 ≡ true = grind (arith, nat_tests) in
    and_from (nat_le i.0 t) (nat_le t i.1) a b

clip_lies : (is : List (ℕ × ℕ)) (e : Entry) (i : ℕ × ℕ) → ((t : ℕ) → lies_in t i ≡ true → in_intervals t is ≡ true) → AllLieIn is (clip e i)
clip_lies is e i inside = by_test (nat_le (max e.tile_id i.0) (min (e.tile_id + (e.run_length - 1)) i.1)) refl
  where
    by_test : (b : Bool) → nat_le (max e.tile_id i.0) (min (e.tile_id + (e.run_length - 1)) i.1) ≡ b
        → AllLieIn is (if b then entry (max e.tile_id i.0) e.offset e.length (min (e.tile_id + (e.run_length - 1)) i.1 - max e.tile_id i.0 + 1) ∷ [] else [])
    by_test false is = tt
    by_test true test =
        let some : max e.tile_id i.0 ≤ min (e.tile_id + (e.run_length - 1)) i.1 = grind (arith, nat_tests) in
        ((λ t low high. inside t (lies_between t i (omega (arith, low)) (omega (arith, high, some)))), tt)

clips_lie : (is rest : List (ℕ × ℕ)) (e : Entry) → ((t : ℕ) → in_intervals t rest ≡ true → in_intervals t is ≡ true) → AllLieIn is (clip_all e rest)
clips_lie is [] e inside = tt
clips_lie is (i ∷ rest) e inside =
    lie_append is (clip e i) (clip_all e rest) (clip_lies is e i (λ t at. inside t (or_left (lies_in t i) (in_intervals t rest) at))) (clips_lie is rest e (λ t at. inside t (or_right (lies_in t i) (in_intervals t rest) at)))

pub parts_lie : (is : List (ℕ × ℕ)) (e : Entry) → AllLieIn is (parts_of is e)
parts_lie is e = by_length (nat_eq e.length 0)
  where
    by_length : (b : Bool) → AllLieIn is (if b then [] else clip_all e is)
    by_length true = tt
    by_length false = clips_lie is is e (λ t at. at)

-- the same of runs without a tile of zoom 31, where the whole is walked
shallow_append : (ps qs : List Entry) → AllShallow ps → AllShallow qs → AllShallow (ps ++ qs)
shallow_append [] qs p q = q
shallow_append (x ∷ ps) qs p q = (p.0, shallow_append ps qs p.1 q)

keep_append : (ext : Extent) (is : List (ℕ × ℕ)) (ps qs : List Entry) → KeepWithin ext is ps → KeepWithin ext is qs → KeepWithin ext is (ps ++ qs)
keep_append Within is ps qs p q = lie_append is ps qs p q
keep_append Whole is ps qs p q = shallow_append ps qs p q

keep_none : (ext : Extent) (is : List (ℕ × ℕ)) → KeepWithin ext is []
keep_none Within is = tt
keep_none Whole is = tt

count_append : (ps qs : List Entry) → tile_count (ps ++ qs) ≡ tile_count ps + tile_count qs
count_append [] qs = omega arith
count_append (p ∷ ps) qs = let n = count_append ps qs in omega (arith, n)

-- what is collected keeps to the intervals and the room
pub keeps_more : (ext : Extent) (is : List (ℕ × ℕ)) (most : ℕ) (old new : Collected) (ps : List Entry) → KeepWithin ext is ps → Collects old ps new → KeepsTo ext is most old → KeepsTo ext is most new
keeps_more ext is most old new ps lie c k = by_room new.room refl c.parts
  where
    after : (room : ℕ) → new.room ≡ Some room → new.parts ≡ old.parts ++ ps → KeepWithin ext is new.parts × (tile_count new.parts + room ≤ most)
    after room at items =
        let before = room_taken old.room ps room (sym c.room ∙ at) in
        let w : KeepWithin ext is old.parts × (tile_count old.parts + before.0 ≤ most) = subst (λ r. IfSome r (λ n. KeepWithin ext is old.parts × (tile_count old.parts + n ≤ most))) before.1 k in
        let n = count_append old.parts ps in (
          subst (KeepWithin ext is) (sym items) (keep_append ext is old.parts ps w.0 lie),
          omega (arith, w.1, before.2, n, ap tile_count items),
        )

    by_room : (r : Option ℕ) → new.room ≡ r → IfSome r (λ _. new.parts ≡ old.parts ++ ps) → IfSome r (λ room. KeepWithin ext is new.parts × (tile_count new.parts + room ≤ most))
    by_room None at items = tt
    by_room (Some room) at items = after room at items

-- all that was collected, where there was room for it
pub kept_all : (ext : Extent) (is : List (ℕ × ℕ)) (most : ℕ) (old new : Collected) (ps : List Entry) → (old.parts ≡ []) × (old.room ≡ Some most) → ((n : ℕ) → KeepsTo ext is n old → KeepsTo ext is n new)
    → (ps ≡ new.parts) × (is_some new.room ≡ true) → (tile_count ps ≤ most) × KeepWithin ext is ps
kept_all ext is most old new ps begun keeps all =
    let none : tile_count old.parts ≡ 0 = ap tile_count begun.0 in
    let first : KeepsTo ext is most old =
    subst (λ r. IfSome r (λ room. KeepWithin ext is old.parts × (tile_count old.parts + room ≤ most))) (sym begun.1) (subst (KeepWithin ext is) (sym begun.0) (keep_none ext is), omega (arith, none)) in
    by_room new.room all.1 (keeps most first)
  where
    by_room : (r : Option ℕ) → is_some r ≡ true → IfSome r (λ room. KeepWithin ext is new.parts × (tile_count new.parts + room ≤ most)) → (tile_count ps ≤ most) × KeepWithin ext is ps
    by_room None some k = absurd (cc)
    by_room (Some room) some k =
        let n = ap tile_count all.0 in
        (omega (arith, k.1, n), subst (KeepWithin ext is) (sym all.0) k.0)
