-- The parts of a tile entry in intervals that are apart.
use Rattle.pm_walk.proofs.Common.{ap, append-nil, append_assoc, AreApart, AreOrdered, arith, Bool, clip, clip_all, Collected, Collects, Entry, entry, false, if◌then◌else◌, length, List, max}
use Rattle.pm_walk.proofs.Common.{MAX_TILE_ID, min, nat_eq, nat_le, nat_tests, Option, parts, parts_of, refl, Some, subst, sym, true, ℕ, [], ◌++◌, ◌+◌, ◌-◌, ◌∙◌, ◌∷◌, ◌≡◌, ◌≢◌, ◌≤◌}
use Rattle.pm_walk.proofs.CoveringLemmas.{le_by, ordered_append, to_le}
use Rattle.pm_walk.proofs.CollectingLemmas.{collects_nothing, collects_twice, ordered_later}

-- Where the parts collected so far end, the intervals from an id on being left.
abbrev pub reach : Entry → ℕ → ℕ
reach e low = max e.tile_id (min low (e.tile_id + e.run_length))

pub record Clipping (e : Entry) (is rest : List (ℕ × ℕ)) (old now : Collected) : Type 0 where
  pub done : List Entry
  pub whole : clip_all e is ≡ done ++ clip_all e rest
  pub collects : Collects old done now

pub record Reached (e : Entry) (rest : List (ℕ × ℕ)) (now : Collected) : Type 0 where
  pub low : ℕ
  pub left : AreApart low rest
  pub ordered : AreOrdered 0 now.parts (Some (reach e low))

pub clipping : (e : Entry) (is : List (ℕ × ℕ)) (old : Collected) → Clipping e is is old old
clipping e is old = record { done = []; whole = refl; collects = collects_nothing old }

pub reaching : (e : Entry) (is : List (ℕ × ℕ)) (old : Collected) → AreApart 0 is → AreOrdered 0 old.parts (Some e.tile_id) → Reached e is old
reaching e is old apart ordered = record { low = 0; left = apart; ordered = ordered_later 0 old.parts e.tile_id (reach e 0) (omega arith) ordered }

-- what a part is
pub record IsClip (e : Entry) (i : ℕ × ℕ) (p : Entry) : Type 0 where
  pub first : p.tile_id ≡ max e.tile_id i.0
  pub past : p.tile_id + p.run_length ≡ min (e.tile_id + e.run_length) (i.1 + 1)
  pub some : p.run_length ≢ 0

head_is : (p q : Entry) → (l : List Entry) → p ∷ [] ≡ q ∷ [] → p ≡ q
head_is p q l same = cc

pub is_clip : (e : Entry) (i : ℕ × ℕ) (p : Entry) → e.run_length ≢ 0 → clip e i ≡ p ∷ [] → IsClip e i p
is_clip e i p run is = by_test (nat_le (max e.tile_id i.0) (min (e.tile_id + (e.run_length - 1)) i.1)) refl is
  where
    by_test : (t : Bool) → nat_le (max e.tile_id i.0) (min (e.tile_id + (e.run_length - 1)) i.1) ≡ t
        → (if t then entry (max e.tile_id i.0) e.offset e.length (min (e.tile_id + (e.run_length - 1)) i.1 - max e.tile_id i.0 + 1) ∷ [] else []) ≡ p ∷ [] → IsClip e i p
    by_test false test is = absurd (cc)
    by_test true test is =
        let same = head_is (entry (max e.tile_id i.0) e.offset e.length (min (e.tile_id + (e.run_length - 1)) i.1 - max e.tile_id i.0 + 1)) p [] is in
        let id : max e.tile_id i.0 ≡ p.tile_id = ap (λ x. x.tile_id) same in
        let count : min (e.tile_id + (e.run_length - 1)) i.1 - max e.tile_id i.0 + 1 ≡ p.run_length = ap (λ x. x.run_length) same in
        let fits : max e.tile_id i.0 ≤ min (e.tile_id + (e.run_length - 1)) i.1 = grind (arith, nat_tests) in
        record { first = sym id; past = omega (arith, id, count, fits, run); some = omega (arith, count) }

-- behind an interval in which the entry has no part, and behind one in which it has one
pub past_none : (e : Entry) (is : List (ℕ × ℕ)) (i : ℕ × ℕ) (others : List (ℕ × ℕ)) (old now : Collected) → clip e i ≡ [] → Clipping e is (i ∷ others) old now → Clipping e is others old now
past_none e is i others old now none s = record { done = s.done; whole = s.whole ∙ ap (λ l. s.done ++ (l ++ clip_all e others)) none; collects = s.collects }

pub reach_none : (e : Entry) (i : ℕ × ℕ) (others : List (ℕ × ℕ)) (now : Collected) → Reached e (i ∷ others) now → Reached e others now
reach_none e i others now s = record { low = i.1 + 1; left = s.left.2; ordered = ordered_later 0 now.parts (reach e s.low) (reach e (i.1 + 1)) (omega (arith, s.left.0, s.left.1)) s.ordered }

pub past_one : (e : Entry) (is : List (ℕ × ℕ)) (i : ℕ × ℕ) (others : List (ℕ × ℕ)) (old mid now : Collected) (p : Entry) → clip e i ≡ p ∷ [] → Clipping e is (i ∷ others) old mid → Collects mid (p ∷ []) now → Clipping e is others old now
past_one e is i others old mid now p one s adds = record {
  done = s.done ++ p ∷ [];
  whole = s.whole ∙ ap (λ l. s.done ++ (l ++ clip_all e others)) one ∙ sym (append_assoc s.done (p ∷ []) (clip_all e others));
  collects = collects_twice old mid now s.done (p ∷ []) s.collects adds;
}

pub reach_one : (e : Entry) (i : ℕ × ℕ) (others : List (ℕ × ℕ)) (mid now : Collected) (p : Entry) → e.run_length ≢ 0 → clip e i ≡ p ∷ [] → Reached e (i ∷ others) mid
    → (AreOrdered 0 mid.parts (Some p.tile_id) → AreOrdered 0 now.parts (Some (p.tile_id + p.run_length))) → Reached e others now
reach_one e i others mid now p run one s more =
    let c = is_clip e i p run one in
    record {
      low = i.1 + 1;
      left = s.left.2;
      ordered = ordered_later 0 now.parts (p.tile_id + p.run_length) (reach e (i.1 + 1)) (omega (arith, c.past, c.first, c.some))
          (more (ordered_later 0 mid.parts (reach e s.low) p.tile_id (omega (arith, c.first, c.past, c.some, s.left.0)) s.ordered));
    }

pub no_items : {A : Type 0} (l : List A) → length l ≡ 0 → l ≡ []
no_items [] is = refl
no_items (x ∷ xs) is = absurd (omega (arith, is))

pub all_clipped : (e : Entry) (is rest : List (ℕ × ℕ)) (old now : Collected) → e.length ≢ 0 → length rest ≡ 0 → Clipping e is rest old now → Collects old (parts_of is e) now
all_clipped e is rest old now some none s =
    let test : nat_eq e.length 0 ≡ false = grind (arith, nat_tests) in
    let are : parts_of is e ≡ s.done = ap (λ t. if t then [] else clip_all e is) test ∙ s.whole ∙ ap (λ l. s.done ++ clip_all e l) (no_items rest none) ∙ append-nil s.done in
    subst (λ l. Collects old l now) (sym are) s.collects

pub all_reached : (e : Entry) (rest : List (ℕ × ℕ)) (now : Collected) → Reached e rest now → AreOrdered 0 now.parts (Some (e.tile_id + e.run_length))
all_reached e rest now s = ordered_later 0 now.parts (reach e s.low) (e.tile_id + e.run_length) (omega arith) s.ordered

pub nothing_clipped : (e : Entry) (is : List (ℕ × ℕ)) (old : Collected) → e.length ≡ 0 → Collects old (parts_of is e) old
nothing_clipped e is old none = subst (λ n. Collects old (if nat_eq n 0 then [] else clip_all e is) old) (sym none) (collects_nothing old)

-- the parts of an entry are in order, and so are those of entries in order
pub from_low : (low m : ℕ) (ps : List Entry) (end : Option ℕ) → low ≤ m → AreOrdered m ps end → AreOrdered low ps end
from_low low m ps end le o = ordered_append low m [] ps end (to_le low m le) o

clips_ordered : (e : Entry) (low : ℕ) (is : List (ℕ × ℕ)) → 1 ≤ e.run_length → e.tile_id + e.run_length ≤ MAX_TILE_ID + 1 → AreApart low is → AreOrdered (reach e low) (clip_all e is) (Some (e.tile_id + e.run_length))
clips_ordered e low [] some most apart = to_le (reach e low) (e.tile_id + e.run_length) (omega arith)
clips_ordered e low (i ∷ is) some most apart = by_test (nat_le first last) refl (clips_ordered e (i.1 + 1) is some most apart.2)
  where
    first : ℕ
    first = max e.tile_id i.0

    last : ℕ
    last = min (e.tile_id + (e.run_length - 1)) i.1

    by_test : (t : Bool) → nat_le first last ≡ t → AreOrdered (reach e (i.1 + 1)) (clip_all e is) (Some (e.tile_id + e.run_length))
        → AreOrdered (reach e low) ((if t then entry first e.offset e.length (last - first + 1) ∷ [] else []) ++ clip_all e is) (Some (e.tile_id + e.run_length))
    by_test false test rest = from_low (reach e low) (reach e (i.1 + 1)) (clip_all e is) (Some (e.tile_id + e.run_length)) (omega (arith, apart.0, apart.1)) rest
    by_test true test rest =
        let fits : first ≤ last = le_by first last test in (
          omega (arith, apart.0, apart.1),
          omega arith,
          omega (arith, fits, most, some),
          from_low (first + (last - first + 1)) (reach e (i.1 + 1)) (clip_all e is) (Some (e.tile_id + e.run_length)) (omega (arith, fits, some)) rest,
        )

pub parts_ordered : (is : List (ℕ × ℕ)) (low : ℕ) (es : List Entry) (end : Option ℕ) → AreApart 0 is → AreOrdered low es end → AreOrdered low (parts is es) end
parts_ordered is low [] end apart o = o
parts_ordered is low (e ∷ es) end apart o = by_test (nat_eq e.length 0) (parts_ordered is (e.tile_id + e.run_length) es end apart o.3)
  where
    by_test : (t : Bool) → AreOrdered (e.tile_id + e.run_length) (parts is es) end → AreOrdered low ((if t then [] else clip_all e is) ++ parts is es) end
    by_test true rest = from_low low (e.tile_id + e.run_length) (parts is es) end (omega (arith, o.0)) rest
    by_test false rest = ordered_append low (e.tile_id + e.run_length) (clip_all e is) (parts is es) end (from_low low (reach e 0) (clip_all e is) (Some (e.tile_id + e.run_length)) (omega (arith, o.0)) (clips_ordered e 0 is o.1 o.2 apart)) rest
