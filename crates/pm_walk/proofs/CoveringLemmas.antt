-- Which of some tile entries in order has an id.
use Rattle.pm_walk.proofs.Common.{and_from, and_parts, ap, append_assoc, AreOrdered, arith, Bool, clip, clip_all, Entry, entry, false, if◌then◌else◌, in_intervals, lies_in, List, max, min, nat_eq}
use Rattle.pm_walk.proofs.Common.{nat_le, nat_lt, nat_tests, None, none-some, Option, parts, parts_of, refl, Some, stays_within, sym, true, true≢false, ℕ, [], ◌&&◌, ◌++◌, ◌+◌, ◌-◌, ◌<◌, ◌||◌, ◌∙◌}
use Rattle.pm_walk.proofs.Common.{◌∷◌, ◌≡◌, ◌≤◌}

-- whether an id lies in a run
abbrev pub in_run : ℕ → ℕ → ℕ → Bool
in_run t id n = nat_le id t && nat_lt t (id + n)

-- the first entry whose run has an id
abbrev pub has_id : ℕ → Entry → Bool
has_id t e = in_run t e.tile_id e.run_length

abbrev pub covering : ℕ → List Entry → Option Entry
covering t [] = None
covering t (e ∷ es) = if has_id t e then Some e else covering t es

pub covers_here : (t : ℕ) (e : Entry) (es : List Entry) → has_id t e ≡ true → covering t (e ∷ es) ≡ Some e
covers_here t e es is = ap (λ b. if b then Some e else covering t es) is

pub covers_later : (t : ℕ) (e : Entry) (es : List Entry) → has_id t e ≡ false → covering t (e ∷ es) ≡ covering t es
covers_later t e es is = ap (λ b. if b then Some e else covering t es) is

-- behind entries none of which has it
pub covering_behind : (t : ℕ) (xs ys : List Entry) → covering t xs ≡ None → covering t (xs ++ ys) ≡ covering t ys
covering_behind t [] ys none = refl
covering_behind t (x ∷ xs) ys none = by_test (has_id t x) (λ n. covering_behind t xs ys n) none
  where
    by_test : (b : Bool) → (covering t xs ≡ None → covering t (xs ++ ys) ≡ covering t ys) → (if b then Some x else covering t xs) ≡ None → (if b then Some x else covering t (xs ++ ys)) ≡ covering t ys
    by_test true rest none = absurd (none-some x (sym none))
    by_test false rest none = rest none

-- and before entries none of which has it
pub covering_before : (t : ℕ) (xs ys : List Entry) → covering t ys ≡ None → covering t (xs ++ ys) ≡ covering t xs
covering_before t [] ys none = none
covering_before t (x ∷ xs) ys none = ap (λ o. if has_id t x then Some x else o) (covering_before t xs ys none)

-- what is found in front is found
pub found_first : (t : ℕ) (xs ys : List Entry) (p : Entry) → covering t xs ≡ Some p → covering t (xs ++ ys) ≡ Some p
found_first t [] ys p is = absurd (none-some p is)
found_first t (x ∷ xs) ys p is = by_test (has_id t x) (λ n. found_first t xs ys p n) is
  where
    by_test : (b : Bool) → (covering t xs ≡ Some p → covering t (xs ++ ys) ≡ Some p) → (if b then Some x else covering t xs) ≡ Some p → (if b then Some x else covering t (xs ++ ys)) ≡ Some p
    by_test true rest is = is
    by_test false rest is = rest is

-- in order, none of them has an id below the first, or from the end on
pub none_below : (t low : ℕ) (es : List Entry) (end : Option ℕ) → AreOrdered low es end → t < low → covering t es ≡ None
none_below t low [] end o less = refl
none_below t low (e ∷ es) end o less =
    covers_later t e es (let first : low ≤ e.tile_id = o.0 in let is : has_id t e ≡ false = grind (arith, nat_tests) in is)
    ∙ none_below t (e.tile_id + e.run_length) es end o.3 (omega (arith, o.0, less))

pub ends_low : (low : ℕ) (es : List Entry) (m : ℕ) → AreOrdered low es (Some m) → low ≤ m
ends_low low [] m o = grind (arith, nat_tests)
ends_low low (e ∷ es) m o = omega (arith, o.0, ends_low (e.tile_id + e.run_length) es m o.3)

pub none_above : (t low m : ℕ) (es : List Entry) → AreOrdered low es (Some m) → m ≤ t → covering t es ≡ None
none_above t low m [] o more = refl
none_above t low m (e ∷ es) o more =
    let ends : e.tile_id + e.run_length ≤ m = ends_low (e.tile_id + e.run_length) es m o.3 in
    covers_later t e es (let is : has_id t e ≡ false = grind (arith, nat_tests) in is) ∙ none_above t (e.tile_id + e.run_length) m es o.3 more

-- entries in order behind others in order
pub ordered_append : (low m : ℕ) (xs ys : List Entry) (end : Option ℕ) → AreOrdered low xs (Some m) → AreOrdered m ys end → AreOrdered low (xs ++ ys) end
ordered_append low m [] ys end o p = from_low ys (let le : low ≤ m = ends_low low [] m o in le) p
  where
    from_low : (ys : List Entry) → low ≤ m → AreOrdered m ys end → AreOrdered low ys end
    from_low [] le p = within end p
      where
        within : (end : Option ℕ) → stays_within end m ≡ true → stays_within end low ≡ true
        within None p = refl
        within (Some n) p = grind (arith, nat_tests)
    from_low (y ∷ ys) le p = (omega (arith, le, p.0), p.1, p.2, p.3)
ordered_append low m (x ∷ xs) ys end o p = (o.0, o.1, o.2, ordered_append (x.tile_id + x.run_length) m xs ys end o.3 p)

-- tests of numbers, and what they say
pub le_by : (m n : ℕ) → nat_le m n ≡ true → m ≤ n
le_by m n is = grind (arith, nat_tests)

pub lt_by : (m n : ℕ) → nat_lt m n ≡ true → m < n
lt_by m n is = grind (arith, nat_tests)

pub to_le : (m n : ℕ) → m ≤ n → nat_le m n ≡ true
to_le m n is = grind (arith, nat_tests)

pub to_lt : (m n : ℕ) → m < n → nat_lt m n ≡ true
to_lt m n is = grind (arith, nat_tests)

pub never : (b : Bool) → (b ≡ true → ⊥) → b ≡ false
never true denied = absurd (denied refl)
never false denied = refl

-- the part of an entry that lies in an interval has the ids of both
abbrev pub first_of_clip : Entry → ℕ × ℕ → ℕ
first_of_clip e i = max e.tile_id i.0

abbrev pub last_of_clip : Entry → ℕ × ℕ → ℕ
last_of_clip e i = min (e.tile_id + (e.run_length - 1)) i.1

abbrev pub part_of : Entry → ℕ × ℕ → Entry
part_of e i = entry (first_of_clip e i) e.offset e.length (last_of_clip e i - first_of_clip e i + 1)

record IsInBoth (t : ℕ) (e : Entry) (i : ℕ × ℕ) : Type 0 where
  pub low : e.tile_id ≤ t
  pub high : t < e.tile_id + e.run_length
  pub from : i.0 ≤ t
  pub to : t ≤ i.1

in_both : (t id run a b first last : ℕ) → 1 ≤ run → first ≡ max id a → last ≡ min (id + (run - 1)) b → first ≤ last → first ≤ t → t < first + (last - first + 1) → (id ≤ t) × (t < id + run) × (a ≤ t) × (t ≤ b)
in_both t id run a b first last some f l le low high = (omega arith, omega arith, omega arith, omega arith)

both_of : (t : ℕ) (e : Entry) (i : ℕ × ℕ) → 1 ≤ e.run_length → nat_le (first_of_clip e i) (last_of_clip e i) ≡ true → has_id t (part_of e i) ≡ true → IsInBoth t e i
both_of t e i some fits has =
    let h = and_parts (nat_le (first_of_clip e i) t) (nat_lt t (first_of_clip e i + (last_of_clip e i - first_of_clip e i + 1))) has in
    let b = in_both t e.tile_id e.run_length i.0 i.1 (first_of_clip e i) (last_of_clip e i) some refl refl (le_by (first_of_clip e i) (last_of_clip e i) fits) (le_by (first_of_clip e i) t h.0) (lt_by t (first_of_clip e i + (last_of_clip e i - first_of_clip e i + 1)) h.1) in
    record { low = b.0; high = b.1; from = b.2; to = b.3 }

clip_apart : (t : ℕ) (e : Entry) (i : ℕ × ℕ) → 1 ≤ e.run_length → (IsInBoth t e i → ⊥) → covering t (clip e i) ≡ None
clip_apart t e i some apart = by_test (nat_le (first_of_clip e i) (last_of_clip e i)) refl
  where
    by_test : (b : Bool) → nat_le (first_of_clip e i) (last_of_clip e i) ≡ b → covering t (if b then part_of e i ∷ [] else []) ≡ None
    by_test false fits = refl
    by_test true fits = covers_later t (part_of e i) [] (never (has_id t (part_of e i)) (λ has. apart (both_of t e i some fits has)))

pub clip_none : (t : ℕ) (e : Entry) (i : ℕ × ℕ) → 1 ≤ e.run_length → has_id t e ≡ false → covering t (clip e i) ≡ None
clip_none t e i some not_in = clip_apart t e i some (λ b. true≢false (sym (and_from (nat_le e.tile_id t) (nat_lt t (e.tile_id + e.run_length)) (to_le e.tile_id t b.low) (to_lt t (e.tile_id + e.run_length) b.high)) ∙ not_in))

pub clip_outside : (t : ℕ) (e : Entry) (i : ℕ × ℕ) → 1 ≤ e.run_length → lies_in t i ≡ false → covering t (clip e i) ≡ None
clip_outside t e i some not_in = clip_apart t e i some (λ b. true≢false (sym (and_from (nat_le i.0 t) (nat_le t i.1) (to_le i.0 t b.from) (to_le t i.1 b.to)) ∙ not_in))

-- a part of an entry has its contents
pub record IsPartOf (e p : Entry) : Type 0 where
  pub offset : p.offset ≡ e.offset
  pub length : p.length ≡ e.length

inside : (t id run a b first last : ℕ) → first ≡ max id a → last ≡ min (id + (run - 1)) b → id ≤ t → t < id + run → a ≤ t → t ≤ b → (first ≤ last) × (first ≤ t) × (t < first + (last - first + 1))
inside t id run a b first last f l low high from to = (omega arith, omega arith, omega arith)

pub clip_inside : (t : ℕ) (e : Entry) (i : ℕ × ℕ) → has_id t e ≡ true → lies_in t i ≡ true → (p : Entry) × (covering t (clip e i) ≡ Some p) × IsPartOf e p
clip_inside t e i has lies =
    let h = and_parts (nat_le e.tile_id t) (nat_lt t (e.tile_id + e.run_length)) has in
    let l = and_parts (nat_le i.0 t) (nat_le t i.1) lies in
    let b = inside t e.tile_id e.run_length i.0 i.1 (first_of_clip e i) (last_of_clip e i) refl refl (le_by e.tile_id t h.0) (lt_by t (e.tile_id + e.run_length) h.1) (le_by i.0 t l.0) (le_by t i.1 l.1) in
    let here : has_id t (part_of e i) ≡ true = and_from (nat_le (first_of_clip e i) t) (nat_lt t (first_of_clip e i + (last_of_clip e i - first_of_clip e i + 1))) (to_le (first_of_clip e i) t b.1) (to_lt t (first_of_clip e i + (last_of_clip e i - first_of_clip e i + 1)) b.2) in (
      part_of e i,
      ap (λ b. covering t (if b then part_of e i ∷ [] else [])) (to_le (first_of_clip e i) (last_of_clip e i) b.0) ∙ covers_here t (part_of e i) [] here,
      record { offset = refl; length = refl },
    )

pub clips_none : (t : ℕ) (e : Entry) (is : List (ℕ × ℕ)) → 1 ≤ e.run_length → has_id t e ≡ false → covering t (clip_all e is) ≡ None
clips_none t e [] some not_in = refl
clips_none t e (i ∷ is) some not_in = covering_behind t (clip e i) (clip_all e is) (clip_none t e i some not_in) ∙ clips_none t e is some not_in

pub clips_outside : (t : ℕ) (e : Entry) (is : List (ℕ × ℕ)) → 1 ≤ e.run_length → in_intervals t is ≡ false → covering t (clip_all e is) ≡ None
clips_outside t e [] some not_in = refl
clips_outside t e (i ∷ is) some not_in = by_test (lies_in t i) refl (λ n. clips_outside t e is some n) not_in
  where
    by_test : (b : Bool) → lies_in t i ≡ b → (in_intervals t is ≡ false → covering t (clip_all e is) ≡ None) → (b || in_intervals t is) ≡ false → covering t (clip e i ++ clip_all e is) ≡ None
    by_test true is_in rest not_in = absurd (true≢false not_in)
    by_test false is_in rest not_in = covering_behind t (clip e i) (clip_all e is) (clip_outside t e i some is_in) ∙ rest not_in

pub clips_inside : (t : ℕ) (e : Entry) (is : List (ℕ × ℕ)) (rest : List Entry) → 1 ≤ e.run_length → has_id t e ≡ true → in_intervals t is ≡ true → (p : Entry) × (covering t (clip_all e is ++ rest) ≡ Some p) × IsPartOf e p
clips_inside t e [] rest some has lies = absurd (true≢false (sym lies))
clips_inside t e (i ∷ is) rest some has lies = by_test (lies_in t i) refl (λ n. clips_inside t e is rest some has n) lies
  where
    by_test : (b : Bool) → lies_in t i ≡ b → (in_intervals t is ≡ true → (p : Entry) × (covering t (clip_all e is ++ rest) ≡ Some p) × IsPartOf e p) → (b || in_intervals t is) ≡ true
        → (p : Entry) × (covering t ((clip e i ++ clip_all e is) ++ rest) ≡ Some p) × IsPartOf e p
    by_test true is_in deeper lies =
        let one = clip_inside t e i has is_in in
        (one.0, ap (covering t) (append_assoc (clip e i) (clip_all e is) rest) ∙ found_first t (clip e i) (clip_all e is ++ rest) one.0 one.1, one.2)
    by_test false is_in deeper lies =
        let more = deeper lies in
        (more.0, ap (covering t) (append_assoc (clip e i) (clip_all e is) rest) ∙ covering_behind t (clip e i) (clip_all e is ++ rest) (clip_outside t e i some is_in) ∙ more.1, more.2)

-- the parts of entries in order none of which has an id don't have it either
pub parts_none : (t : ℕ) (is : List (ℕ × ℕ)) (low : ℕ) (es : List Entry) (end : Option ℕ) → AreOrdered low es end → covering t es ≡ None → covering t (parts is es) ≡ None
parts_none t is low [] end o none = refl
parts_none t is low (e ∷ es) end o none = by_test (has_id t e) refl (λ n. parts_none t is (e.tile_id + e.run_length) es end o.3 n) none
  where
    of_one : (b : Bool) → has_id t e ≡ false → covering t (if b then [] else clip_all e is) ≡ None
    of_one true not_in = refl
    of_one false not_in = clips_none t e is o.1 not_in

    by_test : (b : Bool) → has_id t e ≡ b → (covering t es ≡ None → covering t (parts is es) ≡ None) → (if b then Some e else covering t es) ≡ None → covering t (parts_of is e ++ parts is es) ≡ None
    by_test true at rest none = absurd (none-some e (sym none))
    by_test false at rest none = covering_behind t (parts_of is e) (parts is es) (of_one (nat_eq e.length 0) at) ∙ rest none

-- no part has an id outside the intervals
pub parts_outside : (t : ℕ) (is : List (ℕ × ℕ)) (low : ℕ) (es : List Entry) (end : Option ℕ) → AreOrdered low es end → in_intervals t is ≡ false → covering t (parts is es) ≡ None
parts_outside t is low [] end o not_in = refl
parts_outside t is low (e ∷ es) end o not_in = covering_behind t (parts_of is e) (parts is es) (of_one (nat_eq e.length 0)) ∙ parts_outside t is (e.tile_id + e.run_length) es end o.3 not_in
  where
    of_one : (b : Bool) → covering t (if b then [] else clip_all e is) ≡ None
    of_one true = refl
    of_one false = clips_outside t e is o.1 not_in
