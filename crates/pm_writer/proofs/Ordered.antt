-- Entries in order of their ids.
use Rattle.pm_writer.proofs.Common.{adds_at, All, All-cons, All-head, All-nil, All-permutation, All-tail, ap, arith, Block, blocks, Bool, contents_from, covering, Distinct, drop, drop_more}
use Rattle.pm_writer.proofs.Common.{entries_at, entries_of_adds, Entry, entry, false, first_within, flat_map, get_or, get_or_default, if◌then◌else◌, inl, inr, IsLeastTwice, length, length-drop, List}
use Rattle.pm_writer.proofs.Common.{lit<, longest_run, MatchOption, nat_eq, nat_le, nat_lt, nat_tests, None, Option, place_in, refl, Rising, runs, Some, sorted, sorted_in, subst, suc, sum_by}
use Rattle.pm_writer.proofs.Common.{sum_by-cons, sum_by-IsPermutation, sym, times, true, unsorted, zero, ℕ, [], ◌++◌, ◌+◌, ◌-◌, ◌/◌, ◌<◌, ◌∙◌, ◌∷◌, ◌≡◌, ◌≢◌, ◌≤◌}
use Rattle.std.specs.List.Sorted.{IsPermutation, IsNonDecreasingBy}
use Rattle.pm_writer.proofs.Runs.{le_or, runs_none, runs_short, runs_long}
use Rattle.pm_writer.proofs.Times.{times_adds, times_cons, covering_yes, covering_low, covering_high}

-- ids don't fall; and no entry begins within the run before it
abbrev pub NotFalling : List Entry → Type 0
NotFalling [] = Unit {0}
NotFalling (e ∷ []) = Unit {0}
NotFalling (e ∷ f ∷ es) = (e.tile_id ≤ f.tile_id) × NotFalling (f ∷ es)

abbrev pub Apart : List Entry → Type 0
Apart [] = Unit {0}
Apart (e ∷ []) = Unit {0}
Apart (e ∷ f ∷ es) = (e.tile_id + e.run_length ≤ f.tile_id) × Apart (f ∷ es)

abbrev pub AllRun : List Entry → Type 0
AllRun [] = Unit {0}
AllRun (e ∷ es) = (1 ≤ e.run_length) × AllRun es

falls_rest : (e : Entry) (es : List Entry) → NotFalling (e ∷ es) → NotFalling es
falls_rest e [] n = tt
falls_rest e (f ∷ es) n = n.1

-- the same entries, however they stand
abbrev pub Same : List Entry → List Entry → Type 0
Same xs ys = (g : Entry → ℕ) → sum_by g xs ≡ sum_by g ys

same_in : (g : Entry → ℕ) (e : Entry) (es : List Entry) → sum_by g (sorted_in e es) ≡ g e + sum_by g es
same_in g e [] = sum_by-cons g e []
same_in g e (f ∷ es) = go (nat_le e.tile_id f.tile_id) refl (same_in g e es)
  where
    go : (b : Bool) → nat_le e.tile_id f.tile_id ≡ b → sum_by g (sorted_in e es) ≡ g e + sum_by g es → sum_by g (sorted_in e (f ∷ es)) ≡ g e + sum_by g (f ∷ es)
    go true h r = rw h (sum_by-cons g e (f ∷ es))
    go false h r = rw h (sum_by-cons g f (sorted_in e es) ∙ omega (arith, r, sum_by-cons g f es))

pub same_sorted : (g : Entry → ℕ) (es : List Entry) → sum_by g (sorted es) ≡ sum_by g es
same_sorted g [] = refl
same_sorted g (e ∷ es) = same_in g e (sorted es) ∙ omega (arith, same_sorted g es, sum_by-cons g e es)

falling_in : (e : Entry) (es : List Entry) → NotFalling es → NotFalling (sorted_in e es)
falling_in e [] n = tt
falling_in e (f ∷ []) n = go (nat_le e.tile_id f.tile_id) refl
  where
    go : (b : Bool) → nat_le e.tile_id f.tile_id ≡ b → NotFalling (sorted_in e (f ∷ []))
    go true h = rw h (grind (arith, nat_tests), tt)
    go false h = rw h (grind (arith, nat_tests), tt)
falling_in e (f ∷ k ∷ es) n = go (nat_le e.tile_id f.tile_id) (nat_le e.tile_id k.tile_id) refl refl (falling_in e (k ∷ es) n.1)
  where
    go : (b c : Bool) → nat_le e.tile_id f.tile_id ≡ b → nat_le e.tile_id k.tile_id ≡ c → NotFalling (sorted_in e (k ∷ es)) → NotFalling (sorted_in e (f ∷ k ∷ es))
    go true c h i r = rw h (grind (arith, nat_tests), n)
    go false true h i r = rw (h, i) (let q : f.tile_id ≤ e.tile_id = grind (arith, nat_tests) in q, (let q : e.tile_id ≤ k.tile_id = grind (arith, nat_tests) in q, n.1))
    go false false h i r = let s : NotFalling (k ∷ sorted_in e es) = (rw i at r) in rw (h, i) (n.0, s)

pub falling_sorted : (es : List Entry) → NotFalling (sorted es)
falling_sorted [] = tt
falling_sorted (e ∷ es) = falling_in e (sorted es) (falling_sorted es)

-- sums over the entries at one id
abbrev at_id : ℕ → (Entry → ℕ) → Entry → ℕ
at_id t g e = if nat_eq e.tile_id t then g e else 0

at_yes : (t : ℕ) (g : Entry → ℕ) (e : Entry) → e.tile_id ≡ t → at_id t g e ≡ g e
at_yes t g e h = let q : nat_eq e.tile_id t ≡ true = grind (arith, nat_tests) in rw q refl

at_not : (t : ℕ) (g : Entry → ℕ) (e : Entry) → e.tile_id ≢ t → at_id t g e ≡ 0
at_not t g e h = let q : nat_eq e.tile_id t ≡ false = grind (arith, nat_tests) in rw q refl

none_behind : (t : ℕ) (g : Entry → ℕ) (e : Entry) (es : List Entry) → NotFalling (e ∷ es) → t < e.tile_id → sum_by (at_id t g) (e ∷ es) ≡ 0
none_behind t g e [] n h = sum_by-cons (at_id t g) e [] ∙ omega (arith, at_not t g e (omega (arith, h)))
none_behind t g e (f ∷ es) n h = sum_by-cons (at_id t g) e (f ∷ es) ∙ omega (arith, at_not t g e (omega (arith, h)), none_behind t g f es n.1 (omega (arith, h, n.0)))

-- the first ids are the same where the entries are
least_first : (a b : Entry) (xs ys : List Entry) → NotFalling (b ∷ ys) → Same (a ∷ xs) (b ∷ ys) → b.tile_id ≤ a.tile_id
least_first a b xs ys n s = elim (le_or b.tile_id a.tile_id) [
  | inl h ↦ h
  | inr h ↦
      let g : Entry → ℕ = λ e. 1 in
      absurd (omega (arith, s (at_id a.tile_id g), none_behind a.tile_id g b ys n h, sum_by-cons (at_id a.tile_id g) a xs, at_yes a.tile_id g a refl))
]

rising_falls : (es : List Entry) → Rising es → NotFalling es
rising_falls [] r = tt
rising_falls (e ∷ []) r = tt
rising_falls (e ∷ f ∷ es) r = (omega (arith, r.0), rising_falls (f ∷ es) r.1)

none_at_first : (g : Entry → ℕ) (e : Entry) (es : List Entry) → Rising (e ∷ es) → sum_by (at_id e.tile_id g) es ≡ 0
none_at_first g e [] r = refl
none_at_first g e (f ∷ es) r = none_behind e.tile_id g f es (rising_falls (f ∷ es) r.1) r.0

-- nothing to sum where there are no entries at the id
none_of_none : (t : ℕ) (g : Entry → ℕ) (es : List Entry) → sum_by (at_id t (λ e. 1)) es ≡ 0 → sum_by (at_id t g) es ≡ 0
none_of_none t g [] h = refl
none_of_none t g (e ∷ es) h = go (nat_eq e.tile_id t) refl (none_of_none t g es)
  where
    one : Entry → ℕ
    one e = 1

    go : (b : Bool) → nat_eq e.tile_id t ≡ b → (sum_by (at_id t (λ e. 1)) es ≡ 0 → sum_by (at_id t g) es ≡ 0) → sum_by (at_id t g) (e ∷ es) ≡ 0
    go true q r = absurd (let y : at_id t (λ e. 1) e ≡ 1 = rw q refl in omega (arith, y, h, sum_by-cons (at_id t (λ e. 1)) e es))
    go false q r = let y : at_id t (λ e. 1) e ≡ 0 = rw q refl in let z : at_id t g e ≡ 0 = rw q refl in
        sum_by-cons (at_id t g) e es ∙ omega (arith, z, r (omega (arith, y, h, sum_by-cons (at_id t (λ e. 1)) e es)))

same_field : (g : Entry → ℕ) (a b : Entry) (xs ys : List Entry) → a.tile_id ≡ b.tile_id → Rising (b ∷ ys) → Same (a ∷ xs) (b ∷ ys) → g a ≡ g b
same_field g a b xs ys i r s =
    let one : Entry → ℕ = λ e. 1 in
    let count = s (at_id b.tile_id (λ e. 1)) in
    let left : sum_by (at_id b.tile_id (λ e. 1)) xs ≡ 0 = omega (arith, count, sum_by-cons (at_id b.tile_id (λ e. 1)) a xs, sum_by-cons (at_id b.tile_id (λ e. 1)) b ys, at_yes b.tile_id (λ e. 1) a i, at_yes b.tile_id (λ e. 1) b refl, none_at_first (λ e. 1) b ys r) in
    omega (arith, s (at_id b.tile_id g), sum_by-cons (at_id b.tile_id g) a xs, sum_by-cons (at_id b.tile_id g) b ys, at_yes b.tile_id g a i, at_yes b.tile_id g b refl, none_at_first g b ys r, none_of_none b.tile_id g xs left)

same_entry : (a b : Entry) → a.tile_id ≡ b.tile_id → a.offset ≡ b.offset → a.length ≡ b.length → a.run_length ≡ b.run_length → a ≡ b
same_entry a b p q r s =
    ap (λ z. entry z a.offset a.length a.run_length) p
    ∙ (ap (λ z. entry b.tile_id z a.length a.run_length) q
    ∙ (ap (λ z. entry b.tile_id b.offset z a.run_length) r
    ∙ ap (λ z. entry b.tile_id b.offset b.length z) s))

rising_rest : (e : Entry) (es : List Entry) → Rising (e ∷ es) → Rising es
rising_rest e [] r = tt
rising_rest e (f ∷ es) r = r.1

-- one order only
pub one_order : (xs ys : List Entry) → NotFalling xs → Rising ys → Same xs ys → xs ≡ ys
one_order [] [] n r s = refl
one_order [] (b ∷ ys) n r s = absurd (omega (arith, s (λ e. 1), sum_by-cons (λ e. 1) b ys))
one_order (a ∷ xs) [] n r s = absurd (omega (arith, s (λ e. 1), sum_by-cons (λ e. 1) a xs))
one_order (a ∷ xs) (b ∷ ys) n r s =
    let i : a.tile_id ≡ b.tile_id = omega (arith, least_first a b xs ys (rising_falls (b ∷ ys) r) s, least_first b a ys xs n (λ g. sym (s g))) in
    let e : a ≡ b = same_entry a b i (same_field (λ e. e.offset) a b xs ys i r s) (same_field (λ e. e.length) a b xs ys i r s) (same_field (λ e. e.run_length) a b xs ys i r s) in
    let rest : xs ≡ ys = one_order xs ys (falls_rest a xs n) (rising_rest b ys r) (λ g. omega (arith, s g, sum_by-cons g a xs, sum_by-cons g b ys, ap g e)) in
    cc

-- a sorted list whose ids rise is the sorted list of the definition
pub sorted_is : (xs ys : List Entry) → IsPermutation xs ys → Rising ys → ys ≡ sorted xs
sorted_is xs ys p r = sym (one_order (sorted xs) ys (falling_sorted xs) r (λ g. same_sorted g xs ∙ sym (sum_by-IsPermutation g xs ys p)))

-- the first overlap
none_covers : (t : ℕ) (e : Entry) (es : List Entry) → NotFalling (e ∷ es) → t < e.tile_id → times (e ∷ es) t ≡ 0
none_covers t e [] n h = times_cons t e [] ∙ omega (arith, covering_low t e h)
none_covers t e (f ∷ es) n h = times_cons t e (f ∷ es) ∙ omega (arith, covering_low t e h, none_covers t f es n.1 (omega (arith, h, n.0)))

once_at_most : (t : ℕ) (e : Entry) → covering t e ≤ 1
once_at_most t e = grind (arith, nat_tests)

pub record Overlap (es : List Entry) (t : ℕ) : Type 0 where
  pub twice : 2 ≤ times es t
  pub least : (s : ℕ) → s < t → times es s ≤ 1

pub record NoOverlap (es : List Entry) : Type 0 where
  pub once : (s : ℕ) → times es s ≤ 1
  pub rising : Rising es

pub overlap_is : (es : List Entry) → NotFalling es → AllRun es → MatchOption (first_within es) (NoOverlap es) (Overlap es)
overlap_is [] n a = record { once = λ s. omega arith; rising = tt }
overlap_is (e ∷ []) n a = record { once = λ s. omega (arith, times_cons s e [], once_at_most s e); rising = tt }
overlap_is (e ∷ f ∷ es) n a = go (nat_lt (f.tile_id - e.tile_id) e.run_length) refl (overlap_is (f ∷ es) n.1 a.1)
  where
    here : f.tile_id - e.tile_id < e.run_length → Overlap (e ∷ f ∷ es) f.tile_id
    here h = record {
      twice = omega (arith, times_cons f.tile_id e (f ∷ es), times_cons f.tile_id f es, covering_yes f.tile_id e n.0 (omega (arith, h, n.0)), covering_yes f.tile_id f (omega arith) (omega (arith, a.1.0)));
      least = λ s l. omega (arith, times_cons s e (f ∷ es), none_covers s f es n.1 l, once_at_most s e);
    }

    later : (o : Option ℕ) → first_within (f ∷ es) ≡ o → e.run_length ≤ f.tile_id - e.tile_id → MatchOption o (NoOverlap (f ∷ es)) (Overlap (f ∷ es)) → MatchOption o (NoOverlap (e ∷ f ∷ es)) (Overlap (e ∷ f ∷ es))
    later None q h m = record {
      once = λ s. elim (le_or f.tile_id s) [
        | inl l ↦ omega (arith, times_cons s e (f ∷ es), covering_high s e (omega (arith, l, h, n.0)), m.once s)
        | inr l ↦ omega (arith, times_cons s e (f ∷ es), none_covers s f es n.1 l, once_at_most s e)
      ];
      rising = (omega (arith, h, a.0), m.rising);
    }
    later (Some t) q h m = record {
      twice = omega (arith, times_cons t e (f ∷ es), m.twice);
      least = λ s l. elim (le_or f.tile_id s) [
        | inl g ↦ omega (arith, times_cons s e (f ∷ es), covering_high s e (omega (arith, g, h, n.0)), m.least s l)
        | inr g ↦ omega (arith, times_cons s e (f ∷ es), none_covers s f es n.1 g, once_at_most s e)
      ];
    }

    go : (b : Bool) → nat_lt (f.tile_id - e.tile_id) e.run_length ≡ b → MatchOption (first_within (f ∷ es)) (NoOverlap (f ∷ es)) (Overlap (f ∷ es)) → MatchOption (first_within (e ∷ f ∷ es)) (NoOverlap (e ∷ f ∷ es)) (Overlap (e ∷ f ∷ es))
    go true q m = rw q (here (grind (arith, nat_tests)))
    go false q m = rw q (later (first_within (f ∷ es)) refl (grind (arith, nat_tests)) m)

-- how std says that ids don't fall
pub not_falling : (es : List Entry) → IsNonDecreasingBy (λ e. e.tile_id) es → NotFalling es
not_falling [] h = tt
not_falling (e ∷ []) h = tt
not_falling (e ∷ f ∷ es) h = (h 0 1 e (omega arith) (omega arith), not_falling (f ∷ es) (λ i j d l g. h (suc i) (suc j) d (omega (arith, l)) (omega (arith, g))))

-- each entry's run is at least 1
run_all : (es : List Entry) → AllRun es → All (λ e. 1 ≤ e.run_length) es
run_all [] a = All-nil (λ e. 1 ≤ e.run_length)
run_all (e ∷ es) a = All-cons (λ e. 1 ≤ e.run_length) e es a.0 (run_all es a.1)

all_run : (es : List Entry) → All (λ e. 1 ≤ e.run_length) es → AllRun es
all_run [] a = tt
all_run (e ∷ es) a = (All-head (λ e. 1 ≤ e.run_length) e es a, all_run es (All-tail (λ e. 1 ≤ e.run_length) e es a))

run_append : (es fs : List Entry) → AllRun es → AllRun fs → AllRun (es ++ fs)
run_append [] fs a b = b
run_append (e ∷ es) fs a b = (a.0, run_append es fs a.1 b)

run_runs : (limit n offset len id count : ℕ) → 0 < limit → AllRun (runs limit n offset len id count)
run_runs limit zero offset len id count pos = tt
run_runs limit (suc n) offset len id count pos = elim (le_or count 0) [
  | inl z ↦ let zero_is : count ≡ 0 = omega (arith, z) in subst AllRun (sym (ap (runs limit (suc n) offset len id) zero_is ∙ runs_none limit (suc n) offset len id)) tt
  | inr some ↦ elim (le_or count limit) [
    | inl h ↦ subst AllRun (sym (runs_short limit n offset len id count some h)) (some, tt)
    | inr h ↦ subst AllRun (sym (runs_long limit n offset len id count h)) (pos, run_runs limit n offset len (id + limit) (count - limit) pos)
  ]
]

pub run_blocks : (place : List ℕ → ℕ) (bs : List Block) → AllRun (flat_map (entries_at place) bs)
run_blocks place [] = tt
run_blocks place (b ∷ bs) = run_append (entries_at place b) (flat_map (entries_at place) bs) (run_runs longest_run (b.count / longest_run + 1) (place b.bytes) (length b.bytes) b.first b.count (lit< tt)) (run_blocks place bs)

pub run_sorted : (place : List ℕ → ℕ) (adds : List (ℕ × List ℕ)) (ys : List Entry) → IsPermutation (unsorted place adds) ys → AllRun ys
run_sorted place adds ys p = all_run ys (All-permutation (λ e. 1 ≤ e.run_length) (unsorted place adds) ys p (run_all (unsorted place adds) (run_blocks place (blocks adds))))

times_sorted : (place : List ℕ → ℕ) (adds : List (ℕ × List ℕ)) (ys : List Entry) (t : ℕ) → IsPermutation (unsorted place adds) ys → times ys t ≡ adds_at adds t
times_sorted place adds ys t p = sum_by-IsPermutation (covering t) (unsorted place adds) ys p ∙ times_adds place adds t

-- sorted entries without an overlap are those of the archive
pub sorted_entries : (adds : List (ℕ × List ℕ)) (xs ys : List Entry) → xs ≡ unsorted (place_in (contents_from [] adds)) adds → IsPermutation xs ys → IsNonDecreasingBy (λ e. e.tile_id) ys → first_within ys ≡ None
    → (ys ≡ entries_of_adds adds) × Distinct adds
sorted_entries adds xs ys m p n f =
    let place = place_in (contents_from [] adds) in
    let q = subst (λ z. IsPermutation z ys) m p in
    let o : NoOverlap ys = subst (λ z. MatchOption z (NoOverlap ys) (Overlap ys)) f (overlap_is ys (not_falling ys n) (run_sorted place adds ys q)) in
    (sorted_is xs ys p o.rising ∙ ap sorted m, λ t. subst (λ z. z ≤ 1) (times_sorted place adds ys t q) (o.once t))

-- the first overlap is the least id that was added twice
pub least_twice : (adds : List (ℕ × List ℕ)) (xs ys : List Entry) (t : ℕ) → xs ≡ unsorted (place_in (contents_from [] adds)) adds → IsPermutation xs ys → IsNonDecreasingBy (λ e. e.tile_id) ys → first_within ys ≡ Some t
    → IsLeastTwice adds t
least_twice adds xs ys t m p n f =
    let place = place_in (contents_from [] adds) in
    let q = subst (λ z. IsPermutation z ys) m p in
    let o : Overlap ys t = subst (λ z. MatchOption z (NoOverlap ys) (Overlap ys)) f (overlap_is ys (not_falling ys n) (run_sorted place adds ys q)) in
    record { twice = subst (λ z. 2 ≤ z) (times_sorted place adds ys t q) o.twice; least = λ s l. subst (λ z. z ≤ 1) (times_sorted place adds ys s q) (o.least s l) }

-- a step of the search
two_at : (es : List Entry) (i : ℕ) (e f : Entry) → 1 ≤ i → i < length es → e ≡ get_or es (i - 1) e → f ≡ get_or es i f → (drop (i - 1) es ≡ e ∷ drop i es) × (drop i es ≡ f ∷ drop (i + 1) es)
two_at es i e f l h p q =
    let before : i - 1 < length es = omega arith in
    let here : i - 1 + 1 ≡ i = omega arith in (
      drop_more es (i - 1) e before ∙ (ap (λ z. z ∷ drop (i - 1 + 1) es) (sym p) ∙ ap (λ k. e ∷ drop k es) here),
      drop_more es i f h ∙ ap (λ z. z ∷ drop (i + 1) es) (sym q),
    )

pub within_here : (es : List Entry) (i : ℕ) (e f : Entry) → 1 ≤ i → i < length es → e ≡ get_or es (i - 1) e → f ≡ get_or es i f → f.tile_id - e.tile_id < e.run_length → first_within (drop (i - 1) es) ≡ Some f.tile_id
within_here es i e f l h p q s =
    let d = two_at es i e f l h p q in
    let t : nat_lt (f.tile_id - e.tile_id) e.run_length ≡ true = grind (arith, nat_tests) in
    ap first_within (d.0 ∙ ap (λ z. e ∷ z) d.1) ∙ rw t refl

pub within_later : (es : List Entry) (i : ℕ) (e f : Entry) → 1 ≤ i → i < length es → e ≡ get_or es (i - 1) e → f ≡ get_or es i f → e.run_length ≤ f.tile_id - e.tile_id → first_within (drop (i - 1) es) ≡ first_within (drop (i + 1 - 1) es)
within_later es i e f l h p q s =
    let d = two_at es i e f l h p q in
    let t : nat_lt (f.tile_id - e.tile_id) e.run_length ≡ false = grind (arith, nat_tests) in
    let on : i + 1 - 1 ≡ i = omega arith in
    ap first_within (d.0 ∙ ap (λ z. e ∷ z) d.1) ∙ (rw t (ap first_within (sym d.1)) ∙ ap (λ k. first_within (drop k es)) (sym on))

pub within_none : (es : List Entry) (i : ℕ) → 1 ≤ i → length es ≤ i → first_within (drop (i - 1) es) ≡ None
within_none es i l h = short (drop (i - 1) es) (omega (arith, length-drop (i - 1) es))
  where
    short : (xs : List Entry) → length xs ≤ 1 → first_within xs ≡ None
    short [] h = refl
    short (x ∷ []) h = refl
    short (x ∷ y ∷ xs) h = absurd (omega (arith, h))

pub within_found : (es : List Entry) (i : ℕ) (d : Entry) → 1 ≤ i → i < length es → (get_or es i d).tile_id - (get_or es (i - 1) d).tile_id < (get_or es (i - 1) d).run_length → first_within es ≡ first_within (drop (i - 1) es) → Some (get_or es i d).tile_id ≡ first_within es
within_found es i d l h s v = sym (v ∙ within_here es i (get_or es (i - 1) d) (get_or es i d) l h (get_or_default es (i - 1) d (get_or es (i - 1) d) (omega arith)) (get_or_default es i d (get_or es i d) h) s)

pub within_on : (es : List Entry) (i : ℕ) (d : Entry) → 1 ≤ i → i < length es → (get_or es (i - 1) d).run_length ≤ (get_or es i d).tile_id - (get_or es (i - 1) d).tile_id → first_within (drop (i - 1) es) ≡ first_within (drop (i + 1 - 1) es)
within_on es i d l h s = within_later es i (get_or es (i - 1) d) (get_or es i d) l h (get_or_default es (i - 1) d (get_or es (i - 1) d) (omega arith)) (get_or_default es i d (get_or es i d) h) s
