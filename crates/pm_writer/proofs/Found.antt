-- What the flat list of entries gives.
use Rattle.pm_writer.proofs.Common.{adds_at, ap, arith, Block, blocks, Bool, bytes_eq, bytes_eq-Decides, contents_from, covering, Covers, covers, Distinct, entries_at, entries_of_adds, Entry, entry}
use Rattle.pm_writer.proofs.Common.{false, flat_map, Has, if◌then◌else◌, inl, inr, IsIn, last_below, length, List, lit<, longest_run, MatchOption, nat_eq, nat_le, nat_lt, nat_tests, None, onto}
use Rattle.pm_writer.proofs.Common.{Option, place_in, refl, runs, scan, Some, sorted, sorted_in, subst, suc, sum_by-cons, sym, tile_in, times, true, unsorted, zero, ℕ, [], ◌+◌, ◌-◌, ◌/◌, ◌<◌, ◌>>=◌}
use Rattle.pm_writer.proofs.Common.{◌∙◌, ◌∷◌, ◌≡◌, ◌≤◌, ◌⊎◌}
use Rattle.pm_writer.proofs.Runs.{eq_or, le_or, runs_none, runs_short, runs_long}
use Rattle.pm_writer.proofs.Blocks.{AllBlocks, single, longer}
use Rattle.pm_writer.proofs.ContentLemmas.{AllHad, all_had}
use Rattle.pm_writer.proofs.Times.{times_cons, times_adds, covering_yes, covering_low, covering_high}
use Rattle.pm_writer.proofs.Ordered.{NotFalling, Apart, AllRun, falling_sorted, same_sorted}
use Rattle.pm_writer.proofs.Walking.{last_no, last_yes}
use Rattle.pm_writer.proofs.Parted.{in_append, tile_here, tile_later}

-- an add at an id, with these bytes
abbrev pub IsAdd : List (ℕ × List ℕ) → ℕ → List ℕ → Type 0
IsAdd [] t x = ⊥
IsAdd (a ∷ adds) t x = ((a.0 ≡ t) × (a.1 ≡ x)) ⊎ IsAdd adds t x

-- every id of a block is that of an add of its bytes
abbrev pub Holds : List (ℕ × List ℕ) → Block → Type 0
Holds adds b = (t : ℕ) → b.first ≤ t → t < b.first + b.count → IsAdd adds t b.bytes

more_hold : (a : ℕ × List ℕ) (adds : List (ℕ × List ℕ)) (bs : List Block) → AllBlocks (Holds adds) bs → AllBlocks (Holds (a ∷ adds)) bs
more_hold a adds [] h = tt
more_hold a adds (b ∷ bs) h = ((λ t p q. inr (h.0 t p q)), more_hold a adds bs h.1)

single_holds : (a : ℕ × List ℕ) (adds : List (ℕ × List ℕ)) → Holds (a ∷ adds) (single a)
single_holds a adds t p q = inl (omega (arith, p, q), refl)

onto_holds : (a : ℕ × List ℕ) (adds : List (ℕ × List ℕ)) (bs : List Block) → AllBlocks (Holds adds) bs → AllBlocks (Holds (a ∷ adds)) (onto a bs)
onto_holds a adds [] h = (single_holds a adds, tt)
onto_holds a adds (b ∷ bs) h = go (nat_eq (a.0 + 1) b.first) (bytes_eq a.1 b.bytes) refl refl
  where
    join : a.0 + 1 ≡ b.first → a.1 ≡ b.bytes → Holds (a ∷ adds) (longer a b)
    join e s t p q = elim (le_or b.first t) [
      | inl g ↦ inr (h.0 t g (omega (arith, q, e)))
      | inr g ↦ inl (omega (arith, p, g, e), s)
    ]

    go : (p q : Bool) → nat_eq (a.0 + 1) b.first ≡ p → bytes_eq a.1 b.bytes ≡ q → AllBlocks (Holds (a ∷ adds)) (onto a (b ∷ bs))
    go true true e f = rw (e, f) (join (grind (arith, nat_tests)) ((bytes_eq-Decides a.1 b.bytes).0 f), more_hold a adds bs h.1)
    go true false e f = rw (e, f) (single_holds a adds, more_hold a adds (b ∷ bs) h)
    go false q e f = rw e (single_holds a adds, more_hold a adds (b ∷ bs) h)

blocks_hold : (adds : List (ℕ × List ℕ)) → AllBlocks (Holds adds) (blocks adds)
blocks_hold [] = tt
blocks_hold (a ∷ adds) = onto_holds a adds (blocks adds) (blocks_hold adds)

-- an entry of a block's runs
pub record OfRun (id count place len : ℕ) (e : Entry) : Type 0 where
  pub from : id ≤ e.tile_id
  pub upto : e.tile_id + e.run_length ≤ id + count
  pub some : 1 ≤ e.run_length
  pub offset : e.offset ≡ place
  pub size : e.length ≡ len

of_runs : (limit n offset len id count : ℕ) (e : Entry) → 0 < limit → IsIn e (runs limit n offset len id count) → OfRun id count offset len e
of_runs limit zero offset len id count e l i = absurd i
of_runs limit (suc n) offset len id count e l i = elim (le_or count 0) [
  | inl z ↦ let zero_is : count ≡ 0 = omega (arith, z) in absurd (subst (IsIn e) (ap (runs limit (suc n) offset len id) zero_is ∙ runs_none limit (suc n) offset len id) i)
  | inr pos ↦ elim (le_or count limit) [
    | inl h ↦ only pos (subst (IsIn e) (runs_short limit n offset len id count pos h) i)
    | inr h ↦ more (of_runs limit n offset len (id + limit) (count - limit) e l) h (subst (IsIn e) (runs_long limit n offset len id count h) i)
  ]
]
  where
    only : 0 < count → IsIn e (entry id offset len count ∷ []) → OfRun id count offset len e
    only pos (inl s) = subst (OfRun id count offset len) (sym s) (record { from = omega arith; upto = omega arith; some = pos; offset = refl; size = refl })
    only pos (inr j) = absurd j

    more : (IsIn e (runs limit n offset len (id + limit) (count - limit)) → OfRun (id + limit) (count - limit) offset len e) → limit < count → IsIn e (entry id offset len limit ∷ runs limit n offset len (id + limit) (count - limit)) → OfRun id count offset len e
    more again h (inl s) = subst (OfRun id count offset len) (sym s) (record { from = omega arith; upto = omega (arith, h); some = l; offset = refl; size = refl })
    more again h (inr j) = let w = again j in record { from = omega (arith, w.from); upto = omega (arith, w.upto, h); some = w.some; offset = w.offset; size = w.size }

-- an entry that covers an id gives an add at it
pub record Given (place : List ℕ → ℕ) (adds : List (ℕ × List ℕ)) (t : ℕ) (e : Entry) : Type 0 where
  pub bytes : List ℕ
  pub add : IsAdd adds t bytes
  pub offset : e.offset ≡ place bytes
  pub size : e.length ≡ length bytes
  pub some : 1 ≤ e.run_length

given_by : (place : List ℕ → ℕ) (adds : List (ℕ × List ℕ)) (bs : List Block) (t : ℕ) (e : Entry) → AllBlocks (Holds adds) bs → IsIn e (flat_map (entries_at place) bs) → Covers e t → Given place adds t e
given_by place adds [] t e h i c = absurd i
given_by place adds (b ∷ bs) t e h i c = elim (in_append e (entries_at place b) (flat_map (entries_at place) bs) i) [
  | inl j ↦ let r = of_runs longest_run (b.count / longest_run + 1) (place b.bytes) (length b.bytes) b.first b.count e (lit< tt) j in
      record { bytes = b.bytes; add = h.0 t (omega (arith, r.from, c.0)) (omega (arith, r.upto, c.1)); offset = r.offset; size = r.size; some = r.some }
  | inr j ↦ given_by place adds bs t e h.1 j c
]

-- sorting keeps the entries
unsort_in : (d e : Entry) (es : List Entry) → IsIn d (sorted_in e es) → (d ≡ e) ⊎ IsIn d es
unsort_in d e [] (inl s) = inl s
unsort_in d e [] (inr i) = absurd i
unsort_in d e (f ∷ es) i = go (nat_le e.tile_id f.tile_id) refl (unsort_in d e es)
  where
    go : (b : Bool) → nat_le e.tile_id f.tile_id ≡ b → (IsIn d (sorted_in e es) → (d ≡ e) ⊎ IsIn d es) → (d ≡ e) ⊎ IsIn d (f ∷ es)
    go true q r = let s : sorted_in e (f ∷ es) ≡ e ∷ f ∷ es = rw q refl in subst (IsIn d) s i
    go false q r = let s : sorted_in e (f ∷ es) ≡ f ∷ sorted_in e es = rw q refl in later (subst (IsIn d) s i)
      where
        later : IsIn d (f ∷ sorted_in e es) → (d ≡ e) ⊎ IsIn d (f ∷ es)
        later (inl s) = inr (inl s)
        later (inr j) = elim (r j) [ inl s ↦ inl s | inr k ↦ inr (inr k) ]

pub unsorted_has : (d : Entry) (es : List Entry) → IsIn d (sorted es) → IsIn d es
unsorted_has d [] i = i
unsorted_has d (e ∷ es) i = elim (unsort_in d e (sorted es) i) [ inl s ↦ inl s | inr j ↦ inr (unsorted_has d es j) ]

pub given_of : (adds : List (ℕ × List ℕ)) (t : ℕ) (e : Entry) → IsIn e (entries_of_adds adds) → Covers e t → Given (place_in (contents_from [] adds)) adds t e
given_of adds t e i c = given_by (place_in (contents_from [] adds)) adds (blocks adds) t e (blocks_hold adds) (unsorted_has e (unsorted (place_in (contents_from [] adds)) adds) i) c

-- the tile at the id of an add, where ids are distinct
adds_here : (a : ℕ × List ℕ) (adds : List (ℕ × List ℕ)) (t : ℕ) → a.0 ≡ t → adds_at (a ∷ adds) t ≡ 1 + adds_at adds t
adds_here a adds t e = let q : nat_eq a.0 t ≡ true = grind (arith, nat_tests) in sum_by-cons (λ a. if nat_eq a.0 t then 1 else 0) a adds ∙ rw q refl

adds_more : (a : ℕ × List ℕ) (adds : List (ℕ × List ℕ)) (t : ℕ) → adds_at adds t ≤ adds_at (a ∷ adds) t
adds_more a adds t = omega (arith, sum_by-cons (λ a. if nat_eq a.0 t then 1 else 0) a adds)

some_add : (adds : List (ℕ × List ℕ)) (t : ℕ) (x : List ℕ) → IsAdd adds t x → 1 ≤ adds_at adds t
some_add [] t x i = absurd i
some_add (a ∷ adds) t x (inl s) = omega (arith, adds_here a adds t s.0)
some_add (a ∷ adds) t x (inr i) = omega (arith, some_add adds t x i, adds_more a adds t)

pub tile_of_add : (adds : List (ℕ × List ℕ)) (t : ℕ) (x : List ℕ) → adds_at adds t ≤ 1 → IsAdd adds t x → tile_in adds t ≡ Some x
tile_of_add [] t x d i = absurd i
tile_of_add (a ∷ adds) t x d (inl s) = tile_here a adds t s.0 ∙ ap Some s.1
tile_of_add (a ∷ adds) t x d (inr i) = elim (eq_or a.0 t) [
  | inl e ↦ absurd (omega (arith, d, some_add adds t x i, adds_here a adds t e))
  | inr n ↦ tile_later a adds t n ∙ tile_of_add adds t x (omega (arith, d, adds_more a adds t)) i
]

add_of_tile : (adds : List (ℕ × List ℕ)) (t : ℕ) (x : List ℕ) → tile_in adds t ≡ Some x → IsAdd adds t x
add_of_tile [] t x h = absurd (cc)
add_of_tile (a ∷ adds) t x h = elim (eq_or a.0 t) [
  | inl e ↦ let both : Some a.1 ≡ Some x = sym (tile_here a adds t e) ∙ h in inl (e, cc)
  | inr n ↦ inr (add_of_tile adds t x (sym (tile_later a adds t n) ∙ h))
]

pub had_add : (cs : List (List ℕ)) (adds : List (ℕ × List ℕ)) (t : ℕ) (x : List ℕ) → AllHad cs adds → IsAdd adds t x → Has cs x
had_add cs [] t x h i = absurd i
had_add cs (a ∷ adds) t x h (inl s) = subst (Has cs) s.1 h.0
had_add cs (a ∷ adds) t x h (inr i) = had_add cs adds t x h.1 i

-- an id that is covered is covered by some entry
covered_by : (es : List Entry) (t : ℕ) → 1 ≤ times es t → (e : Entry) × IsIn e es × Covers e t
covered_by [] t h = absurd (omega (arith, h))
covered_by (e ∷ es) t h = elim (le_or e.tile_id t) [
  | inl a ↦ elim (le_or (e.tile_id + e.run_length) t) [
    | inl b ↦ later (covered_by es t) (covering_high t e b)
    | inr b ↦ (e, inl refl, (a, b))
  ]
  | inr a ↦ later (covered_by es t) (covering_low t e a)
]
  where
    later : (1 ≤ times es t → (e : Entry) × IsIn e es × Covers e t) → covering t e ≡ 0 → (d : Entry) × IsIn d (e ∷ es) × Covers d t
    later r z = let c = r (omega (arith, h, z, times_cons t e es)) in (c.0, inr c.1, c.2)

-- entries that cover no id twice lie apart
pub lie_apart : (es : List Entry) → NotFalling es → AllRun es → ((t : ℕ) → times es t ≤ 1) → Apart es
lie_apart [] n a o = tt
lie_apart (e ∷ []) n a o = tt
lie_apart (e ∷ f ∷ es) n a o = (
  elim (le_or (e.tile_id + e.run_length) f.tile_id) [
    | inl h ↦ h
    | inr h ↦ absurd (omega (arith, o f.tile_id, times_cons f.tile_id e (f ∷ es), times_cons f.tile_id f es, covering_yes f.tile_id e n.0 h, covering_yes f.tile_id f (omega arith) (omega (arith, a.1.0))))
  ],
  lie_apart (f ∷ es) n.1 a.1 (λ t. omega (arith, o t, times_cons t e (f ∷ es))),
)

behind : (t : ℕ) (found : Option Entry) (e : Entry) (es : List Entry) → Apart (e ∷ es) → t < e.tile_id → last_below t found (e ∷ es) ≡ found
behind t found e [] w h = last_no t found e [] h
behind t found e (f ∷ es) w h = last_no t found e (f ∷ es) h ∙ behind t found f es w.1 (omega (arith, h, w.0))

after : (e f : Entry) (es : List Entry) → Apart (e ∷ es) → IsIn f es → e.tile_id ≤ f.tile_id
after e f [] w i = absurd i
after e f (g ∷ es) w (inl s) = omega (arith, w.0, ap (λ z. z.tile_id) s)
after e f (g ∷ es) w (inr i) = omega (arith, w.0, after g f es w.1 i)

found_at : (t : ℕ) (found : Option Entry) (f : Entry) (es : List Entry) → Apart es → IsIn f es → Covers f t → last_below t found es ≡ Some f
found_at t found f [] w i c = absurd i
found_at t found f (e ∷ []) w (inl s) c = last_yes t found e [] (omega (arith, c.0, ap (λ z. z.tile_id) s)) ∙ ap Some (sym s)
found_at t found f (e ∷ []) w (inr i) c = absurd i
found_at t found f (e ∷ g ∷ es) w (inl s) c =
    last_yes t found e (g ∷ es) (omega (arith, c.0, ap (λ z. z.tile_id) s)) ∙ (behind t (Some e) g es w.1 (omega (arith, c.1, w.0, ap (λ z. z.tile_id) s, ap (λ z. z.run_length) s)) ∙ ap Some (sym s))
found_at t found f (e ∷ g ∷ es) w (inr i) c =
    last_yes t found e (g ∷ es) (omega (arith, c.0, after e f (g ∷ es) w i)) ∙ found_at t (Some e) f (g ∷ es) w.1 i c

covered : (t : ℕ) (f : Entry) → 1 ≤ f.run_length → Covers f t → covers t f ≡ Some f
covered t f r c =
    let some : nat_eq f.run_length 0 ≡ false = grind (arith, nat_tests) in
    let low : nat_lt (t - f.tile_id) f.run_length ≡ true = (let h = c.1 in let g = c.0 in grind (arith, nat_tests)) in
    rw (some, low) refl

pub last_in : (t : ℕ) (found : Option Entry) (es : List Entry) (f : Entry) → last_below t found es ≡ Some f → (found ≡ Some f) ⊎ (IsIn f es × (f.tile_id ≤ t))
last_in t found [] f h = inl h
last_in t found (e ∷ es) f h = elim (le_or e.tile_id t) [
  | inl g ↦ elim (last_in t (Some e) es f (sym (last_yes t found e es g) ∙ h)) [
    | inl s ↦ let same : e ≡ f = cc in inr (inl (sym same), omega (arith, g, ap (λ z. z.tile_id) same))
    | inr r ↦ inr (inr r.0, r.1)
  ]
  | inr g ↦ elim (last_in t found es f (sym (last_no t found e es g) ∙ h)) [
    | inl s ↦ inl s
    | inr r ↦ inr (inr r.0, r.1)
  ]
]

pub run_in : (f : Entry) (es : List Entry) → AllRun es → IsIn f es → 1 ≤ f.run_length
run_in f [] a i = absurd i
run_in f (e ∷ es) a (inl s) = subst (λ z. 1 ≤ z.run_length) (sym s) a.0
run_in f (e ∷ es) a (inr i) = run_in f es a.1 i

covers_is : (t : ℕ) (f k : Entry) → 1 ≤ f.run_length → f.tile_id ≤ t → covers t f ≡ Some k → (f ≡ k) × (t < f.tile_id + f.run_length)
covers_is t f k r l h = go (nat_lt (t - f.tile_id) f.run_length) refl
  where
    some : nat_eq f.run_length 0 ≡ false
    some = grind (arith, nat_tests)

    go : (b : Bool) → nat_lt (t - f.tile_id) f.run_length ≡ b → (f ≡ k) × (t < f.tile_id + f.run_length)
    go true e = let q : covers t f ≡ Some f = rw (some, e) refl in let both : Some f ≡ Some k = sym q ∙ h in (cc, let g : t - f.tile_id < f.run_length = grind (arith, nat_tests) in omega (arith, g, l))
    go false e = absurd (let q : covers t f ≡ None = rw (some, e) refl in cc)

pub scan_is : (es : List Entry) (t : ℕ) (k : Entry) → AllRun es → scan es t ≡ Some k → IsIn k es × Covers k t
unfolding scan
scan_is es t k a h = go (last_below t None es) refl
  where
    go : (o : Option Entry) → last_below t None es ≡ o → IsIn k es × Covers k t
    go None e = absurd (let q : scan es t ≡ None = ap (λ o. o >>= covers t) e in cc)
    go (Some f) e = elim (last_in t None es f e) [
      | inl s ↦ absurd (cc)
      | inr r ↦
          let c = covers_is t f k (run_in f es a r.0) r.1 (sym (ap (λ o. o >>= covers t) e) ∙ h) in
          (subst (λ z. IsIn z es) c.0 r.0, subst (λ z. Covers z t) c.0 (r.1, c.1))
    ]

pub scan_covered : (es : List Entry) (t : ℕ) (k : Entry) → AllRun es → Apart es → IsIn k es → Covers k t → scan es t ≡ Some k
unfolding scan
scan_covered es t k a w i c = ap (λ o. o >>= covers t) (found_at t None k es w i c) ∙ covered t k (run_in k es a i) c

-- what a look-up in the flat list answers
pub record Answer (adds : List (ℕ × List ℕ)) (t : ℕ) (e : Entry) : Type 0 where
  pub bytes : List ℕ
  pub tile : tile_in adds t ≡ Some bytes
  pub had : Has (contents_from [] adds) bytes
  pub offset : e.offset ≡ place_in (contents_from [] adds) bytes
  pub size : e.length ≡ length bytes
  pub some : 1 ≤ e.run_length

times_entries : (adds : List (ℕ × List ℕ)) (s : ℕ) → times (entries_of_adds adds) s ≡ adds_at adds s
times_entries adds s = same_sorted (covering s) (unsorted (place_in (contents_from [] adds)) adds) ∙ times_adds (place_in (contents_from [] adds)) adds s

pub entries_apart : (adds : List (ℕ × List ℕ)) → Distinct adds → AllRun (entries_of_adds adds) → Apart (entries_of_adds adds)
entries_apart adds d a = lie_apart (entries_of_adds adds) (falling_sorted (unsorted (place_in (contents_from [] adds)) adds)) a (λ t. subst (λ z. z ≤ 1) (sym (times_entries adds t)) (d t))

pub flat_answer : (adds : List (ℕ × List ℕ)) (t : ℕ) → Distinct adds → AllRun (entries_of_adds adds) → MatchOption (scan (entries_of_adds adds) t) (tile_in adds t ≡ None) (Answer adds t)
flat_answer adds t d a = go (scan (entries_of_adds adds) t) refl
  where
    none : scan (entries_of_adds adds) t ≡ None → (o : Option (List ℕ)) → tile_in adds t ≡ o → o ≡ None
    none h None e = refl
    none h (Some x) e =
        let c = covered_by (entries_of_adds adds) t (subst (λ z. 1 ≤ z) (sym (times_entries adds t)) (some_add adds t x (add_of_tile adds t x e))) in
        let q = scan_covered (entries_of_adds adds) t c.0 a (entries_apart adds d a) c.1 c.2 in
        absurd (cc)

    go : (o : Option Entry) → scan (entries_of_adds adds) t ≡ o → MatchOption o (tile_in adds t ≡ None) (Answer adds t)
    go None h = none h (tile_in adds t) refl
    go (Some e) h =
        let s = scan_is (entries_of_adds adds) t e a h in
        let g = given_of adds t e s.0 s.1 in
        record { bytes = g.bytes; tile = tile_of_add adds t g.bytes (d t) g.add; had = had_add (contents_from [] adds) adds t g.bytes (all_had [] adds) g.add; offset = g.offset; size = g.size; some = g.some }

-- the entry that covers an add
pub add_covered : (adds : List (ℕ × List ℕ)) (t : ℕ) (x : List ℕ) → IsAdd adds t x → (e : Entry) × IsIn e (entries_of_adds adds) × Covers e t
add_covered adds t x i = covered_by (entries_of_adds adds) t (subst (λ z. 1 ≤ z) (sym (times_entries adds t)) (some_add adds t x i))
