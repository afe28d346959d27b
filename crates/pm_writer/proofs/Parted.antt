-- The blocks of rising adds, and their entries.
use Rattle.pm_writer.proofs.Common.{add-one, ap, append-nil, arith, Block, blocks, Bool, bytes_eq, bytes_eq-Decides, entries_at, Entry, entry, false, flat_map, inl, inr, IsIn, length, List}
use Rattle.pm_writer.proofs.Common.{longest_run, MAX_TILE_ID, nat_eq, nat_le, nat_tests, None, onto, Option, refl, RisingAdds, runs, Some, sorted, sorted_in, subst, suc, sym, tile_in, true, zero, ℕ}
use Rattle.pm_writer.proofs.Common.{[], ◌++◌, ◌+◌, ◌-◌, ◌/◌, ◌<◌, ◌∙◌, ◌∷◌, ◌≡◌, ◌≢◌, ◌≤◌, ◌⊎◌}
use Rattle.pm_writer.proofs.Cuts.{Needed}
use Rattle.pm_writer.proofs.Runs.{le_or, runs_none, runs_short, runs_long}
use Rattle.pm_writer.proofs.Blocks.{single, longer}

-- tiles of adds
pub tile_here : (a : ℕ × List ℕ) (adds : List (ℕ × List ℕ)) (t : ℕ) → a.0 ≡ t → tile_in (a ∷ adds) t ≡ Some a.1
tile_here a adds t h = let e : nat_eq a.0 t ≡ true = grind (arith, nat_tests) in rw e refl

pub tile_later : (a : ℕ × List ℕ) (adds : List (ℕ × List ℕ)) (t : ℕ) → a.0 ≢ t → tile_in (a ∷ adds) t ≡ tile_in adds t
tile_later a adds t h = let e : nat_eq a.0 t ≡ false = grind (arith, nat_tests) in rw e refl

pub rest_rises : (a : ℕ × List ℕ) (adds : List (ℕ × List ℕ)) → RisingAdds (a ∷ adds) → RisingAdds adds
rest_rises a [] r = tt
rest_rises a (b ∷ adds) r = r.2

pub none_below : (a : ℕ × List ℕ) (adds : List (ℕ × List ℕ)) (t : ℕ) → RisingAdds (a ∷ adds) → t < a.0 → tile_in (a ∷ adds) t ≡ None
none_below a [] t r h = tile_later a [] t (omega (arith, h))
none_below a (b ∷ adds) t r h = tile_later a (b ∷ adds) t (omega (arith, h)) ∙ none_below b adds t r.2 (omega (arith, h, r.1))

-- a tile is never empty, and its id is one of a tile
pub tile_some : (adds : List (ℕ × List ℕ)) (t : ℕ) (x : List ℕ) → RisingAdds adds → tile_in adds t ≡ Some x → (x ≢ []) × (t ≤ MAX_TILE_ID)
tile_some [] t x r h = absurd (cc)
tile_some (a ∷ adds) t x r h = elim (eq_or a.0 t) [
  | inl e ↦ let same : a.1 ≡ x = let p = sym (tile_here a adds t e) ∙ h in cc in (subst (λ z. z ≢ []) same (some_first a adds r), subst (λ z. z ≤ MAX_TILE_ID) e (low_first a adds r))
  | inr n ↦ tile_some adds t x (rest_rises a adds r) (sym (tile_later a adds t n) ∙ h)
]
  where
    eq_or : (m n : ℕ) → (m ≡ n) ⊎ (m ≢ n)
    eq_or m n = grind arith

    some_first : (a : ℕ × List ℕ) (adds : List (ℕ × List ℕ)) → RisingAdds (a ∷ adds) → a.1 ≢ []
    some_first a [] r = r.0
    some_first a (b ∷ adds) r = r.0

    low_first : (a : ℕ × List ℕ) (adds : List (ℕ × List ℕ)) → RisingAdds (a ∷ adds) → a.0 ≤ MAX_TILE_ID
    low_first a [] r = r.1
    low_first a (b ∷ adds) r = omega (arith, r.1, low_first b adds r.2)

-- a block's tiles
pub record Block_of (map : ℕ → Option (List ℕ)) (b : Block) : Type 0 where
  pub some : 0 < b.count
  pub all : (t : ℕ) → b.first ≤ t → t < b.first + b.count → map t ≡ Some b.bytes

-- blocks one after another, the map changing between them
abbrev pub Parted : (ℕ → Option (List ℕ)) → List Block → Type 0
Parted map [] = Unit {0}
Parted map (b ∷ []) = Block_of map b
Parted map (b ∷ c ∷ bs) = Block_of map b × (b.first + b.count ≤ c.first) × (map (c.first - 1) ≢ map c.first) × Parted map (c ∷ bs)

Agree : (ℕ → Option (List ℕ)) → (ℕ → Option (List ℕ)) → ℕ → Type 0
Agree map other low = (t : ℕ) → low ≤ t → other t ≡ map t

agree_block : (map other : ℕ → Option (List ℕ)) (low : ℕ) (b : Block) → Agree map other low → low ≤ b.first → Block_of map b → Block_of other b
unfolding Agree
agree_block map other low b g h p = record { some = p.some; all = λ t q r. g t (omega (arith, q, h)) ∙ p.all t q r }

agree : (map other : ℕ → Option (List ℕ)) (low : ℕ) (b : Block) (bs : List Block) → Agree map other low → low ≤ b.first → Parted map (b ∷ bs) → Parted other (b ∷ bs)
unfolding Agree
agree map other low b [] g h p = agree_block map other low b g h p
agree map other low b (c ∷ bs) g h p =
    let room = p.0.some in (
      agree_block map other low b g h p.0,
      p.1,
      (λ e. p.2 (sym (g (c.first - 1) (omega (arith, h, p.1, room))) ∙ (e ∙ g c.first (omega (arith, h, p.1, room))))),
      agree map other low c bs g (omega (arith, h, p.1, room)) p.3,
    )

meets_cases : (x : ℕ × List ℕ) (b : Block) (bs : List Block)
    → ((x.0 + 1 ≡ b.first) × (x.1 ≡ b.bytes) × (onto x (b ∷ bs) ≡ longer x b ∷ bs)) ⊎ ((x.0 + 1 ≡ b.first → x.1 ≡ b.bytes → ⊥) × (onto x (b ∷ bs) ≡ single x ∷ b ∷ bs))
meets_cases x b bs = go (nat_eq (x.0 + 1) b.first) (bytes_eq x.1 b.bytes) refl refl
  where
    go : (p q : Bool) → nat_eq (x.0 + 1) b.first ≡ p → bytes_eq x.1 b.bytes ≡ q → ((x.0 + 1 ≡ b.first) × (x.1 ≡ b.bytes) × (onto x (b ∷ bs) ≡ longer x b ∷ bs)) ⊎ ((x.0 + 1 ≡ b.first → x.1 ≡ b.bytes → ⊥) × (onto x (b ∷ bs) ≡ single x ∷ b ∷ bs))
    go true true e f = inl (grind (arith, nat_tests), (bytes_eq-Decides x.1 b.bytes).0 f, rw (e, f) refl)
    go true false e f = inr ((λ m s. let t = (bytes_eq-Decides x.1 b.bytes).1 s in cc), rw (e, f) refl)
    go false q e f = inr ((λ m s. let t : nat_eq (x.0 + 1) b.first ≡ true = grind (arith, nat_tests) in cc), rw e refl)

pub onto_first : (x : ℕ × List ℕ) (bs : List Block) → (b : Block) × (cs : List Block) × (onto x bs ≡ b ∷ cs) × (b.first ≡ x.0)
onto_first x [] = (single x, [], refl, refl)
onto_first x (b ∷ bs) = elim (meets_cases x b bs) [ inl m ↦ (longer x b, bs, m.2, refl) | inr m ↦ (single x, b ∷ bs, m.1, refl) ]

single_of : (a : ℕ × List ℕ) (adds : List (ℕ × List ℕ)) → Block_of (tile_in (a ∷ adds)) (single a)
single_of a adds = record { some = omega arith; all = λ t q r. tile_here a adds t (omega (arith, q, r)) }

first_of : (map : ℕ → Option (List ℕ)) (b : Block) (bs : List Block) → Parted map (b ∷ bs) → Block_of map b
first_of map b [] p = p
first_of map b (c ∷ bs) p = p.0

longer_of : (a : ℕ × List ℕ) (b : Block) (map : ℕ → Option (List ℕ)) → a.0 + 1 ≡ b.first → map a.0 ≡ Some b.bytes → Block_of map b → Block_of map (longer a b)
longer_of a b map e here p = record {
  some = omega arith;
  all = λ t q r. elim (le_or b.first t) [
    | inl h ↦ p.all t h (omega (arith, r, e))
    | inr h ↦ let same : a.0 ≡ t = omega (arith, q, h, e) in subst (λ z. map z ≡ Some b.bytes) same here
  ];
}

front : (a : ℕ × List ℕ) (b : Block) (bs : List Block) (map : ℕ → Option (List ℕ)) → a.0 + 1 ≡ b.first → map a.0 ≡ Some b.bytes → Parted map (b ∷ bs) → Parted map (longer a b ∷ bs)
front a b [] map e here p = longer_of a b map e here p
front a b (c ∷ bs) map e here p = (longer_of a b map e here p.0, omega (arith, p.1, e), p.2, p.3)

change : (a x : ℕ × List ℕ) (adds : List (ℕ × List ℕ)) (b : Block) → RisingAdds (a ∷ x ∷ adds) → b.first ≡ x.0 → (a.0 + 1 ≡ b.first → a.1 ≡ b.bytes → ⊥) → Block_of (tile_in (a ∷ x ∷ adds)) b
    → tile_in (a ∷ x ∷ adds) (b.first - 1) ≢ tile_in (a ∷ x ∷ adds) b.first
change a x adds b r f n p = λ same.
    let here = p.all b.first (omega arith) (omega (arith, p.some)) in
    elim (le_or b.first (a.0 + 1)) [
      | inl h ↦
          let e : a.0 + 1 ≡ b.first = omega (arith, h, r.1, f) in
          let there = tile_here a (x ∷ adds) (b.first - 1) (omega (arith, e)) in
          n e (let both : Some a.1 ≡ Some b.bytes = sym there ∙ (same ∙ here) in cc)
      | inr h ↦
          let there = tile_later a (x ∷ adds) (b.first - 1) (omega (arith, h)) ∙ none_below x adds (b.first - 1) r.2 (omega (arith, h, f)) in
          let both : None ≡ Some b.bytes = sym there ∙ (same ∙ here) in cc
    ]

parted_onto : (a x : ℕ × List ℕ) (adds : List (ℕ × List ℕ)) (b : Block) (bs : List Block) → RisingAdds (a ∷ x ∷ adds) → b.first ≡ x.0 → Parted (tile_in (x ∷ adds)) (b ∷ bs)
    → Parted (tile_in (a ∷ x ∷ adds)) (onto a (b ∷ bs))
unfolding Agree
parted_onto a x adds b bs r f p =
    let g : Agree (tile_in (x ∷ adds)) (tile_in (a ∷ x ∷ adds)) b.first = λ t h. tile_later a (x ∷ adds) t (omega (arith, h, r.1, f)) in
    let q = agree (tile_in (x ∷ adds)) (tile_in (a ∷ x ∷ adds)) b.first b bs g (omega arith) p in
    elim (meets_cases a b bs) [
      | inl m ↦ rw (m.2) (front a b bs (tile_in (a ∷ x ∷ adds)) m.0 (tile_here a (x ∷ adds) a.0 refl ∙ ap Some m.1) q)
      | inr m ↦ rw (m.1) (single_of a (x ∷ adds), omega (arith, r.1, f), change a x adds b r f m.0 (first_of _ b bs q), q)
    ]

pub parted : (adds : List (ℕ × List ℕ)) → RisingAdds adds → Parted (tile_in adds) (blocks adds)
parted [] r = tt
parted (a ∷ []) r = single_of a []
parted (a ∷ x ∷ adds) r =
    let b = onto_first x (blocks adds) in
    let p : Parted (tile_in (x ∷ adds)) (b.0 ∷ b.1) = subst (Parted (tile_in (x ∷ adds))) b.2 (parted (x ∷ adds) r.2) in
    subst (λ z. Parted (tile_in (a ∷ x ∷ adds)) (onto a z)) (sym b.2) (parted_onto a x adds b.0 b.1 r b.3 p)

-- the entries of a block
pub within : (limit n offset len id count : ℕ) (e : Entry) → IsIn e (runs limit n offset len id count) → (id ≤ e.tile_id) × (e.tile_id < id + count)
within limit zero offset len id count e i = absurd i
within limit (suc n) offset len id count e i =
    elim (le_or count 0) [
      | inl z ↦
          let zero_is : count ≡ 0 = omega (arith, z) in
          absurd (subst (IsIn e) (ap (runs limit (suc n) offset len id) zero_is ∙ runs_none limit (suc n) offset len id) i)
      | inr pos ↦ elim (le_or count limit) [
        | inl h ↦ only pos (subst (IsIn e) (runs_short limit n offset len id count pos h) i)
        | inr h ↦ more (within limit n offset len (id + limit) (count - limit) e) h (subst (IsIn e) (runs_long limit n offset len id count h) i)
      ]
    ]
  where
    only : 0 < count → IsIn e (entry id offset len count ∷ []) → (id ≤ e.tile_id) × (e.tile_id < id + count)
    only pos (inl s) = let same = ap (λ z. z.tile_id) s in (omega (arith, same), omega (arith, same, pos))
    only pos (inr j) = absurd j

    more : (IsIn e (runs limit n offset len (id + limit) (count - limit)) → (id + limit ≤ e.tile_id) × (e.tile_id < id + limit + (count - limit))) → limit < count → IsIn e (entry id offset len limit ∷ runs limit n offset len (id + limit) (count - limit)) → (id ≤ e.tile_id) × (e.tile_id < id + count)
    more again h (inl s) = let same = ap (λ z. z.tile_id) s in (omega (arith, same), omega (arith, same, h))
    more again h (inr j) = let w = again j in (omega (arith, w.0), omega (arith, w.1, h))

-- the first entry of a block begins where the block does
pub runs_first : (limit n offset len id count : ℕ) → 0 < count → (e : Entry) × (es : List Entry) × (runs limit (suc n) offset len id count ≡ e ∷ es) × (e.tile_id ≡ id)
runs_first limit n offset len id count pos = elim (le_or count limit) [
  | inl h ↦ (entry id offset len count, [], runs_short limit n offset len id count pos h, refl)
  | inr h ↦ (entry id offset len limit, runs limit n offset len (id + limit) (count - limit), runs_long limit n offset len id count h, refl)
]

joined_to : (map : ℕ → Option (List ℕ)) (n offset len id count : ℕ) → longest_run < count → Needed map (runs longest_run n offset len (id + longest_run) (count - longest_run))
    → Needed map (entry id offset len longest_run ∷ runs longest_run n offset len (id + longest_run) (count - longest_run))
joined_to map zero offset len id count h m = tt
joined_to map (suc n) offset len id count h m =
    let r = runs_first longest_run n offset len (id + longest_run) (count - longest_run) (omega (arith, h)) in
    let P : List Entry → Type 0 = λ z. Needed map (entry id offset len longest_run ∷ z) in
    subst P (sym r.2) (omega (arith, r.3), inl (sym r.3), subst (Needed map) r.2 m)

pub needed_runs : (map : ℕ → Option (List ℕ)) (n offset len id count : ℕ) → Needed map (runs longest_run n offset len id count)
needed_runs map zero offset len id count = tt
needed_runs map (suc n) offset len id count =
    elim (le_or count 0) [
      | inl z ↦ let zero_is : count ≡ 0 = omega (arith, z) in subst (Needed map) (sym (ap (runs longest_run (suc n) offset len id) zero_is ∙ runs_none longest_run (suc n) offset len id)) tt
      | inr pos ↦ elim (le_or count longest_run) [
        | inl h ↦ subst (Needed map) (sym (runs_short longest_run n offset len id count pos h)) tt
        | inr h ↦ subst (Needed map) (sym (runs_long longest_run n offset len id count h)) (joined_to map n offset len id count h (needed_runs map n offset len (id + longest_run) (count - longest_run)))
      ]
    ]

pub needed_append : (map : ℕ → Option (List ℕ)) (es : List Entry) (f : Entry) (fs : List Entry) → Needed map es → Needed map (f ∷ fs) → ((e : Entry) → IsIn e es → e.tile_id < f.tile_id) → map (f.tile_id - 1) ≢ map f.tile_id → Needed map (es ++ f ∷ fs)
needed_append map [] f fs n m low c = m
needed_append map (e ∷ []) f fs n m low c = (low e (inl refl), inr c, m)
needed_append map (e ∷ g ∷ es) f fs n m low c = (n.0, n.1, needed_append map (g ∷ es) f fs n.2 m (λ d i. low d (inr i)) c)

entries_first : (place : List ℕ → ℕ) (b : Block) → 0 < b.count → (e : Entry) × (es : List Entry) × (entries_at place b ≡ e ∷ es) × (e.tile_id ≡ b.first)
entries_first place b pos =
    let r = runs_first longest_run (b.count / longest_run) (place b.bytes) (length b.bytes) b.first b.count pos in
    (r.0, r.1, ap (λ k. runs longest_run k (place b.bytes) (length b.bytes) b.first b.count) (add-one (b.count / longest_run)) ∙ r.2, r.3)

pub needed_entries : (map : ℕ → Option (List ℕ)) (place : List ℕ → ℕ) (bs : List Block) → Parted map bs → Needed map (flat_map (entries_at place) bs)
needed_entries map place [] p = tt
needed_entries map place (b ∷ []) p = subst (Needed map) (sym (append-nil (entries_at place b))) (needed_runs map (b.count / longest_run + 1) (place b.bytes) (length b.bytes) b.first b.count)
needed_entries map place (b ∷ c ∷ bs) p =
    let rest = flat_map (entries_at place) bs in
    let f = entries_first place c (first_of map c bs p.3).some in
    let again : Needed map (f.0 ∷ (f.1 ++ rest)) = subst (λ z. Needed map (z ++ rest)) f.2 (needed_entries map place (c ∷ bs) p.3) in
    let low : (e : Entry) → IsIn e (entries_at place b) → e.tile_id < f.0.tile_id = λ e i. let w = within longest_run (b.count / longest_run + 1) (place b.bytes) (length b.bytes) b.first b.count e i in omega (arith, w.1, p.1, f.3) in
    let turns : map (f.0.tile_id - 1) ≢ map f.0.tile_id = subst (λ z. map (z - 1) ≢ map z) (sym f.3) p.2 in
    subst (λ z. Needed map (entries_at place b ++ (z ++ rest))) (sym f.2) (needed_append map (entries_at place b) f.0 (f.1 ++ rest) (needed_runs map (b.count / longest_run + 1) (place b.bytes) (length b.bytes) b.first b.count) again low turns)

pub in_append : (e : Entry) (es fs : List Entry) → IsIn e (es ++ fs) → IsIn e es ⊎ IsIn e fs
in_append e [] fs i = inr i
in_append e (d ∷ es) fs (inl s) = inl (inl s)
in_append e (d ∷ es) fs (inr i) = elim (in_append e es fs i) [ inl j ↦ inl (inr j) | inr j ↦ inr j ]

-- each entry begins at a tile
pub begins : (map : ℕ → Option (List ℕ)) (place : List ℕ → ℕ) (bs : List Block) (e : Entry) → Parted map bs → IsIn e (flat_map (entries_at place) bs) → (x : List ℕ) × (map e.tile_id ≡ Some x)
begins map place [] e p i = absurd i
begins map place (b ∷ []) e p i = here map place b e p (subst (IsIn e) (append-nil (entries_at place b)) i)
  where
    here : (map : ℕ → Option (List ℕ)) (place : List ℕ → ℕ) (b : Block) (e : Entry) → Block_of map b → IsIn e (entries_at place b) → (x : List ℕ) × (map e.tile_id ≡ Some x)
    here map place b e p i = let w = within longest_run (b.count / longest_run + 1) (place b.bytes) (length b.bytes) b.first b.count e i in (b.bytes, p.all e.tile_id w.0 w.1)
begins map place (b ∷ c ∷ bs) e p i =
    elim (in_append e (entries_at place b) (flat_map (entries_at place) (c ∷ bs)) i) [
      | inl j ↦ let w = within longest_run (b.count / longest_run + 1) (place b.bytes) (length b.bytes) b.first b.count e j in (b.bytes, p.0.all e.tile_id w.0 w.1)
      | inr j ↦ begins map place (c ∷ bs) e p.3 j
    ]

pub sorted_already : (map : ℕ → Option (List ℕ)) (es : List Entry) → Needed map es → sorted es ≡ es
sorted_already map [] n = refl
sorted_already map (e ∷ []) n = refl
sorted_already map (e ∷ f ∷ es) n =
    let le : nat_le e.tile_id f.tile_id ≡ true = let h = n.0 in grind (arith, nat_tests) in
    ap (sorted_in e) (sorted_already map (f ∷ es) n.2) ∙ rw le refl
