-- The blocks of adds with one more behind.
use Rattle.pm_writer.proofs.Common.{ap, append-nil, arith, Block, blocks, Bool, bytes_eq, bytes_eq-Decides, entries_at, Entry, entry, false, flat_map, length, List, lit<, longest_run, lt-div-mul-add}
use Rattle.pm_writer.proofs.Common.{nat_eq, nat_tests, onto, put, refl, Separates, sym, true, unsorted, ℕ, [], ◌&&◌, ◌*◌, ◌++◌, ◌+◌, ◌/◌, ◌<◌, ◌∙◌, ◌∷◌, ◌≡◌, ◌≢◌, ◌≤◌}
use Rattle.pm_writer.proofs.Runs.{put_append, runs_more, runs_other, runs_some}

abbrev pub single : ℕ × List ℕ → Block
single a = record { first = a.0; count = 1; bytes = a.1 }

-- the block that an add follows without a cut
pub record Follows (b : Block) (a : ℕ × List ℕ) : Type 0 where
  pub next : b.first + b.count ≡ a.0
  pub same : b.bytes ≡ a.1

-- one more add joins the last block, or is one of its own
pub data Grown : List Block → ℕ × List ℕ → List Block → Type 0 where
  first : (a : ℕ × List ℕ) → Grown [] a (single a ∷ [])
  joins : (b : Block) (a : ℕ × List ℕ) → Follows b a → Grown (b ∷ []) a (record b { count = b.count + 1 } ∷ [])
  parts : (b : Block) (a : ℕ × List ℕ) → (Follows b a → ⊥) → Grown (b ∷ []) a (b ∷ single a ∷ [])
  later : (b c : Block) (bs ds : List Block) (a : ℕ × List ℕ) → Grown (c ∷ bs) a ds → Grown (b ∷ c ∷ bs) a (b ∷ ds)

-- what an add in front looks at
meets : ℕ × List ℕ → Block → Bool
meets x b = nat_eq (x.0 + 1) b.first && bytes_eq x.1 b.bytes

meets_tells : (x : ℕ × List ℕ) (b : Block) → meets x b ≡ true → (x.0 + 1 ≡ b.first) × (x.1 ≡ b.bytes)
unfolding meets
meets_tells x b h = go (nat_eq (x.0 + 1) b.first) (bytes_eq x.1 b.bytes) refl refl h
  where
    go : (p q : Bool) → nat_eq (x.0 + 1) b.first ≡ p → bytes_eq x.1 b.bytes ≡ q → meets x b ≡ true → (x.0 + 1 ≡ b.first) × (x.1 ≡ b.bytes)
    go true true p q h = (grind (arith, nat_tests), (bytes_eq-Decides x.1 b.bytes).0 q)
    go true false p q h = absurd (let r : meets x b ≡ false = rw (p, q) refl in cc)
    go false t p q h = absurd (let r : meets x b ≡ false = rw p refl in cc)

meets_misses : (x : ℕ × List ℕ) (b : Block) → meets x b ≡ false → x.0 + 1 ≡ b.first → x.1 ≡ b.bytes → ⊥
unfolding meets
meets_misses x b h p q =
    let s : nat_eq (x.0 + 1) b.first ≡ true = grind (arith, nat_tests) in
    let t : bytes_eq x.1 b.bytes ≡ true = (bytes_eq-Decides x.1 b.bytes).1 q in
    let r : meets x b ≡ true = rw (s, t) refl in
    cc

abbrev pub longer : ℕ × List ℕ → Block → Block
longer x b = record { first = x.0; count = b.count + 1; bytes = b.bytes }

onto_joins : (x : ℕ × List ℕ) (b : Block) (bs : List Block) → meets x b ≡ true → onto x (b ∷ bs) ≡ longer x b ∷ bs
unfolding meets
onto_joins x b bs h = rw h refl

onto_parts : (x : ℕ × List ℕ) (b : Block) (bs : List Block) → meets x b ≡ false → onto x (b ∷ bs) ≡ single x ∷ b ∷ bs
unfolding meets
onto_parts x b bs h = rw h refl

-- the case without a cut and the case with one, for an add in front of a block
with_block : (P : List Block → List Block → Type 0) (x : ℕ × List ℕ) (b c : Block) (bs cs : List Block) → b.first ≡ c.first → b.bytes ≡ c.bytes
    → (x.0 + 1 ≡ b.first → P (longer x b ∷ bs) (longer x c ∷ cs)) → P (single x ∷ b ∷ bs) (single x ∷ c ∷ cs) → P (onto x (b ∷ bs)) (onto x (c ∷ cs))
unfolding meets
with_block P x b c bs cs e f joined other = go (meets x b) refl
  where
    same : meets x b ≡ meets x c
    same = rw (e, f) refl

    go : (t : Bool) → meets x b ≡ t → P (onto x (b ∷ bs)) (onto x (c ∷ cs))
    go true h = rw (onto_joins x b bs h, onto_joins x c cs (sym same ∙ h)) (joined (meets_tells x b h).0)
    go false h = rw (onto_parts x b bs h, onto_parts x c cs (sym same ∙ h)) other

pub onto_grown : (x a : ℕ × List ℕ) (bs ds : List Block) → Grown bs a ds → Grown (onto x bs) a (onto x ds)
onto_grown x a bs ds (first _) = go (meets x (single a)) refl
  where
    go : (t : Bool) → meets x (single a) ≡ t → Grown (onto x []) a (onto x (single a ∷ []))
    go true h =
        let m = meets_tells x (single a) h in
        let same : longer x (single a) ≡ record (single x) { count = 1 + 1 } = ap (λ z. let r : Block = record { first = x.0; count = 1 + 1; bytes = z } in r) (sym m.1) in
        rw (onto_joins x (single a) [] h, same) (joins (single x) a (record { next = m.0; same = m.1 }))
    go false h = rw (onto_parts x (single a) [] h) (parts (single x) a (λ f. meets_misses x (single a) h f.next f.same))
onto_grown x a bs ds (joins b _ f) = with_block (λ p q. Grown p a q) x b (record b { count = b.count + 1 }) [] [] refl refl (go f) (later (single x) b [] _ a (joins b a f))
  where
    go : Follows b a → x.0 + 1 ≡ b.first → Grown (longer x b ∷ []) a (longer x (record b { count = b.count + 1 }) ∷ [])
    go f e = joins (longer x b) a (record { next = omega (arith, e, f.next); same = f.same })
onto_grown x a bs ds (parts b _ f) = with_block (λ p q. Grown p a q) x b b [] (single a ∷ []) refl refl (go f) (later (single x) b [] _ a (parts b a f))
  where
    go : (Follows b a → ⊥) → x.0 + 1 ≡ b.first → Grown (longer x b ∷ []) a (longer x b ∷ single a ∷ [])
    go f e = parts (longer x b) a (λ g. f (record { next = omega (arith, e, g.next); same = g.same }))
onto_grown x a bs ds (later b c cs es _ g) = with_block (λ p q. Grown p a q) x b b (c ∷ cs) es refl refl (λ e. later (longer x b) c cs es a g) (later (single x) b (c ∷ cs) (b ∷ es) a (later b c cs es a g))

pub blocks_grown : (adds : List (ℕ × List ℕ)) (a : ℕ × List ℕ) → Grown (blocks adds) a (blocks (adds ++ a ∷ []))
blocks_grown [] a = go
  where
    go : Grown (blocks []) a (blocks (a ∷ []))
    go = first a
blocks_grown (x ∷ adds) a = onto_grown x a (blocks adds) (blocks (adds ++ a ∷ [])) (blocks_grown adds a)

-- blocks are never empty, and their bytes are those of adds
abbrev pub AllBlocks : (Block → Type 0) → List Block → Type 0
AllBlocks P [] = Unit {0}
AllBlocks P (b ∷ bs) = P b × AllBlocks P bs

abbrev pub Kept : (List ℕ → ℕ) → ℕ × List ℕ → Block → Type 0
Kept place a b = (0 < b.count) × (place b.bytes ≡ place a.1 → b.bytes ≡ a.1)

kept_onto : (place : List ℕ → ℕ) (a x : ℕ × List ℕ) (bs : List Block) → (place x.1 ≡ place a.1 → x.1 ≡ a.1) → AllBlocks (Kept place a) bs → AllBlocks (Kept place a) (onto x bs)
kept_onto place a x [] h k = ((omega arith, h), tt)
kept_onto place a x (b ∷ bs) h k = go (meets x b) refl
  where
    go : (t : Bool) → meets x b ≡ t → AllBlocks (Kept place a) (onto x (b ∷ bs))
    go true e = rw (onto_joins x b bs e) ((omega (arith, k.0.0), k.0.1), k.1)
    go false e = rw (onto_parts x b bs e) ((omega arith, h), k)

pub kept_blocks : (place : List ℕ → ℕ) (adds : List (ℕ × List ℕ)) (a : ℕ × List ℕ) → Separates place adds a → AllBlocks (Kept place a) (blocks adds)
kept_blocks place [] a s = tt
kept_blocks place (x ∷ adds) a s = kept_onto place a x (blocks adds) s.0 (kept_blocks place adds a s.1)

-- enough runs for a count
pub enough : (count limit : ℕ) → 0 < limit → count ≤ (count / limit + 1) * limit
enough count limit h = let g = lt-div-mul-add {a = count} {b = limit} h in omega (arith, g)

some_entries : (place : List ℕ → ℕ) (b : Block) → 0 < b.count → entries_at place b ≢ []
some_entries place b h = runs_some longest_run (b.count / longest_run + 1) (place b.bytes) (length b.bytes) b.first b.count h (enough b.count longest_run (lit< tt))

one_entry : (place : List ℕ → ℕ) (a : ℕ × List ℕ) → entries_at place (single a) ≡ entry a.0 (place a.1) (length a.1) 1 ∷ []
one_entry place a = refl

more_entries : (place : List ℕ → ℕ) (b : Block) (a : ℕ × List ℕ) → Follows b a → 0 < b.count
    → entries_at place (record b { count = b.count + 1 }) ≡ put longest_run a.0 (place a.1) (length a.1) (entries_at place b)
more_entries place b a f h =
    runs_more longest_run (b.count / longest_run + 1) ((b.count + 1) / longest_run + 1) (place b.bytes) (length b.bytes) b.first b.count (lit< tt) h (enough b.count longest_run (lit< tt)) (enough (b.count + 1) longest_run (lit< tt))
    ∙ cong f.next f.same
  where
    cong : {x : ℕ} {y : List ℕ} → b.first + b.count ≡ x → b.bytes ≡ y → put longest_run (b.first + b.count) (place b.bytes) (length b.bytes) (entries_at place b) ≡ put longest_run x (place y) (length y) (entries_at place b)
    cong p q = rw (p, q) refl

other_entries : (place : List ℕ → ℕ) (b : Block) (a : ℕ × List ℕ) → (Follows b a → ⊥) → Kept place a b
    → entries_at place b ++ entries_at place (single a) ≡ put longest_run a.0 (place a.1) (length a.1) (entries_at place b)
other_entries place b a f k =
    ap (λ t. entries_at place b ++ t) (one_entry place a)
    ∙ sym (runs_other longest_run (b.count / longest_run + 1) (place b.bytes) (length b.bytes) b.first b.count a.0 (place a.1) (length a.1) k.0 (enough b.count longest_run (lit< tt)) (λ p q. f (record { next = q; same = k.1 p })))

pub entries_grown : (place : List ℕ → ℕ) (a : ℕ × List ℕ) (bs ds : List Block) → Grown bs a ds → AllBlocks (Kept place a) bs
    → flat_map (entries_at place) ds ≡ put longest_run a.0 (place a.1) (length a.1) (flat_map (entries_at place) bs)
entries_grown place a bs ds (first _) k = one_entry place a
entries_grown place a bs ds (joins b _ f) k = append-nil _ ∙ (more_entries place b a f k.0.0 ∙ ap (put longest_run a.0 (place a.1) (length a.1)) (sym (append-nil (entries_at place b))))
entries_grown place a bs ds (parts b _ f) k = ap (λ t. entries_at place b ++ t) (append-nil _) ∙ (other_entries place b a f k.0 ∙ ap (put longest_run a.0 (place a.1) (length a.1)) (sym (append-nil (entries_at place b))))
entries_grown place a bs ds (later b c cs es _ g) k =
    ap (λ t. entries_at place b ++ t) (entries_grown place a (c ∷ cs) es g k.1)
    ∙ sym (put_append longest_run a.0 (place a.1) (length a.1) (entries_at place b) (flat_map (entries_at place) (c ∷ cs)) (some_front (entries_at place c) (flat_map (entries_at place) cs) (some_entries place c k.1.0.0)))
  where
    some_front : (es fs : List Entry) → es ≢ [] → es ++ fs ≢ []
    some_front [] fs h = absurd (h refl)
    some_front (e ∷ es) fs h = λ q. cc

pub one_more : (place : List ℕ → ℕ) (adds : List (ℕ × List ℕ)) (a : ℕ × List ℕ) → Separates place adds a
    → unsorted place (adds ++ a ∷ []) ≡ put longest_run a.0 (place a.1) (length a.1) (unsorted place adds)
one_more place adds a s = entries_grown place a (blocks adds) (blocks (adds ++ a ∷ [])) (blocks_grown adds a) (kept_blocks place adds a s)
