-- A walk along the entries of a directory.
use Rattle.tile_verify.proofs.Common.{Adds, ap, append-nil, append_assoc, arith, below, breaks, Broken, capped, counted, end_before, Entry, entry_walk, Err, false, Fault, flat_map, Header, in_leaf}
use Rattle.tile_verify.proofs.Common.{inside, intact, is_tile, IsBreak, leaf_of, leaf_read, leaf_walk, length, limits_break, List, map, map-append, Meets, Met, nat_eq, None, none-some, Ok, one_deeper}
use Rattle.tile_verify.proofs.Common.{Option, OutOfMemory, part_of, Place, place, range_of, ReadsIn, Reason, refl, Some, Spot, subst, suc, sym, then_walk, tile_walk, tiles_at, tiles_below, true}
use Rattle.tile_verify.proofs.Common.{two_turns, VerifyError, walk_each, Walked, walked, Walks, with_run, with_runs, zero, ℕ, [], ◌++◌, ◌+◌, ◌-◌, ◌∙◌, ◌∷◌, ◌≡◌, ◌≤◌}
use Rattle.tile_verify.specs.FirstBreak as FirstBreak
use Rattle.tile_verify.specs.declared.broken.Reason.TheVariants as reason
use Rattle.tile_verify.proofs.MeetingLemmas.{leaf_met, tile_met}

pub counted_twice : (n j k : ℕ) → counted (counted n j) k ≡ counted n (j + k)
counted_twice n zero k = let p : k ≡ 0 + k = omega arith in ap (counted n) p
counted_twice n (suc j) zero = let p : suc j ≡ suc j + 0 = omega arith in ap (counted n) p
counted_twice n (suc j) (suc k) =
    let p : suc (j + suc k) ≡ suc j + suc k = omega arith in
    let q : capped (capped (n + suc j) + suc k) ≡ capped (n + suc (j + suc k)) = omega arith in
    q ∙ ap (counted n) p

pub counted_from_zero : (k : ℕ) → counted 0 k ≡ capped k
counted_from_zero zero = refl
counted_from_zero (suc k) = let p : 0 + suc k ≡ suc k = omega arith in ap capped p

-- both turns, at any depth
pub walked_is : (n : ℕ) (h : Header) (b : List ℕ) (at : Spot) (low limit : ℕ) (es : List Entry) → walked n h b at low limit es ≡ two_turns (entry_walk (below n h b) h b at) at low limit es
unfolding walked
walked_is zero h b at low limit es = refl
walked_is (suc n) h b at low limit es = refl

pub tiles_below_is : (n : ℕ) (h : Header) (b : List ℕ) (es : List Entry) → tiles_below n h b es ≡ flat_map (tiles_at (inside n h b) h b) es
unfolding tiles_below
tiles_below_is zero h b es = refl
tiles_below_is (suc n) h b es = refl

-- a walk that went on behind so many leaves and tiles
abbrev pub after : ℕ → ℕ → Walked → Walked
after d t w = record { broken = w.broken; directories = d + w.directories; tiles = t + w.tiles }

pub after_none : (w : Walked) → w ≡ after 0 0 w
after_none w =
    let p : w.directories ≡ 0 + w.directories = omega arith in
    let q : w.tiles ≡ 0 + w.tiles = omega arith in
    ap (λ n. record { broken = w.broken; directories = n; tiles = w.tiles }) p ∙ ap (λ n. record { broken = w.broken; directories = 0 + w.directories; tiles = n }) q

-- an intact walk
abbrev pub gone : ℕ → ℕ → Walked
gone d t = record { broken = None; directories = d; tiles = t }

pub after_twice : (d t x y : ℕ) (w : Walked) → after d t (after x y w) ≡ after (d + x) (t + y) w
after_twice d t x y w =
    let p : d + (x + w.directories) ≡ d + x + w.directories = omega arith in
    let q : t + (y + w.tiles) ≡ t + y + w.tiles = omega arith in
    ap (λ n. record { broken = w.broken; directories = n; tiles = t + (y + w.tiles) }) p ∙ ap (λ n. record { broken = w.broken; directories = d + x + w.directories; tiles = n }) q

-- what a walk is from an entry on, where that is intact
pub gone_on : (f : ℕ → Entry → ℕ → Walked) (index limit d t x y : ℕ) (e : Entry) (es : List Entry) (whole : Walked) → f index e (end_before es limit) ≡ gone x y
    → whole ≡ after d t (walk_each f index limit (e ∷ es)) → whole ≡ after (d + x) (t + y) (walk_each f (suc index) limit es)
gone_on f index limit d t x y e es whole goes is =
    is ∙ ap (λ w. after d t (then_walk w (walk_each f (suc index) limit es))) goes ∙ after_twice d t x y (walk_each f (suc index) limit es)

-- a walk is no shorter than its first part
pub then_least : (w next : Walked) → (w.directories ≤ (then_walk w next).directories) × (w.tiles ≤ (then_walk w next).tiles)
then_least w next = least w.broken
  where
    least : (x : Option (Place × Reason)) → (w.directories ≤ (elim x as (λ _. Walked) [ Some y ↦ w | None ↦ record { broken = next.broken; directories = w.directories + next.directories; tiles = w.tiles + next.tiles } ]).directories)
        × (w.tiles ≤ (elim x as (λ _. Walked) [ Some y ↦ w | None ↦ record { broken = next.broken; directories = w.directories + next.directories; tiles = w.tiles + next.tiles } ]).tiles)
    least None = (omega arith, omega arith)
    least (Some y) = (omega arith, omega arith)

-- a break of the first part is that of the whole
pub then_broken : (w next : Walked) (x : Place × Reason) → w.broken ≡ Some x → then_walk w next ≡ w
then_broken w next x is = ap (λ o. elim o as (λ _. Walked) [ Some y ↦ w | None ↦ record { broken = next.broken; directories = w.directories + next.directories; tiles = w.tiles + next.tiles } ]) is

pub broken_on : (w next whole : Walked) (d t old mid : ℕ) (x : VerifyError) → whole ≡ after d t (then_walk w next) → mid ≡ counted old d → IsBreak w mid (Err x) → IsBreak whole old (Err x)
broken_on w next whole d t old mid (Broken at why n) is counts breaks =
    let same : whole ≡ after d t w = is ∙ ap (after d t) (then_broken w next (at, why) breaks.0) in
    (ap (λ v. v.broken) same ∙ breaks.0, breaks.1 ∙ ap (λ m. counted m w.directories) counts ∙ counted_twice old d w.directories ∙ ap (λ v. counted old v.directories) (sym same))
broken_on w next whole d t old mid Fault is counts breaks = tt
broken_on w next whole d t old mid OutOfMemory is counts breaks = tt
broken_on w next whole d t old mid x is counts breaks = absurd breaks

pub with_runs_append : (ids : Option (ℕ × ℕ)) (xs ys : List Entry) → with_runs ids (xs ++ ys) ≡ with_runs (with_runs ids xs) ys
with_runs_append ids [] ys = refl
with_runs_append ids (e ∷ es) ys = with_runs_append (with_run ids e) es ys

pub adds_twice : (a b c : Met) (j k : ℕ) (xs ys : List Entry) → Adds a j xs b → Adds b k ys c → Adds a (j + k) (xs ++ ys) c
adds_twice a b c j k xs ys v w = record {
  directories = w.directories ∙ ap (λ n. counted n k) v.directories ∙ counted_twice a.directories j k;
  tiles = w.tiles ∙ ap (λ l. l ++ map part_of ys) v.tiles ∙ append_assoc a.tiles.items (map part_of xs) (map part_of ys) ∙ ap (λ l. a.tiles.items ++ l) (sym (map-append part_of xs ys));
  ids = w.ids ∙ ap (λ i. with_runs i ys) v.ids ∙ sym (with_runs_append a.ids xs ys);
}

-- a directory whose ids and runs are within their limits
whole_is : (h : Header) (b : List ℕ) (at : Spot) (left low limit : ℕ) (es : List Entry) → limits_break None low limit 0 es ≡ None → walked left h b at low limit es ≡ walk_each (entry_walk (below left h b) h b at) 0 limit es
whole_is h b at left low limit es within = walked_is left h b at low limit es
    ∙ ap (λ o. elim o as (λ _. Walked) [ Some x ↦ breaks (place at x.0) x.1 | None ↦ walk_each (entry_walk (below left h b) h b at) 0 limit es ]) within

-- a break of a leaf's walk is that of its entry
pub broken_leaf : (inner : Walked) (mid read : Met) (es : List Entry) (x : VerifyError) → Adds mid 1 es read → IsBreak inner read.directories (Err x) → IsBreak (leaf_read inner) mid.directories (Err x)
broken_leaf inner mid read es (Broken at why n) adds breaks =
    let p : 1 + inner.directories ≡ suc inner.directories = omega arith in
    (breaks.0, breaks.1 ∙ ap (λ m. counted m inner.directories) adds.directories ∙ counted_twice mid.directories 1 inner.directories ∙ ap (counted mid.directories) p)
broken_leaf inner mid read es Fault adds breaks = tt
broken_leaf inner mid read es OutOfMemory adds breaks = tt
broken_leaf inner mid read es x adds breaks = absurd breaks

-- what was walked of a directory's entries: so many leaves and tiles, no break, and what is left
-- makes the rest of the whole
pub record SoFar (h : Header) (b : List ℕ) (at : Spot) (left limit : ℕ) (es rest : List Entry) (old now : Met) (before reads : ℕ) : Type 0 where
  pub leaves : ℕ
  pub tiles : ℕ
  pub seen : List Entry
  pub whole : walk_each (entry_walk (below left h b) h b at) 0 limit es ≡ after leaves tiles (walk_each (entry_walk (below left h b) h b at) (length es - length rest) limit rest)
  pub entries : flat_map (tiles_at (inside left h b) h b) es ≡ seen ++ flat_map (tiles_at (inside left h b) h b) rest
  pub adds : Adds old leaves seen now
  pub taken : reads ≤ before + (leaves + tiles)

pub begun : (h : Header) (b : List ℕ) (at : Spot) (left limit : ℕ) (es : List Entry) (old : Met) (before : ℕ) → SoFar h b at left limit es es old old before before
begun h b at left limit es old before = record {
  leaves = 0;
  tiles = 0;
  seen = [];
  whole = (let p : 0 ≡ length es - length es = omega arith in ap (λ i. walk_each (entry_walk (below left h b) h b at) i limit es) p) ∙ after_none _;
  entries = refl;
  adds = record { directories = refl; tiles = sym (append-nil old.tiles.items); ids = refl };
  taken = omega arith;
}

-- behind an entry whose walk was intact
pub went_on : (h : Header) (b : List ℕ) (at : Spot) (left limit : ℕ) (es : List Entry) (e : Entry) (others : List Entry) (old mid now : Met) (before between reads x y : ℕ) (met : List Entry)
    → length (e ∷ others) ≤ length es
    → SoFar h b at left limit es (e ∷ others) old mid before between
    → entry_walk (below left h b) h b at (length es - length (e ∷ others)) e (end_before others limit) ≡ gone x y
    → tiles_at (inside left h b) h b e ≡ met → Adds mid x met now → reads ≤ between + (x + y)
    → SoFar h b at left limit es others old now before reads
went_on h b at left limit es e others old mid now before between reads x y met fits s goes are adds most = record {
  leaves = s.leaves + x;
  tiles = s.tiles + y;
  seen = s.seen ++ met;
  whole = gone_on (entry_walk (below left h b) h b at) (length es - length (e ∷ others)) limit s.leaves s.tiles x y e others _ goes s.whole
      ∙ ap (λ i. after (s.leaves + x) (s.tiles + y) (walk_each (entry_walk (below left h b) h b at) i limit others)) (omega (arith, fits));
  entries = s.entries ∙ ap (λ l. s.seen ++ (l ++ flat_map (tiles_at (inside left h b) h b) others)) are ∙ sym (append_assoc s.seen met _);
  adds = adds_twice old mid now s.leaves x s.seen met s.adds adds;
  taken = omega (arith, most, s.taken);
}

-- the walk of a tile entry that is intact
tile_gone : (h : Header) (b : List ℕ) (at : Spot) (index : ℕ) (e : Entry) → (tile_walk h b (place at index) e).broken ≡ None → tile_walk h b (place at index) e ≡ gone 0 1
tile_gone h b at index e is = gives (range_of b (h.data_offset + e.offset) e.length) is
  where
    gives : (o : Option (List ℕ)) → (elim o as (λ _. Walked) [ None ↦ breaks (place at index) reason.TilePastEnd | Some bytes ↦ intact ]).broken ≡ None
        → FirstBreak.tile_met (elim o as (λ _. Walked) [ None ↦ breaks (place at index) reason.TilePastEnd | Some bytes ↦ intact ]) ≡ gone 0 1
    gives None is = absurd (none-some _ (sym is))
    gives (Some bytes) is = refl

pub past_tile : (h : Header) (b : List ℕ) (at : Spot) (left limit : ℕ) (es : List Entry) (e : Entry) (others : List Entry) (old mid now : Met) (before between reads : ℕ)
    → length (e ∷ others) ≤ length es
    → SoFar h b at left limit es (e ∷ others) old mid before between
    → Meets h b at (length es - length (e ∷ others)) e left mid now (Ok None) → reads ≤ between + 1
    → SoFar h b at left limit es others old now before reads
past_tile h b at left limit es e others old mid now before between reads fits s m most =
    went_on h b at left limit es e others old mid now before between reads 0 1 (e ∷ []) fits s
    (tile_met (below left h b) h b at _ e _ m.0 ∙ tile_gone h b at _ e m.1)
    (ap (λ t. elim t as (λ _. List Entry) [ false ↦ e ∷ [] | true ↦ elim (inside left h b) as (λ _. List Entry) [ None ↦ [] | Some inner ↦ in_leaf inner (leaf_of h b e) ] ]) (is_tile e.run_length m.0))
    m.2 most

-- the walk of a leaf that was intact
pub past_leaf : (h : Header) (b : List ℕ) (at : Spot) (left limit : ℕ) (es : List Entry) (e : Entry) (others leaf : List Entry) (old mid read now : Met) (before between after_leaf reads : ℕ)
    → length (e ∷ others) ≤ length es
    → SoFar h b at (suc left) limit es (e ∷ others) old mid before between
    → Meets h b at (length es - length (e ∷ others)) e (suc left) mid read (Ok (Some leaf)) → after_leaf ≤ between + 1
    → Walks (walked left h b (one_deeper at e) e.tile_id (end_before others limit) leaf) (tiles_below left h b leaf) read now (Ok tt)
    → ReadsIn {A = Unit} (walked left h b (one_deeper at e) e.tile_id (end_before others limit) leaf) after_leaf reads (Ok tt)
    → SoFar h b at (suc left) limit es others old now before reads
past_leaf h b at left limit es e others leaf old mid read now before between after_leaf reads fits s m one w more =
    let inner : Walked = walked left h b (one_deeper at e) e.tile_id (end_before others limit) leaf in
    let index : ℕ = length es - length (e ∷ others) in
    went_on h b at (suc left) limit es e others old mid now before between reads (suc inner.directories) inner.tiles (tiles_below left h b leaf) fits s
    (leaf_met (walked left h b) h b at index e (end_before others limit) m.0
    ∙ ap (leaf_walk (walked left h b (one_deeper at e) e.tile_id (end_before others limit)) (place at index)) m.1
    ∙ ap (λ o. record { broken = o; directories = suc inner.directories; tiles = inner.tiles }) w.0)
    (ap (λ n. elim (nat_eq n 0) as (λ _. List Entry) [ false ↦ e ∷ [] | true ↦ in_leaf (tiles_below left h b) (leaf_of h b e) ]) m.0 ∙ ap (in_leaf (tiles_below left h b)) m.1)
    (let p : 1 + inner.directories ≡ suc inner.directories = omega arith in subst (λ n. Adds mid n (tiles_below left h b leaf) now) p (adds_twice mid read now 1 inner.directories [] (tiles_below left h b leaf) m.2 w.1))
    (omega (arith, one, more))

-- the ends of a walk: all entries are behind it
pub all_gone : (h : Header) (b : List ℕ) (at : Spot) (left low limit : ℕ) (es : List Entry) (old now : Met) (before reads : ℕ) → limits_break None low limit 0 es ≡ None
    → SoFar h b at left limit es [] old now before reads
    → Walks (walked left h b at low limit es) (tiles_below left h b es) old now (Ok tt) × ReadsIn {A = Unit} (walked left h b at low limit es) before reads (Ok tt)
all_gone h b at left low limit es old now before reads within s =
    let p : s.leaves + 0 ≡ s.leaves = omega arith in
    let q : s.tiles + 0 ≡ s.tiles = omega arith in
    let same : walked left h b at low limit es ≡ gone s.leaves s.tiles = whole_is h b at left low limit es within ∙ s.whole ∙ ap (λ n. gone n (s.tiles + 0)) p ∙ ap (gone s.leaves) q in
    let tiles : tiles_below left h b es ≡ s.seen = tiles_below_is left h b es ∙ s.entries ∙ append-nil s.seen in (
      (ap (λ w. w.broken) same, subst (λ w. Adds old w.directories (tiles_below left h b es) now) (sym same) (subst (λ l. Adds old s.leaves l now) (sym tiles) s.adds)),
      subst (λ w. reads ≤ before + (w.directories + w.tiles)) (sym same) s.taken,
    )

-- an entry that isn't intact
pub stopped : (h : Header) (b : List ℕ) (at : Spot) (left low limit : ℕ) (es : List Entry) (e : Entry) (others : List Entry) (old mid now : Met) (before between reads : ℕ) (x : VerifyError) → limits_break None low limit 0 es ≡ None
    → SoFar h b at left limit es (e ∷ others) old mid before between
    → IsBreak (entry_walk (below left h b) h b at (length es - length (e ∷ others)) e (end_before others limit)) mid.directories (Err x)
    → reads ≤ between + ((entry_walk (below left h b) h b at (length es - length (e ∷ others)) e (end_before others limit)).directories + (entry_walk (below left h b) h b at (length es - length (e ∷ others)) e (end_before others limit)).tiles) + 1
    → Walks (walked left h b at low limit es) (tiles_below left h b es) old now (Err x) × ReadsIn {A = Unit} (walked left h b at low limit es) before reads (Err x)
stopped h b at left low limit es e others old mid now before between reads x within s breaks most =
    let f : ℕ → Entry → ℕ → Walked = entry_walk (below left h b) h b at in
    let i : ℕ = length es - length (e ∷ others) in
    let one : Walked = f i e (end_before others limit) in
    let next : Walked = walk_each f (suc i) limit others in
    let same : walked left h b at low limit es ≡ after s.leaves s.tiles (then_walk one next) = whole_is h b at left low limit es within ∙ s.whole in
    let least = then_least one next in (
      broken_on one next _ s.leaves s.tiles old.directories mid.directories x same s.adds.directories breaks,
      subst (λ w. reads ≤ before + (w.directories + w.tiles) + 1) (sym same) (omega (arith, most, s.taken, least.0, least.1)),
    )

-- an entry whose ids or runs aren't within their limits
pub not_within : (h : Header) (b : List ℕ) (at : Spot) (left low limit : ℕ) (es : List Entry) (old : Met) (reads index : ℕ) (why : Reason) → limits_break None low limit 0 es ≡ Some (index, why)
    → Walks (walked left h b at low limit es) (tiles_below left h b es) old old (Err (Broken (place at index) why old.directories)) × ReadsIn {A = Unit} (walked left h b at low limit es) reads reads (Err (Broken (place at index) why old.directories))
not_within h b at left low limit es old reads index why found =
    let same : walked left h b at low limit es ≡ breaks (place at index) why = walked_is left h b at low limit es
    ∙ ap (λ o. elim o as (λ _. Walked) [ Some x ↦ breaks (place at x.0) x.1 | None ↦ walk_each (entry_walk (below left h b) h b at) 0 limit es ]) found in
    ((ap (λ w. w.broken) same, ap (λ w. counted old.directories w.directories) (sym same)), omega arith)

-- the walk of an entry whose leaf was read
leaf_goes : (h : Header) (b : List ℕ) (at : Spot) (left index : ℕ) (e : Entry) (end : ℕ) (leaf : List Entry) → e.run_length ≡ 0 → leaf_of h b e ≡ Ok leaf
    → entry_walk (below (suc left) h b) h b at index e end ≡ leaf_read (walked left h b (one_deeper at e) e.tile_id end leaf)
leaf_goes h b at left index e end leaf is found = leaf_met (walked left h b) h b at index e end is ∙ ap (leaf_walk (walked left h b (one_deeper at e) e.tile_id end) (place at index)) found

-- a leaf whose walk isn't intact
pub stopped_below : (h : Header) (b : List ℕ) (at : Spot) (left low limit : ℕ) (es : List Entry) (e : Entry) (others leaf : List Entry) (old mid read now : Met) (before between after_leaf reads : ℕ) (x : VerifyError) → limits_break None low limit 0 es ≡ None
    → SoFar h b at (suc left) limit es (e ∷ others) old mid before between
    → Meets h b at (length es - length (e ∷ others)) e (suc left) mid read (Ok (Some leaf)) → after_leaf ≤ between + 1
    → IsBreak (walked left h b (one_deeper at e) e.tile_id (end_before others limit) leaf) read.directories (Err x)
    → ReadsIn {A = Unit} (walked left h b (one_deeper at e) e.tile_id (end_before others limit) leaf) after_leaf reads (Err x)
    → Walks (walked (suc left) h b at low limit es) (tiles_below (suc left) h b es) old now (Err x) × ReadsIn {A = Unit} (walked (suc left) h b at low limit es) before reads (Err x)
stopped_below h b at left low limit es e others leaf old mid read now before between after_leaf reads x within s m one breaks more =
    let inner : Walked = walked left h b (one_deeper at e) e.tile_id (end_before others limit) leaf in
    let same : entry_walk (below (suc left) h b) h b at (length es - length (e ∷ others)) e (end_before others limit) ≡ leaf_read inner = leaf_goes h b at left (length es - length (e ∷ others)) e (end_before others limit) leaf m.0 m.1 in
    stopped h b at (suc left) low limit es e others old mid now before between reads x within s
    (subst (λ w. IsBreak w mid.directories (Err x)) (sym same) (broken_leaf inner mid read [] x m.2 breaks))
    (subst (λ w. reads ≤ between + (w.directories + w.tiles) + 1) (sym same) (omega (arith, one, more)))
