-- A walk along the entries of a directory.
use Rattle.pm_walk.proofs.Common.{and_parts, ap, append-nil, append_assoc, Archive, arith, below, Collected, Collects, end_before, Entry, entry_walk, Extent, false, fits_depth, full_of, Header}
use Rattle.pm_walk.proofs.Common.{is_below, leaf_of, leaf_read, leaf_walk, List, meets, nat_eq, nat_le, None, nothing_met, Ok, Option, parts_of, pieces, refl, Refuses, refuses, rises, room_after}
use Rattle.pm_walk.proofs.Common.{Some, stands, stays_within, Stops, subst, suc, sym, then_walk, tile_walk, TooManyTiles, true, walk_each, Walked, walked, WalkError, Walks, Whole, Within, zero, ℕ, []}
use Rattle.pm_walk.proofs.Common.{◌&&◌, ◌++◌, ◌+◌, ◌∙◌, ◌∷◌, ◌≡◌, ◌≤◌}
use Rattle.std.proofs.lemmas.Grind.{flat_map-append}
use Rattle.pm_format.specs.declared.error.PmtError.TheVariants as errors
use Rattle.pm_format.specs.declared.error.ReadCause.TheVariants as causes
use Rattle.pm_walk.proofs.CollectingLemmas.{collects_nothing, collects_twice, room_append, room_none}

pub walked_is : (ext : Extent) (n : ℕ) (h : Header) (b : List ℕ) (is : List (ℕ × ℕ)) (low : ℕ) (limit : Option ℕ) (es : List Entry) → walked ext n h b is low limit es ≡ walk_each n (entry_walk ext (below ext n h b is) h b is) None low limit es
unfolding walked
walked_is ext zero h b is low limit es = refl
walked_is ext (suc n) h b is low limit es = refl

-- a walk that went on behind these entries and so many reads
abbrev pub after : List Entry → ℕ → Walked → Walked
after seen leaves w = record { refusal = w.refusal; entries = seen ++ w.entries; reads = leaves + w.reads }

after_none : (w : Walked) → w ≡ after [] 0 w
after_none w = let p : w.reads ≡ 0 + w.reads = omega arith in ap (λ n. record { refusal = w.refusal; entries = w.entries; reads = n }) p

after_twice : (xs ys : List Entry) (m n : ℕ) (w : Walked) → after xs m (after ys n w) ≡ after (xs ++ ys) (m + n) w
after_twice xs ys m n w =
    let p : m + (n + w.reads) ≡ m + n + w.reads = omega arith in
    ap (λ k. record { refusal = w.refusal; entries = xs ++ (ys ++ w.entries); reads = k }) p
    ∙ ap (λ l. record { refusal = w.refusal; entries = l; reads = m + n + w.reads }) (sym (append_assoc xs ys w.entries))

-- an entry that stands, and one that doesn't
pub stood : (left : ℕ) (f : Entry → Option ℕ → Walked) (before : Option Entry) (low : ℕ) (limit : Option ℕ) (e : Entry) (es : List Entry) → stands left before low limit (end_before es limit) e ≡ true
    → walk_each left f before low limit (e ∷ es) ≡ then_walk (f e (end_before es limit)) (walk_each left f (Some e) low limit es)
stood left f before low limit e es is =
    ap (λ t. elim t as (λ _. Walked) [ true ↦ then_walk (f e (end_before es limit)) (walk_each left f (Some e) low limit es) | false ↦ refuses (Archive errors.InvalidEntry) ]) is

fell : (left : ℕ) (f : Entry → Option ℕ → Walked) (before : Option Entry) (low : ℕ) (limit : Option ℕ) (e : Entry) (es : List Entry) → stands left before low limit (end_before es limit) e ≡ false
    → walk_each left f before low limit (e ∷ es) ≡ refuses (Archive errors.InvalidEntry)
fell left f before low limit e es is =
    ap (λ t. elim t as (λ _. Walked) [ true ↦ then_walk (f e (end_before es limit)) (walk_each left f (Some e) low limit es) | false ↦ refuses (Archive errors.InvalidEntry) ]) is

-- two walks in a row
pub then_on : (w next : Walked) → w.refusal ≡ None → then_walk w next ≡ after w.entries w.reads next
then_on w next is = ap (λ o. elim o as (λ _. Walked) [ Some e ↦ w | None ↦ record { refusal = next.refusal; entries = w.entries ++ next.entries; reads = w.reads + next.reads } ]) is

then_stops : (w next : Walked) (x : WalkError) → w.refusal ≡ Some x → then_walk w next ≡ w
then_stops w next x is = ap (λ o. elim o as (λ _. Walked) [ Some e ↦ w | None ↦ record { refusal = next.refusal; entries = w.entries ++ next.entries; reads = w.reads + next.reads } ]) is

then_least : (w next : Walked) → w.reads ≤ (then_walk w next).reads
then_least w next = least w.refusal
  where
    least : (o : Option WalkError) → w.reads ≤ (elim o as (λ _. Walked) [ Some e ↦ w | None ↦ record { refusal = next.refusal; entries = w.entries ++ next.entries; reads = w.reads + next.reads } ]).reads
    least None = omega arith
    least (Some e) = omega arith

pub pieces_none : (ext : Extent) (is : List (ℕ × ℕ)) → pieces ext is [] ≡ []
pieces_none Within is = refl
pieces_none Whole is = refl

pub pieces_append : (ext : Extent) (is : List (ℕ × ℕ)) (xs ys : List Entry) → pieces ext is (xs ++ ys) ≡ pieces ext is xs ++ pieces ext is ys
pieces_append Within is xs ys = flat_map-append (parts_of is) xs ys
pieces_append Whole is xs ys = flat_map-append full_of xs ys

-- The room behind the entries of a walk: that of what another one goes on with, and none where none is left before.
room_behind : (ext : Extent) (is : List (ℕ × ℕ)) (old mid : Option ℕ) (seen es : List Entry) → mid ≡ room_after old (pieces ext is seen) → room_after old (pieces ext is (seen ++ es)) ≡ room_after mid (pieces ext is es)
room_behind ext is old mid seen es same =
    ap (room_after old) (pieces_append ext is seen es) ∙ room_append old (pieces ext is seen) (pieces ext is es) ∙ ap (λ r. room_after r (pieces ext is es)) (sym same)

stops_through : (ext : Extent) (a c : Option ℕ) → (a ≡ None → c ≡ None) → Stops ext a → Stops ext c
stops_through Within a c f s = s
stops_through Whole a c f s = f s

then_none : (ext : Extent) (is : List (ℕ × ℕ)) (room : Option ℕ) (w next : Walked) → room_after room (pieces ext is w.entries) ≡ None → room_after room (pieces ext is (then_walk w next).entries) ≡ None
then_none ext is room w next none = by w.refusal
  where
    by : (o : Option WalkError)
        → room_after room (pieces ext is (elim o as (λ _. Walked) [ Some e ↦ w | None ↦ record { refusal = next.refusal; entries = w.entries ++ next.entries; reads = w.reads + next.reads } ]).entries) ≡ None
    by (Some e) = none
    by None = room_behind ext is room (room_after room (pieces ext is w.entries)) w.entries next.entries refl ∙ ap (λ r. room_after r (pieces ext is next.entries)) none ∙ room_none (pieces ext is next.entries)

-- a walk that is refused where another one is
record GoesThrough (ext : Extent) (is : List (ℕ × ℕ)) (w v : Walked) (mid old : Option ℕ) : Type 0 where
  pub refusal : (x : WalkError) → w.refusal ≡ Some x → (v.refusal ≡ Some x) × (room_after mid (pieces ext is w.entries) ≡ room_after old (pieces ext is v.entries))
  pub none : room_after mid (pieces ext is w.entries) ≡ None → room_after old (pieces ext is v.entries) ≡ None

refused_through : (ext : Extent) (is : List (ℕ × ℕ)) (w v : Walked) (mid old new : Collected) → GoesThrough ext is w v mid.room old.room → (x : WalkError) → Refuses ext w is mid new x → Refuses ext v is old new x
refused_through ext is w v mid old new f (Archive errors.OutOfMemory) r = tt
refused_through ext is w v mid old new f (Archive (errors.Reading causes.Fault)) r = tt
refused_through ext is w v mid old new f (Archive (errors.UnexpectedNumberOfBytesReturned asked got)) r = absurd r
refused_through ext is w v mid old new f TooManyTiles r = stops_through ext (room_after mid.room (pieces ext is w.entries)) (room_after old.room (pieces ext is v.entries)) f.none r
refused_through ext is w v mid old new f x r = let p = f.refusal x r.0 in (p.0, r.1 ∙ p.1)

-- What was walked of a directory's entries: these tile entries and so many reads, and what is left
-- makes the rest of the whole.
pub record SoFar (ext : Extent) (h : Header) (b : List ℕ) (is : List (ℕ × ℕ)) (left low : ℕ) (limit : Option ℕ) (es : List Entry) (before : Option Entry) (rest : List Entry) (old now : Collected) (first reads : ℕ) : Type 0 where
  pub seen : List Entry
  pub leaves : ℕ
  pub whole : walked ext left h b is low limit es ≡ after seen leaves (walk_each left (entry_walk ext (below ext left h b is) h b is) before low limit rest)
  pub collects : Collects old (pieces ext is seen) now
  pub taken : reads ≤ first + leaves

pub begun : (ext : Extent) (h : Header) (b : List ℕ) (is : List (ℕ × ℕ)) (left low : ℕ) (limit : Option ℕ) (es : List Entry) (old : Collected) (first : ℕ) → SoFar ext h b is left low limit es None es old old first first
begun ext h b is left low limit es old first = record {
  seen = [];
  leaves = 0;
  whole = walked_is ext left h b is low limit es ∙ after_none _;
  collects = subst (λ l. Collects old l old) (sym (pieces_none ext is)) (collects_nothing old);
  taken = omega arith;
}

-- behind an entry whose walk isn't refused
pub went_on : (ext : Extent) (h : Header) (b : List ℕ) (is : List (ℕ × ℕ)) (left low : ℕ) (limit : Option ℕ) (es : List Entry) (before : Option Entry) (e : Entry) (others : List Entry) (old mid now : Collected) (first between reads : ℕ) (w : Walked)
    → stands left before low limit (end_before others limit) e ≡ true
    → SoFar ext h b is left low limit es before (e ∷ others) old mid first between
    → entry_walk ext (below ext left h b is) h b is e (end_before others limit) ≡ w → w.refusal ≡ None → Collects mid (pieces ext is w.entries) now → reads ≤ between + w.reads
    → SoFar ext h b is left low limit es (Some e) others old now first reads
went_on ext h b is left low limit es before e others old mid now first between reads w stand s goes fine adds most =
    let next : Walked = walk_each left (entry_walk ext (below ext left h b is) h b is) (Some e) low limit others in
    record {
      seen = s.seen ++ w.entries;
      leaves = s.leaves + w.reads;
      whole = s.whole ∙ ap (after s.seen s.leaves) (stood left (entry_walk ext (below ext left h b is) h b is) before low limit e others stand ∙ ap (λ v. then_walk v next) goes ∙ then_on w next fine) ∙ after_twice s.seen w.entries s.leaves w.reads next;
      collects = subst (λ l. Collects old l now) (sym (pieces_append ext is s.seen w.entries)) (collects_twice old mid now (pieces ext is s.seen) (pieces ext is w.entries) s.collects adds);
      taken = omega (arith, most, s.taken);
    }

-- all entries are behind it
pub all_gone : (ext : Extent) (h : Header) (b : List ℕ) (is : List (ℕ × ℕ)) (left low : ℕ) (limit : Option ℕ) (es : List Entry) (before : Option Entry) (old now : Collected) (first reads : ℕ)
    → SoFar ext h b is left low limit es before [] old now first reads
    → Walks ext (walked ext left h b is low limit es) is old now (Ok tt) × (reads ≤ first + (walked ext left h b is low limit es).reads)
all_gone ext h b is left low limit es before old now first reads s =
    let entries : (walked ext left h b is low limit es).entries ≡ s.seen = ap (λ w. w.entries) s.whole ∙ append-nil s.seen in
    let leaves : (walked ext left h b is low limit es).reads ≡ s.leaves + 0 = ap (λ w. w.reads) s.whole in (
      (ap (λ w. w.refusal) s.whole, subst (λ l. Collects old (pieces ext is l) now) (sym entries) s.collects),
      omega (arith, s.taken, leaves),
    )

-- an entry that doesn't stand
pub fallen : (ext : Extent) (h : Header) (b : List ℕ) (is : List (ℕ × ℕ)) (left low : ℕ) (limit : Option ℕ) (es : List Entry) (before : Option Entry) (e : Entry) (others : List Entry) (old now : Collected) (first reads : ℕ)
    → stands left before low limit (end_before others limit) e ≡ false
    → SoFar ext h b is left low limit es before (e ∷ others) old now first reads
    → Refuses ext (walked ext left h b is low limit es) is old now (Archive errors.InvalidEntry) × (reads ≤ first + (walked ext left h b is low limit es).reads)
fallen ext h b is left low limit es before e others old now first reads fall s =
    let whole : walked ext left h b is low limit es ≡ after s.seen s.leaves (refuses (Archive errors.InvalidEntry)) = s.whole ∙ ap (after s.seen s.leaves) (fell left (entry_walk ext (below ext left h b is) h b is) before low limit e others fall) in
    let leaves : (walked ext left h b is low limit es).reads ≡ s.leaves + 0 = ap (λ w. w.reads) whole in
    let room : room_after old.room (pieces ext is (walked ext left h b is low limit es).entries) ≡ now.room =
    ap (λ w. room_after old.room (pieces ext is w.entries)) whole ∙ ap (λ l. room_after old.room (pieces ext is l)) (append-nil s.seen) ∙ sym s.collects.room in
    ((ap (λ w. w.refusal) whole, sym room), omega (arith, s.taken, leaves))

-- an entry whose walk is refused
pub stopped : (ext : Extent) (h : Header) (b : List ℕ) (is : List (ℕ × ℕ)) (left low : ℕ) (limit : Option ℕ) (es : List Entry) (before : Option Entry) (e : Entry) (others : List Entry) (old mid now : Collected) (first between reads : ℕ) (w : Walked) (x : WalkError)
    → stands left before low limit (end_before others limit) e ≡ true
    → SoFar ext h b is left low limit es before (e ∷ others) old mid first between
    → entry_walk ext (below ext left h b is) h b is e (end_before others limit) ≡ w → Refuses ext w is mid now x → reads ≤ between + w.reads
    → Refuses ext (walked ext left h b is low limit es) is old now x × (reads ≤ first + (walked ext left h b is low limit es).reads)
stopped ext h b is left low limit es before e others old mid now first between reads w x stand s goes refused most =
    let whole : walked ext left h b is low limit es ≡ after s.seen s.leaves (then_walk w next) =
    s.whole ∙ ap (after s.seen s.leaves) (stood left (entry_walk ext (below ext left h b is) h b is) before low limit e others stand ∙ ap (λ v. then_walk v next) goes) in
    let leaves : (walked ext left h b is low limit es).reads ≡ s.leaves + (then_walk w next).reads = ap (λ v. v.reads) whole in
    let least = then_least w next in (
      refused_through ext is w (walked ext left h b is low limit es) mid old now (goes_through whole) x refused,
      omega (arith, most, s.taken, leaves, least),
    )
  where
    next : Walked
    next = walk_each left (entry_walk ext (below ext left h b is) h b is) (Some e) low limit others

    behind : (v : Walked) → room_after old.room (pieces ext is (s.seen ++ v.entries)) ≡ room_after mid.room (pieces ext is v.entries)
    behind v = room_behind ext is old.room mid.room s.seen v.entries s.collects.room

    goes_through : walked ext left h b is low limit es ≡ after s.seen s.leaves (then_walk w next) → GoesThrough ext is w (walked ext left h b is low limit es) mid.room old.room
    goes_through whole = record {
      refusal = λ y at.
          let same = then_stops w next y at in (
            ap (λ v. v.refusal) whole ∙ ap (λ v. v.refusal) same ∙ at,
            ap (λ v. room_after mid.room (pieces ext is v.entries)) (sym same) ∙ sym (behind (then_walk w next)) ∙ sym (ap (λ v. room_after old.room (pieces ext is v.entries)) whole),
          );
      none = λ none. ap (λ v. room_after old.room (pieces ext is v.entries)) whole ∙ behind (then_walk w next) ∙ then_none ext is mid.room w next none;
    }

-- the walk of a leaf that is met
pub met_goes : (ext : Extent) (h : Header) (b : List ℕ) (is : List (ℕ × ℕ)) (n : ℕ) (e : Entry) (end : Option ℕ) → e.run_length ≡ 0 → meets ext is e.tile_id end ≡ true
    → entry_walk ext (below ext (suc n) h b is) h b is e end ≡ leaf_walk (walked ext n h b is e.tile_id end) (leaf_of h b e)
met_goes ext h b is n e end run met =
    ap (λ k. elim (nat_eq k 0) as (λ _. Walked) [ false ↦ tile_walk ext h b e | true ↦ elim (meets ext is e.tile_id end) as (λ _. Walked) [ false ↦ nothing_met | true ↦ leaf_walk (walked ext n h b is e.tile_id end) (leaf_of h b e) ] ]) run
    ∙ ap (λ t. elim t as (λ _. Walked) [ false ↦ nothing_met | true ↦ leaf_walk (walked ext n h b is e.tile_id end) (leaf_of h b e) ]) met

pub leaf_goes : (ext : Extent) (h : Header) (b : List ℕ) (is : List (ℕ × ℕ)) (n : ℕ) (e : Entry) (end : Option ℕ) (leaf : List Entry) → e.run_length ≡ 0 → meets ext is e.tile_id end ≡ true → leaf_of h b e ≡ Ok leaf
    → entry_walk ext (below ext (suc n) h b is) h b is e end ≡ leaf_read (walked ext n h b is e.tile_id end leaf)
leaf_goes ext h b is n e end leaf run met found = met_goes ext h b is n e end run met ∙ ap (leaf_walk (walked ext n h b is e.tile_id end)) found

pub tile_goes : (ext : Extent) (h : Header) (b : List ℕ) (is : List (ℕ × ℕ)) (left : ℕ) (e : Entry) (end : Option ℕ) → nat_eq e.run_length 0 ≡ false → entry_walk ext (below ext left h b is) h b is e end ≡ tile_walk ext h b e
tile_goes ext h b is left e end run =
    ap (λ t. elim t as (λ _. Walked) [ false ↦ tile_walk ext h b e | true ↦ entry_walk ext (below ext left h b is) h b is (record e { run_length = 0 }) end ]) run

pub unmet_goes : (ext : Extent) (h : Header) (b : List ℕ) (is : List (ℕ × ℕ)) (left : ℕ) (e : Entry) (end : Option ℕ) → e.run_length ≡ 0 → meets ext is e.tile_id end ≡ false → entry_walk ext (below ext left h b is) h b is e end ≡ nothing_met
unmet_goes ext h b is left e end run met =
    let below_it : Option (ℕ → Option ℕ → List Entry → Walked) = below ext left h b is in
    ap (λ k. elim (nat_eq k 0) as (λ _. Walked) [ false ↦ tile_walk ext h b e | true ↦ elim (meets ext is e.tile_id end) as (λ _. Walked) [ false ↦ nothing_met | true ↦ elim below_it as (λ _. Walked) [ None ↦ nothing_met | Some inner ↦ leaf_walk (inner e.tile_id end) (leaf_of h b e) ] ] ]) run
    ∙ ap (λ t. elim t as (λ _. Walked) [ false ↦ nothing_met | true ↦ elim below_it as (λ _. Walked) [ None ↦ nothing_met | Some inner ↦ leaf_walk (inner e.tile_id end) (leaf_of h b e) ] ]) met

-- behind a leaf that was walked, and where its walk was refused
pub past_leaf : (ext : Extent) (h : Header) (b : List ℕ) (is : List (ℕ × ℕ)) (n low : ℕ) (limit : Option ℕ) (es : List Entry) (before : Option Entry) (e : Entry) (others leaf : List Entry) (old mid now : Collected) (first between after_leaf reads : ℕ)
    → stands (suc n) before low limit (end_before others limit) e ≡ true
    → SoFar ext h b is (suc n) low limit es before (e ∷ others) old mid first between
    → e.run_length ≡ 0 → meets ext is e.tile_id (end_before others limit) ≡ true → leaf_of h b e ≡ Ok leaf → after_leaf ≤ between + 1
    → Walks ext (walked ext n h b is e.tile_id (end_before others limit) leaf) is mid now (Ok tt) → reads ≤ after_leaf + (walked ext n h b is e.tile_id (end_before others limit) leaf).reads
    → SoFar ext h b is (suc n) low limit es (Some e) others old now first reads
past_leaf ext h b is n low limit es before e others leaf old mid now first between after_leaf reads stand s run met found one walks more =
    went_on ext h b is (suc n) low limit es before e others old mid now first between reads (leaf_read (walked ext n h b is e.tile_id (end_before others limit) leaf)) stand s
    (leaf_goes ext h b is n e (end_before others limit) leaf run met found) walks.0 walks.1 (omega (arith, one, more))

pub stopped_below : (ext : Extent) (h : Header) (b : List ℕ) (is : List (ℕ × ℕ)) (n low : ℕ) (limit : Option ℕ) (es : List Entry) (before : Option Entry) (e : Entry) (others leaf : List Entry) (old mid now : Collected) (first between after_leaf reads : ℕ) (x : WalkError)
    → stands (suc n) before low limit (end_before others limit) e ≡ true
    → SoFar ext h b is (suc n) low limit es before (e ∷ others) old mid first between
    → e.run_length ≡ 0 → meets ext is e.tile_id (end_before others limit) ≡ true → leaf_of h b e ≡ Ok leaf → after_leaf ≤ between + 1
    → Refuses ext (walked ext n h b is e.tile_id (end_before others limit) leaf) is mid now x → reads ≤ after_leaf + (walked ext n h b is e.tile_id (end_before others limit) leaf).reads
    → Refuses ext (walked ext (suc n) h b is low limit es) is old now x × (reads ≤ first + (walked ext (suc n) h b is low limit es).reads)
stopped_below ext h b is n low limit es before e others leaf old mid now first between after_leaf reads x stand s run met found one refused more =
    let inner : Walked = walked ext n h b is e.tile_id (end_before others limit) leaf in
    stopped ext h b is (suc n) low limit es before e others old mid now first between reads (leaf_read inner) x stand s
    (leaf_goes ext h b is n e (end_before others limit) leaf run met found)
    (refused_through ext is inner (leaf_read inner) mid mid now (record { refusal = λ y at. (at, refl); none = λ none. none }) x refused) (omega (arith, one, more))

-- where the range of the entries behind one begins: at the directory's own, or where that of the last entry ended
abbrev pub reach : Option Entry → ℕ → Option ℕ → List Entry → Option ℕ
reach None low limit rest = Some low
reach (Some d) low limit rest = end_before rest limit

pub begun_at : (ext : Extent) (h : Header) (b : List ℕ) (is : List (ℕ × ℕ)) (left low : ℕ) (limit : Option ℕ) (es rest : List Entry) (old : Collected) (first : ℕ) → rest ≡ es → SoFar ext h b is left low limit es None rest old old first first
begun_at ext h b is left low limit es rest old first same = subst (λ l. SoFar ext h b is left low limit es None l old old first first) (sym same) (begun ext h b is left low limit es old first)

-- an entry that passes its tests
pub record Stood (left : ℕ) (before : Option Entry) (low : ℕ) (limit end : Option ℕ) (e : Entry) : Type 0 where
  pub rises : rises before e.tile_id ≡ true
  pub least : nat_le low e.tile_id ≡ true
  pub below : is_below limit e.tile_id ≡ true
  pub ends : stays_within end (e.tile_id + e.run_length) ≡ true
  pub depth : fits_depth left e ≡ true

pub stood_by : (left : ℕ) (before : Option Entry) (low : ℕ) (limit end : Option ℕ) (e : Entry) → stands left before low limit end e ≡ true → Stood left before low limit end e
stood_by left before low limit end e is =
    let a = and_parts (rises before e.tile_id && nat_le low e.tile_id && is_below limit e.tile_id && stays_within end (e.tile_id + e.run_length)) (fits_depth left e) is in
    let b = and_parts (rises before e.tile_id && nat_le low e.tile_id && is_below limit e.tile_id) (stays_within end (e.tile_id + e.run_length)) a.0 in
    let c = and_parts (rises before e.tile_id && nat_le low e.tile_id) (is_below limit e.tile_id) b.0 in
    let d = and_parts (rises before e.tile_id) (nat_le low e.tile_id) c.0 in
    record { rises = d.0; least = d.1; below = c.1; ends = b.1; depth = a.1 }
