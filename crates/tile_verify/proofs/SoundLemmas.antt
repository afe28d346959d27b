-- An archive is sound exactly where its walk finds no break.
use Rattle.tile_verify.proofs.Common.{ap, arith, Bool, breaks, Entry, entry_break, entry_walk, Err, falls, false, first_break, Header, if◌then◌else◌, intact, IsSome, leaf_of, leaf_walk, limits_break}
use Rattle.tile_verify.proofs.Common.{List, MAX_TILE_ID, nat_eq, nat_le, nat_lt, nat_tests, None, none-some, not, Ok, one_deeper, Opened, opened, Option, overlaps, Place, place, PmtError, range_of}
use Rattle.tile_verify.proofs.Common.{Reason, refl, Result, root_spot, Some, Sound, Spot, subst, suc, sym, T, then_walk, tile_walk, true, two_turns, walk_each, Walked, walked, zero, ℕ, [], ◌+◌, ◌<◌}
use Rattle.tile_verify.proofs.Common.{◌||◌, ◌∙◌, ◌∷◌, ◌≡◌, ◌≢◌, ◌≤◌}
use Rattle.pm_format.specs.Sound.{EachEntry, HasData, SoundDirectory}
use Rattle.pm_format.specs.declared.error.PmtError.TheVariants as errors
use Rattle.pm_reader.proofs.SoundTileLemmas.{head_below}
use Rattle.tile_verify.specs.declared.broken.Reason.TheVariants as reason
use Rattle.tile_verify.proofs.MeetingLemmas.{leaf_met, tile_met}
use Rattle.tile_verify.proofs.WalkingLemmas.{walked_is}

-- no test fails
if_none : (c : Bool) (x : Reason) (r : Option Reason) → (if c then Some x else r) ≡ None → (c ≡ false) × (r ≡ None)
if_none true x r is = absurd (none-some x (sym is))
if_none false x r is = (refl, is)

-- an entry within its limits
pub record IsWithin (before : Option Entry) (low limit : ℕ) (e : Entry) : Type 0 where
  pub rises : falls before e ≡ false
  pub apart : overlaps before e ≡ false
  pub least : low ≤ e.tile_id
  pub below : e.tile_id < limit
  pub ends : e.tile_id + e.run_length ≤ limit

pub within_from_none : (before : Option Entry) (low limit : ℕ) (e : Entry) → entry_break before low limit e ≡ None → IsWithin before low limit e
within_from_none before low limit e is =
    let a = if_none (falls before e) reason.IdsFall _ is in
    let b = if_none (overlaps before e) reason.RunOverlaps _ a.1 in
    let c = if_none (nat_lt e.tile_id low || nat_le limit e.tile_id) reason.OutsideRange _ b.1 in
    let d = if_none (nat_lt (MAX_TILE_ID + 1) (e.tile_id + e.run_length)) reason.PastMaxId _ c.1 in
    let f = if_none (nat_lt limit (e.tile_id + e.run_length)) reason.OutsideRange _ d.1 in
    record { rises = a.0; apart = b.0; least = not_low e.tile_id low limit c.0; below = not_past e.tile_id low limit c.0; ends = not_over limit (e.tile_id + e.run_length) f.0 }
  where
    not_low : (id low limit : ℕ) → (nat_lt id low || nat_le limit id) ≡ false → low ≤ id
    not_low id low limit h = grind (arith, nat_tests)

    not_past : (id low limit : ℕ) → (nat_lt id low || nat_le limit id) ≡ false → id < limit
    not_past id low limit h = grind (arith, nat_tests)

    not_over : (limit end : ℕ) → nat_lt limit end ≡ false → end ≤ limit
    not_over limit end h = grind (arith, nat_tests)

pub none_from_within : (before : Option Entry) (low limit : ℕ) (e : Entry) → limit ≤ MAX_TILE_ID + 1 → IsWithin before low limit e → entry_break before low limit e ≡ None
none_from_within before low limit e most w =
    let c : (nat_lt e.tile_id low || nat_le limit e.tile_id) ≡ false = in_range e.tile_id low limit w.least w.below in
    let d : nat_lt (MAX_TILE_ID + 1) (e.tile_id + e.run_length) ≡ false = not_above (MAX_TILE_ID + 1) limit (e.tile_id + e.run_length) most w.ends in
    let f : nat_lt limit (e.tile_id + e.run_length) ≡ false = not_above limit limit (e.tile_id + e.run_length) (omega arith) w.ends in
    pick (falls before e) reason.IdsFall _ w.rises ∙ pick (overlaps before e) reason.RunOverlaps _ w.apart ∙ pick (nat_lt e.tile_id low || nat_le limit e.tile_id) reason.OutsideRange _ c
    ∙ pick (nat_lt (MAX_TILE_ID + 1) (e.tile_id + e.run_length)) reason.PastMaxId _ d ∙ pick (nat_lt limit (e.tile_id + e.run_length)) reason.OutsideRange None f
  where
    in_range : (id low limit : ℕ) → low ≤ id → id < limit → (nat_lt id low || nat_le limit id) ≡ false
    in_range id low limit p q = grind (arith, nat_tests)

    not_above : (most limit end : ℕ) → limit ≤ most → end ≤ limit → nat_lt most end ≡ false
    not_above most limit end p q = grind (arith, nat_tests)

    pick : (c : Bool) (x : Reason) (r : Option Reason) → c ≡ false → (if c then Some x else r) ≡ r
    pick c x r is = ap (λ t. if t then Some x else r) is

-- no break among entries is none at the first of them, and none behind it
first_none : (o : Option Reason) (index : ℕ) (rest : Option (ℕ × Reason)) → (elim o as (λ _. Option (ℕ × Reason)) [ Some why ↦ Some (index, why) | None ↦ rest ]) ≡ None → (o ≡ None) × (rest ≡ None)
first_none (Some why) index rest is = absurd (none-some (index, why) (sym is))
first_none None index rest is = (refl, is)

next_none : (o : Option Reason) (index : ℕ) (rest : Option (ℕ × Reason)) → o ≡ None → rest ≡ None → (elim o as (λ _. Option (ℕ × Reason)) [ Some why ↦ Some (index, why) | None ↦ rest ]) ≡ None
next_none o index rest is more = ap (λ p. elim p as (λ _. Option (ℕ × Reason)) [ Some why ↦ Some (index, why) | None ↦ rest ]) is ∙ more

-- no break in a row of walks is none in each
then_none : (w next : Walked) → (then_walk w next).broken ≡ None → (w.broken ≡ None) × (next.broken ≡ None)
then_none w next is = split w.broken refl is
  where
    split : (o : Option (Place × Reason)) → w.broken ≡ o → (elim o as (λ _. Walked) [ Some x ↦ w | None ↦ record { broken = next.broken; directories = w.directories + next.directories; tiles = w.tiles + next.tiles } ]).broken ≡ None → (w.broken ≡ None) × (next.broken ≡ None)
    split None at is = (at, is)
    split (Some x) at is = absurd (none-some x (sym is ∙ at))

both_none : (w next : Walked) → w.broken ≡ None → next.broken ≡ None → (then_walk w next).broken ≡ None
both_none w next is more = ap (λ o. (elim o as (λ _. Walked) [ Some x ↦ w | None ↦ record { broken = next.broken; directories = w.directories + next.directories; tiles = w.tiles + next.tiles } ]).broken) is ∙ more

-- the facts of each entry from the walks, where no id or run breaks
each_sound : (f : ℕ → Entry → ℕ → Walked) (P : Entry → ℕ → Type 0) (low limit : ℕ) → ((i : ℕ) (e : Entry) (end : ℕ) → end ≤ limit → (f i e end).broken ≡ None → P e end)
    → (i j lo : ℕ) (before : Option Entry) (e : Entry) (es : List Entry) → lo ≤ e.tile_id → limits_break before low limit j (e ∷ es) ≡ None → (walk_each f i limit (e ∷ es)).broken ≡ None → EachEntry P lo limit (e ∷ es)
each_sound f P low limit step i j lo before e [] least limits walks =
    let w = within_from_none before low limit e (first_none (entry_break before low limit e) j (limits_break (Some e) low limit (suc j) []) limits).0 in
    (least, w.below, w.ends, step i e limit (omega arith) (then_none (f i e limit) intact walks).0)
each_sound f P low limit step i j lo before e (d ∷ es) least limits walks =
    let rest = (first_none (entry_break before low limit e) j (limits_break (Some e) low limit (suc j) (d ∷ es)) limits).1 in
    let next = within_from_none (Some e) low limit d (first_none (entry_break (Some e) low limit d) (suc j) (limits_break (Some d) low limit (suc (suc j)) es) rest).0 in
    let both = then_none (f i e d.tile_id) (walk_each f (suc i) limit (d ∷ es)) walks in (
      least,
      above d.tile_id e.tile_id next.rises,
      behind d.tile_id (e.tile_id + e.run_length) next.apart,
      step i e d.tile_id (omega (arith, next.below)) both.0,
      each_sound f P low limit step (suc i) (suc j) d.tile_id (Some e) d es (omega arith) rest both.1,
    )
  where
    above : (id last : ℕ) → nat_le id last ≡ false → last < id
    above id last h = grind (arith, nat_tests)

    behind : (id end : ℕ) → nat_lt id end ≡ false → end ≤ id
    behind id end h = grind (arith, nat_tests)

-- no id or run breaks
limits_none : (P : Entry → ℕ → Type 0) (low limit : ℕ) → limit ≤ MAX_TILE_ID + 1
    → (j lo : ℕ) (before : Option Entry) (e : Entry) (es : List Entry) → low ≤ lo → falls before e ≡ false → overlaps before e ≡ false → EachEntry P lo limit (e ∷ es) → limits_break before low limit j (e ∷ es) ≡ None
limits_none P low limit most j lo before e [] least rises apart h =
    next_none (entry_break before low limit e) j None (none_from_within before low limit e most (record { rises = rises; apart = apart; least = omega (arith, least, h.0); below = h.1; ends = h.2 })) refl
limits_none P low limit most j lo before e (d ∷ es) least rises apart h =
    let at = head_below P lo limit e (d ∷ es) h in
    next_none (entry_break before low limit e) j (limits_break (Some e) low limit (suc j) (d ∷ es))
    (none_from_within before low limit e most (record { rises = rises; apart = apart; least = omega (arith, least, h.0); below = at.1; ends = at.2 }))
    (limits_none P low limit most (suc j) d.tile_id (Some e) d es (omega (arith, least, h.0, h.1)) (not_above d.tile_id e.tile_id h.1) (not_before d.tile_id (e.tile_id + e.run_length) h.2) h.4)
  where
    not_above : (id last : ℕ) → last < id → nat_le id last ≡ false
    not_above id last h = grind (arith, nat_tests)

    not_before : (id end : ℕ) → end ≤ id → nat_lt id end ≡ false
    not_before id end h = grind (arith, nat_tests)

-- and no walk does
walks_none : (f : ℕ → Entry → ℕ → Walked) (P : Entry → ℕ → Type 0) (limit : ℕ) → ((i : ℕ) (e : Entry) (end : ℕ) → end ≤ limit → P e end → (f i e end).broken ≡ None)
    → (i lo : ℕ) (es : List Entry) → EachEntry P lo limit es → (walk_each f i limit es).broken ≡ None
walks_none f P limit step i lo [] h = refl
walks_none f P limit step i lo (e ∷ []) h = both_none (f i e limit) intact (step i e limit (omega arith) h.3) refl
walks_none f P limit step i lo (e ∷ d ∷ es) h =
    let next = head_below P d.tile_id limit d es h.4 in
    both_none (f i e d.tile_id) (walk_each f (suc i) limit (d ∷ es)) (step i e d.tile_id (omega (arith, next.1)) h.3) (walks_none f P limit step (suc i) d.tile_id (d ∷ es) h.4)

-- both turns
two_none : (at : Spot) (o : Option (ℕ × Reason)) (w : Walked) → (elim o as (λ _. Walked) [ Some x ↦ breaks (place at x.0) x.1 | None ↦ w ]).broken ≡ None → (o ≡ None) × (w.broken ≡ None)
two_none at (Some x) w is = absurd (none-some _ (sym is))
two_none at None w is = (refl, is)

turns_sound : (f : ℕ → Entry → ℕ → Walked) (P : Entry → ℕ → Type 0) (at : Spot) (low limit : ℕ) (es : List Entry) → ((i : ℕ) (e : Entry) (end : ℕ) → end ≤ limit → (f i e end).broken ≡ None → P e end)
    → (two_turns f at low limit es).broken ≡ None → EachEntry P low limit es
turns_sound f P at low limit [] step is = tt
turns_sound f P at low limit (e ∷ es) step is =
    let both = two_none at (limits_break None low limit 0 (e ∷ es)) (walk_each f 0 limit (e ∷ es)) is in
    let w = within_from_none None low limit e (first_none (entry_break None low limit e) 0 (limits_break (Some e) low limit 1 es) both.0).0 in
    each_sound f P low limit step 0 0 low None e es w.least both.0 both.1

turns_none : (f : ℕ → Entry → ℕ → Walked) (P : Entry → ℕ → Type 0) (at : Spot) (low limit : ℕ) (es : List Entry) → limit ≤ MAX_TILE_ID + 1 → ((i : ℕ) (e : Entry) (end : ℕ) → end ≤ limit → P e end → (f i e end).broken ≡ None)
    → EachEntry P low limit es → (two_turns f at low limit es).broken ≡ None
turns_none f P at low limit [] most step h = refl
turns_none f P at low limit (e ∷ es) most step h =
    ap (λ o. (elim o as (λ _. Walked) [ Some x ↦ breaks (place at x.0) x.1 | None ↦ walk_each f 0 limit (e ∷ es) ]).broken) (limits_none P low limit most 0 low None e es (omega arith) refl refl h)
    ∙ walks_none f P limit step 0 low (e ∷ es) h

-- the contents of a tile
data_none : (o : Option (List ℕ)) (p : Place) → (elim o as (λ _. Walked) [ None ↦ breaks p reason.TilePastEnd | Some bytes ↦ intact ]).broken ≡ None → IsSome o
data_none None p is = absurd (none-some _ (sym is))
data_none (Some bytes) p is = refl

none_data : (o : Option (List ℕ)) (p : Place) → IsSome o → (elim o as (λ _. Walked) [ None ↦ breaks p reason.TilePastEnd | Some bytes ↦ intact ]).broken ≡ None
none_data None p some = absurd (subst (λ t. T (not t)) some tt)
none_data (Some bytes) p some = refl

-- the leaf of an entry
leaf_none : (inner : List Entry → Walked) (p : Place) (r : Result (List Entry) PmtError) → (leaf_walk inner p r).broken ≡ None → (leaf : List Entry) × (r ≡ Ok leaf) × ((inner leaf).broken ≡ None)
leaf_none inner p (Ok leaf) is = (leaf, refl, is)
leaf_none inner p (Err errors.InvalidEntry) is = absurd (none-some _ (sym is))
leaf_none inner p (Err _) is = absurd (none-some _ (sym is))

by_zero : (n : ℕ) (G : Type 0) → (n ≡ 0 → G) → (n ≢ 0 → G) → G
by_zero zero G f g = f refl
by_zero (suc n) G f g = g (λ e. absurd (omega (arith, e)))

-- the directory of a walk without a break is sound
pub walk_sound : (n : ℕ) (h : Header) (b : List ℕ) (at : Spot) (low limit : ℕ) (es : List Entry) → (walked n h b at low limit es).broken ≡ None → SoundDirectory n h b low limit es
walk_sound zero h b at low limit es is =
    turns_sound (entry_walk None h b at) (λ e end. (e.run_length ≢ 0) × HasData h b e) at low limit es
    (λ i e end within whole.
    let tile : e.run_length ≢ 0 = λ z. none-some _ (sym whole ∙ ap (λ k. (elim (nat_eq k 0) as (λ _. Walked) [ false ↦ tile_walk h b (place at i) e | true ↦ breaks (place at i) reason.TooDeep ]).broken) z) in
    (tile, data_none (range_of b (h.data_offset + e.offset) e.length) (place at i) (sym (ap (λ w. w.broken) (tile_met None h b at i e end tile)) ∙ whole)))
    (sym (ap (λ w. w.broken) (walked_is zero h b at low limit es)) ∙ is)
walk_sound (suc n) h b at low limit es is =
    turns_sound (entry_walk (Some (walked n h b)) h b at)
    (λ e end. (e.run_length ≢ 0 → HasData h b e) × (e.run_length ≡ 0 → (leaf : List Entry) × (leaf_of h b e ≡ Ok leaf) × SoundDirectory n h b e.tile_id end leaf)) at low limit es
    (λ i e end within whole. (
      λ tile. data_none (range_of b (h.data_offset + e.offset) e.length) (place at i) (sym (ap (λ w. w.broken) (tile_met (Some (walked n h b)) h b at i e end tile)) ∙ whole),
      λ zero_run.
          let found = leaf_none (walked n h b (one_deeper at e) e.tile_id end) (place at i) (leaf_of h b e) (sym (ap (λ w. w.broken) (leaf_met (walked n h b) h b at i e end zero_run)) ∙ whole) in
          (found.0, found.1, walk_sound n h b (one_deeper at e) e.tile_id end found.0 found.2),
    ))
    (sym (ap (λ w. w.broken) (walked_is (suc n) h b at low limit es)) ∙ is)

-- and the walk of a sound directory has no break
pub sound_walk : (n : ℕ) (h : Header) (b : List ℕ) (at : Spot) (low limit : ℕ) (es : List Entry) → limit ≤ MAX_TILE_ID + 1 → SoundDirectory n h b low limit es → (walked n h b at low limit es).broken ≡ None
sound_walk zero h b at low limit es most s =
    ap (λ w. w.broken) (walked_is zero h b at low limit es) ∙ turns_none (entry_walk None h b at) (λ e end. (e.run_length ≢ 0) × HasData h b e) at low limit es most
    (λ i e end within p. ap (λ w. w.broken) (tile_met None h b at i e end p.0) ∙ none_data (range_of b (h.data_offset + e.offset) e.length) (place at i) p.1) s
sound_walk (suc n) h b at low limit es most s =
    ap (λ w. w.broken) (walked_is (suc n) h b at low limit es) ∙ turns_none (entry_walk (Some (walked n h b)) h b at)
    (λ e end. (e.run_length ≢ 0 → HasData h b e) × (e.run_length ≡ 0 → (leaf : List Entry) × (leaf_of h b e ≡ Ok leaf) × SoundDirectory n h b e.tile_id end leaf)) at low limit es most
    (λ i e end within p. by_zero e.run_length ((entry_walk (Some (walked n h b)) h b at i e end).broken ≡ None)
    (λ z. let leaf = p.1 z in ap (λ w. w.broken) (leaf_met (walked n h b) h b at i e end z) ∙ ap (λ r. (leaf_walk (walked n h b (one_deeper at e) e.tile_id end) (place at i) r).broken) leaf.1
    ∙ sound_walk n h b (one_deeper at e) e.tile_id end leaf.0 (omega (arith, most, within)) leaf.2)
    (λ tile. ap (λ w. w.broken) (tile_met (Some (walked n h b)) h b at i e end tile) ∙ none_data (range_of b (h.data_offset + e.offset) e.length) (place at i) (p.0 tile))) s

pub same_opened : (x y : Opened) → ◌≡◌ {A = Result Opened PmtError} (Ok x) (Ok y) → x ≡ y
same_opened x y is = ap (λ r. elim r as (λ _. Opened) [ Ok z ↦ z | Err e ↦ x ]) is

-- of a whole archive
pub sound_from_walk : (b : List ℕ) (o : Opened) → opened b ≡ Ok o → first_break b o ≡ None → Sound b
sound_from_walk b o opens is = record { found = o; opens = opens; root = walk_sound 6 o.0 b root_spot 0 (MAX_TILE_ID + 1) o.1 is }

pub walk_from_sound : (b : List ℕ) (o : Opened) → opened b ≡ Ok o → Sound b → first_break b o ≡ None
walk_from_sound b o opens s = subst (λ p. first_break b p ≡ None) (same_opened s.found o (sym s.opens ∙ opens)) (sound_walk 6 s.found.0 b root_spot 0 (MAX_TILE_ID + 1) s.found.1 (omega arith) s.root)
