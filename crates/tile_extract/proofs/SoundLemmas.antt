-- The walk of a sound archive isn't refused, and comes to tiles that are there.
use Rattle.tile_extract.proofs.Common.{and_from, ap, arith, Bool, clip, clip_all, TilePart, EachEntry, Entry, entry, entry_walk, false, fits_depth, HasData, Header, if◌then◌else◌, is_below}
use Rattle.tile_extract.proofs.Common.{is_met, leaf_of, List, max, MAX_TILE_ID, met_of, min, nat_eq, nat_le, nat_tests, None, not, nothing_met, Ok, Option, parts, parts_of, refl, rises, Some, Sound}
use Rattle.tile_extract.proofs.Common.{SoundDirectory, stands, stays_within, subst, suc, sym, then_walk, tile_by, to_le, to_lt, true, walk_each, Walked, walked, Within, zero, ℕ, [], ◌&&◌, ◌++◌, ◌+◌}
use Rattle.tile_extract.proofs.Common.{◌-◌, ◌<◌, ◌^◌, ◌∙◌, ◌∷◌, ◌≡◌, ◌≢◌, ◌≤◌}
use Rattle.pm_format.specs.declared.error.PmtError.TheVariants as errors
use Rattle.pm_walk.specs.Walk.{below}
use Rattle.pm_walk.specs.declared.error.WalkError.TheVariants.{Archive}
use Rattle.pm_reader.proofs.QueueLemmas.{is_tile}
use Rattle.pm_reader.proofs.SoundTileLemmas.{head_below, is_zero}
use Rattle.tile_extract.proofs.ShortLemmas.{AreShort, leaf_short, root_short}
use Rattle.pm_walk.proofs.WalkingLemmas.{leaf_goes, stood, then_on, tile_goes, unmet_goes, walked_is}

-- tile entries whose contents are there, and shorter than 2^32 bytes
abbrev pub AreThere : Header → List ℕ → List Entry → Type 0
AreThere h b [] = Unit {0}
AreThere h b (e ∷ es) = HasData h b e × (e.length < 2 ^ 32) × AreThere h b es

pub there_append : (h : Header) (b : List ℕ) (xs ys : List Entry) → AreThere h b xs → AreThere h b ys → AreThere h b (xs ++ ys)
there_append h b [] ys p q = q
there_append h b (x ∷ xs) ys p q = (p.0, p.1, there_append h b xs ys p.2 q)

-- a walk that isn't refused, and comes to such entries
pub record GoesWell (h : Header) (b : List ℕ) (w : Walked) : Type 0 where
  pub fine : w.refusal ≡ None
  pub there : AreThere h b w.entries

both_well : (h : Header) (b : List ℕ) (w next : Walked) → GoesWell h b w → GoesWell h b next → GoesWell h b (then_walk w next)
both_well h b w next p q =
    let same = then_on w next p.fine in
    subst (GoesWell h b) (sym same) (record { fine = q.fine; there = there_append h b w.entries next.entries p.there q.there })

-- a range that ends at an id, or has no end
abbrev pub EndsAt : Option ℕ → ℕ → Type 0
EndsAt None last = Unit {0}
EndsAt (Some end) last = end ≡ last

ends_below : (end : Option ℕ) (last n : ℕ) → EndsAt end last → n < last → is_below end n ≡ true
ends_below None last n at less = refl
ends_below (Some end) last n at less = to_lt n end (omega (arith, at, less))

ends_within : (end : Option ℕ) (last n : ℕ) → EndsAt end last → n ≤ last → stays_within end n ≡ true
ends_within None last n at le = refl
ends_within (Some end) last n at le = to_le n end (omega (arith, at, le))

stands_by : (left : ℕ) (before : Option Entry) (low : ℕ) (limit end : Option ℕ) (e : Entry) → rises before e.tile_id ≡ true → nat_le low e.tile_id ≡ true → is_below limit e.tile_id ≡ true → stays_within end (e.tile_id + e.run_length) ≡ true → fits_depth left e ≡ true
    → stands left before low limit end e ≡ true
stands_by left before low limit end e a b c d f =
    and_from (rises before e.tile_id && nat_le low e.tile_id && is_below limit e.tile_id && stays_within end (e.tile_id + e.run_length)) (fits_depth left e)
    (and_from (rises before e.tile_id && nat_le low e.tile_id && is_below limit e.tile_id) (stays_within end (e.tile_id + e.run_length))
    (and_from (rises before e.tile_id && nat_le low e.tile_id) (is_below limit e.tile_id) (and_from (rises before e.tile_id) (nat_le low e.tile_id) a b) c) d) f

-- what is known of an entry of a sound directory makes its walk go well
abbrev pub GoesOn : ℕ → Header → List ℕ → (Entry → Option ℕ → Walked) → (Entry → ℕ → Type 0) → Type 0
GoesOn n h b f P = (e : Entry) (end : Option ℕ) (last : ℕ) → EndsAt end last → last ≤ MAX_TILE_ID + 1 → e.tile_id + e.run_length ≤ last → P e last → e.length < 2 ^ 32 → (fits_depth n e ≡ true) × GoesWell h b (f e end)

pub each_well : (n : ℕ) (h : Header) (b : List ℕ) (f : Entry → Option ℕ → Walked) (P : Entry → ℕ → Type 0) → GoesOn n h b f P → (before : Option Entry) (low lo : ℕ) (limit : Option ℕ) (last : ℕ) (e : Entry) (es : List Entry)
    → low ≤ lo → rises before e.tile_id ≡ true → EndsAt limit last → last ≤ MAX_TILE_ID + 1 → EachEntry P lo last (e ∷ es) → AreShort (e ∷ es) → GoesWell h b (walk_each n f before low limit (e ∷ es))
each_well n h b f P step before low lo limit last e [] le up at most s short =
    let p = step e limit last at most s.2 s.3 short.0 in
    let stand = stands_by n before low limit limit e up (to_le low e.tile_id (omega (arith, le, s.0))) (ends_below limit last e.tile_id at s.1) (ends_within limit last (e.tile_id + e.run_length) at s.2) p.0 in
    subst (GoesWell h b) (sym (stood n f before low limit e [] stand)) (both_well h b (f e limit) nothing_met p.1 (record { fine = refl; there = tt }))
each_well n h b f P step before low lo limit last e (d ∷ es) le up at most s short =
    let next = head_below P d.tile_id last d es s.4 in
    let p = step e (Some d.tile_id) d.tile_id refl (omega (arith, next.1, most)) s.2 s.3 short.0 in
    let stand = stands_by n before low limit (Some d.tile_id) e up (to_le low e.tile_id (omega (arith, le, s.0))) (ends_below limit last e.tile_id at (omega (arith, s.1, next.1))) (to_le (e.tile_id + e.run_length) d.tile_id s.2) p.0 in
    let rest = each_well n h b f P step (Some e) low d.tile_id limit last d es (omega (arith, le, s.0, s.1)) (to_lt e.tile_id d.tile_id s.1) at most s.4 short.1 in
    subst (GoesWell h b) (sym (stood n f before low limit e (d ∷ es) stand)) (both_well h b (f e (Some d.tile_id)) (walk_each n f (Some e) low limit (d ∷ es)) p.1 rest)

all_well : (n : ℕ) (h : Header) (b : List ℕ) (f : Entry → Option ℕ → Walked) (P : Entry → ℕ → Type 0) → GoesOn n h b f P → (low : ℕ) (limit : Option ℕ) (last : ℕ) (es : List Entry)
    → EndsAt limit last → last ≤ MAX_TILE_ID + 1 → EachEntry P low last es → AreShort es → GoesWell h b (walk_each n f None low limit es)
all_well n h b f P step low limit last [] at most s short = record { fine = refl; there = tt }
all_well n h b f P step low limit last (e ∷ es) at most s short = each_well n h b f P step None low low limit last e es (omega arith) refl at most s short

-- a tile entry
tile_depth : (n : ℕ) (e : Entry) → nat_eq e.run_length 0 ≡ false → fits_depth n e ≡ true
tile_depth n e tile = ap (λ t. if t then not (nat_eq n 0) else true) tile

tile_well : (n : ℕ) (h : Header) (b : List ℕ) (is : List (ℕ × ℕ)) (e : Entry) (end : Option ℕ) → nat_eq e.run_length 0 ≡ false → e.tile_id + e.run_length ≤ MAX_TILE_ID + 1 → HasData h b e → e.length < 2 ^ 32
    → GoesWell h b (entry_walk Within (below Within n h b is) h b is e end)
tile_well n h b is e end tile within lies short =
    let fits : nat_le (e.tile_id + e.run_length) (MAX_TILE_ID + 1) ≡ true = to_le (e.tile_id + e.run_length) (MAX_TILE_ID + 1) within in
    let same = tile_goes Within h b is n e end tile ∙ ap (λ t. tile_by 0 e (if t then None else Some (Archive errors.InvalidEntry))) fits in
    subst (GoesWell h b) (sym same) (record { fine = refl; there = (lies, short, tt) })

-- what is known of the directories one level below
abbrev Deeper : ℕ → Header → List ℕ → List (ℕ × ℕ) → Type 0
Deeper n h b is = (low : ℕ) (limit : Option ℕ) (last : ℕ) (es : List Entry) → EndsAt limit last → last ≤ MAX_TILE_ID + 1 → SoundDirectory n h b low last es → AreShort es → GoesWell h b (walked Within n h b is low limit es)

-- the walk of a sound directory
pub sound_well : (n : ℕ) (h : Header) (b : List ℕ) (is : List (ℕ × ℕ)) (low : ℕ) (limit : Option ℕ) (last : ℕ) (es : List Entry) → EndsAt limit last → last ≤ MAX_TILE_ID + 1 → SoundDirectory n h b low last es → AreShort es
    → GoesWell h b (walked Within n h b is low limit es)
sound_well zero h b is low limit last es at most s short =
    subst (GoesWell h b) (sym (walked_is Within zero h b is low limit es))
    (all_well zero h b (entry_walk Within None h b is) (λ e end. (e.run_length ≢ 0) × HasData h b e)
    (λ e end m ends top within p few. (tile_depth zero e (is_tile e.run_length p.0), tile_well zero h b is e end (is_tile e.run_length p.0) (omega (arith, top, within)) p.1 few))
    low limit last es at most s short)
sound_well (suc n) h b is low limit last es at most s short =
    subst (GoesWell h b) (sym (walked_is Within (suc n) h b is low limit es))
    (all_well (suc n) h b (entry_walk Within (Some (walked Within n h b is)) h b is) (λ e end. (e.run_length ≢ 0 → HasData h b e) × (e.run_length ≡ 0 → (leaf : List Entry) × (leaf_of h b e ≡ Ok leaf) × SoundDirectory n h b e.tile_id end leaf))
    (λ e end m ends top within p few. by_run (λ lo limit last leaf. sound_well n h b is lo limit last leaf) e end m ends top within p few (nat_eq e.run_length 0) refl)
    low limit last es at most s short)
  where
    by_met : Deeper n h b is → (e : Entry) (end : Option ℕ) (m : ℕ) → EndsAt end m → m ≤ MAX_TILE_ID + 1 → (leaf : List Entry) → e.run_length ≡ 0 → leaf_of h b e ≡ Ok leaf → SoundDirectory n h b e.tile_id m leaf
        → (x : Bool) → is_met is e.tile_id end ≡ x → GoesWell h b (entry_walk Within (Some (walked Within n h b is)) h b is e end)
    by_met deeper e end m ends top leaf run found inner false met = subst (GoesWell h b) (sym (unmet_goes Within h b is (suc n) e end run met)) (record { fine = refl; there = tt })
    by_met deeper e end m ends top leaf run found inner true met =
        let w = deeper e.tile_id end m leaf ends top inner (leaf_short h b e leaf found) in
        subst (GoesWell h b) (sym (leaf_goes Within h b is n e end leaf run met found)) (record { fine = w.fine; there = w.there })

    by_run : Deeper n h b is → (e : Entry) (end : Option ℕ) (m : ℕ) → EndsAt end m → m ≤ MAX_TILE_ID + 1 → e.tile_id + e.run_length ≤ m
        → (e.run_length ≢ 0 → HasData h b e) × (e.run_length ≡ 0 → (leaf : List Entry) × (leaf_of h b e ≡ Ok leaf) × SoundDirectory n h b e.tile_id m leaf) → e.length < 2 ^ 32
        → (x : Bool) → nat_eq e.run_length 0 ≡ x → (fits_depth (suc n) e ≡ true) × GoesWell h b (entry_walk Within (Some (walked Within n h b is)) h b is e end)
    by_run deeper e end m ends top within p few false tile =
        let some : e.run_length ≢ 0 = λ z. let bad : nat_eq e.run_length 0 ≡ true = grind (arith, nat_tests) in absurd (cc) in
        (tile_depth (suc n) e tile, tile_well (suc n) h b is e end tile (omega (arith, top, within)) (p.0 some) few)
    by_run deeper e end m ends top within p few true zero_run =
        let run : e.run_length ≡ 0 = is_zero e.run_length zero_run in
        let leaf = p.1 run in
        (ap (λ t. if t then not (nat_eq (suc n) 0) else true) zero_run ∙ ap not (is_tile (suc n) (λ z. absurd (omega (arith, z)))), by_met deeper e end m ends top leaf.0 run leaf.1 leaf.2 (is_met is e.tile_id end) refl)

-- that of a sound archive
pub archive_well : (b : List ℕ) (s : Sound b) (part : TilePart) → GoesWell s.found.0 b (met_of b s.found part)
archive_well b s part = sound_well 6 s.found.0 b part.intervals 0 None (MAX_TILE_ID + 1) s.found.1 tt (omega arith) s.root (root_short b s.found s.opens)

-- parts of such entries
clip_there : (h : Header) (b : List ℕ) (e : Entry) (i : ℕ × ℕ) → HasData h b e → e.length < 2 ^ 32 → AreThere h b (clip e i)
clip_there h b e i lies short = by_test (nat_le first last)
  where
    first : ℕ
    first = max e.tile_id i.0

    last : ℕ
    last = min (e.tile_id + (e.run_length - 1)) i.1

    by_test : (t : Bool) → AreThere h b (if t then entry first e.offset e.length (last - first + 1) ∷ [] else [])
    by_test true = (lies, short, tt)
    by_test false = tt

clips_there : (h : Header) (b : List ℕ) (e : Entry) (is : List (ℕ × ℕ)) → HasData h b e → e.length < 2 ^ 32 → AreThere h b (clip_all e is)
clips_there h b e [] lies short = tt
clips_there h b e (i ∷ is) lies short = there_append h b (clip e i) (clip_all e is) (clip_there h b e i lies short) (clips_there h b e is lies short)

pub parts_there : (h : Header) (b : List ℕ) (is : List (ℕ × ℕ)) (es : List Entry) → AreThere h b es → AreThere h b (parts is es)
parts_there h b is [] t = tt
parts_there h b is (e ∷ es) t = there_append h b (parts_of is e) (parts is es) (of_one (nat_eq e.length 0)) (parts_there h b is es t.2)
  where
    of_one : (x : Bool) → AreThere h b (if x then [] else clip_all e is)
    of_one true = tt
    of_one false = clips_there h b e is t.0 t.1
