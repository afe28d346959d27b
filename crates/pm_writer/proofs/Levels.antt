-- Levels of directories between a root and the entries of tiles.
use Rattle.pm_writer.proofs.Common.{AllRead, AllSome, ap, append-nil, append_assoc, arith, data_behind, dir_bytes, dir_of, EachEntry, end_of, entries_below, entries_by, Entry, entry, entry_from, Err}
use Rattle.pm_writer.proofs.Common.{false, first_id, flat_map, flat_map-append, HasData, Header, hops_by, hops_from, joined, leaf_of, length, length-append, List, MatchOption, Names, nat_eq}
use Rattle.pm_writer.proofs.Common.{nat_tests, None, Ok, Option, PmtError, range_at, range_of, refl, Result, Rising, root_of, scan, Some, SoundDirectory, subst, suc, sym, Through, tile_by, true, zero}
use Rattle.pm_writer.proofs.Common.{ℕ, [], ◌++◌, ◌+◌, ◌<◌, ◌^◌, ◌∙◌, ◌∷◌, ◌≡◌, ◌≢◌, ◌≤◌}
use Rattle.pm_format.specs.LookUp.{data_of}
use Rattle.pm_format.specs.declared.error.PmtError.TheVariants as errors
use Rattle.pm_format.specs.declared.error.ReadCause.TheVariants as causes
use Rattle.pm_format.proofs.LookUpLemmas.{reached_leaf, reached_none, reached_tile}
use Rattle.pm_writer.proofs.Walking.{names_rise, through}

-- each of the directories that lie from a place on is read from there
abbrev pub AllFound : Header → List ℕ → ℕ → List (List Entry) → Type 0
AllFound h b place [] = Unit {0}
AllFound h b place (l ∷ ls) = (leaf_of h b (entry (first_id l) place (length (dir_bytes l)) 0) ≡ Ok l) × AllFound h b (place + length (dir_bytes l)) ls

-- levels of directories, each with its place, the highest first: a root names the first, and the last has these entries
abbrev pub Tower : Header → List ℕ → List (ℕ × List (List Entry)) → List Entry → List Entry → Type 0
Tower h b [] root es = root ≡ es
Tower h b (t ∷ ts) root es = (root ≡ root_of t.0 t.1) × AllSome t.1 × AllFound h b t.0 t.1 × Tower h b ts (joined t.1) es

-- so many directories more are read through these levels
abbrev pub deep : List (ℕ × List (List Entry)) → ℕ → ℕ
deep [] n = n
deep (t ∷ ts) n = suc (deep ts n)

pub deep_is : (ts : List (ℕ × List (List Entry))) (n : ℕ) → deep ts n ≡ length ts + n
deep_is [] n = omega arith
deep_is (t ∷ ts) n = omega (arith, deep_is ts n)

decoded : (r : Option (List ℕ)) (x : List ℕ) (l : List Entry) → r ≡ Some x → dir_of x ≡ Some l → (elim r as (λ z. Result (List Entry) PmtError) [ None ↦ Err (errors.Reading causes.PastEnd) | Some bytes ↦ elim (dir_of bytes) [ None ↦ Err errors.InvalidEntry | Some es ↦ Ok es ] ]) ≡ Ok l
decoded None x l p q = absurd (cc)
decoded (Some y) x l p q = let same : y ≡ x = cc in inner (dir_of y) (ap dir_of same ∙ q)
  where
    inner : (m : Option (List Entry)) → m ≡ Some l → (elim m as (λ z. Result (List Entry) PmtError) [ None ↦ Err errors.InvalidEntry | Some es ↦ Ok es ]) ≡ Ok l
    inner None z = absurd (cc)
    inner (Some es) z = let same : es ≡ l = cc in ap Ok same

-- directories that lie behind a front, each of which is read again from its bytes
pub all_found : (h : Header) (b front rest : List ℕ) (place : ℕ) (ls : List (List Entry)) → b ≡ front ++ (flat_map dir_bytes ls ++ rest) → h.leaf_offset + place ≡ length front → length b < 2 ^ 64 → AllRead ls → AllFound h b place ls
all_found h b front rest place [] e p f r = tt
all_found h b front rest place (l ∷ ls) e p f r =
    let here : b ≡ front ++ (dir_bytes l ++ (flat_map dir_bytes ls ++ rest)) = e ∙ ap (λ z. front ++ z) (append_assoc (dir_bytes l) (flat_map dir_bytes ls) rest) in
    let range : range_of b (h.leaf_offset + place) (length (dir_bytes l)) ≡ Some (dir_bytes l) = ap (λ k. range_of b k (length (dir_bytes l))) p ∙ range_at b front (dir_bytes l) (flat_map dir_bytes ls ++ rest) here f in (
      decoded (range_of b (h.leaf_offset + place) (length (dir_bytes l))) (dir_bytes l) l range r.0,
      all_found h b (front ++ dir_bytes l) rest (place + length (dir_bytes l)) ls (here ∙ sym (append_assoc front (dir_bytes l) (flat_map dir_bytes ls ++ rest))) (omega (arith, p, length-append front (dir_bytes l))) f r.1,
    )

found_named : (h : Header) (b : List ℕ) (place : ℕ) (ls : List (List Entry)) (e : Entry) (l : List Entry) → AllFound h b place ls → Names place ls e l → leaf_of h b e ≡ Ok l
found_named h b place ls e l f n = at place n.before (subst (AllFound h b place) n.parts f) n.is
  where
    at : (place : ℕ) (before : List (List Entry)) → AllFound h b place (before ++ l ∷ n.after) → e ≡ entry (first_id l) (place + end_of before) (length (dir_bytes l)) 0 → leaf_of h b e ≡ Ok l
    at place [] f is = ap (leaf_of h b) (is ∙ ap (λ p. entry (first_id l) p (length (dir_bytes l)) 0) (let z : place + 0 ≡ place = omega arith in z)) ∙ f.0
    at place (x ∷ before) f is =
        let z : place + end_of (x ∷ before) ≡ place + length (dir_bytes x) + end_of before = omega (arith, length-append (dir_bytes x) (flat_map dir_bytes before)) in
        at (place + length (dir_bytes x)) before f.1 (is ∙ ap (λ p. entry (first_id l) p (length (dir_bytes l)) 0) z)

-- look-ups
pub tile_none : (n : ℕ) (h : Header) (b : List ℕ) (es : List Entry) (t : ℕ) → scan es t ≡ None → tile_by n h b es t ≡ Ok None
unfolding tile_by
tile_none n h b es t q = ap (λ o. data_behind h b (entry_from n h b t o)) q ∙ ap (λ r. data_behind h b r.entry) (reached_none n h b t)

pub tile_here : (n : ℕ) (h : Header) (b : List ℕ) (es : List Entry) (t : ℕ) (e : Entry) → scan es t ≡ Some e → nat_eq e.run_length 0 ≡ false → tile_by n h b es t ≡ data_of h b e
unfolding tile_by
tile_here n h b es t e q r = ap (λ o. data_behind h b (entry_from n h b t o)) q ∙ ap (λ r. data_behind h b r.entry) (reached_tile n h b t e r)

tile_leaf : (n : ℕ) (h : Header) (b : List ℕ) (above l es : List Entry) (t : ℕ) (e : Entry) → scan above t ≡ Some e → nat_eq e.run_length 0 ≡ true → leaf_of h b e ≡ Ok l → scan l t ≡ scan es t → tile_by (suc n) h b above t ≡ tile_by n h b es t
unfolding tile_by
tile_leaf n h b above l es t e q r s same =
    ap (λ o. data_behind h b (entry_from (suc n) h b t o)) q ∙ (ap (λ r. data_behind h b r.entry) (reached_leaf n h b t e (Ok l) r s) ∙ ap (λ o. data_behind h b (entry_from n h b t o)) same)

pub hop_none : (n : ℕ) (h : Header) (b : List ℕ) (es : List Entry) (t : ℕ) → scan es t ≡ None → hops_by n h b es t ≡ 0
unfolding hops_by
hop_none n h b es t q = ap (hops_from n h b t) q ∙ ap (λ r. r.leaves) (reached_none n h b t)

pub hop_here : (n : ℕ) (h : Header) (b : List ℕ) (es : List Entry) (t : ℕ) (e : Entry) → scan es t ≡ Some e → nat_eq e.run_length 0 ≡ false → hops_by n h b es t ≡ 0
unfolding hops_by
hop_here n h b es t e q r = ap (hops_from n h b t) q ∙ ap (λ r. r.leaves) (reached_tile n h b t e r)

hop_leaf : (n : ℕ) (h : Header) (b : List ℕ) (above l es : List Entry) (t : ℕ) (e : Entry) → scan above t ≡ Some e → nat_eq e.run_length 0 ≡ true → leaf_of h b e ≡ Ok l → scan l t ≡ scan es t → hops_by (suc n) h b above t ≡ suc (hops_by n h b es t)
unfolding hops_by
hop_leaf n h b above l es t e q r s same = ap (hops_from (suc n) h b t) q ∙ (ap (λ r. r.leaves) (reached_leaf n h b t e (Ok l) r s) ∙ ap (λ o. suc (hops_from n h b t o)) same)

leads : (place : ℕ) (ls : List (List Entry)) (e : Entry) (l : List Entry) → Names place ls e l → nat_eq e.run_length 0 ≡ true
leads place ls e l n = let z : e.run_length ≡ 0 = ap (λ z. z.run_length) n.is in grind (arith, nat_tests)

-- a look-up through a level answers as one in its entries
level_tile : (n : ℕ) (h : Header) (b : List ℕ) (place : ℕ) (above : List Entry) (ls : List (List Entry)) (es : List Entry) (t : ℕ) → AllFound h b place ls → Through place above ls es t → tile_by (suc n) h b above t ≡ tile_by n h b es t
level_tile n h b place above ls es t f w = go (scan above t) refl w
  where
    go : (o : Option Entry) → scan above t ≡ o → MatchOption o (scan es t ≡ None) (λ e. (l : List Entry) × Names place ls e l × (scan l t ≡ scan es t)) → tile_by (suc n) h b above t ≡ tile_by n h b es t
    go None q w = tile_none (suc n) h b above t q ∙ sym (tile_none n h b es t w)
    go (Some e) q w = tile_leaf n h b above w.0 es t e q (leads place ls e w.0 w.1) (found_named h b place ls e w.0 f w.1) w.2

-- and reads one directory more at most
level_hops : (n : ℕ) (h : Header) (b : List ℕ) (place : ℕ) (above : List Entry) (ls : List (List Entry)) (es : List Entry) (t : ℕ) → AllFound h b place ls → Through place above ls es t → hops_by (suc n) h b above t ≤ suc (hops_by n h b es t)
level_hops n h b place above ls es t f w = go (scan above t) refl w
  where
    go : (o : Option Entry) → scan above t ≡ o → MatchOption o (scan es t ≡ None) (λ e. (l : List Entry) × Names place ls e l × (scan l t ≡ scan es t)) → hops_by (suc n) h b above t ≤ suc (hops_by n h b es t)
    go None q w = omega (arith, hop_none (suc n) h b above t q)
    go (Some e) q w = omega (arith, hop_leaf n h b above w.0 es t e q (leads place ls e w.0 w.1) (found_named h b place ls e w.0 f w.1) w.2)

tower_rises : (h : Header) (b : List ℕ) (ts : List (ℕ × List (List Entry))) (root es : List Entry) → Tower h b ts root es → Rising es → Rising root
tower_rises h b [] root es w r = subst Rising (sym w) r
tower_rises h b (t ∷ ts) root es w r = subst Rising (sym w.0) (names_rise t.0 t.1 w.1 (tower_rises h b ts (joined t.1) es w.3 r))

pub tower_tile : (n : ℕ) (h : Header) (b : List ℕ) (ts : List (ℕ × List (List Entry))) (root es : List Entry) (id : ℕ) → Tower h b ts root es → Rising es → tile_by (deep ts n) h b root id ≡ tile_by n h b es id
tower_tile n h b [] root es id w r = ap (λ z. tile_by n h b z id) w
tower_tile n h b (t ∷ ts) root es id w r =
    ap (λ z. tile_by (suc (deep ts n)) h b z id) w.0
    ∙ (level_tile (deep ts n) h b t.0 (root_of t.0 t.1) t.1 (joined t.1) id w.2 (through t.0 t.1 id w.1 (tower_rises h b ts (joined t.1) es w.3 r))
    ∙ tower_tile n h b ts (joined t.1) es id w.3 r)

pub tower_hops : (n : ℕ) (h : Header) (b : List ℕ) (ts : List (ℕ × List (List Entry))) (root es : List Entry) (id : ℕ) → Tower h b ts root es → Rising es → hops_by (deep ts n) h b root id ≤ length ts + hops_by n h b es id
tower_hops n h b [] root es id w r = let z : hops_by n h b root id ≡ hops_by n h b es id = ap (λ z. hops_by n h b z id) w in omega (arith, z)
tower_hops n h b (t ∷ ts) root es id w r =
    let z : hops_by (suc (deep ts n)) h b root id ≡ hops_by (suc (deep ts n)) h b (root_of t.0 t.1) id = ap (λ z. hops_by (suc (deep ts n)) h b z id) w.0 in
    let one = level_hops (deep ts n) h b t.0 (root_of t.0 t.1) t.1 (joined t.1) id w.2 (through t.0 t.1 id w.1 (tower_rises h b ts (joined t.1) es w.3 r)) in
    omega (arith, z, one, tower_hops n h b ts (joined t.1) es id w.3 r)

-- soundness: entries in order, in two parts
each_left : (P : Entry → ℕ → Type 0) (low limit : ℕ) (es : List Entry) (f : Entry) (fs : List Entry) → EachEntry P low limit (es ++ f ∷ fs) → EachEntry P low f.tile_id es
each_left P low limit [] f fs s = tt
each_left P low limit (e ∷ []) f fs s = (s.0, s.1, s.2, s.3)
each_left P low limit (e ∷ d ∷ es) f fs s = (s.0, s.1, s.2, s.3, each_left P d.tile_id limit (d ∷ es) f fs s.4)

each_right : (P : Entry → ℕ → Type 0) (low limit : ℕ) (es : List Entry) (f : Entry) (fs : List Entry) → EachEntry P low limit (es ++ f ∷ fs) → EachEntry P f.tile_id limit (f ∷ fs)
each_right P low limit [] f [] s = (omega arith, s.1, s.2, s.3)
each_right P low limit [] f (g ∷ fs) s = (omega arith, s.1, s.2, s.3, s.4)
each_right P low limit (e ∷ []) f fs s = s.4
each_right P low limit (e ∷ d ∷ es) f fs s = each_right P d.tile_id limit (d ∷ es) f fs s.4

-- the first entry lies between the limits
each_first : (P : Entry → ℕ → Type 0) (low limit : ℕ) (e : Entry) (es : List Entry) → EachEntry P low limit (e ∷ es) → (low ≤ e.tile_id) × (e.tile_id < limit)
each_first P low limit e [] s = (s.0, s.1)
each_first P low limit e (f ∷ es) s = let k = each_first P f.tile_id limit f es s.4 in (s.0, omega (arith, s.1, k.1))

-- an entry that names a directory found at its place
named_sound : (n : ℕ) (h : Header) (b : List ℕ) (place end : ℕ) (l : List Entry) → leaf_of h b (entry (first_id l) place (length (dir_bytes l)) 0) ≡ Ok l → SoundDirectory n h b (first_id l) end l
    → (let e = entry (first_id l) place (length (dir_bytes l)) 0 in (e.run_length ≢ 0 → HasData h b e) × (e.run_length ≡ 0 → (leaf : List Entry) × (leaf_of h b e ≡ Ok leaf) × SoundDirectory n h b e.tile_id end leaf))
named_sound n h b place end l r s = ((λ z. absurd (z refl)), (λ z. (l, r, s)))

level_each : (P : Entry → ℕ → Type 0) (n : ℕ) (h : Header) (b : List ℕ) (low limit place : ℕ) (ls : List (List Entry)) → ((low limit : ℕ) (l : List Entry) → EachEntry P low limit l → SoundDirectory n h b low limit l)
    → AllSome ls → AllFound h b place ls → EachEntry P low limit (joined ls) → SoundDirectory (suc n) h b low limit (root_of place ls)
level_each P n h b low limit place [] of some found s = tt
level_each P n h b low limit place ([] ∷ ls) of some found s = absurd (some.0 refl)
level_each P n h b low limit place (l ∷ [] ∷ ls) of some found s = absurd (some.1.0 refl)
level_each P n h b low limit place ((e ∷ es) ∷ []) of some found s =
    let s : EachEntry P low limit (e ∷ es) = subst (EachEntry P low limit) (append-nil (e ∷ es)) s in
    let k = each_first P low limit e es s in
    (k.0, k.1, omega (arith, k.1), named_sound n h b place limit (e ∷ es) found.0 (of e.tile_id limit (e ∷ es) (each_right P low limit [] e es s)))
level_each P n h b low limit place ((e ∷ es) ∷ (f ∷ fs) ∷ ls) of some found s =
    let left = each_left P low limit (e ∷ es) f (fs ++ joined ls) s in
    let k = each_first P low f.tile_id e es left in (
      k.0,
      k.1,
      omega (arith, k.1),
      named_sound n h b place f.tile_id (e ∷ es) found.0 (of e.tile_id f.tile_id (e ∷ es) (each_right P low f.tile_id [] e es left)),
      level_each P n h b f.tile_id limit (place + length (dir_bytes (e ∷ es))) ((f ∷ fs) ∷ ls) of some.1 found.1 (each_right P low limit (e ∷ es) f (fs ++ joined ls) s),
    )

level_sound : (n : ℕ) (h : Header) (b : List ℕ) (low limit place : ℕ) (ls : List (List Entry)) → AllSome ls → AllFound h b place ls → SoundDirectory n h b low limit (joined ls) → SoundDirectory (suc n) h b low limit (root_of place ls)
level_sound zero h b low limit place ls some found s = level_each (λ e end. (e.run_length ≢ 0) × HasData h b e) zero h b low limit place ls (λ low limit l s. s) some found s
level_sound (suc n) h b low limit place ls some found s =
    level_each (λ e end. (e.run_length ≢ 0 → HasData h b e) × (e.run_length ≡ 0 → (leaf : List Entry) × (leaf_of h b e ≡ Ok leaf) × SoundDirectory n h b e.tile_id end leaf)) (suc n) h b low limit place ls (λ low limit l s. s) some found s

pub tower_sound : (n : ℕ) (h : Header) (b : List ℕ) (low limit : ℕ) (ts : List (ℕ × List (List Entry))) (root es : List Entry) → Tower h b ts root es → SoundDirectory n h b low limit es → SoundDirectory (deep ts n) h b low limit root
tower_sound n h b low limit [] root es w s = subst (SoundDirectory n h b low limit) (sym w) s
tower_sound n h b low limit (t ∷ ts) root es w s =
    subst (SoundDirectory (suc (deep ts n)) h b low limit) (sym w.0) (level_sound (deep ts n) h b low limit t.0 t.1 w.1 w.2 (tower_sound n h b low limit ts (joined t.1) es w.3 s))

-- the entries that are read
level_entries : (n : ℕ) (h : Header) (b : List ℕ) (place : ℕ) (ls : List (List Entry)) → AllFound h b place ls → flat_map (entries_by (suc n) h b) (root_of place ls) ≡ flat_map (entries_by n h b) (joined ls)
level_entries n h b place [] f = refl
level_entries n h b place (l ∷ ls) f =
    ap (λ r. entries_below (entries_by n h b) r ++ flat_map (entries_by (suc n) h b) (root_of (place + length (dir_bytes l)) ls)) f.0
    ∙ (ap (λ z. flat_map (entries_by n h b) l ++ z) (level_entries n h b (place + length (dir_bytes l)) ls f.1)
    ∙ sym (flat_map-append (entries_by n h b) l (joined ls)))

pub tower_entries : (n : ℕ) (h : Header) (b : List ℕ) (ts : List (ℕ × List (List Entry))) (root es : List Entry) → Tower h b ts root es → flat_map (entries_by (deep ts n) h b) root ≡ flat_map (entries_by n h b) es
tower_entries n h b [] root es w = ap (flat_map (entries_by n h b)) w
tower_entries n h b (t ∷ ts) root es w = ap (flat_map (entries_by (suc (deep ts n)) h b)) w.0 ∙ (level_entries (deep ts n) h b t.0 t.1 w.2 ∙ tower_entries n h b ts (joined t.1) es w.3)
