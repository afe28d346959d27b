-- The tiles of runs that are laid over others.
use Rattle.tile_join.proofs.Common.{and_from, and_parts, ap, AreOrdered, arith, between, Bool, cut_out, end_of, Entry, entry, false, if◌then◌else◌, InOrder, List, MAX_TILE_ID, max, min, nat_le, nat_lt, None}
use Rattle.tile_join.proofs.Common.{none-some, numbered, Option, over, Piece, piece, refl, Some, subst, sym, true, true≢false, ℕ, [], ◌++◌, ◌+◌, ◌-◌, ◌<◌, ◌∙◌, ◌∷◌, ◌≡◌, ◌≤◌, ◌⊎◌, inl, inr}
use Rattle.pm_walk.proofs.CoveringLemmas.{covering, has_id, in_run, lt_by, le_by, never, none_below, to_le, to_lt}
use Rattle.std.proofs.lemmas.Bool.{cases_lt}
use Rattle.tile_join.proofs.OverLemmas.{over_ordered}

-- the first run that has an id
abbrev pub spot : ℕ → List Piece → Option Piece
spot t [] = None
spot t (p ∷ ps) = if has_id t p.entry then Some p else spot t ps

-- a part of a run, by where its contents lie
abbrev pub SameData : Piece → Piece → Type 0
SameData p q = (q.source ≡ p.source) × (q.entry.offset ≡ p.entry.offset) × (q.entry.length ≡ p.entry.length)

-- at an id two lists have runs with the same contents, or none
abbrev pub LooksAs : Option Piece → Option Piece → Type 0
LooksAs None None = Unit {0}
LooksAs None (Some q) = ⊥
LooksAs (Some p) None = ⊥
LooksAs (Some p) (Some q) = SameData p q

pub spot_here : (t : ℕ) (p : Piece) (ps : List Piece) → has_id t p.entry ≡ true → spot t (p ∷ ps) ≡ Some p
spot_here t p ps is = ap (λ b. if b then Some p else spot t ps) is

pub spot_later : (t : ℕ) (p : Piece) (ps : List Piece) → has_id t p.entry ≡ false → spot t (p ∷ ps) ≡ spot t ps
spot_later t p ps is = ap (λ b. if b then Some p else spot t ps) is

pub spot_behind : (t : ℕ) (xs ys : List Piece) → spot t xs ≡ None → spot t (xs ++ ys) ≡ spot t ys
spot_behind t [] ys none = refl
spot_behind t (x ∷ xs) ys none = by (has_id t x.entry) (λ n. spot_behind t xs ys n) none
  where
    by : (b : Bool) → (spot t xs ≡ None → spot t (xs ++ ys) ≡ spot t ys) → (if b then Some x else spot t xs) ≡ None → (if b then Some x else spot t (xs ++ ys)) ≡ spot t ys
    by true rest none = absurd (none-some x (sym none))
    by false rest none = rest none

pub spot_before : (t : ℕ) (xs ys : List Piece) → spot t ys ≡ None → spot t (xs ++ ys) ≡ spot t xs
spot_before t [] ys none = none
spot_before t (x ∷ xs) ys none = ap (λ o. if has_id t x.entry then Some x else o) (spot_before t xs ys none)

-- whether a run has an id, by numbers
has_by : (t id run : ℕ) → id ≤ t → t < id + run → in_run t id run ≡ true
has_by t id run low high = and_from (nat_le id t) (nat_lt t (id + run)) (to_le id t low) (to_lt t (id + run) high)

hasnt_low : (t id run : ℕ) → t < id → in_run t id run ≡ false
hasnt_low t id run less = never (in_run t id run) (λ is. let h = and_parts (nat_le id t) (nat_lt t (id + run)) is in let le = le_by id t h.0 in absurd (omega (arith, less, le)))

hasnt_high : (t id run : ℕ) → id + run ≤ t → in_run t id run ≡ false
hasnt_high t id run le = never (in_run t id run) (λ is. let h = and_parts (nat_le id t) (nat_lt t (id + run)) is in let less = lt_by t (id + run) h.1 in absurd (omega (arith, less, le)))

-- in order, none has an id below the first, or past those of tiles
pub spot_low : (t n low : ℕ) (ps : List Piece) → InOrder n low ps → t < low → spot t ps ≡ None
spot_low t n low [] o less = refl
spot_low t n low (p ∷ ps) o less = spot_later t p ps (hasnt_low t p.entry.tile_id p.entry.run_length (omega (arith, o.1, less))) ∙ spot_low t n (end_of p) ps o.4 (omega (arith, o.1, less))

pub spot_past : (t n low : ℕ) (ps : List Piece) → InOrder n low ps → MAX_TILE_ID + 1 ≤ t → spot t ps ≡ None
spot_past t n low [] o le = refl
spot_past t n low (p ∷ ps) o le = spot_later t p ps (hasnt_high t p.entry.tile_id p.entry.run_length (omega (arith, o.3, le))) ∙ spot_past t n (end_of p) ps o.4 le

-- the parts between two ids have those between
outside_one : (t low high : ℕ) (p : Piece) (ps : List Piece) → (t < low) ⊎ (high ≤ t) → spot t ps ≡ None → spot t (cut_out low high p ++ ps) ≡ None
outside_one t low high p ps out none = by (nat_lt (max p.entry.tile_id low) (min (end_of p) high)) refl
  where
    first : ℕ
    first = max p.entry.tile_id low

    last : ℕ
    last = min (end_of p) high

    hasnt : first < last → in_run t first (last - first) ≡ false
    hasnt less = elim out [
      | inl below ↦ hasnt_low t first (last - first) (omega (arith, below))
      | inr above ↦ hasnt_high t first (last - first) (omega (arith, above, less))
    ]

    by : (b : Bool) → nat_lt (max p.entry.tile_id low) (min (end_of p) high) ≡ b
        → spot t ((if b then piece p.source (entry (max p.entry.tile_id low) p.entry.offset p.entry.length (min (end_of p) high - max p.entry.tile_id low)) ∷ [] else []) ++ ps) ≡ None
    by true test = ap (λ b. if b then Some (piece p.source (entry (max p.entry.tile_id low) p.entry.offset p.entry.length (min (end_of p) high - max p.entry.tile_id low))) else spot t ps) (hasnt (lt_by (max p.entry.tile_id low) (min (end_of p) high) test)) ∙ none
    by false test = none

pub between_outside : (t low high : ℕ) (ps : List Piece) → (t < low) ⊎ (high ≤ t) → spot t (between low high ps) ≡ None
between_outside t low high [] out = refl
between_outside t low high (p ∷ ps) out = outside_one t low high p (between low high ps) out (between_outside t low high ps out)

-- and have what the runs have there
in_one : (t low high : ℕ) (p : Piece) (ps : List Piece) → low ≤ t → t < high → has_id t p.entry ≡ true → LooksAs (Some p) (spot t (cut_out low high p ++ ps))
in_one t low high p ps from to has =
    let h = and_parts (nat_le p.entry.tile_id t) (nat_lt t (p.entry.tile_id + p.entry.run_length)) has in
    let start : p.entry.tile_id ≤ t = le_by p.entry.tile_id t h.0 in
    let ends : t < end_of p = lt_by t (end_of p) h.1 in
    let test : nat_lt (max p.entry.tile_id low) (min (end_of p) high) ≡ true = to_lt (max p.entry.tile_id low) (min (end_of p) high) (omega (arith, start, ends, from, to)) in
    let here : in_run t (max p.entry.tile_id low) (min (end_of p) high - max p.entry.tile_id low) ≡ true = has_by t (max p.entry.tile_id low) (min (end_of p) high - max p.entry.tile_id low) (omega (arith, start, from)) (omega (arith, start, ends, from, to)) in
    subst (LooksAs (Some p))
    (sym (ap (λ b. spot t ((if b then piece p.source (entry (max p.entry.tile_id low) p.entry.offset p.entry.length (min (end_of p) high - max p.entry.tile_id low)) ∷ [] else []) ++ ps)) test
    ∙ spot_here t (piece p.source (entry (max p.entry.tile_id low) p.entry.offset p.entry.length (min (end_of p) high - max p.entry.tile_id low))) ps here))
    (refl, refl, refl)

not_in_one : (t low high : ℕ) (p : Piece) (ps : List Piece) → has_id t p.entry ≡ false → spot t (cut_out low high p ++ ps) ≡ spot t ps
not_in_one t low high p ps out = by (nat_lt (max p.entry.tile_id low) (min (end_of p) high)) refl
  where
    apart : max p.entry.tile_id low < min (end_of p) high → in_run t (max p.entry.tile_id low) (min (end_of p) high - max p.entry.tile_id low) ≡ false
    apart less = never (in_run t (max p.entry.tile_id low) (min (end_of p) high - max p.entry.tile_id low)) (λ is.
        let h = and_parts (nat_le (max p.entry.tile_id low) t) (nat_lt t (max p.entry.tile_id low + (min (end_of p) high - max p.entry.tile_id low))) is in
        let from = le_by (max p.entry.tile_id low) t h.0 in
        let to = lt_by t (max p.entry.tile_id low + (min (end_of p) high - max p.entry.tile_id low)) h.1 in
        true≢false (sym (has_by t p.entry.tile_id p.entry.run_length (omega (arith, from)) (omega (arith, less, to))) ∙ out))

    by : (b : Bool) → nat_lt (max p.entry.tile_id low) (min (end_of p) high) ≡ b
        → spot t ((if b then piece p.source (entry (max p.entry.tile_id low) p.entry.offset p.entry.length (min (end_of p) high - max p.entry.tile_id low)) ∷ [] else []) ++ ps) ≡ spot t ps
    by true test = spot_later t (piece p.source (entry (max p.entry.tile_id low) p.entry.offset p.entry.length (min (end_of p) high - max p.entry.tile_id low))) ps (apart (lt_by (max p.entry.tile_id low) (min (end_of p) high) test))
    by false test = refl

pub between_inside : (t low high : ℕ) (ps : List Piece) → low ≤ t → t < high → LooksAs (spot t ps) (spot t (between low high ps))
between_inside t low high [] from to = tt
between_inside t low high (p ∷ ps) from to = by (has_id t p.entry) refl (between_inside t low high ps from to)
  where
    by : (b : Bool) → has_id t p.entry ≡ b → LooksAs (spot t ps) (spot t (between low high ps)) → LooksAs (if b then Some p else spot t ps) (spot t (cut_out low high p ++ between low high ps))
    by true has rest = in_one t low high p (between low high ps) from to has
    by false out rest = subst (LooksAs (spot t ps)) (sym (not_in_one t low high p (between low high ps) out)) rest

-- laid over others: the run of the later one, where it has the id, and else what the others have
pub over_has : (t n low : ℕ) (es : List Entry) (others : List Piece) (e : Entry) → AreOrdered low es None → covering t es ≡ Some e → spot t (over low (numbered n es) others) ≡ Some (piece n e)
over_has t n low [] others e o is = absurd (none-some e is)
over_has t n low (d ∷ es) others e o is = by (has_id t d) refl (λ at. over_has t n (d.tile_id + d.run_length) es others e o.3 at) is
  where
    before : d.tile_id ≤ t → spot t (between low d.tile_id others) ≡ None
    before le = between_outside t low d.tile_id others (inr le)

    by : (b : Bool) → has_id t d ≡ b → (covering t es ≡ Some e → spot t (over (d.tile_id + d.run_length) (numbered n es) others) ≡ Some (piece n e)) → (if b then Some d else covering t es) ≡ Some e → spot t (between low d.tile_id others ++ piece n d ∷ over (d.tile_id + d.run_length) (numbered n es) others) ≡ Some (piece n e)
    by true has rest is =
        let h = and_parts (nat_le d.tile_id t) (nat_lt t (d.tile_id + d.run_length)) has in
        let same : d ≡ e = cc in
        spot_behind t (between low d.tile_id others) (piece n d ∷ over (d.tile_id + d.run_length) (numbered n es) others) (before (le_by d.tile_id t h.0))
        ∙ spot_here t (piece n d) (over (d.tile_id + d.run_length) (numbered n es) others) has ∙ ap (λ x. Some (piece n x)) same
    by false out rest is = past (cases_lt t (d.tile_id + d.run_length))
      where
        past : (t < d.tile_id + d.run_length) ⊎ (d.tile_id + d.run_length ≤ t) → spot t (between low d.tile_id others ++ piece n d ∷ over (d.tile_id + d.run_length) (numbered n es) others) ≡ Some (piece n e)
        past (inl less) = absurd (none-some e (sym (none_below t (d.tile_id + d.run_length) es None o.3 less) ∙ is))
        past (inr le) =
            spot_behind t (between low d.tile_id others) (piece n d ∷ over (d.tile_id + d.run_length) (numbered n es) others) (before (omega (arith, le)))
            ∙ spot_later t (piece n d) (over (d.tile_id + d.run_length) (numbered n es) others) out ∙ rest is

pub over_lacks : (t n from low : ℕ) (es : List Entry) (others : List Piece) → low ≤ t → AreOrdered low es None → InOrder n from others → covering t es ≡ None → LooksAs (spot t others) (spot t (over low (numbered n es) others))
over_lacks t n from low [] others le o p none = by (cases_lt t (MAX_TILE_ID + 1))
  where
    by : (t < MAX_TILE_ID + 1) ⊎ (MAX_TILE_ID + 1 ≤ t) → LooksAs (spot t others) (spot t (between low (MAX_TILE_ID + 1) others))
    by (inl less) = between_inside t low (MAX_TILE_ID + 1) others le less
    by (inr past) = subst (λ o. LooksAs o (spot t (between low (MAX_TILE_ID + 1) others))) (sym (spot_past t n from others p past)) (subst (LooksAs None) (sym (between_outside t low (MAX_TILE_ID + 1) others (inr past))) tt)
over_lacks t n from low (d ∷ es) others le o p none = by (has_id t d) refl (λ ends at. over_lacks t n from (d.tile_id + d.run_length) es others ends o.3 p at) none
  where
    all : List Piece
    all = over (d.tile_id + d.run_length) (numbered n es) others

    by : (b : Bool) → has_id t d ≡ b → (d.tile_id + d.run_length ≤ t → covering t es ≡ None → LooksAs (spot t others) (spot t all)) → (if b then Some d else covering t es) ≡ None → LooksAs (spot t others) (spot t (between low d.tile_id others ++ piece n d ∷ over (d.tile_id + d.run_length) (numbered n es) others))
    by true has rest none = absurd (none-some d (sym none))
    by false out rest none = past (cases_lt t d.tile_id) (cases_lt t (d.tile_id + d.run_length))
      where
        past : (t < d.tile_id) ⊎ (d.tile_id ≤ t) → (t < d.tile_id + d.run_length) ⊎ (d.tile_id + d.run_length ≤ t) → LooksAs (spot t others) (spot t (between low d.tile_id others ++ piece n d ∷ over (d.tile_id + d.run_length) (numbered n es) others))
        past (inl less) ends =
            let later : spot t (piece n d ∷ over (d.tile_id + d.run_length) (numbered n es) others) ≡ None =
            spot_later t (piece n d) (over (d.tile_id + d.run_length) (numbered n es) others) out ∙ spot_low t (n + 1) (d.tile_id + d.run_length) (over (d.tile_id + d.run_length) (numbered n es) others) (over_ordered n (d.tile_id + d.run_length) from es others o.2 o.3 p) (omega (arith, less)) in
            subst (LooksAs (spot t others)) (sym (spot_before t (between low d.tile_id others) (piece n d ∷ over (d.tile_id + d.run_length) (numbered n es) others) later)) (between_inside t low d.tile_id others le less)
        past (inr start) (inl ends) = absurd (true≢false (sym (has_by t d.tile_id d.run_length start ends) ∙ out))
        past (inr start) (inr ends) =
            subst (LooksAs (spot t others))
            (sym (spot_behind t (between low d.tile_id others) (piece n d ∷ over (d.tile_id + d.run_length) (numbered n es) others) (between_outside t low d.tile_id others (inr start)) ∙ spot_later t (piece n d) (over (d.tile_id + d.run_length) (numbered n es) others) out))
            (rest ends none)
