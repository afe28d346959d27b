-- Runs that are laid over others.
use Rattle.tile_join.proofs.Common.{ap, append-nil, append_assoc, AreLeft, AreOrdered, arith, between, Bool, cut_out, end_of, Entry, entry, false, if◌then◌else◌, InOrder, List, MAX_TILE_ID, max, min, nat_lt, nat_tests, None, numbered, over}
use Rattle.tile_join.proofs.Common.{Piece, piece, refl, subst, sym, true, ℕ, [], ◌++◌, ◌+◌, ◌-◌, ◌<◌, ◌∙◌, ◌∷◌, ◌≡◌, ◌≤◌}

pub not_less : (m n : ℕ) → n ≤ m → nat_lt m n ≡ false
not_less m n le = grind (arith, nat_tests)

is_less : (m n : ℕ) → nat_lt m n ≡ true → m < n
is_less m n is = grind (arith, nat_tests)

-- nothing of a run lies behind its end, or before its first id
no_part : (low high : ℕ) (p : Piece) → min (end_of p) high ≤ max p.entry.tile_id low → cut_out low high p ≡ []
no_part low high p le =
    ap (λ b. if b then piece p.source (entry (max p.entry.tile_id low) p.entry.offset p.entry.length (min (end_of p) high - max p.entry.tile_id low)) ∷ [] else []) (not_less (max p.entry.tile_id low) (min (end_of p) high) le)

none_past : (low high : ℕ) (p : Piece) → end_of p ≤ low → cut_out low high p ≡ []
none_past low high p le = no_part low high p (omega (arith, le))

none_before : (low high : ℕ) (p : Piece) → high ≤ p.entry.tile_id → cut_out low high p ≡ []
none_before low high p le = no_part low high p (omega (arith, le))

pub between_before : (low high n from : ℕ) (ps : List Piece) → InOrder n from ps → high ≤ from → between low high ps ≡ []
between_before low high n from [] o le = refl
between_before low high n from (p ∷ ps) o le =
    ap (λ l. l ++ between low high ps) (none_before low high p (omega (arith, o.1, le))) ∙ between_before low high n (end_of p) ps o.4 (omega (arith, o.1, le))

-- pushing: what is pushed and what is left to be
pub record Pushing (low end : ℕ) (all rest old now : List Piece) : Type 0 where
  pub pushed : now ++ between low end rest ≡ old ++ between low end all
  pub left : AreLeft end all rest
  pub ordered : (n : ℕ) × (from : ℕ) × InOrder n from rest

pub nothing_pushed : (low end : ℕ) (all old : List Piece) → (n : ℕ) × (from : ℕ) × InOrder n from all → Pushing low end all all old old
nothing_pushed low end all old o = record { pushed = refl; left = λ low high le. refl; ordered = o }

-- a run that ends before the end
pub part_pushed : (low end : ℕ) (all rest others old now next : List Piece) (p : Piece) → rest ≡ p ∷ others → next ≡ now ++ cut_out low end p → end_of p ≤ end → Pushing low end all rest old now → Pushing low end all others old next
part_pushed low end all rest others old now next p first is ends s =
    let o : InOrder s.ordered.0 s.ordered.1 (p ∷ others) = subst (InOrder s.ordered.0 s.ordered.1) first s.ordered.2 in
    record {
      pushed = ap (λ l. l ++ between low end others) is ∙ append_assoc now (cut_out low end p) (between low end others) ∙ sym (ap (λ l. now ++ between low end l) first) ∙ s.pushed;
      left = λ from high le. sym (ap (between from high) first ∙ ap (λ l. l ++ between from high others) (none_past from high p (omega (arith, ends, le)))) ∙ s.left from high le;
      ordered = (s.ordered.0, end_of p, o.4);
    }

-- one that goes on behind it is the last
pub last_pushed : (low end : ℕ) (all rest others old now next : List Piece) (p : Piece) → rest ≡ p ∷ others → next ≡ now ++ cut_out low end p → end ≤ end_of p → Pushing low end all rest old now → next ≡ old ++ between low end all
last_pushed low end all rest others old now next p first is goes s =
    let o : InOrder s.ordered.0 s.ordered.1 (p ∷ others) = subst (InOrder s.ordered.0 s.ordered.1) first s.ordered.2 in
    is ∙ sym (ap (λ l. now ++ between low end l) first ∙ ap (λ l. now ++ (cut_out low end p ++ l)) (between_before low end s.ordered.0 (end_of p) others o.4 goes) ∙ ap (λ l. now ++ l) (append-nil (cut_out low end p))) ∙ s.pushed

pub all_pushed : (low end : ℕ) (all rest old now : List Piece) → rest ≡ [] → Pushing low end all rest old now → now ≡ old ++ between low end all
all_pushed low end all rest old now none s = sym (ap (λ l. now ++ between low end l) none ∙ append-nil now) ∙ s.pushed

-- laying over what is left is laying over all, from where nothing but that is met
pub over_left : (low end source : ℕ) (es : List Entry) (all some : List Piece) → AreLeft end all some → end ≤ low → low ≤ MAX_TILE_ID + 1 → AreOrdered low es None → over low (numbered source es) some ≡ over low (numbered source es) all
over_left low end source [] all some left le most o = left low (MAX_TILE_ID + 1) le
over_left low end source (e ∷ es) all some left le most o =
    ap (λ l. l ++ piece source e ∷ over (e.tile_id + e.run_length) (numbered source es) some) (left low e.tile_id le)
    ∙ ap (λ l. between low e.tile_id all ++ piece source e ∷ l) (over_left (e.tile_id + e.run_length) end source es all some left (omega (arith, le, o.0)) o.2 o.3)

-- laying: what is laid and what is left to be
pub record Laying (source : ℕ) (entries : List Entry) (pieces : List Piece) (low : ℕ) (rest : List Entry) (below laid : List Piece) : Type 0 where
  pub so : laid ++ over low (numbered source rest) below ≡ over 0 (numbered source entries) pieces
  pub most : low ≤ MAX_TILE_ID + 1
  pub rises : AreOrdered low rest None
  pub ordered : (n : ℕ) × (from : ℕ) × InOrder n from below

pub laid_more : (source : ℕ) (entries : List Entry) (pieces : List Piece) (low : ℕ) (rest others : List Entry) (e : Entry) (below left laid now more : List Piece) (id next : ℕ) → rest ≡ e ∷ others → id ≡ e.tile_id → next ≡ e.tile_id + e.run_length → now ≡ laid ++ between low id below
    → more ≡ now ++ piece source e ∷ [] → AreLeft id below left → (n : ℕ) × (from : ℕ) × InOrder n from left → Laying source entries pieces low rest below laid → Laying source entries pieces next others left more
laid_more source entries pieces low rest others e below left laid now more id next first at ends is added some ordered s =
    let o : AreOrdered low (e ∷ others) None = subst (λ l. AreOrdered low l None) first s.rises in
    record {
      so =
          ap (λ l. l ++ over next (numbered source others) left) added
          ∙ append_assoc now (piece source e ∷ []) (over next (numbered source others) left)
          ∙ ap (λ n. now ++ piece source e ∷ over n (numbered source others) left) ends
          ∙ ap (λ l. now ++ piece source e ∷ l) (over_left (e.tile_id + e.run_length) id source others below left some (omega (arith, at)) o.2 o.3)
          ∙ ap (λ l. l ++ piece source e ∷ over (e.tile_id + e.run_length) (numbered source others) below) (is ∙ ap (λ n. laid ++ between low n below) at)
          ∙ append_assoc laid (between low e.tile_id below) (piece source e ∷ over (e.tile_id + e.run_length) (numbered source others) below)
          ∙ sym (ap (λ l. laid ++ over low (numbered source l) below) first)
          ∙ s.so;
      most = omega (arith, ends, o.2);
      rises = subst (λ n. AreOrdered n others None) (sym ends) o.3;
      ordered = ordered;
    }

pub all_laid : (source : ℕ) (entries : List Entry) (pieces : List Piece) (low : ℕ) (rest : List Entry) (below laid now : List Piece) → rest ≡ [] → now ≡ laid ++ between low (MAX_TILE_ID + 1) below → Laying source entries pieces low rest below laid → now ≡ over 0 (numbered source entries) pieces
all_laid source entries pieces low rest below laid now none is s = is ∙ sym (ap (λ l. laid ++ over low (numbered source l) below) none) ∙ s.so

-- what is laid is in order
order_less : (n low from : ℕ) (ps : List Piece) → low ≤ from → InOrder n from ps → InOrder n low ps
order_less n low from [] le o = omega (arith, le, o)
order_less n low from (p ∷ ps) le o = (o.0, omega (arith, le, o.1), o.2, o.3, o.4)

pub between_then : (n low high from m : ℕ) (ps rest : List Piece) → m ≤ high → m ≤ max low from → InOrder n from ps → InOrder (n + 1) high rest → InOrder (n + 1) m (between low high ps ++ rest)
between_then n low high from m [] rest most le o r = order_less (n + 1) m high rest most r
between_then n low high from m (p ∷ ps) rest most le o r = by_test (nat_lt (max p.entry.tile_id low) (min (end_of p) high)) refl (λ k top more. between_then n low high (end_of p) k ps rest top more o.4 r)
  where
    by_test : (t : Bool) → nat_lt (max p.entry.tile_id low) (min (end_of p) high) ≡ t → ((k : ℕ) → k ≤ high → k ≤ max low (end_of p) → InOrder (n + 1) k (between low high ps ++ rest))
        → InOrder (n + 1) m (((if t then piece p.source (entry (max p.entry.tile_id low) p.entry.offset p.entry.length (min (end_of p) high - max p.entry.tile_id low)) ∷ [] else []) ++ between low high ps) ++ rest)
    by_test false test deeper = deeper m most (omega (arith, le, o.1))
    by_test true test deeper =
        let less : max p.entry.tile_id low < min (end_of p) high = is_less (max p.entry.tile_id low) (min (end_of p) high) test in (
          omega (arith, o.0),
          omega (arith, le, o.1),
          omega (arith, less),
          omega (arith, less, o.3),
          deeper (max p.entry.tile_id low + (min (end_of p) high - max p.entry.tile_id low)) (omega (arith, less)) (omega (arith, less)),
        )

pub over_ordered : (n low from : ℕ) (es : List Entry) (others : List Piece) → low ≤ MAX_TILE_ID + 1 → AreOrdered low es None → InOrder n from others → InOrder (n + 1) low (over low (numbered n es) others)
over_ordered n low from [] others most o p =
    subst (InOrder (n + 1) low) (append-nil (between low (MAX_TILE_ID + 1) others)) (between_then n low (MAX_TILE_ID + 1) from low others [] most (omega arith) p (omega arith))
over_ordered n low from (e ∷ es) others most o p =
    between_then n low e.tile_id from low others (piece n e ∷ over (e.tile_id + e.run_length) (numbered n es) others) o.0 (omega arith) p
    (omega arith, omega arith, o.1, o.2, over_ordered n (e.tile_id + e.run_length) from es others o.2 o.3 p)
