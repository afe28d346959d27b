-- The tile entries of a whole walk that isn't refused pass their tests.
use Rattle.pm_walk.proofs.Common.{all_walked, AllShallow, ap, Archive, AreOrdered, arith, Bool, end_before, Entry, entry_walk, Err, false, full, Header, if◌then◌else◌, IsSome, leaf_of, leaf_walk}
use Rattle.pm_walk.proofs.Common.{List, nat_eq, None, none-some, nothing_met, Ok, Opened, Option, PmtError, range_of, range_refusal, refl, Result, run_refusal, same_Some, Some, subst, suc, sym}
use Rattle.pm_walk.proofs.Common.{tile_refusal, tile_walk, true, true≢false, walk_each, Walked, walked, Whole, zero, ℕ, [], ◌++◌, ◌+◌, ◌∙◌, ◌∷◌, ◌≡◌, ◌≢◌}
use Rattle.pm_walk.proofs.ClippingLemmas.{from_low}
use Rattle.pm_walk.proofs.OrderLemmas.{unrefused, walked_ordered}
use Rattle.pm_walk.proofs.TestingLemmas.{run_shallow, tile_stands}
use Rattle.pm_walk.proofs.WalkingLemmas.{walked_is}

-- the contents of these lie in the archive, and are at least one byte
abbrev pub contents_at : Header → List ℕ → Entry → Option (List ℕ)
contents_at h b e = range_of b (h.data_offset + e.offset) e.length

abbrev pub AllThere : Header → List ℕ → List Entry → Type 0
AllThere h b [] = Unit {0}
AllThere h b (e ∷ es) = IsSome (contents_at h b e) × (e.length ≢ 0) × AllThere h b es

abbrev pub AllPass : Header → List ℕ → List Entry → Type 0
AllPass h b [] = Unit {0}
AllPass h b (e ∷ es) = (tile_refusal Whole h b e ≡ None) × AllPass h b es

pass_append : (h : Header) (b : List ℕ) (xs ys : List Entry) → AllPass h b xs → AllPass h b ys → AllPass h b (xs ++ ys)
pass_append h b [] ys p q = q
pass_append h b (x ∷ xs) ys p q = (p.0, pass_append h b xs ys p.1 q)

abbrev Passes : Header → List ℕ → (Entry → Option ℕ → Walked) → Type 0
Passes h b f = (e : Entry) (end : Option ℕ) → (f e end).refusal ≡ None → AllPass h b (f e end).entries

each_passes : (h : Header) (b : List ℕ) (left : ℕ) (f : Entry → Option ℕ → Walked) → Passes h b f → (before : Option Entry) (low : ℕ) (limit : Option ℕ) (es : List Entry)
    → (walk_each left f before low limit es).refusal ≡ None → AllPass h b (walk_each left f before low limit es).entries
each_passes h b left f good before low limit [] fine = tt
each_passes h b left f good before low limit (e ∷ es) fine =
    let u = unrefused left f before low limit e es fine in
    subst (AllPass h b) (sym u.entries)
    (pass_append h b (f e (end_before es limit)).entries (walk_each left f (Some e) low limit es).entries (good e (end_before es limit) u.first) (each_passes h b left f good (Some e) low limit es u.rest))

abbrev PassBelow : Header → List ℕ → (ℕ → Option ℕ → List Entry → Walked) → Type 0
PassBelow h b walk = (low : ℕ) (limit : Option ℕ) (es : List Entry) → (walk low limit es).refusal ≡ None → AllPass h b (walk low limit es).entries

entry_passes : (below : Option (ℕ → Option ℕ → List Entry → Walked)) (h : Header) (b : List ℕ)
    → ((inner : ℕ → Option ℕ → List Entry → Walked) → below ≡ Some inner → PassBelow h b inner) → Passes h b (entry_walk Whole below h b [])
entry_passes below h b deeper e end fine = by_run (nat_eq e.run_length 0) refl fine
  where
    by_leaf : (inner : ℕ → Option ℕ → List Entry → Walked) → below ≡ Some inner → (l : Result (List Entry) PmtError) → (leaf_walk (inner e.tile_id end) l).refusal ≡ None → AllPass h b (leaf_walk (inner e.tile_id end) l).entries
    by_leaf inner at (Ok leaf) fine = deeper inner at e.tile_id end leaf fine
    by_leaf inner at (Err x) fine = absurd (none-some (Archive x) (sym fine))

    by_depth : (o : Option (ℕ → Option ℕ → List Entry → Walked)) → below ≡ o
        → (elim o as (λ _. Walked) [ None ↦ nothing_met | Some inner ↦ leaf_walk (inner e.tile_id end) (leaf_of h b e) ]).refusal ≡ None
        → AllPass h b (elim o as (λ _. Walked) [ None ↦ nothing_met | Some inner ↦ leaf_walk (inner e.tile_id end) (leaf_of h b e) ]).entries
    by_depth None at fine = tt
    by_depth (Some inner) at fine = by_leaf inner at (leaf_of h b e) fine

    by_run : (t : Bool) → nat_eq e.run_length 0 ≡ t
        → (elim t as (λ _. Walked) [ false ↦ tile_walk Whole h b e | true ↦ elim below as (λ _. Walked) [ None ↦ nothing_met | Some inner ↦ leaf_walk (inner e.tile_id end) (leaf_of h b e) ] ]).refusal ≡ None
        → AllPass h b (elim t as (λ _. Walked) [ false ↦ tile_walk Whole h b e | true ↦ elim below as (λ _. Walked) [ None ↦ nothing_met | Some inner ↦ leaf_walk (inner e.tile_id end) (leaf_of h b e) ] ]).entries
    by_run false run fine =
        let s = tile_stands Whole h b e fine in
        subst (AllPass h b) (sym s.1) (s.0, tt)
    by_run true run fine = by_depth below refl fine

deeper_passes : (h : Header) (b : List ℕ) (walk : ℕ → Option ℕ → List Entry → Walked) → PassBelow h b walk → (inner : ℕ → Option ℕ → List Entry → Walked) → Some walk ≡ Some inner → PassBelow h b inner
deeper_passes h b walk holds inner at = subst (PassBelow h b) (same_Some walk inner at) holds

walked_passes : (n : ℕ) (h : Header) (b : List ℕ) → PassBelow h b (walked Whole n h b [])
walked_passes zero h b low limit es fine =
    let same = walked_is Whole zero h b [] low limit es in
    subst (λ w. AllPass h b w.entries) (sym same)
    (each_passes h b zero (entry_walk Whole None h b []) (entry_passes None h b (λ inner at. absurd (none-some inner at))) None low limit es (sym (ap (λ w. w.refusal) same) ∙ fine))
walked_passes (suc n) h b low limit es fine =
    let same = walked_is Whole (suc n) h b [] low limit es in
    subst (λ w. AllPass h b w.entries) (sym same)
    (each_passes h b (suc n) (entry_walk Whole (Some (walked Whole n h b [])) h b []) (entry_passes (Some (walked Whole n h b [])) h b (deeper_passes h b (walked Whole n h b []) (walked_passes n h b))) None low limit es (sym (ap (λ w. w.refusal) same) ∙ fine))

there_passes : (r : Option (List ℕ)) (e : Entry) → range_refusal r e ≡ None → IsSome r × (run_refusal e ≡ None)
there_passes None e fine = absurd (none-some _ (sym fine))
there_passes (Some bytes) e fine = (refl, fine)

not_empty : (n : ℕ) → nat_eq n 0 ≡ false → n ≢ 0
not_empty n is = λ zero. true≢false (sym (ap (λ k. nat_eq k 0) zero) ∙ is)

-- entries that pass and have bytes: their contents lie there, and none is of zoom 31
pub full_there : (h : Header) (b : List ℕ) (es : List Entry) → AllPass h b es → AllThere h b (full es)
full_there h b [] p = tt
full_there h b (e ∷ es) p = by_empty (nat_eq e.length 0) refl (full_there h b es p.1)
  where
    by_empty : (t : Bool) → nat_eq e.length 0 ≡ t → AllThere h b (full es) → AllThere h b ((if t then [] else e ∷ []) ++ full es)
    by_empty true is rest = rest
    by_empty false is rest = ((there_passes (contents_at h b e) e p.0).0, not_empty e.length is, rest)

pub full_shallow : (h : Header) (b : List ℕ) (es : List Entry) → AllPass h b es → AllShallow (full es)
full_shallow h b [] p = tt
full_shallow h b (e ∷ es) p = by_empty (nat_eq e.length 0) refl (full_shallow h b es p.1)
  where
    by_empty : (t : Bool) → nat_eq e.length 0 ≡ t → AllShallow (full es) → AllShallow ((if t then [] else e ∷ []) ++ full es)
    by_empty true is rest = rest
    by_empty false is rest = (run_shallow e is (there_passes (contents_at h b e) e p.0).1, rest)

-- entries that have bytes are in order where all are
pub full_ordered : (low : ℕ) (es : List Entry) (end : Option ℕ) → AreOrdered low es end → AreOrdered low (full es) end
full_ordered low [] end o = o
full_ordered low (e ∷ es) end o = by_empty (nat_eq e.length 0) (full_ordered (e.tile_id + e.run_length) es end o.3)
  where
    by_empty : (t : Bool) → AreOrdered (e.tile_id + e.run_length) (full es) end → AreOrdered low ((if t then [] else e ∷ []) ++ full es) end
    by_empty true rest = from_low low (e.tile_id + e.run_length) (full es) end (omega (arith, o.0)) rest
    by_empty false rest = (o.0, o.1, o.2, rest)

-- all of that of an archive
module _ (b : List ℕ) (o : Opened) where
  pub all_there : (all_walked b o).refusal ≡ None → AllThere o.0 b (full (all_walked b o).entries)
  all_there fine = full_there o.0 b (all_walked b o).entries (walked_passes 6 o.0 b 0 None o.1 fine)

  pub all_shallow : (all_walked b o).refusal ≡ None → AllShallow (full (all_walked b o).entries)
  all_shallow fine = full_shallow o.0 b (all_walked b o).entries (walked_passes 6 o.0 b 0 None o.1 fine)

  pub all_ordered : (all_walked b o).refusal ≡ None → AreOrdered 0 (full (all_walked b o).entries) None
  all_ordered fine = full_ordered 0 (all_walked b o).entries None (walked_ordered Whole 6 o.0 b [] 0 None o.1 fine refl)
