-- The tile entries of a walk that isn't refused, in order.
use Rattle.pm_walk.proofs.Common.{ap, append-nil, Archive, AreOrdered, arith, below, Bool, end_before, Entry, entry_walk, Err, Extent, false, Header, is_zero, leaf_of, leaf_walk, List, meets, nat_eq}
use Rattle.pm_walk.proofs.Common.{nat_tests, None, none-some, nothing_met, Ok, Option, PmtError, refl, refuses, Result, same_Some, Some, stands, stays_within, subst, suc, sym, then_walk, tile_walk}
use Rattle.pm_walk.proofs.Common.{true, walk_each, Walked, walked, WalkError, zero, ℕ, [], ◌++◌, ◌+◌, ◌∙◌, ◌∷◌, ◌≡◌, ◌≤◌}
use Rattle.pm_format.specs.declared.error.PmtError.TheVariants as errors
use Rattle.pm_walk.proofs.CoveringLemmas.{ordered_append}
use Rattle.pm_walk.proofs.TestingLemmas.{tile_fits, tile_stands}
use Rattle.pm_walk.proofs.WalkingLemmas.{Stood, stood_by, walked_is}

-- the first entry of a walk that isn't refused, and the rest
pub record Unrefused (left : ℕ) (f : Entry → Option ℕ → Walked) (before : Option Entry) (low : ℕ) (limit : Option ℕ) (e : Entry) (es : List Entry) : Type 0 where
  pub stood : Stood left before low limit (end_before es limit) e
  pub first : (f e (end_before es limit)).refusal ≡ None
  pub rest : (walk_each left f (Some e) low limit es).refusal ≡ None
  pub entries : (walk_each left f before low limit (e ∷ es)).entries ≡ (f e (end_before es limit)).entries ++ (walk_each left f (Some e) low limit es).entries

first_fine : (w next : Walked) → (then_walk w next).refusal ≡ None → (w.refusal ≡ None) × (next.refusal ≡ None) × ((then_walk w next).entries ≡ w.entries ++ next.entries)
first_fine w next fine = by_first w.refusal refl fine
  where
    by_first : (o : Option WalkError) → w.refusal ≡ o
        → (elim o as (λ _. Walked) [ Some x ↦ w | None ↦ record { refusal = next.refusal; entries = w.entries ++ next.entries; reads = w.reads + next.reads } ]).refusal ≡ None
        → (w.refusal ≡ None) × (next.refusal ≡ None) × ((elim o as (λ _. Walked) [ Some x ↦ w | None ↦ record { refusal = next.refusal; entries = w.entries ++ next.entries; reads = w.reads + next.reads } ]).entries ≡ w.entries ++ next.entries)
    by_first (Some x) at fine = absurd (none-some x (sym fine ∙ at))
    by_first None at fine = (at, fine, refl)

pub unrefused : (left : ℕ) (f : Entry → Option ℕ → Walked) (before : Option Entry) (low : ℕ) (limit : Option ℕ) (e : Entry) (es : List Entry) → (walk_each left f before low limit (e ∷ es)).refusal ≡ None → Unrefused left f before low limit e es
unrefused left f before low limit e es fine = by_test (stands left before low limit (end_before es limit) e) refl fine
  where
    by_test : (t : Bool) → stands left before low limit (end_before es limit) e ≡ t
        → (elim t as (λ _. Walked) [ true ↦ then_walk (f e (end_before es limit)) (walk_each left f (Some e) low limit es) | false ↦ refuses (Archive errors.InvalidEntry) ]).refusal ≡ None
        → Unrefused left f before low limit e es
    by_test false is fine = absurd (none-some (Archive errors.InvalidEntry) (sym fine))
    by_test true is fine =
        let parts = first_fine (f e (end_before es limit)) (walk_each left f (Some e) low limit es) fine in
        record {
          stood = stood_by left before low limit (end_before es limit) e is;
          first = parts.0;
          rest = parts.1;
          entries = ap (λ t. (elim t as (λ _. Walked) [ true ↦ then_walk (f e (end_before es limit)) (walk_each left f (Some e) low limit es) | false ↦ refuses (Archive errors.InvalidEntry) ]).entries) is ∙ parts.2;
        }

-- the entries that an entry leads to are in order in its range
abbrev pub IsOrderly : (Entry → Option ℕ → Walked) → Type 0
IsOrderly f = (e : Entry) (end : Option ℕ) → stays_within end (e.tile_id + e.run_length) ≡ true → (f e end).refusal ≡ None → AreOrdered e.tile_id (f e end).entries end

-- so are those of a directory, from its first entry on
pub first_ordered : (left : ℕ) (f : Entry → Option ℕ → Walked) → IsOrderly f → (before : Option Entry) (low : ℕ) (limit : Option ℕ) (e : Entry) (es : List Entry)
    → (walk_each left f before low limit (e ∷ es)).refusal ≡ None → AreOrdered e.tile_id (walk_each left f before low limit (e ∷ es)).entries limit
first_ordered left f good before low limit e [] fine =
    let u = unrefused left f before low limit e [] fine in
    subst (λ l. AreOrdered e.tile_id l limit) (sym (append-nil (f e limit).entries) ∙ sym u.entries) (good e limit u.stood.ends u.first)
first_ordered left f good before low limit e (d ∷ es) fine =
    let u = unrefused left f before low limit e (d ∷ es) fine in
    subst (λ l. AreOrdered e.tile_id l limit) (sym u.entries)
    (ordered_append e.tile_id d.tile_id (f e (Some d.tile_id)).entries (walk_each left f (Some e) low limit (d ∷ es)).entries limit (good e (Some d.tile_id) u.stood.ends u.first)
    (first_ordered left f good (Some e) low limit d es u.rest))

ordered_from : (low first : ℕ) (ps : List Entry) (end : Option ℕ) → low ≤ first → stays_within end low ≡ true → AreOrdered first ps end → AreOrdered low ps end
ordered_from low first [] end le within o = within
ordered_from low first (p ∷ ps) end le within o = (omega (arith, le, o.0), o.1, o.2, o.3)

pub each_ordered : (left : ℕ) (f : Entry → Option ℕ → Walked) → IsOrderly f → (before : Option Entry) (low : ℕ) (limit : Option ℕ) (es : List Entry)
    → (walk_each left f before low limit es).refusal ≡ None → stays_within limit low ≡ true → AreOrdered low (walk_each left f before low limit es).entries limit
each_ordered left f good before low limit [] fine within = within
each_ordered left f good before low limit (e ∷ es) fine within =
    let u = unrefused left f before low limit e es fine in
    let le : low ≤ e.tile_id = let t = u.stood.least in grind (arith, nat_tests) in
    ordered_from low e.tile_id (walk_each left f before low limit (e ∷ es)).entries limit le within (first_ordered left f good before low limit e es fine)

-- a range that an id ends is one that begins within it
start_within : (end : Option ℕ) (id run : ℕ) → run ≡ 0 → stays_within end (id + run) ≡ true → stays_within end id ≡ true
start_within end id run is within = let p : id + run ≡ id = omega (arith, is) in subst (λ n. stays_within end n ≡ true) p within

not_zero : (run : ℕ) → nat_eq run 0 ≡ false → 1 ≤ run
not_zero run e = grind (arith, nat_tests)

tile_ordered : (ext : Extent) (h : Header) (b : List ℕ) (e : Entry) (end : Option ℕ) → nat_eq e.run_length 0 ≡ false → stays_within end (e.tile_id + e.run_length) ≡ true → (tile_walk ext h b e).refusal ≡ None
    → AreOrdered e.tile_id (tile_walk ext h b e).entries end
tile_ordered ext h b e end run ends fine =
    let s = tile_stands ext h b e fine in
    subst (λ l. AreOrdered e.tile_id l end) (sym s.1) (omega arith, not_zero e.run_length run, tile_fits ext h b e s.0, ends)

pub entry_ordered : (ext : Extent) (below : Option (ℕ → Option ℕ → List Entry → Walked)) (h : Header) (b : List ℕ) (is : List (ℕ × ℕ))
    → ((inner : ℕ → Option ℕ → List Entry → Walked) → below ≡ Some inner → (low : ℕ) (limit : Option ℕ) (es : List Entry) → (inner low limit es).refusal ≡ None → stays_within limit low ≡ true → AreOrdered low (inner low limit es).entries limit)
    → IsOrderly (entry_walk ext below h b is)
entry_ordered ext below h b is deeper e end ends fine = by_run (nat_eq e.run_length 0) refl fine
  where
    by_leaf : (inner : ℕ → Option ℕ → List Entry → Walked) → below ≡ Some inner → stays_within end e.tile_id ≡ true → (l : Result (List Entry) PmtError) → (leaf_walk (inner e.tile_id end) l).refusal ≡ None → AreOrdered e.tile_id (leaf_walk (inner e.tile_id end) l).entries end
    by_leaf inner at within (Ok leaf) fine = deeper inner at e.tile_id end leaf fine within
    by_leaf inner at within (Err x) fine = absurd (none-some (Archive x) (sym fine))

    by_depth : (o : Option (ℕ → Option ℕ → List Entry → Walked)) → below ≡ o → stays_within end e.tile_id ≡ true
        → (elim o as (λ _. Walked) [ None ↦ nothing_met | Some inner ↦ leaf_walk (inner e.tile_id end) (leaf_of h b e) ]).refusal ≡ None
        → AreOrdered e.tile_id (elim o as (λ _. Walked) [ None ↦ nothing_met | Some inner ↦ leaf_walk (inner e.tile_id end) (leaf_of h b e) ]).entries end
    by_depth None at within fine = within
    by_depth (Some inner) at within fine = by_leaf inner at within (leaf_of h b e) fine

    by_met : (t : Bool) → stays_within end e.tile_id ≡ true
        → (elim t as (λ _. Walked) [ false ↦ nothing_met | true ↦ elim below as (λ _. Walked) [ None ↦ nothing_met | Some inner ↦ leaf_walk (inner e.tile_id end) (leaf_of h b e) ] ]).refusal ≡ None
        → AreOrdered e.tile_id (elim t as (λ _. Walked) [ false ↦ nothing_met | true ↦ elim below as (λ _. Walked) [ None ↦ nothing_met | Some inner ↦ leaf_walk (inner e.tile_id end) (leaf_of h b e) ] ]).entries end
    by_met false within fine = within
    by_met true within fine = by_depth below refl within fine

    by_run : (t : Bool) → nat_eq e.run_length 0 ≡ t
        → (elim t as (λ _. Walked) [ false ↦ tile_walk ext h b e | true ↦ elim (meets ext is e.tile_id end) as (λ _. Walked) [ false ↦ nothing_met | true ↦ elim below as (λ _. Walked) [ None ↦ nothing_met | Some inner ↦ leaf_walk (inner e.tile_id end) (leaf_of h b e) ] ] ]).refusal ≡ None
        → AreOrdered e.tile_id (elim t as (λ _. Walked) [ false ↦ tile_walk ext h b e | true ↦ elim (meets ext is e.tile_id end) as (λ _. Walked) [ false ↦ nothing_met | true ↦ elim below as (λ _. Walked) [ None ↦ nothing_met | Some inner ↦ leaf_walk (inner e.tile_id end) (leaf_of h b e) ] ] ]).entries end
    by_run false run fine = tile_ordered ext h b e end run ends fine
    by_run true run fine = by_met (meets ext is e.tile_id end) (start_within end e.tile_id e.run_length (is_zero e.run_length run) ends) fine

-- what holds of the directories below holds of those that are named so
pub deeper_ordered : (walk : ℕ → Option ℕ → List Entry → Walked)
    → ((low : ℕ) (limit : Option ℕ) (es : List Entry) → (walk low limit es).refusal ≡ None → stays_within limit low ≡ true → AreOrdered low (walk low limit es).entries limit)
    → (inner : ℕ → Option ℕ → List Entry → Walked) → Some walk ≡ Some inner → (low : ℕ) (limit : Option ℕ) (es : List Entry) → (inner low limit es).refusal ≡ None → stays_within limit low ≡ true → AreOrdered low (inner low limit es).entries limit
deeper_ordered walk holds inner at low limit es = subst (λ w. (w low limit es).refusal ≡ None → stays_within limit low ≡ true → AreOrdered low (w low limit es).entries limit) (same_Some walk inner at) (holds low limit es)

-- the walk of a directory, at any depth
pub walked_ordered : (ext : Extent) (n : ℕ) (h : Header) (b : List ℕ) (is : List (ℕ × ℕ)) (low : ℕ) (limit : Option ℕ) (es : List Entry) → (walked ext n h b is low limit es).refusal ≡ None → stays_within limit low ≡ true → AreOrdered low (walked ext n h b is low limit es).entries limit
walked_ordered ext zero h b is low limit es fine within =
    let same = walked_is ext zero h b is low limit es in
    subst (λ w. AreOrdered low w.entries limit) (sym same)
    (each_ordered zero (entry_walk ext None h b is) (entry_ordered ext None h b is (λ inner at. absurd (none-some inner at))) None low limit es (sym (ap (λ w. w.refusal) same) ∙ fine) within)
walked_ordered ext (suc n) h b is low limit es fine within =
    let same = walked_is ext (suc n) h b is low limit es in
    subst (λ w. AreOrdered low w.entries limit) (sym same)
    (each_ordered (suc n) (entry_walk ext (Some (walked ext n h b is)) h b is) (entry_ordered ext (Some (walked ext n h b is)) h b is (deeper_ordered (walked ext n h b is) (walked_ordered ext n h b is))) None low limit es (sym (ap (λ w. w.refusal) same) ∙ fine) within)

-- the orderliness of what an entry leads to, at any depth
pub orderly : (ext : Extent) (n : ℕ) (h : Header) (b : List ℕ) (is : List (ℕ × ℕ)) → IsOrderly (entry_walk ext (below ext n h b is) h b is)
orderly ext zero h b is = entry_ordered ext None h b is (λ inner at. absurd (none-some inner at))
orderly ext (suc n) h b is = entry_ordered ext (Some (walked ext n h b is)) h b is (deeper_ordered (walked ext n h b is) (walked_ordered ext n h b is))
