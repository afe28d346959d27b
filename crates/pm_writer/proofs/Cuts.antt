-- Where the entries of an archive begin.
use Rattle.pm_writer.proofs.Common.{ap, arith, Entry, inl, inr, IsIn, List, longest_run, Option, refl, subst, sym, ℕ, [], ◌+◌, ◌-◌, ◌<◌, ◌∷◌, ◌≡◌, ◌≢◌, ◌≤◌, ◌⊎◌}

-- an entry begins where the map changes, or where a full run before it ends
abbrev pub Needed : (ℕ → Option (List ℕ)) → List Entry → Type 0
Needed map [] = Unit {0}
Needed map (e ∷ []) = Unit {0}
Needed map (e ∷ f ∷ es) = (e.tile_id < f.tile_id) × ((e.tile_id + longest_run ≡ f.tile_id) ⊎ (map (f.tile_id - 1) ≢ map f.tile_id)) × Needed map (f ∷ es)

-- the same tile at each id from a to b
abbrev pub SameFrom : (ℕ → Option (List ℕ)) → ℕ → ℕ → Type 0
SameFrom map a b = (t : ℕ) → a ≤ t → t ≤ b → map t ≡ map b

-- an entry that isn't the first has one before it
record Before (map : ℕ → Option (List ℕ)) (first at : ℕ) : Type 0 where
  prior : Entry
  from : first ≤ prior.tile_id
  below : prior.tile_id < at
  why : (prior.tile_id + longest_run ≡ at) ⊎ (map (at - 1) ≢ map at)

pub needed_rest : (map : ℕ → Option (List ℕ)) (e : Entry) (es : List Entry) → Needed map (e ∷ es) → Needed map es
needed_rest map e [] n = tt
needed_rest map e (f ∷ es) n = n.2

pub needed_first : (map : ℕ → Option (List ℕ)) (e f : Entry) (es : List Entry) → Needed map (e ∷ es) → IsIn f es → e.tile_id < f.tile_id
needed_first map e f [] n i = absurd i
needed_first map e f (g ∷ es) n (inl s) = subst (λ z. e.tile_id < z.tile_id) (sym s) n.0
needed_first map e f (g ∷ es) n (inr i) = omega (arith, n.0, needed_first map g f es n.2 i)

before : (map : ℕ → Option (List ℕ)) (d e : Entry) (es : List Entry) → Needed map es → IsIn d es → IsIn e es → d.tile_id < e.tile_id → Before map d.tile_id e.tile_id
before map d e [] n i j h = absurd i
before map d e (f ∷ []) n (inl s) (inl t) h = absurd (omega (arith, h, ap (λ z. z.tile_id) s, ap (λ z. z.tile_id) t))
before map d e (f ∷ []) n (inr i) j h = absurd i
before map d e (f ∷ []) n (inl s) (inr j) h = absurd j
before map d e (f ∷ g ∷ es) n (inl s) (inl t) h = absurd (omega (arith, h, ap (λ z. z.tile_id) s, ap (λ z. z.tile_id) t))
before map d e (f ∷ g ∷ es) n (inl s) (inr (inl t)) h =
    let P : Entry → Type 0 = λ z. Before map d.tile_id z.tile_id in
    subst P (sym t) (record { prior = f; from = omega (arith, ap (λ z. z.tile_id) s); below = n.0; why = n.1 })
before map d e (f ∷ g ∷ es) n (inl s) (inr (inr j)) h =
    let b = before map g e (g ∷ es) n.2 (inl refl) (inr j) (needed_first map g e es n.2 j) in
    record { prior = b.prior; from = omega (arith, b.from, n.0, ap (λ z. z.tile_id) s); below = b.below; why = b.why }
before map d e (f ∷ g ∷ es) n (inr i) (inl t) h = absurd (omega (arith, h, needed_first map f d (g ∷ es) n i, ap (λ z. z.tile_id) t))
before map d e (f ∷ g ∷ es) n (inr i) (inr j) h = before map d e (g ∷ es) n.2 i j h

-- no stretch of one tile, shorter than a full run, holds the beginnings of two entries
pub one_beginning : (map : ℕ → Option (List ℕ)) (es : List Entry) (d e : Entry) → Needed map es → IsIn d es → IsIn e es → d.tile_id < e.tile_id → SameFrom map d.tile_id e.tile_id → e.tile_id < d.tile_id + longest_run → ⊥
one_beginning map es d e n i j h same short =
    let b = before map d e es n i j h in
    elim b.why [
      | inl full ↦ omega (arith, full, b.from, short)
      | inr change ↦ change (same (e.tile_id - 1) (omega (arith, h)) (omega arith))
    ]
