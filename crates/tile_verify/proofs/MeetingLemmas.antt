-- An entry that is met.
use Rattle.tile_verify.proofs.Common.{ap, arith, below, Bool, Entry, entry_walk, Err, false, Header, IfSome, is_tile, IsBreak, IsTrue, leaf_of, leaf_walk, LeafRead, List, Meets, Met, nat_eq}
use Rattle.tile_verify.proofs.Common.{nat_tests, None, one_deeper, Option, place, refl, Result, Some, Spot, subst, suc, sym, tile_walk, true, VerifyError, Walked, walked, zero, ℕ, ◌↔◌, ◌≡◌, ◌≢◌}

-- what an entry leads to, by its run
pub leaf_met : (inner : Spot → ℕ → ℕ → List Entry → Walked) (h : Header) (b : List ℕ) (at : Spot) (index : ℕ) (e : Entry) (end : ℕ) → e.run_length ≡ 0
    → entry_walk (Some inner) h b at index e end ≡ leaf_walk (inner (one_deeper at e) e.tile_id end) (place at index) (leaf_of h b e)
leaf_met inner h b at index e end is_leaf =
    ap (λ n. elim (nat_eq n 0) as (λ _. Walked) [ false ↦ tile_walk h b (place at index) e | true ↦ leaf_walk (inner (one_deeper at e) e.tile_id end) (place at index) (leaf_of h b e) ]) is_leaf

pub tile_met : (below : Option (Spot → ℕ → ℕ → List Entry → Walked)) (h : Header) (b : List ℕ) (at : Spot) (index : ℕ) (e : Entry) (end : ℕ) → e.run_length ≢ 0
    → entry_walk below h b at index e end ≡ tile_walk h b (place at index) e
tile_met below h b at index e end tile =
    ap (λ t. elim t as (λ _. Walked) [ false ↦ tile_walk h b (place at index) e | true ↦ entry_walk below h b at index (record e { run_length = 0 }) end ]) (is_tile e.run_length tile)

-- a leaf that is refused breaks the walk at its entry
leaf_refused : (h : Header) (b : List ℕ) (at : Spot) (index left : ℕ) (e : Entry) (old new : Met) (x : VerifyError) → e.run_length ≡ 0 → left ≢ 0
    → LeafRead h b at index e old new (Err x) → Meets h b at index e left old new (Err x)
leaf_refused h b at index zero e old new x is_leaf deep breaks = absurd (deep refl)
leaf_refused h b at index (suc left) e old new x is_leaf deep breaks =
    λ end. subst (λ w. IsBreak w old.directories (Err x)) (sym (leaf_met (walked left h b) h b at index e end is_leaf)) (breaks (walked left h b (one_deeper at e) e.tile_id end))

run_of_leaf : (leaf : Bool) (run : ℕ) → (IsTrue leaf ↔ (run ≡ 0)) → leaf ≡ true → run ≡ 0
run_of_leaf leaf run w n = grind (arith, nat_tests)

-- over bytes that may be told
pub refused_leaf : (told : Option (List ℕ)) (h : Header) (at : Spot) (index left : ℕ) (e : Entry) (old new : Met) (leaf : Bool) (result : Result (List Entry) VerifyError) (x : VerifyError)
    → (IsTrue leaf ↔ (e.run_length ≡ 0)) → leaf ≡ true → left ≢ 0 → result ≡ Err x
    → IfSome told (λ b. LeafRead h b at index e old new result) → IfSome told (λ b. Meets h b at index e left old new (Err x))
refused_leaf None h at index left e old new leaf result x tests is deep err read = tt
refused_leaf (Some b) h at index left e old new leaf result x tests is deep err read =
    leaf_refused h b at index left e old new x (run_of_leaf leaf e.run_length tests is) deep (subst (λ r. LeafRead h b at index e old new r) err read)
