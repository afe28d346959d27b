-- What tiles are held, after a use and after one is put.
use Rattle.tile_serve.proofs.Common.{ap, AreTiles, arith, Bool, Bounded, Contains-with_pair, Err, false, fits, Found, found_at, IfOk, if◌then◌else◌, inl, inr, is_held, is_some, latest-promoted}
use Rattle.tile_serve.proofs.Common.{LeavesFound, length, List, lookup, nat_eq, None, Ok, Option, option_map, refl, Result, ServeError, slice_get, Some, subst, sym, Tile, tiles_asked, true, used}
use Rattle.tile_serve.proofs.Common.{used-none, with_found, with_pair, ℕ, ◌∙◌, ◌≡◌, ◌⊎◌}
use Rattle.std.proofs.lemmas.Bool.Decides.{nat_tests}
use Rattle.lru.proofs.CallerLemmas.{Contains-lookup, Contains-promoted}
use Rattle.tile_serve.specs.declared.error.ServeError.TheVariants as errors

abbrev Tiles : Type 0
Tiles = Bounded (List ℕ)

-- after a use the tile that is held stands in front
pub latest_held : (old new : Tiles) (k : ℕ) (found : Bool) (latest : Option (List ℕ)) → found ≡ is_some (lookup (nat_eq k) old.pairs) → found ≡ true → new ≡ used old k
    → latest ≡ option_map (λ (e : ℕ × List ℕ). e.1) (slice_get new.pairs 0) → latest ≡ lookup (nat_eq k) old.pairs
latest_held old new k found latest is some e q = q ∙ (ap (λ (b : Tiles). option_map (λ (e : ℕ × List ℕ). e.1) (slice_get b.pairs 0)) e ∙ latest-promoted k old.pairs (sym is ∙ some))

pub held_copy : {E : Type 0} (old new : Tiles) (k t : ℕ) (found : Bool) (r : Result (Option (List ℕ)) E) → k ≡ t → found ≡ is_some (lookup (nat_eq k) old.pairs) → found ≡ true → new ≡ used old k
    → IfOk r (λ x. x ≡ option_map (λ (e : ℕ × List ℕ). e.1) (slice_get new.pairs 0)) → IfOk r (λ x. x ≡ lookup (nat_eq t) old.pairs)
held_copy old new k t found (Ok x) same is some e q = let P : ℕ → Type 0 = λ n. x ≡ lookup (nat_eq n) old.pairs in subst P same (latest_held old new k found x is some e q)
held_copy old new k t found (Err x) same is some e q = tt

none_by : (value : Option (List ℕ)) → is_some value ≡ false → value ≡ None
none_by None q = refl
none_by (Some v) q = absurd (cc)

pub not_held : (old : Tiles) (k : ℕ) → is_held old k ≡ false → lookup (nat_eq k) old.pairs ≡ None
not_held old k q = none_by (lookup (nat_eq k) old.pairs) q

-- what is found among tiles is the one that the archive has
pub found_held : (b : List ℕ) (old : Tiles) (k : ℕ) (d : List ℕ) → AreTiles b old.pairs → lookup (nat_eq k) old.pairs ≡ Some d → found_at b k ≡ Tile d
found_held b old k d all q =
    let w = Contains-lookup (nat_eq k) old.pairs d q in
    let test = w.2 in
    let same : w.0 ≡ k = grind (arith, nat_tests) in
    let P : ℕ → Type 0 = λ t. found_at b t ≡ Tile d in
    subst P same (all (w.0, d) w.1)

pub tiles_used : (b : List ℕ) (old : Tiles) (k : ℕ) → AreTiles b old.pairs → AreTiles b (used old k).pairs
tiles_used b old k all = λ e c. all e (Contains-promoted (nat_eq k) old.pairs e c)

tiles_put : (b : List ℕ) (old : Tiles) (k : ℕ) (d : List ℕ) → found_at b k ≡ Tile d → AreTiles b old.pairs → (fit : Bool) → AreTiles b (if fit then with_pair length old k d else old).pairs
tiles_put b old k d is all true = λ e c. elim (Contains-with_pair length old k d e c) [
  | inl before ↦ all e before
  | inr same ↦ let P : ℕ × List ℕ → Type 0 = λ p. found_at b p.0 ≡ Tile p.1 in subst P same is
]
tiles_put b old k d is all false = all

-- what is kept is what the archive has
pub tiles_found : (b : List ℕ) (old : Tiles) (k : ℕ) (found : Found) → found ≡ found_at b k → AreTiles b old.pairs → AreTiles b (with_found old k found).pairs
tiles_found b old k (Tile d) is all = tiles_put b old k d (sym is) all (fits length old.limit d)
tiles_found b old k x is all = all

bounds_put : (old : Tiles) (k : ℕ) (d : List ℕ) (fit : Bool) → ((if fit then with_pair length old k d else old).capacity ≡ old.capacity) × ((if fit then with_pair length old k d else old).limit ≡ old.limit)
bounds_put old k d true = (refl, refl)
bounds_put old k d false = (refl, refl)

pub bounds_found : (old : Tiles) (k : ℕ) (found : Found) → ((with_found old k found).capacity ≡ old.capacity) × ((with_found old k found).limit ≡ old.limit)
bounds_found old k (Tile d) = bounds_put old k d (fits length old.limit d)
bounds_found old k x = (refl, refl)

bounds_asked : (old : Tiles) (k : ℕ) (found : Found) (held : Bool) → ((if held then used old k else with_found old k found).capacity ≡ old.capacity) × ((if held then used old k else with_found old k found).limit ≡ old.limit)
bounds_asked old k found true = (refl, refl)
bounds_asked old k found false = bounds_found old k found

-- how many tiles and bytes there may be stays
pub bounds_stay : (old new : Tiles) (k : ℕ) (r : Result Found ServeError) → LeavesFound old new k r → (new.capacity ≡ old.capacity) × (new.limit ≡ old.limit)
bounds_stay old new k (Ok found) q = let w = bounds_asked old k found (is_held old k) in (ap (λ (b : Tiles). b.capacity) q ∙ w.0, ap (λ (b : Tiles). b.limit) q ∙ w.1)
bounds_stay old new k (Err errors.OutOfMemory) q = elim q [
  | inl same ↦ (ap (λ (b : Tiles). b.capacity) same, ap (λ (b : Tiles). b.limit) same)
  | inr same ↦ (ap (λ (b : Tiles). b.capacity) same, ap (λ (b : Tiles). b.limit) same)
]
bounds_stay old new k (Err (errors.Opening e)) same = (ap (λ (b : Tiles). b.capacity) same, ap (λ (b : Tiles). b.limit) same)
bounds_stay old new k x same = (ap (λ (b : Tiles). b.capacity) same, ap (λ (b : Tiles). b.limit) same)

by_held : (old new : Tiles) (k : ℕ) (found : Found) (held : Bool) → is_held old k ≡ held → new ≡ used old k → (new ≡ old) ⊎ (new ≡ (if held then used old k else with_found old k found))
by_held old new k found true is q = inr q
by_held old new k found false is q = inl (q ∙ used-none old k (not_held old k is))

-- a use is what the reply leaves, or changes nothing
pub used_or_same : (old new : Tiles) (k : ℕ) (found : Found) → new ≡ used old k → (new ≡ old) ⊎ (new ≡ tiles_asked old k found)
used_or_same old new k found q = by_held old new k found (is_held old k) refl q

-- what is asked for and isn't held is kept
pub asked_unheld : (old new : Tiles) (k : ℕ) (found : Found) → is_held old k ≡ false → new ≡ with_found old k found → new ≡ tiles_asked old k found
asked_unheld old new k found is q = q ∙ ap (λ held. if held then used old k else with_found old k found) (sym is)
