-- Edits of a map by its keys, of which each touches its own key or leaves the map as it was.
use Rattle.mb_copy.proofs.Common.{ap, Bool, cond, eq_by_cmp, Equal-is, false, find, FinMap, first, get, IsAntisymmetric, IsTotalOrder, List, None, none_below, Option, option_and_then, Ordering, Place}
use Rattle.mb_copy.proofs.Common.{place_cmp, places_antisymmetric, places_total, refl, second, Some, subst, sym, T, true, with_value, ℕ, [], ◌∙◌, ◌∷◌, ◌≡◌}
use Rattle.std.specs.FinMap.Entries.{below_all, is_sorted}
use Rattle.mb_loaded.proofs.EditMaps.{get-with_value}

abbrev pub Tile : Type 0
Tile = Place × Option (List ℕ)

-- a value or none under a key, if there is an edit
abbrev pub touched : {K A : Type 0} {R : K → K → Ordering} → Option (Option A) → FinMap R A → K → FinMap R A
touched None m k = m
touched (Some o) m k = with_value m k o

-- what stands there then
abbrev pub over_by : {A : Type 0} → Option (Option A) → Option A → Option A
over_by None had = had
over_by (Some o) had = o

-- edits from the last to the first
abbrev pub touches : {K V A : Type 0} {R : K → K → Ordering} → (K → V → Option (Option A)) → FinMap R A → List (K × V) → FinMap R A
touches touch m [] = m
touches touch m (e ∷ es) = touched (touch e.0 e.1) (touches touch m es) e.0

module _ {K V A : Type 0} {R : K → K → Ordering} (total : IsTotalOrder R) (anti : IsAntisymmetric R) (touch : K → V → Option (Option A)) where
  step_at : (o : Option (Option A)) (m : FinMap R A) (k q : K) → get (touched o m k) q ≡ cond (eq_by_cmp R q k) (over_by o (get m q)) (get m q)
  step_at None m k q = by (eq_by_cmp R q k)
    where
      by : (b : Bool) → get m q ≡ cond b (get m q) (get m q)
      by true = refl
      by false = refl
  step_at (Some o) m k q = get-with_value total m k o q

  pub touches_by : (es : List (K × V)) → T (is_sorted R es) → (m : FinMap R A) (q : K) → get (touches touch m es) q ≡ over_by (option_and_then (touch q) (find R q es)) (get m q)
  touches_by [] h m q = refl
  touches_by (e ∷ es) h m q = step_at (touch e.0 e.1) (touches touch m es) e.0 q ∙ by (eq_by_cmp R q e.0) refl (touches_by es (second _ _ h) m q)
    where
      by : (b : Bool) → eq_by_cmp R q e.0 ≡ b → get (touches touch m es) q ≡ over_by (option_and_then (touch q) (find R q es)) (get m q) → cond b (over_by (touch e.0 e.1) (get (touches touch m es) q)) (get (touches touch m es) q) ≡ over_by (option_and_then (touch q) (cond b (Some e.1) (find R q es))) (get m q)
      by false t rest = rest
      by true t rest =
          let here : q ≡ e.0 = anti q e.0 ((Equal-is (R q e.0)).0 t) in
          let none : find R q es ≡ None = none_below R q es (subst (λ (x : K). T (below_all R x es)) (sym here) (first _ _ h)) in
          let same : get (touches touch m es) q ≡ get m q = rest ∙ ap (λ o. over_by (option_and_then (touch q) o) (get m q)) none in
          ap (over_by (touch e.0 e.1)) same ∙ ap (λ x. over_by (touch x e.1) (get m q)) (sym here)

-- the same by places
pub touches_at : {A : Type 0} (touch : Place → Option (List ℕ) → Option (Option A)) (es : List Tile) → T (is_sorted place_cmp es) → (m : FinMap place_cmp A) (q : Place) → get (touches touch m es) q ≡ over_by (option_and_then (touch q) (find place_cmp q es)) (get m q)
touches_at touch es h m q = touches_by places_total places_antisymmetric touch es h m q
