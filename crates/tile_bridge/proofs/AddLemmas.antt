-- The adds of a set's tiles.
use Rattle.tile_bridge.proofs.Common.{Add, add_of, address, address_within, All, All-cons, All-nil, All-permutation, AllByRecursion, and_from, and_parts, ap, archive_map, AreAddsOf, arith, Bool}
use Rattle.tile_bridge.proofs.Common.{bytes_at, cond, cons_option, content_at, entries, entries_sorted, eq_by_cmp, eq_by_cmp_equiv, Equal, false, filter_map, get, get-entries, get_or, Greater}
use Rattle.tile_bridge.proofs.Common.{HoldsExactly, inl, inr, InRange, is_eq, is_lt, is_solid, is_sorted, IsDistinct, IsNonDecreasingBy, IsPermutation, IsPermutation-map, length, Less, List, map}
use Rattle.tile_bridge.proofs.Common.{MAX_TILE_ID, nat_cmp, nat_cmp-IsAntisymmetric, nat_cmp_total, nat_tests, None, one_tie, Option, Place, place_cmp, Ranged, refl, same_place, shown, solid, Some}
use Rattle.tile_bridge.proofs.Common.{subst, suc, sym, TileSet, true, ℕ, [], ◌&&◌, ◌<◌, ◌∙◌, ◌∷◌, ◌≡◌, ◌≢◌, ◌≤◌}
use Rattle.std.proofs.lemmas.Map.Keys.{IsDistinct-cons, IsDistinct-head, IsDistinct-tail, IsDistinct-IsPermutation}
use Rattle.mb_tables.proofs.TileLemmas.{places_total, get-solid}
use Rattle.tile_bridge.proofs.Members.{Has, find_has, has_back, has_find, has_permuted, sorted_true}

abbrev pub Pairs : Type 0
Pairs = List (Place × Option (List ℕ))

-- the adds of entries, in their order
abbrev pub added : Pairs → List (ℕ × List ℕ)
added es = filter_map add_of es

not_nil : (byte : ℕ) (bytes : List ℕ) → byte ∷ bytes ≢ []
not_nil byte bytes e = absurd (cc)

-- ids of zoom 0 to 31, and at least one byte
adds_low : (es : Pairs) → Ranged es → All (λ a. a.0 ≤ MAX_TILE_ID) (added es)
adds_low [] h = All-nil (λ (a : ℕ × List ℕ). a.0 ≤ MAX_TILE_ID)
adds_low (e ∷ es) h = one e.0 e.1 h.0 (adds_low es h.1)
  where
    one : (p : Place) (c : Option (List ℕ)) → InRange p → All (λ a. a.0 ≤ MAX_TILE_ID) (added es) → All (λ a. a.0 ≤ MAX_TILE_ID) (cons_option (add_of (p, c)) (added es))
    one p None at all = all
    one p (Some []) at all = all
    one p (Some (byte ∷ bytes)) at all = All-cons (λ (a : ℕ × List ℕ). a.0 ≤ MAX_TILE_ID) (address p, byte ∷ bytes) (added es) (address_within p at) all

adds_filled : (es : Pairs) → All (λ a. a.1 ≢ []) (added es)
adds_filled [] = All-nil (λ (a : ℕ × List ℕ). a.1 ≢ [])
adds_filled (e ∷ es) = one e.0 e.1 (adds_filled es)
  where
    one : (p : Place) (c : Option (List ℕ)) → All (λ a. a.1 ≢ []) (added es) → All (λ a. a.1 ≢ []) (cons_option (add_of (p, c)) (added es))
    one p None all = all
    one p (Some []) all = all
    one p (Some (byte ∷ bytes)) all = All-cons (λ (a : ℕ × List ℕ). a.1 ≢ []) (address p, byte ∷ bytes) (added es) (not_nil byte bytes) all

-- ids of different places differ
abbrev ids : List (ℕ × List ℕ) → List ℕ
ids adds = map (λ a. a.0) adds

abbrev below_all : Place → Pairs → Bool
below_all p [] = true
below_all p (e ∷ es) = is_lt (place_cmp p e.0) && below_all p es

lt_not_eq : (p q : Place) → is_lt (place_cmp p q) ≡ true → eq_by_cmp place_cmp p q ≡ false
lt_not_eq p q h = elim (place_cmp p q) as (λ o. is_lt o ≡ true → is_eq o ≡ false) [ Less ↦ λ l. refl | Equal ↦ λ l. absurd (cc) | Greater ↦ λ l. refl ] h

apart_ids : (p : Place) → InRange p → (es : Pairs) → Ranged es → below_all p es ≡ true → AllByRecursion (λ y. eq_by_cmp nat_cmp (address p) y ≡ false) (ids (added es))
apart_ids p at [] h b = tt
apart_ids p at (e ∷ es) h b =
    let parts = and_parts (is_lt (place_cmp p e.0)) (below_all p es) b in
    one e.0 e.1 (one_tie p e.0 at h.0 ∙ lt_not_eq p e.0 parts.0) (apart_ids p at es h.1 parts.1)
  where
    one : (q : Place) (c : Option (List ℕ)) → eq_by_cmp nat_cmp (address p) (address q) ≡ false → AllByRecursion (λ y. eq_by_cmp nat_cmp (address p) y ≡ false) (ids (added es))
        → AllByRecursion (λ y. eq_by_cmp nat_cmp (address p) y ≡ false) (ids (cons_option (add_of (q, c)) (added es)))
    one q None apart all = all
    one q (Some []) apart all = all
    one q (Some (byte ∷ bytes)) apart all = (apart, all)

distinct_ids : (es : Pairs) → Ranged es → is_sorted place_cmp es ≡ true → IsDistinct (eq_by_cmp nat_cmp) (ids (added es))
unfolding IsDistinct
distinct_ids [] h s = tt
distinct_ids (e ∷ es) h s =
    let parts = and_parts (below_all e.0 es) (is_sorted place_cmp es) s in
    one e.0 e.1 (apart_ids e.0 h.0 es h.1 parts.0) (distinct_ids es h.1 parts.1)
  where
    one : (p : Place) (c : Option (List ℕ)) → AllByRecursion (λ y. eq_by_cmp nat_cmp (address p) y ≡ false) (ids (added es)) → IsDistinct (eq_by_cmp nat_cmp) (ids (added es))
        → IsDistinct (eq_by_cmp nat_cmp) (ids (cons_option (add_of (p, c)) (added es)))
    one p None apart all = all
    one p (Some []) apart all = all
    one p (Some (byte ∷ bytes)) apart all = IsDistinct-cons (eq_by_cmp nat_cmp) (address p) (ids (added es)) apart all

-- ids that don't fall and differ rise
abbrev below_ids : ℕ → List (ℕ × List ℕ) → Bool
below_ids x [] = true
below_ids x (a ∷ adds) = is_lt (nat_cmp x a.0) && below_ids x adds

rises : (x y : ℕ) → x ≤ y → eq_by_cmp nat_cmp x y ≡ false → is_lt (nat_cmp x y) ≡ true
rises x y h n = grind (arith, nat_tests)

module _ (tiles : TileSet) where
  all_above : (x : ℕ) (adds : List Add) → ((j : ℕ) (d : Add) → j < length adds → x ≤ (get_or adds j d).id) → AllByRecursion (λ y. eq_by_cmp nat_cmp x y ≡ false) (ids (shown tiles adds)) → below_ids x (shown tiles adds) ≡ true
  all_above x [] h n = refl
  all_above x (a ∷ adds) h n = and_from _ _ (rises x a.id (h 0 a (omega arith)) n.0) (all_above x adds (λ j d far. h (suc j) d (omega (arith, far))) n.1)

  adds_rise : (adds : List Add) → IsNonDecreasingBy (λ a. a.id) adds → IsDistinct (eq_by_cmp nat_cmp) (ids (shown tiles adds)) → is_sorted nat_cmp (shown tiles adds) ≡ true
  adds_rise [] h n = refl
  adds_rise (a ∷ adds) h n =
      and_from _ _
      (all_above a.id adds (λ j d far. h 0 (suc j) d (omega arith) (omega (arith, far))) (IsDistinct-head (eq_by_cmp nat_cmp) a.id (ids (shown tiles adds)) n))
      (adds_rise adds (λ i j d order far. h (suc i) (suc j) d (omega (arith, order)) (omega (arith, far))) (IsDistinct-tail (eq_by_cmp nat_cmp) a.id (ids (shown tiles adds)) n))

-- tiles of at least one byte are the adds
has_added : (p : Place) (bytes : List ℕ) → bytes ≢ [] → (es : Pairs) → Has (p, Some bytes) es → Has (address p, bytes) (added es)
has_added p bytes some [] h = absurd h
has_added p [] some (e ∷ es) h = absurd (some refl)
has_added p (byte ∷ bytes) some (e ∷ es) (inl is) = subst (λ t. Has (address p, byte ∷ bytes) (cons_option (add_of t) (added es))) (sym is) (inl refl)
has_added p (byte ∷ bytes) some (e ∷ es) (inr h) = one e.0 e.1 (has_added p (byte ∷ bytes) some es h)
  where
    one : (q : Place) (c : Option (List ℕ)) → Has (address p, byte ∷ bytes) (added es) → Has (address p, byte ∷ bytes) (cons_option (add_of (q, c)) (added es))
    one q None there = there
    one q (Some []) there = there
    one q (Some (b ∷ bs)) there = inr there

abbrev IsAdded : ℕ → List ℕ → Pairs → Type 0
IsAdded id bytes es = (p : Place) × Has (p, Some bytes) es × (bytes ≢ []) × (address p ≡ id)

added_has : (id : ℕ) (bytes : List ℕ) (es : Pairs) → Has (id, bytes) (added es) → IsAdded id bytes es
added_has id bytes [] h = absurd h
added_has id bytes (e ∷ es) h = one e.0 e.1 refl (λ there. let found = added_has id bytes es there in (found.0, inr found.1, found.2, found.3)) h
  where
    one : (p : Place) (c : Option (List ℕ)) → e ≡ (p, c) → (Has (id, bytes) (added es) → IsAdded id bytes (e ∷ es)) → Has (id, bytes) (cons_option (add_of (p, c)) (added es)) → IsAdded id bytes (e ∷ es)
    one p None is later there = later there
    one p (Some []) is later there = later there
    one p (Some (b ∷ bs)) is later (inl same) =
        let content : b ∷ bs ≡ bytes = ap (λ a. a.1) same in
        (p, inl (is ∙ ap (λ c. (p, Some c)) content), subst (λ c. c ≢ []) content (not_nil b bs), ap (λ a. a.0) same)
    one p (Some (b ∷ bs)) is later (inr there) = later there

-- the solid tile of what stands at a place
to_solid : (g : Option (Option (List ℕ))) (bytes : List ℕ) → cond (is_solid g) g None ≡ Some (Some bytes) → (g ≡ Some (Some bytes)) × (bytes ≢ [])
to_solid None bytes h = absurd (cc)
to_solid (Some None) bytes h = absurd (cc)
to_solid (Some (Some [])) bytes h = absurd (cc)
to_solid (Some (Some (b ∷ bs))) bytes h = let same : b ∷ bs ≡ bytes = cc in (h, subst (λ c. c ≢ []) same (not_nil b bs))

from_solid : (g : Option (Option (List ℕ))) (bytes : List ℕ) → g ≡ Some (Some bytes) → bytes ≢ [] → cond (is_solid g) g None ≡ Some (Some bytes)
from_solid g [] h some = absurd (some refl)
from_solid g (b ∷ bs) h some = ap (λ o. cond (is_solid o) o None) h

-- the adds of a set, in the order of ids
module _ (set : TileSet) (ranged : Ranged (entries set)) (adds : List Add) (same : IsPermutation (added (entries set)) (shown set adds)) (order : IsNonDecreasingBy (λ a. a.id) adds) where
  set_rises : is_sorted place_cmp (entries set) ≡ true
  set_rises = sorted_true _ (entries_sorted set)

  solid_is : (p : Place) → get (solid set) p ≡ (let g = get set p in cond (is_solid g) g None)
  solid_is p = get-solid set p

  adds_sorted : is_sorted nat_cmp (shown set adds) ≡ true
  adds_sorted = adds_rise set adds order
      (IsDistinct-IsPermutation (eq_by_cmp nat_cmp) (eq_by_cmp_equiv nat_cmp_total).symm (ids (added (entries set))) (ids (shown set adds)) (IsPermutation-map (λ (a : ℕ × List ℕ). a.0) (added (entries set)) (shown set adds) same) (distinct_ids (entries set) ranged set_rises))

  each_add : (p : Place) (bytes : List ℕ) → get (solid set) p ≡ Some (Some bytes) → content_at (shown set adds) (address p) ≡ Some bytes
  each_add p bytes h =
      let there = to_solid (get set p) bytes (sym (solid_is p) ∙ h) in
      let place : Has (p, Some bytes) (entries set) = find_has place_cmp (λ a b e. same_place a b (ap is_eq e)) (entries set) p (Some bytes) (sym (get-entries set p) ∙ there.0) in
      has_find nat_cmp nat_cmp_total (shown set adds) (address p) bytes adds_sorted (has_permuted (address p, bytes) (added (entries set)) (shown set adds) same (has_added p bytes there.1 (entries set) place))

  only_adds : (id : ℕ) (bytes : List ℕ) → content_at (shown set adds) id ≡ Some bytes → (p : Place) × (get (solid set) p ≡ Some (Some bytes)) × (address p ≡ id)
  only_adds id bytes h =
      let there : Has (id, bytes) (shown set adds) = find_has nat_cmp nat_cmp-IsAntisymmetric (shown set adds) id bytes h in
      let found = added_has id bytes (entries set) (has_back (id, bytes) (added (entries set)) (shown set adds) same there) in
      (found.0, solid_is found.0 ∙ from_solid (get set found.0) bytes (get-entries set found.0 ∙ has_find place_cmp places_total (entries set) found.0 (Some bytes) set_rises found.1) found.2, found.3)

  pub adds_are : AreAddsOf (shown set adds) set
  adds_are = record {
    rising = adds_sorted;
    low = All-permutation (λ (a : ℕ × List ℕ). a.0 ≤ MAX_TILE_ID) (added (entries set)) (shown set adds) same (adds_low (entries set) ranged);
    filled = All-permutation (λ (a : ℕ × List ℕ). a.1 ≢ []) (added (entries set)) (shown set adds) same (adds_filled (entries set));
    each = each_add;
    only = only_adds;
  }

-- sorted adds have the bytes of the set's tiles
pub permuted : (set : TileSet) (before after : List Add) → shown set before ≡ added (entries set) → IsPermutation before after → IsPermutation (added (entries set)) (shown set after)
permuted set before after are same = subst (λ xs. IsPermutation xs (shown set after)) are (IsPermutation-map (λ (a : Add). (a.id, bytes_at set a.index)) before after same)

-- an archive with the bytes of the adds, and no others, holds exactly the set's tiles
pub holds_adds : (b : List ℕ) (adds : List (ℕ × List ℕ)) (tiles : TileSet) → AreAddsOf adds tiles → ((id : ℕ) → archive_map b id ≡ content_at adds id) → HoldsExactly b tiles
holds_adds b adds tiles are same = record {
  each = λ p bytes h. same (address p) ∙ are.each p bytes h;
  only = λ id bytes h. are.only id bytes (sym (same id) ∙ h);
}
