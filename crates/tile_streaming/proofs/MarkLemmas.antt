-- The marks of a set's tiles, and the adds of their contents.
use Rattle.tile_streaming.proofs.Common.{add_for, address, address_within, adds_of, All, All-head, All-tail, AllByRecursion, and_from, and_parts, AreMarksOf, ap, arith, Bool, bytes_of, CanBeWritten, cons_option, entries, entries_sorted, eq_by_cmp, eq_by_cmp_equiv, false, get_or, Has, has_back, has_permuted, HaveLengths, inl, inr, InRange, is_eq, is_too_long, is_lt, is_sorted, IsDistinct, IsNonDecreasingBy, IsPermutation-map, length, list_any, List}
use Rattle.tile_streaming.proofs.Common.{map, Mark, mark_of, MAX_TILE_ID, nat_cmp, nat_cmp_total, nat_le, nat_tests, Option, Options, OptionsFit, one_tie, overflow_of, Place, place_cmp, refl, sorted_true, subst, suc, sym, TileSet, true, ℕ, [], ◌&&◌, ◌<◌, ◌^◌, ◌∙◌, ◌∷◌, ◌≡◌, ◌≢◌, ◌≤◌}
use Rattle.std.proofs.lemmas.Map.Keys.{IsDistinct-cons, IsDistinct-head, IsDistinct-IsPermutation, IsDistinct-tail}
use Rattle.std.specs.declared.cmp.Ordering.TheVariants.{Equal, Greater, Less}
use Rattle.tile_streaming.proofs.MemberLemmas.{all_of_has, has_mapped, has_source, long_of_add}
use Rattle.tile_streaming.proofs.ReadLemmas.{adds_few, or_parts}

abbrev pub Pairs : Type 0
Pairs = List (Place × Option (List ℕ))

abbrev pub AllRanged : Pairs → Type 0
AllRanged es = (e : Place × Option (List ℕ)) → Has e es → InRange e.0

-- what no element passes, this one doesn't
none_of : {X : Type 0} (test : X → Bool) (xs : List X) → list_any test xs ≡ false → (x : X) → Has x xs → test x ≡ false
none_of test [] h x there = absurd there
none_of test (y ∷ ys) h x (inl is) = sym (ap test is) ∙ (or_parts (test y) (list_any test ys) h).0
none_of test (y ∷ ys) h x (inr there) = none_of test ys (or_parts (test y) (list_any test ys) h).1 x there

pub all_ranged : (es : Pairs) → AllRanged es → All (λ e. InRange e.0) es
all_ranged es h = all_of_has (λ (e : Place × Option (List ℕ)). InRange e.0) es h

pub ranged_all : (es : Pairs) → All (λ e. InRange e.0) es → AllRanged es
ranged_all [] all e h = absurd h
ranged_all (d ∷ es) all e (inl is) = subst (λ (e : Place × Option (List ℕ)). InRange e.0) is (All-head (λ (e : Place × Option (List ℕ)). InRange e.0) d es all)
ranged_all (d ∷ es) all e (inr h) = ranged_all es (All-tail (λ (e : Place × Option (List ℕ)). InRange e.0) d es all) e h

abbrev ids : List Mark → List ℕ
ids marks = map (λ (m : Mark). m.id) marks

-- ids of different places differ
abbrev pub below_all : Place → Pairs → Bool
below_all p [] = true
below_all p (e ∷ es) = is_lt (place_cmp p e.0) && below_all p es

lt_not_eq : (p q : Place) → is_lt (place_cmp p q) ≡ true → eq_by_cmp place_cmp p q ≡ false
lt_not_eq p q h = elim (place_cmp p q) as (λ o. is_lt o ≡ true → is_eq o ≡ false) [ Less ↦ λ l. refl | Equal ↦ λ l. absurd (cc) | Greater ↦ λ l. refl ] h

apart_ids : (p : Place) → InRange p → (es : Pairs) → AllRanged es → below_all p es ≡ true → AllByRecursion (λ y. eq_by_cmp nat_cmp (address p) y ≡ false) (ids (map mark_of es))
apart_ids p at [] h b = tt
apart_ids p at (e ∷ es) h b =
    let parts = and_parts (is_lt (place_cmp p e.0)) (below_all p es) b in
    (one_tie p e.0 at (h e (inl refl)) ∙ lt_not_eq p e.0 parts.0, apart_ids p at es (λ f there. h f (inr there)) parts.1)

distinct_ids : (es : Pairs) → AllRanged es → is_sorted place_cmp es ≡ true → IsDistinct (eq_by_cmp nat_cmp) (ids (map mark_of es))
unfolding IsDistinct
distinct_ids [] h s = tt
distinct_ids (e ∷ es) h s =
    let parts = and_parts (below_all e.0 es) (is_sorted place_cmp es) s in
    IsDistinct-cons (eq_by_cmp nat_cmp) (address e.0) (ids (map mark_of es)) (apart_ids e.0 (h e (inl refl)) es (λ f there. h f (inr there)) parts.0) (distinct_ids es (λ f there. h f (inr there)) parts.1)

-- ids that don't fall and differ rise, and so do those of adds
abbrev below_ids : ℕ → List (ℕ × List ℕ) → Bool
below_ids x [] = true
below_ids x (a ∷ adds) = is_lt (nat_cmp x a.0) && below_ids x adds

rises : (x y : ℕ) → x ≤ y → eq_by_cmp nat_cmp x y ≡ false → is_lt (nat_cmp x y) ≡ true
rises x y h n = grind (arith, nat_tests)

all_above : (x : ℕ) (marks : List Mark) (contents : List (List ℕ)) → ((j : ℕ) (d : Mark) → j < length marks → x ≤ (get_or marks j d).id) → AllByRecursion (λ y. eq_by_cmp nat_cmp x y ≡ false) (ids marks) → below_ids x (adds_of marks contents) ≡ true
all_above x [] contents h n = refl
all_above x (m ∷ marks) [] h n = refl
all_above x (m ∷ marks) (c ∷ contents) h n = one c (rises x m.id (h 0 m (omega arith)) n.0) (all_above x marks contents (λ j d far. h (suc j) d (omega (arith, far))) n.1)
  where
    one : (c : List ℕ) → is_lt (nat_cmp x m.id) ≡ true → below_ids x (adds_of marks contents) ≡ true → below_ids x (cons_option (add_for m c) (adds_of marks contents)) ≡ true
    one [] here rest = rest
    one (b ∷ c) here rest = and_from _ _ here rest

adds_rise : (marks : List Mark) (contents : List (List ℕ)) → IsNonDecreasingBy (λ m. m.id) marks → IsDistinct (eq_by_cmp nat_cmp) (ids marks) → is_sorted nat_cmp (adds_of marks contents) ≡ true
adds_rise [] contents h n = refl
adds_rise (m ∷ marks) [] h n = refl
adds_rise (m ∷ marks) (c ∷ contents) h n =
    one c
    (all_above m.id marks contents (λ j d far. h 0 (suc j) d (omega arith) (omega (arith, far))) (IsDistinct-head (eq_by_cmp nat_cmp) m.id (ids marks) n))
    (adds_rise marks contents (λ i j d order far. h (suc i) (suc j) d (omega (arith, order)) (omega (arith, far))) (IsDistinct-tail (eq_by_cmp nat_cmp) m.id (ids marks) n))
  where
    one : (c : List ℕ) → below_ids m.id (adds_of marks contents) ≡ true → is_sorted nat_cmp (adds_of marks contents) ≡ true → is_sorted nat_cmp (cons_option (add_for m c) (adds_of marks contents)) ≡ true
    one [] above rest = rest
    one (b ∷ c) above rest = and_from _ _ above rest

module _ (tiles : TileSet) (marks : List Mark) (are : AreMarksOf tiles marks) where
  -- a mark has an entry, and an entry its mark
  pub entry_of : (m : Mark) → Has m marks → (e : Place × Option (List ℕ)) × Has e (entries tiles) × (mark_of e ≡ m)
  entry_of m h = has_source mark_of m (entries tiles) (has_back m (map mark_of (entries tiles)) marks are.same h)

  pub mark_there : (e : Place × Option (List ℕ)) → Has e (entries tiles) → Has (mark_of e) marks
  mark_there e h = has_permuted (mark_of e) (map mark_of (entries tiles)) marks are.same (has_mapped mark_of e (entries tiles) h)

  -- tiles of marks that don't overflow have few bytes, as many as their marks say
  pub short_tile : overflow_of marks ≡ false → (e : Place × Option (List ℕ)) → Has e (entries tiles) → nat_le (2 ^ 32) (length (bytes_of e.1)) ≡ false
  short_tile size e h =
      let each = none_of is_too_long marks (or_parts (list_any is_too_long marks) _ size).0 (mark_of e) (mark_there e h) in
      (or_parts (mark_of e).is_long (nat_le (2 ^ 32) (mark_of e).length) each).0

  module _ (ranged : AllRanged (entries tiles)) where
    -- ids of marks differ
    pub marks_differ : IsDistinct (eq_by_cmp nat_cmp) (ids marks)
    marks_differ = IsDistinct-IsPermutation (eq_by_cmp nat_cmp) (eq_by_cmp_equiv nat_cmp_total).symm (ids (map mark_of (entries tiles))) (ids marks) (IsPermutation-map (λ (m : Mark). m.id) (map mark_of (entries tiles)) marks are.same) (distinct_ids (entries tiles) ranged (sorted_true _ (entries_sorted tiles)))

    -- and the adds of marks rise
    pub marks_rise : (contents : List (List ℕ)) → is_sorted nat_cmp (adds_of marks contents) ≡ true
    marks_rise contents = adds_rise marks contents are.rising marks_differ

    pub marks_low : (m : Mark) → Has m marks → m.id ≤ MAX_TILE_ID
    marks_low m h = let e = entry_of m h in subst (λ (m : Mark). m.id ≤ MAX_TILE_ID) e.2 (address_within e.0.0 (ranged e.0 e.1))

    pub add_low : (contents : List (List ℕ)) (a : ℕ × List ℕ) → Has a (adds_of marks contents) → a.0 ≤ MAX_TILE_ID
    add_low contents a h = let l = long_of_add marks contents a h in subst (λ i. i ≤ MAX_TILE_ID) l.same (marks_low l.mark l.there)

    pub adds_low : (contents : List (List ℕ)) → All (λ a. a.0 ≤ MAX_TILE_ID) (adds_of marks contents)
    adds_low contents = all_of_has (λ (a : ℕ × List ℕ). a.0 ≤ MAX_TILE_ID) (adds_of marks contents) (add_low contents)

    pub adds_filled : (contents : List (List ℕ)) → All (λ a. a.1 ≢ []) (adds_of marks contents)
    adds_filled contents = all_of_has (λ (a : ℕ × List ℕ). a.1 ≢ []) (adds_of marks contents) (λ a h. (long_of_add marks contents a h).some)

    -- and can be written
    pub can_write : (o : Options) → OptionsFit o → length o.metadata < 2 ^ 63 → overflow_of marks ≡ false → (contents : List (List ℕ)) → HaveLengths marks contents → CanBeWritten o (adds_of marks contents)
    can_write o fit metadata size contents lengths = record { options = fit; rising = marks_rise contents; low = adds_low contents; filled = adds_filled contents; few = adds_few o marks contents metadata size lengths }
