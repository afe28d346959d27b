-- The part of a set that is converted, and a set that has a part.
use Rattle.tile_streaming.proofs.Common.{address, ap, AreMarksOf, Bool, cond, entries, Equal, false, false≢true, filter, find_has, from_entries, get, get-entries, get-from_entries, Has, InRange, inl, inr, is_some, IsPermutation, IsPermutation-map, IsPermutation-sym, IsPermutation-trans, length_permutation, List, list_any-IsPermutation}
use Rattle.tile_streaming.proofs.Common.{is_too_long, map, Mark, mark_of, nat_le, None, not, Option, option_or, overflow_of, Place, place_cmp, places_total, refl, Some, subst, sum_by-IsPermutation, sym, TileSet, true, ℕ, [], ◌++◌, ◌^◌, ◌∙◌, ◌∷◌, ◌||◌, ◌≡◌}
use Rattle.mb_lists.proofs.Places.{places_antisymmetric}
use Rattle.pm_walk.specs.Intervals.{in_intervals}
use Rattle.std.proofs.lemmas.List.{map-append}
use Rattle.std.proofs.lemmas.List.Kept.{IsNonDecreasingBy-filter}
use Rattle.std.proofs.lemmas.List.Sorted.{IsPermutation-append, IsPermutation-filter_both}
use Rattle.std.specs.FinMap.{contains_key, get-retain_keys, retain_keys, same_map}
use Rattle.std.specs.FinMap.Entries.{find}
use Rattle.std.specs.Ordering.{eq_by_cmp}
use Rattle.tile_streaming.proofs.MarkLemmas.{AllRanged, mark_there}
use Rattle.tile_streaming.proofs.OverlayLemmas.{contained_ranged, ranged_contained}
use Rattle.tile_streaming.proofs.PermutedLemmas.{entries_parted, entries_where, filter_mapped, filter_permuted}
use Rattle.tile_streaming.proofs.ReadLemmas.{front_fits}
use Rattle.tile_streaming.specs.Part.{lies, marks_of_part, part_of}

-- the tiles at places that pass a test
module _ (f : Place → Bool) where
  alike : (q x : Place) → place_cmp q x ≡ Equal → f x ≡ f q
  alike q x tie = ap f (sym (places_antisymmetric q x tie))

  pub get_kept : (tiles : TileSet) (p : Place) → get (retain_keys tiles f) p ≡ cond (f p) (get tiles p) None
  get_kept tiles p = get-retain_keys tiles f p (alike p)

  -- and their marks
  marks_kept : (g : Mark → Bool) → ((e : Place × Option (List ℕ)) → g (mark_of e) ≡ f e.0) → (tiles : TileSet) (marks : List Mark) → IsPermutation (map mark_of (entries tiles)) marks → IsPermutation (map mark_of (entries (retain_keys tiles f))) (filter g marks)
  marks_kept g same tiles marks are = subst (λ l. IsPermutation l (filter g marks)) those (filter_permuted g (map mark_of (entries tiles)) marks are)
    where
      those : filter g (map mark_of (entries tiles)) ≡ map mark_of (entries (retain_keys tiles f))
      those =
          filter_mapped mark_of g (λ e. f e.0) (entries tiles) (λ e there. same e)
          ∙ ap (map mark_of) (sym (entries_where places_total places_antisymmetric (retain_keys tiles f) tiles f alike (get_kept tiles)))

module _ (intervals : List (ℕ × ℕ)) where
  abbrev pub inside : Place → Bool
  inside p = in_intervals (address p) intervals

  abbrev outside : Place → Bool
  outside p = not (inside p)

  abbrev other : Mark → Bool
  other m = not (lies intervals m)

-- what a part has, its set has
pub part_has : (part : Option (List (ℕ × ℕ))) (tiles : TileSet) (p : Place) (c : Option (List ℕ)) → get (part_of part tiles) p ≡ Some c → get tiles p ≡ Some c
part_has None tiles p c h = h
part_has (Some intervals) tiles p c h = by (inside intervals p) (sym (get_kept (inside intervals) tiles p) ∙ h)
  where
    by : (b : Bool) → cond b (get tiles p) None ≡ Some c → get tiles p ≡ Some c
    by true h = h
    by false h = absurd (cc)

pub part_ranged : (part : Option (List (ℕ × ℕ))) (tiles : TileSet) → AllRanged (entries tiles) → AllRanged (entries (part_of part tiles))
part_ranged part tiles ranged = ranged_contained (part_of part tiles) (λ p there. by p (get (part_of part tiles) p) refl there)
  where
    by : (p : Place) (o : Option (Option (List ℕ))) → get (part_of part tiles) p ≡ o → is_some o ≡ true → InRange p
    by p None e there = absurd (false≢true there)
    by p (Some c) e there = contained_ranged tiles ranged p (ap is_some (part_has part tiles p c e))

-- the marks of a part are those of its tiles
pub part_marks : (part : Option (List (ℕ × ℕ))) (tiles : TileSet) (marks : List Mark) → AreMarksOf tiles marks → AreMarksOf (part_of part tiles) (marks_of_part part marks)
part_marks None tiles marks are = are
part_marks (Some intervals) tiles marks are = record {
  same = marks_kept (inside intervals) (lies intervals) (λ e. refl) tiles marks are.same;
  rising = IsNonDecreasingBy-filter (λ m. m.id) (lies intervals) marks are.rising;
}

-- and don't overflow where all don't
overflow_permuted : (xs ys : List Mark) → IsPermutation xs ys → overflow_of ys ≡ overflow_of xs
overflow_permuted xs ys p =
    let long = sym (list_any-IsPermutation is_too_long xs ys p) in
    let count = length_permutation xs ys p in
    let total = sum_by-IsPermutation (λ (m : Mark). m.length) xs ys p in
    λ i. long i || (nat_le (2 ^ 32) (count i) || nat_le (2 ^ 60) (total i))

pub part_fits : (part : Option (List (ℕ × ℕ))) (marks : List Mark) → overflow_of marks ≡ false → overflow_of (marks_of_part part marks) ≡ false
part_fits None marks fits = fits
part_fits (Some intervals) marks fits =
    front_fits (filter (lies intervals) marks) (filter (other intervals) marks)
    (overflow_permuted marks (filter (lies intervals) marks ++ filter (other intervals) marks) (IsPermutation-filter_both (lies intervals) (other intervals) (λ m. refl) marks) ∙ fits)

-- what a filter leaves passes
passes : {X : Type 0} (g : X → Bool) (x : X) (xs : List X) → Has x (filter g xs) → g x ≡ true
passes g x [] h = absurd h
passes g x (y ∷ xs) h = by (g y) refl (passes g x xs) h
  where
    by : (b : Bool) → g y ≡ b → (Has x (filter g xs) → g x ≡ true) → Has x (cond b (y ∷ filter g xs) (filter g xs)) → g x ≡ true
    by true e later (inl is) = ap g (sym is) ∙ e
    by true e later (inr there) = later there
    by false e later there = later there

-- the first of two lists that has an entry of a key
find_over : (q : Place) (xs ys : List (Place × Option (List ℕ))) → find place_cmp q (xs ++ ys) ≡ option_or (find place_cmp q xs) (find place_cmp q ys)
find_over q [] ys = refl
find_over q ((p, c) ∷ xs) ys = by (eq_by_cmp place_cmp q p) (find_over q xs ys)
  where
    by : (b : Bool) → find place_cmp q (xs ++ ys) ≡ option_or (find place_cmp q xs) (find place_cmp q ys) → cond b (Some c) (find place_cmp q (xs ++ ys)) ≡ option_or (cond b (Some c) (find place_cmp q xs)) (find place_cmp q ys)
    by true later = refl
    by false later = later

-- tiles of all marks, of which these are the part
pub record IsWhole (part : Option (List (ℕ × ℕ))) (all : List Mark) (tiles : TileSet) : Type 0 where
  pub whole : TileSet
  pub ranged : AllRanged (entries whole)
  pub marks : AreMarksOf whole all
  pub is : part_of part whole ≡ tiles

module _ (intervals : List (ℕ × ℕ)) (first : TileSet) (all : List Mark) (are : AreMarksOf first all) (ranged : AllRanged (entries first)) (tiles : TileSet) (tiles_ranged : AllRanged (entries tiles)) (tiles_are : AreMarksOf tiles (filter (lies intervals) all)) where
  abbrev rest : TileSet
  rest = retain_keys first (outside intervals)

  abbrev both : TileSet
  both = from_entries (entries tiles ++ entries rest)

  get_both : (p : Place) → get both p ≡ option_or (get tiles p) (get rest p)
  get_both p =
      get-from_entries places_total (entries tiles ++ entries rest) p ∙ find_over p (entries tiles) (entries rest)
      ∙ (λ i. option_or (sym (get-entries tiles p) i) (sym (get-entries rest p) i))

  lies_inside : (p : Place) (o : Option (Option (List ℕ))) → get tiles p ≡ o → is_some o ≡ true → inside intervals p ≡ true
  lies_inside p None e there = absurd (false≢true there)
  lies_inside p (Some c) e there =
      passes (lies intervals) (mark_of (p, c)) all
      (mark_there tiles (filter (lies intervals) all) tiles_are (p, c) (find_has place_cmp places_antisymmetric (entries tiles) p c (sym (get-entries tiles p) ∙ e)))

  apart : (p : Place) → contains_key tiles p ≡ true → contains_key rest p ≡ false
  apart p there =
      ap is_some (get_kept (outside intervals) first p)
      ∙ ap (λ b. is_some (cond (not b) (get first p) None)) (lies_inside p (get tiles p) refl there)

  both_marks : IsPermutation (map mark_of (entries both)) all
  both_marks =
      let parted = IsPermutation-map mark_of (entries both) (entries tiles ++ entries rest) (entries_parted places_total places_antisymmetric both tiles rest get_both apart) in
      let split = subst (IsPermutation (map mark_of (entries both))) (map-append mark_of (entries tiles) (entries rest)) parted in
      let sides = IsPermutation-append (map mark_of (entries tiles)) (filter (lies intervals) all) (map mark_of (entries rest)) (filter (other intervals) all) tiles_are.same (marks_kept (outside intervals) (other intervals) (λ e. refl) first all are.same) in
      let joined = IsPermutation-sym all (filter (lies intervals) all ++ filter (other intervals) all) (IsPermutation-filter_both (lies intervals) (other intervals) (λ m. refl) all) in
      IsPermutation-trans (map mark_of (entries both)) (map mark_of (entries tiles) ++ map mark_of (entries rest)) all split
      (IsPermutation-trans (map mark_of (entries tiles) ++ map mark_of (entries rest)) (filter (lies intervals) all ++ filter (other intervals) all) all sides joined)

  abbrev no_tile : Option (Option (List ℕ))
  no_tile = None

  nothing : (b : Bool) → is_some (cond b no_tile None) ≡ false
  nothing true = refl
  nothing false = refl

  both_ranged : AllRanged (entries both)
  both_ranged = ranged_contained both (λ p there. by p (get tiles p) (get first p) refl refl (sym (ap is_some (get_both p ∙ ap (option_or (get tiles p)) (get_kept (outside intervals) first p))) ∙ there))
    where
      by : (p : Place) (o r : Option (Option (List ℕ))) → get tiles p ≡ o → get first p ≡ r → is_some (option_or o (cond (outside intervals p) r None)) ≡ true → InRange p
      by p (Some c) r e f there = contained_ranged tiles tiles_ranged p (ap is_some e)
      by p None (Some c) e f there = contained_ranged first ranged p (ap is_some f)
      by p None None e f there = absurd (false≢true (sym (nothing (outside intervals p)) ∙ there))

  part_is : retain_keys both (inside intervals) ≡ tiles
  part_is = same_map places_total places_antisymmetric (retain_keys both (inside intervals)) tiles (λ p.
      get_kept (inside intervals) both p
      ∙ ap (λ o. cond (inside intervals p) o None) (get_both p ∙ ap (option_or (get tiles p)) (get_kept (outside intervals) first p))
      ∙ by (inside intervals p) (get tiles p) (get first p) (lies_inside p (get tiles p) refl))
    where
      by : (b : Bool) (o r : Option (Option (List ℕ))) → (is_some o ≡ true → b ≡ true) → cond b (option_or o (cond (not b) r None)) None ≡ o
      by true None r h = refl
      by true (Some c) r h = refl
      by false None r h = refl
      by false (Some c) r h = absurd (false≢true (h refl))

-- tiles that have the marks of a part are the part of some tiles that have all marks
pub whole_of : (part : Option (List (ℕ × ℕ))) (first : TileSet) (all : List Mark) → AreMarksOf first all → AllRanged (entries first) → (tiles : TileSet) → AllRanged (entries tiles) → AreMarksOf tiles (marks_of_part part all) → IsWhole part all tiles
whole_of None first all are ranged tiles tiles_ranged tiles_are = record { whole = tiles; ranged = tiles_ranged; marks = tiles_are; is = refl }
whole_of (Some intervals) first all are ranged tiles tiles_ranged tiles_are = record {
  whole = both intervals first all are ranged tiles tiles_ranged tiles_are;
  ranged = both_ranged intervals first all are ranged tiles tiles_ranged tiles_are;
  marks = record { same = both_marks intervals first all are ranged tiles tiles_ranged tiles_are; rising = are.rising };
  is = part_is intervals first all are ranged tiles tiles_ranged tiles_are;
}
