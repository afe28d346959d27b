-- Patches of tiles that lie over others: how they are tested, and what each of the two has afterwards.
use Rattle.tile_streaming.proofs.Common.{address_within, ap, Bool, cond, entries, entries_sorted, false, false≢true, filter, find_has, get, get-entries, Has, has_find, HashAlgorithm, InRange, is_some}
use Rattle.tile_streaming.proofs.Common.{IsPermutation, List, map, mark_of, MbtType, Names, None, not, Option, option_or, Place, place_cmp, place_with, places_total, refl, Some, sorted_true, State}
use Rattle.tile_streaming.proofs.Common.{subst, sym, TileSet, true, ℕ, ◌∙◌, ◌≡◌}
use Rattle.mb_edit.proofs.PatchedLemmas.{get-left, get-patched_by}
use Rattle.mb_edit.specs.Patched.{patched, patched_at}
use Rattle.mb_edit.specs.PatchingOrder.{may_patch}
use Rattle.mb_lists.proofs.Places.{places_antisymmetric}
use Rattle.mb_lists.specs.Contents.{Contents}
use Rattle.mb_tables.specs.declared.kind.MbtType.TheVariants.{Cache, Flat, FlatWithHash, Normalized}
use Rattle.mb_tables.specs.declared.kind.NormalizedSchema.TheVariants.{DedupId, Hash}
use Rattle.std.specs.FinMap.{contains_key, get_tied, retain_keys}
use Rattle.tile_streaming.proofs.KeyLemmas.{place_again}
use Rattle.tile_streaming.proofs.MarkLemmas.{AllRanged}
use Rattle.tile_streaming.proofs.PermutedLemmas.{entries_where, filter_mapped, filter_permuted}
use Rattle.tile_streaming.specs.Layouts.{has_digests, over_layout}
use Rattle.tile_streaming.specs.declared.mark.Mark.{Mark}

-- a set with another layout, another algorithm, other names and other contents
abbrev pub with_facts : State → MbtType → HashAlgorithm → Names → Contents → State
with_facts s layout a names contents = record s { layout = layout; algorithm = a; metadata = names; contents = contents }

-- where contents stand under their digests, what lies over has the layout of the base
pub same_layout : (l : MbtType) → has_digests l ≡ true → over_layout l ≡ l
same_layout (Normalized view Hash) h = refl
same_layout (Normalized view DedupId) h = absurd (false≢true h)
same_layout Flat h = absurd (false≢true h)
same_layout FlatWithHash h = absurd (false≢true h)
same_layout Cache h = absurd (false≢true h)

module _ (force : Bool) (q : State) where
  -- where no contents stand under digests, they aren't asked for, or the layout is refused before
  by_layout : (s : State) (layout : MbtType) (c d : Contents) → has_digests layout ≡ false → may_patch force (with_facts s (over_layout layout) s.algorithm s.metadata c) q ≡ may_patch force (with_facts s layout s.algorithm s.metadata d) q
  by_layout s Flat c d none = refl
  by_layout s FlatWithHash c d none = refl
  by_layout s (Normalized view Hash) c d none = absurd (false≢true (sym none))
  by_layout s (Normalized view DedupId) c d none = refl
  by_layout s Cache c d none = refl

  -- a patch is tested on a set of the other layout as on the set
  pub tested_alike : (over s : State) → over.layout ≡ over_layout s.layout → has_digests s.layout ≡ false → over.metadata ≡ s.metadata → over.algorithm ≡ s.algorithm → may_patch force over q ≡ may_patch force s q
  tested_alike over s layout none names algorithm =
      (λ i. may_patch force (with_facts s (layout i) (algorithm i) (names i) over.contents) q)
      ∙ by_layout s s.layout over.contents s.contents none

-- a tile that a patch puts has its bytes
abbrev pub given : List ℕ → Option (Option (List ℕ))
given bytes = Some (Some bytes)

-- what is left of tiles that a patch has no place of
module _ (q : TileSet) where
  abbrev pub left : TileSet → TileSet
  left rest = retain_keys rest (λ p. not (contains_key q p))

  pub get_left : (rest : TileSet) (p : Place) → get (left rest) p ≡ cond (not (contains_key q p)) (get rest p) None
  get_left rest p = get-left places_total q (λ o. not (is_some o)) rest p

  pub left_has : (rest : TileSet) (p : Place) (c : Option (List ℕ)) → get (left rest) p ≡ Some c → get rest p ≡ Some c
  left_has rest p c h = by (contains_key q p) (sym (get_left rest p) ∙ h)
    where
      by : (b : Bool) → cond (not b) (get rest p) None ≡ Some c → get rest p ≡ Some c
      by true h = absurd (cc)
      by false h = h

  -- the patched tiles lie over what is left of the rest
  pub lies_over : (s over rest : TileSet) (p : Place) → get s p ≡ option_or (get over p) (get rest p) → get (patched s q) p ≡ option_or (get (patched over q) p) (get (left rest) p)
  lies_over s over rest p lies =
      get-patched_by given p q s ∙ ap (patched_at given (get q p)) lies ∙ by (get q p)
      ∙ (λ i. option_or (sym (get-patched_by given p q over) i) (sym (get_left rest p) i))
    where
      by : (o : Option (Option (List ℕ))) → patched_at given o (option_or (get over p) (get rest p)) ≡ option_or (patched_at given o (get over p)) (cond (not (is_some o)) (get rest p) None)
      by None = refl
      by (Some None) = refl
      by (Some (Some bytes)) = refl

  -- and have no place in common with it
  pub apart_over : (over rest : TileSet) (p : Place) → (contains_key over p ≡ true → contains_key rest p ≡ false) → contains_key (patched over q) p ≡ true → contains_key (left rest) p ≡ false
  apart_over over rest p apart there = ap is_some (get_left rest p) ∙ by (get q p) (sym (ap is_some (get-patched_by given p q over)) ∙ there)
    where
      by : (o : Option (Option (List ℕ))) → is_some (patched_at given o (get over p)) ≡ true → is_some (cond (not (is_some o)) (get rest p) None) ≡ false
      by None h = apart h
      by (Some c) h = refl

  -- whether a mark is of a place that the patch hasn't
  abbrev pub stays : Mark → Bool
  stays m = not (contains_key q (place_with m.id))

  -- the marks that are left are those of the tiles that are left
  pub marks_left : (rest : TileSet) (marks : List Mark) → AllRanged (entries rest) → IsPermutation (map mark_of (entries rest)) marks → IsPermutation (map mark_of (entries (left rest))) (filter stays marks)
  marks_left rest marks ranged same = subst (λ l. IsPermutation l (filter stays marks)) those (filter_permuted stays (map mark_of (entries rest)) marks same)
    where
      at_place : (e : Place × Option (List ℕ)) → Has e (entries rest) → stays (mark_of e) ≡ not (contains_key q e.0)
      at_place e there = let at = ranged e there in ap (λ p. not (contains_key q p)) (place_again e.0 at (address_within e.0 at))

      those : filter stays (map mark_of (entries rest)) ≡ map mark_of (entries (left rest))
      those =
          filter_mapped mark_of stays (λ e. not (contains_key q e.0)) (entries rest) at_place
          ∙ ap (map mark_of) (sym (entries_where places_total places_antisymmetric (left rest) rest (λ p. not (contains_key q p)) (λ p x tie. ap (λ o. not (is_some o)) (get_tied places_total q p x tie)) (get_left rest)))

-- places of tiles in range, by entries and by look-ups
module _ (m : TileSet) where
  pub contained_ranged : AllRanged (entries m) → (p : Place) → contains_key m p ≡ true → InRange p
  contained_ranged ranged p there = by (get m p) refl there
    where
      by : (o : Option (Option (List ℕ))) → get m p ≡ o → is_some o ≡ true → InRange p
      by None e h = absurd (false≢true h)
      by (Some c) e h = ranged (p, c) (find_has place_cmp places_antisymmetric (entries m) p c (sym (get-entries m p) ∙ e))

  pub ranged_contained : ((p : Place) → contains_key m p ≡ true → InRange p) → AllRanged (entries m)
  ranged_contained h e there = h e.0 (ap is_some (get-entries m e.0 ∙ has_find place_cmp places_total (entries m) e.0 e.1 (sorted_true _ (entries_sorted m)) there))
